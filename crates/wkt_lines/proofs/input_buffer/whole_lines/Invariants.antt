use Rattle.std.proofs.Common.{◌≤◌, length}
use Rattle.wkt_lines.proofs.input_buffer.whole_lines.Given as goal

abbrev pub invariant-loop-at : goal.invariant-loop-at
invariant-loop-at l = l.at ≤ length l.rest

abbrev pub decreases-loop-at : goal.decreases-loop-at
decreases-loop-at l = l.at
