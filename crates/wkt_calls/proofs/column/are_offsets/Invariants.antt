-- The offsets so far go up, and stay within the texts.
use Rattle.std.proofs.Common.{ℕ, ◌+◌, ◌<◌, ◌≤◌}
use Rattle.std.specs.List.{slice_index}
use Rattle.wkt_calls.proofs.column.are_offsets.Given as goal

abbrev pub invariant-loop-i : goal.invariant-loop-i
invariant-loop-i g l = (k : ℕ) → k < l.i → slice_index l.offsets k ≤ slice_index l.offsets (k + 1)
