-- The offsets so far go up.
use Rattle.std.proofs.Common.{ℕ, ◌+◌, ◌<◌, ◌≤◌}
use Rattle.std.specs.List.{slice_index}
use Rattle.wkt_fill.proofs.given.are_offsets.Given as goal

abbrev pub invariant-loop-i : goal.invariant-loop-i
invariant-loop-i l = (k : ℕ) → k + 1 < l.i → slice_index l.offsets k ≤ slice_index l.offsets (k + 1)
