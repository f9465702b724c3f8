-- The rings so far have one coordinate at most.
use Rattle.std.proofs.Common.{ℕ, ◌+◌, ◌<◌, ◌≤◌}
use Rattle.std.specs.List.{slice_index}
use Rattle.wkt_fill.proofs.given.are_points.Given as goal

abbrev pub invariant-loop-i : goal.invariant-loop-i
invariant-loop-i l = (k : ℕ) → k + 1 < l.i → slice_index l.rings (k + 1) ≤ slice_index l.rings k + 1
