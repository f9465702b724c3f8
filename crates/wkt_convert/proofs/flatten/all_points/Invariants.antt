use Rattle.std.proofs.Common.{◌≡◌, take}
use Rattle.wkt_convert.specs.Flatten.{points}
use Rattle.wkt_types.specs.Outcome.{value}
use Rattle.wkt_convert.proofs.flatten.all_points.Given as goal

abbrev pub invariant-loop-p : goal.invariant-loop-p
invariant-loop-p g l = points (take l.p-index l.ps) ≡ value l.all.items
