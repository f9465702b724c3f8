-- The rings of the first polygons are closed.
use Rattle.std.proofs.Common.{take}
use Rattle.std.specs.List.{AllByRecursion}
use Rattle.wkt_flat.specs.Rings.{AreClosed}
use Rattle.wkt_flat.proofs.closed.polygons_are_closed.Given as goal

abbrev pub invariant-loop-polygon : goal.invariant-loop-polygon
invariant-loop-polygon g l = AllByRecursion (λ y. AreClosed y.exterior y.interiors) (take l.polygon-index l.polygons)
