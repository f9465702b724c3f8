-- The polygons so far were told, and the others are left.
use Rattle.std.proofs.Common.{◌-◌, length}
use Rattle.wkt_machine.specs.Events.{numbers, further, listed}
use Rattle.wkt_machine.specs.declared.part.Part.TheVariants as part
use Rattle.wkt_fill.specs.Arrays.{polygon_at, polygons_in, up_to}
use Rattle.wkt_fill.proofs.Owing.{Owes}
use Rattle.wkt_fill.proofs.telling.areas.Given as goal

abbrev pub invariant-loop-i : goal.invariant-loop-i
invariant-loop-i g l =
    Owes g.B.Builder.maker l.fn.builder (listed part.MultiPolygon (listed part.Area (listed part.AreaRing (numbers l.fn.given.dimension))) (polygons_in l.fn.given)) l.made
    (further part.MultiPolygon (listed part.Area (listed part.AreaRing (numbers l.fn.given.dimension))) (up_to (polygon_at l.fn.given) l.i (length l.fn.given.polygons.now - 1)))
