-- Each polygon is told behind those before it.
use Rattle.std.proofs.Common.{◌-◌, length, arith}
use Rattle.wkt_machine.specs.Events.{numbers, listed}
use Rattle.wkt_machine.specs.declared.part.Part.TheVariants as part
use Rattle.wkt_fill.specs.Arrays.{polygon_at}
use Rattle.wkt_fill.proofs.Owing.{first-fits, first-told, comma-fits, next-fits, next-told}
use Rattle.wkt_fill.proofs.telling.areas.Goals as goal

pub lines-made-requires-clause-room : goal.lines-made-requires-clause-room
lines-made-requires-clause-room g c = first-fits g.B.Builder.maker part.MultiPolygon (listed part.Area (listed part.AreaRing (numbers c.args.given.dimension))) (polygon_at c.args.given) 0 (length c.args.given.polygons.now - 1) c.args.builder (omega (arith, c.if-count-eq0.false)) c.requires.room c.open-opened.result c.open-opened.ensures.makes c.open-opened.ensures.leaves

pub loop-i-init : goal.loop-i-init
loop-i-init g c = first-told g.B.Builder.maker part.MultiPolygon (listed part.Area (listed part.AreaRing (numbers c.args.given.dimension))) (polygon_at c.args.given) 0 (length c.args.given.polygons.now - 1) c.args.builder (omega (arith, c.if-count-eq0.false)) c.requires.room c.open-opened.result c.open-opened.ensures.makes c.open-opened.ensures.leaves c.lines-made.result c.lines-made.ensures

pub comma-next-requires : goal.comma-next-requires
comma-next-requires g c = record { room = comma-fits g.B.Builder.maker part.MultiPolygon (listed part.Area (listed part.AreaRing (numbers c.args.given.dimension))) (polygon_at c.args.given) 0 (length c.args.given.polygons.now - 1) c.args.builder c.loop-i.i c.loop-i.made c.loop-i.invariant c.loop-i-test.true }

pub lines-made-requires-in-loop-i-clause-room : goal.lines-made-requires-in-loop-i-clause-room
lines-made-requires-in-loop-i-clause-room g c = next-fits g.B.Builder.maker part.MultiPolygon (listed part.Area (listed part.AreaRing (numbers c.args.given.dimension))) (polygon_at c.args.given) 0 (length c.args.given.polygons.now - 1) c.args.builder c.loop-i.i c.loop-i.made c.loop-i.invariant c.loop-i-test.true c.comma-next.result c.comma-next.ensures.makes c.comma-next.ensures.leaves

pub loop-i-preserved : goal.loop-i-preserved
loop-i-preserved g c =
    next-told g.B.Builder.maker part.MultiPolygon (listed part.Area (listed part.AreaRing (numbers c.args.given.dimension))) (polygon_at c.args.given) 0 (length c.args.given.polygons.now - 1) c.args.builder c.loop-i.i c.loop-i.made c.loop-i.invariant c.loop-i-test.true c.comma-next.result c.comma-next.ensures.makes c.comma-next.ensures.leaves
    c.lines-made-in-loop-i.result c.lines-made-in-loop-i.ensures
