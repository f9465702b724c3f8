-- Each coordinate is told behind those before it.
use Rattle.std.proofs.Common.{arith}
use Rattle.wkt_machine.specs.Events.{numbers}
use Rattle.wkt_fill.specs.Arrays.{coordinate_at}
use Rattle.wkt_fill.proofs.Owing.{first-fits, first-told, comma-fits, next-fits, next-told}
use Rattle.wkt_fill.proofs.telling.line.Goals as goal

pub coordinate-made-requires-clause-room : goal.coordinate-made-requires-clause-room
coordinate-made-requires-clause-room g c = first-fits g.B.Builder.maker c.args.part (numbers c.args.given.dimension) (coordinate_at c.args.given) c.args.from c.args.to c.args.builder (omega (arith, c.requires.order, c.if-from-to.false)) c.requires.room c.open-opened.result c.open-opened.ensures.makes c.open-opened.ensures.leaves

pub loop-i-init : goal.loop-i-init
loop-i-init g c = first-told g.B.Builder.maker c.args.part (numbers c.args.given.dimension) (coordinate_at c.args.given) c.args.from c.args.to c.args.builder (omega (arith, c.requires.order, c.if-from-to.false)) c.requires.room c.open-opened.result c.open-opened.ensures.makes c.open-opened.ensures.leaves c.coordinate-made.result c.coordinate-made.ensures

pub comma-next-requires : goal.comma-next-requires
comma-next-requires g c = record { room = comma-fits g.B.Builder.maker c.args.part (numbers c.args.given.dimension) (coordinate_at c.args.given) c.args.from c.args.to c.args.builder c.loop-i.i c.loop-i.made c.loop-i.invariant c.loop-i-test.true }

pub coordinate-made-requires-in-loop-i-clause-room : goal.coordinate-made-requires-in-loop-i-clause-room
coordinate-made-requires-in-loop-i-clause-room g c = next-fits g.B.Builder.maker c.args.part (numbers c.args.given.dimension) (coordinate_at c.args.given) c.args.from c.args.to c.args.builder c.loop-i.i c.loop-i.made c.loop-i.invariant c.loop-i-test.true c.comma-next.result c.comma-next.ensures.makes c.comma-next.ensures.leaves

pub loop-i-preserved : goal.loop-i-preserved
loop-i-preserved g c =
    next-told g.B.Builder.maker c.args.part (numbers c.args.given.dimension) (coordinate_at c.args.given) c.args.from c.args.to c.args.builder c.loop-i.i c.loop-i.made c.loop-i.invariant c.loop-i-test.true c.comma-next.result c.comma-next.ensures.makes c.comma-next.ensures.leaves
    c.coordinate-made-in-loop-i.result c.coordinate-made-in-loop-i.ensures
