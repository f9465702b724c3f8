-- Each ring is told behind those before it.
use Rattle.std.proofs.Common.{◌+◌, arith}
use Rattle.std.specs.List.{slice_index}
use Rattle.wkt_machine.specs.Events.{numbers, listed}
use Rattle.wkt_fill.specs.Arrays.{ring_at}
use Rattle.wkt_fill.proofs.Between.{polygon-within}
use Rattle.wkt_fill.proofs.Owing.{first-fits, first-told, comma-fits, next-fits, next-told}
use Rattle.wkt_fill.proofs.telling.lines.Goals as goal

pub ring-made-requires-clause-room : goal.ring-made-requires-clause-room
ring-made-requires-clause-room g c = first-fits g.B.Builder.maker c.args.part (listed c.args.inner (numbers c.args.given.dimension)) (ring_at c.args.given) (slice_index c.args.given.polygons.now c.args.index) (slice_index c.args.given.polygons.now (c.args.index + 1)) c.args.builder (omega (arith, c.requires.whole.polygons.ascend c.args.index c.requires.within, c.if-from-to.false)) c.requires.room c.open-opened.result c.open-opened.ensures.makes c.open-opened.ensures.leaves

pub loop-i-init : goal.loop-i-init
loop-i-init g c = first-told g.B.Builder.maker c.args.part (listed c.args.inner (numbers c.args.given.dimension)) (ring_at c.args.given) (slice_index c.args.given.polygons.now c.args.index) (slice_index c.args.given.polygons.now (c.args.index + 1)) c.args.builder (omega (arith, c.requires.whole.polygons.ascend c.args.index c.requires.within, c.if-from-to.false)) c.requires.room c.open-opened.result c.open-opened.ensures.makes c.open-opened.ensures.leaves c.ring-made.result c.ring-made.ensures

pub comma-next-requires : goal.comma-next-requires
comma-next-requires g c = record { room = comma-fits g.B.Builder.maker c.args.part (listed c.args.inner (numbers c.args.given.dimension)) (ring_at c.args.given) (slice_index c.args.given.polygons.now c.args.index) (slice_index c.args.given.polygons.now (c.args.index + 1)) c.args.builder c.loop-i.i c.loop-i.made c.loop-i.invariant c.loop-i-test.true }

pub ring-made-requires-in-loop-i-clause-room : goal.ring-made-requires-in-loop-i-clause-room
ring-made-requires-in-loop-i-clause-room g c = next-fits g.B.Builder.maker c.args.part (listed c.args.inner (numbers c.args.given.dimension)) (ring_at c.args.given) (slice_index c.args.given.polygons.now c.args.index) (slice_index c.args.given.polygons.now (c.args.index + 1)) c.args.builder c.loop-i.i c.loop-i.made c.loop-i.invariant c.loop-i-test.true c.comma-next.result c.comma-next.ensures.makes c.comma-next.ensures.leaves

pub loop-i-preserved : goal.loop-i-preserved
loop-i-preserved g c =
    next-told g.B.Builder.maker c.args.part (listed c.args.inner (numbers c.args.given.dimension)) (ring_at c.args.given) (slice_index c.args.given.polygons.now c.args.index) (slice_index c.args.given.polygons.now (c.args.index + 1)) c.args.builder c.loop-i.i c.loop-i.made c.loop-i.invariant c.loop-i-test.true c.comma-next.result c.comma-next.ensures.makes c.comma-next.ensures.leaves
    c.ring-made-in-loop-i.result c.ring-made-in-loop-i.ensures

pub ring-made-requires-clause-within : goal.ring-made-requires-clause-within
ring-made-requires-clause-within g c =
    omega (arith, c.requires.whole.polygons.ascend c.args.index c.requires.within, c.if-from-to.false, polygon-within c.args.given c.requires.whole (c.args.index + 1) c.requires.within)

pub ring-made-requires-in-loop-i-clause-within : goal.ring-made-requires-in-loop-i-clause-within
ring-made-requires-in-loop-i-clause-within g c = omega (arith, c.loop-i-test.true, polygon-within c.args.given c.requires.whole (c.args.index + 1) c.requires.within)
