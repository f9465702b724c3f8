-- The rings so far were told, and the others are left.
use Rattle.std.proofs.Common.{◌+◌}
use Rattle.std.specs.List.{slice_index}
use Rattle.wkt_machine.specs.Events.{numbers, further, listed}
use Rattle.wkt_fill.specs.Arrays.{ring_at, polygon_at, up_to}
use Rattle.wkt_fill.proofs.Owing.{Owes}
use Rattle.wkt_fill.proofs.telling.lines.Given as goal

abbrev pub invariant-loop-i : goal.invariant-loop-i
invariant-loop-i g l =
    Owes g.B.Builder.maker l.fn.builder (listed l.fn.part (listed l.fn.inner (numbers l.fn.given.dimension)) (polygon_at l.fn.given l.fn.index)) l.made
    (further l.fn.part (listed l.fn.inner (numbers l.fn.given.dimension)) (up_to (ring_at l.fn.given) l.i (slice_index l.fn.given.polygons.now (l.fn.index + 1))))
