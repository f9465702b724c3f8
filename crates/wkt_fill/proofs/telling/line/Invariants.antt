-- The coordinates so far were told, and the others are left.
use Rattle.wkt_machine.specs.Events.{numbers, further, listed}
use Rattle.wkt_fill.specs.Arrays.{coordinate_at, up_to}
use Rattle.wkt_fill.proofs.Owing.{Owes}
use Rattle.wkt_fill.proofs.telling.line.Given as goal

abbrev pub invariant-loop-i : goal.invariant-loop-i
invariant-loop-i g l =
    Owes g.B.Builder.maker l.fn.builder (listed l.fn.part (numbers l.fn.given.dimension) (up_to (coordinate_at l.fn.given) l.fn.from l.fn.to)) l.made
    (further l.fn.part (numbers l.fn.given.dimension) (up_to (coordinate_at l.fn.given) l.i l.fn.to))
