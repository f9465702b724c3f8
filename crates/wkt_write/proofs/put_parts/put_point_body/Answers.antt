-- The body is the coordinate in parentheses, or EMPTY.
use Rattle.wkt_num.proofs.SinkCalls.{puts_err, puts_then, breaks_first, breaks_then}
use Rattle.wkt_write.proofs.Bracketed.{point_pieces, point_no_piece}
use Rattle.wkt_write.proofs.put_parts.put_point_body.Goals as goal

pub returns-in_err-put_opening-in-Some : goal.returns-in_err-put_opening-in-Some
returns-in_err-put_opening-in-Some g c =
    puts_err _ _ c.from_residual.ensures.1
    (rw (c.in-Some.ensures, point_pieces) (breaks_first _ c.in_err-put_opening-in-Some.ensures))

pub returns-in_err-put_coord-in-Some : goal.returns-in_err-put_coord-in-Some
returns-in_err-put_coord-in-Some g c =
    puts_err _ _ c.from_residual-in_err-put_coord-in-Some.ensures.1
    (rw (c.in-Some.ensures, point_pieces) (breaks_then c.in_ok-put_opening-in-Some.ensures (breaks_first _ c.in_err-put_coord-in-Some.ensures)))

pub returns-in-None : goal.returns-in-None
returns-in-None g c = rw (c.in-None.ensures, point_no_piece) c.put_opening.ensures

pub returns-in_ok-put_coord-in-Some : goal.returns-in_ok-put_coord-in-Some
returns-in_ok-put_coord-in-Some g c =
    rw (c.in-Some.ensures, point_pieces)
    (puts_then _ _ _ c.in_ok-put_opening-in-Some.ensures (puts_then _ _ _ c.in_ok-put_coord-in-Some.ensures c.put_closing.ensures))
