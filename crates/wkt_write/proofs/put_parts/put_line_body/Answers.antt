-- The body is the two ends in parentheses.
use Rattle.wkt_num.proofs.SinkCalls.{breaks_first, breaks_then, puts_err, puts_then}
use Rattle.wkt_write.proofs.put_parts.put_line_body.Goals as goal

pub returns-in_err-write_str : goal.returns-in_err-write_str
returns-in_err-write_str g c =
    puts_err _ _ c.from_residual.ensures.1 (breaks_first _ c.in_err-write_str.ensures)

pub returns-in_err-put_two_coords : goal.returns-in_err-put_two_coords
returns-in_err-put_two_coords g c =
    puts_err _ _ c.from_residual-in_err-put_two_coords.ensures.1 (breaks_then c.in_ok-write_str.ensures (breaks_first _ (rw (c.start.ensures, c.end.ensures) at c.in_err-put_two_coords.ensures)))

pub returns : goal.returns
returns g c = puts_then _ _ _ c.in_ok-write_str.ensures (puts_then _ _ _ (rw (c.start.ensures, c.end.ensures) at c.in_ok-put_two_coords.ensures) c.write_str-2.ensures)
