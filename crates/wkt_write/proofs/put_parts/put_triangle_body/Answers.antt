-- The body is the ring in its parentheses.
use Rattle.wkt_num.proofs.SinkCalls.{breaks_first, breaks_then, puts_err, puts_then}
use Rattle.wkt_write.proofs.put_parts.put_triangle_body.Goals as goal

pub returns-in_err-write_str : goal.returns-in_err-write_str
returns-in_err-write_str g c =
    puts_err _ _ c.from_residual.ensures.1 (breaks_first _ c.in_err-write_str.ensures)

pub returns-in_err-put_two_coords : goal.returns-in_err-put_two_coords
returns-in_err-put_two_coords g c =
    puts_err _ _ c.from_residual-in_err-put_two_coords.ensures.1
    (breaks_then c.in_ok-write_str.ensures (breaks_first _ (rw (c.first.ensures, c.second.ensures) at c.in_err-put_two_coords.ensures)))

pub returns-in_err-write_str-2 : goal.returns-in_err-write_str-2
returns-in_err-write_str-2 g c =
    let two = rw (c.first.ensures, c.second.ensures) at c.in_ok-put_two_coords.ensures in
    puts_err _ _ c.from_residual-in_err-write_str-2.ensures.1 (breaks_then c.in_ok-write_str.ensures (breaks_then two (breaks_first _ c.in_err-write_str-2.ensures)))

pub returns-in_err-put_two_coords-2 : goal.returns-in_err-put_two_coords-2
returns-in_err-put_two_coords-2 g c =
    let two = rw (c.first.ensures, c.second.ensures) at c.in_ok-put_two_coords.ensures in
    let last = rw (c.third.ensures, c.first-2.ensures) at c.in_err-put_two_coords-2.ensures in
    puts_err _ _ c.from_residual-in_err-put_two_coords-2.ensures.1 (breaks_then c.in_ok-write_str.ensures (breaks_then two (breaks_then c.in_ok-write_str-2.ensures (breaks_first _ last))))

pub returns : goal.returns
returns g c =
    let two = rw (c.first.ensures, c.second.ensures) at c.in_ok-put_two_coords.ensures in
    let last = rw (c.third.ensures, c.first-2.ensures) at c.in_ok-put_two_coords-2.ensures in
    puts_then _ _ _ c.in_ok-write_str.ensures (puts_then _ _ _ two (puts_then _ _ _ c.in_ok-write_str-2.ensures (puts_then _ _ _ last c.write_str-3.ensures)))
