-- The ring is its five corners with commas between them.
use Rattle.wkt_num.proofs.SinkCalls.{breaks_first, breaks_then, puts_err, puts_then}
use Rattle.wkt_write.proofs.put_parts.put_rect_ring.Goals as goal

pub returns-in_err-write_str : goal.returns-in_err-write_str
returns-in_err-write_str g c =
    puts_err _ _ c.from_residual-in_err-write_str.ensures.1 (breaks_then c.in_ok-put_rect_corner.ensures (breaks_first _ c.in_err-write_str.ensures))

pub returns-in_err-put_rect_corner-2 : goal.returns-in_err-put_rect_corner-2
returns-in_err-put_rect_corner-2 g c =
    puts_err _ _ c.from_residual-in_err-put_rect_corner-2.ensures.1 (breaks_then c.in_ok-put_rect_corner.ensures (breaks_then c.in_ok-write_str.ensures (breaks_first _ c.in_err-put_rect_corner-2.ensures)))

pub returns-in_err-write_str-2 : goal.returns-in_err-write_str-2
returns-in_err-write_str-2 g c =
    puts_err _ _ c.from_residual-in_err-write_str-2.ensures.1 (breaks_then c.in_ok-put_rect_corner.ensures (breaks_then c.in_ok-write_str.ensures (breaks_then c.in_ok-put_rect_corner-2.ensures (breaks_first _ c.in_err-write_str-2.ensures))))

pub returns-in_err-put_rect_corner-3 : goal.returns-in_err-put_rect_corner-3
returns-in_err-put_rect_corner-3 g c =
    puts_err _ _ c.from_residual-in_err-put_rect_corner-3.ensures.1 (breaks_then c.in_ok-put_rect_corner.ensures (breaks_then c.in_ok-write_str.ensures (breaks_then c.in_ok-put_rect_corner-2.ensures (breaks_then c.in_ok-write_str-2.ensures (breaks_first _ c.in_err-put_rect_corner-3.ensures)))))

pub returns-in_err-write_str-3 : goal.returns-in_err-write_str-3
returns-in_err-write_str-3 g c =
    puts_err _ _ c.from_residual-in_err-write_str-3.ensures.1 (breaks_then c.in_ok-put_rect_corner.ensures (breaks_then c.in_ok-write_str.ensures (breaks_then c.in_ok-put_rect_corner-2.ensures (breaks_then c.in_ok-write_str-2.ensures (breaks_then c.in_ok-put_rect_corner-3.ensures (breaks_first _ c.in_err-write_str-3.ensures))))))

pub returns-in_err-put_rect_corner-4 : goal.returns-in_err-put_rect_corner-4
returns-in_err-put_rect_corner-4 g c =
    puts_err _ _ c.from_residual-in_err-put_rect_corner-4.ensures.1 (breaks_then c.in_ok-put_rect_corner.ensures (breaks_then c.in_ok-write_str.ensures (breaks_then c.in_ok-put_rect_corner-2.ensures (breaks_then c.in_ok-write_str-2.ensures (breaks_then c.in_ok-put_rect_corner-3.ensures (breaks_then c.in_ok-write_str-3.ensures (breaks_first _ c.in_err-put_rect_corner-4.ensures)))))))

pub returns-in_err-write_str-4 : goal.returns-in_err-write_str-4
returns-in_err-write_str-4 g c =
    puts_err _ _ c.from_residual-in_err-write_str-4.ensures.1 (breaks_then c.in_ok-put_rect_corner.ensures (breaks_then c.in_ok-write_str.ensures (breaks_then c.in_ok-put_rect_corner-2.ensures (breaks_then c.in_ok-write_str-2.ensures (breaks_then c.in_ok-put_rect_corner-3.ensures (breaks_then c.in_ok-write_str-3.ensures (breaks_then c.in_ok-put_rect_corner-4.ensures (breaks_first _ c.in_err-write_str-4.ensures))))))))

pub returns : goal.returns
returns g c =
    puts_then _ _ _ c.in_ok-put_rect_corner.ensures (puts_then _ _ _ c.in_ok-write_str.ensures (puts_then _ _ _ c.in_ok-put_rect_corner-2.ensures (puts_then _ _ _ c.in_ok-write_str-2.ensures (puts_then _ _ _ c.in_ok-put_rect_corner-3.ensures (puts_then _ _ _ c.in_ok-write_str-3.ensures (puts_then _ _ _ c.in_ok-put_rect_corner-4.ensures (puts_then _ _ _ c.in_ok-write_str-4.ensures (c.put_rect_corner-5.ensures))))))))

pub returns-in_err-put_rect_corner : goal.returns-in_err-put_rect_corner
returns-in_err-put_rect_corner g c = puts_err _ _ c.from_residual.ensures.1 (breaks_first _ c.in_err-put_rect_corner.ensures)
