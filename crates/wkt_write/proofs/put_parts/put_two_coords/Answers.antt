-- Two coordinates with a comma between them.
use Rattle.wkt_num.proofs.SinkCalls.{breaks_first, breaks_then, puts_err, puts_then}
use Rattle.wkt_write.proofs.put_parts.put_two_coords.Goals as goal

pub returns-in_err-write_str : goal.returns-in_err-write_str
returns-in_err-write_str g c =
    puts_err _ _ c.from_residual-in_err-write_str.ensures.1 (breaks_then c.in_ok-put_coord.ensures (breaks_first _ c.in_err-write_str.ensures))

pub returns-in_err-put_coord : goal.returns-in_err-put_coord
returns-in_err-put_coord g c = puts_err _ _ c.from_residual.ensures.1 (breaks_first _ c.in_err-put_coord.ensures)

pub returns : goal.returns
returns g c = puts_then _ _ _ c.in_ok-put_coord.ensures (puts_then _ _ _ c.in_ok-write_str.ensures c.put_coord-2.ensures)
