-- The header is the word, the dimension, and a space before EMPTY.
use Rattle.wkt_num.proofs.SinkCalls.{puts_then}
use Rattle.wkt_write.proofs.put_parts.put_header.Goals as goal

pub returns : goal.returns
returns g c = puts_then _ _ _ c.in_ok-write_str.ensures (puts_then _ _ _ c.in_ok-put_suffix.ensures c.put_gap.ensures)
