-- The text of a well-formed value is read as this value.
use Rattle.wkt_read.proofs.Spelled.{front_of_text}
use Rattle.wkt_read.proofs.laws.value_reads_back.Goals as goal

pub returns : goal.returns
returns g c v h = front_of_text g.T.WktNum.is_value g.T.WktNum.num g.T.WktNum.read (record { reads_back = g.met.T.WktNum.reads_back; number_text = g.met.T.WktNum.number_text }) v h
