-- Two well-formed values have one text exactly if they are one.
use Rattle.std.proofs.Common.{ap}
use Rattle.wkt_access.specs.Texts.{text}
use Rattle.wkt_read.proofs.Spelled.{text_one}
use Rattle.wkt_read.proofs.laws.one_value_text.Goals as goal

pub returns : goal.returns
returns g c v w h k =
    (λ e. text_one g.T.WktNum.is_value g.T.WktNum.num g.T.WktNum.read (record { reads_back = g.met.T.WktNum.reads_back; number_text = g.met.T.WktNum.number_text }) v w h k e, λ e. ap (text g.T.WktNum.num) e)
