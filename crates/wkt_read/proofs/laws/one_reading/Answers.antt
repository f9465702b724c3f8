-- A text is read as at most one `Wkt`.
use Rattle.wkt_read.proofs.OneWkt.{reading-one}
use Rattle.wkt_read.proofs.laws.one_reading.Goals as goal

pub returns : goal.returns
returns g c text s t end end' h k = reading-one g.T.WktNum.read text s t end end' h k
