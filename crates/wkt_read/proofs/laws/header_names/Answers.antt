-- The kind and dimension of the front are those that its header names.
use Rattle.wkt_read.proofs.Headers.{front_header}
use Rattle.wkt_read.proofs.laws.header_names.Goals as goal

pub returns : goal.returns
returns g c text v end u f = front_header g.T.WktNum.read text v end u f
