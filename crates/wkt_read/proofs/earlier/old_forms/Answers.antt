-- A reading of an earlier form is one of today's form without an empty member of a multipoint.
use Rattle.wkt_read.proofs.OneWkt.{value_new, value_old}
use Rattle.wkt_read.proofs.earlier.old_forms.Goals as goal

pub returns : goal.returns
returns g c ls v = (λ p. value_new g.T.WktNum.read v ls p, λ p. value_old g.T.WktNum.read v ls p.0 p.1)
