-- A plain flat value with closed rings comes back from its text.
use Rattle.wkt_flat.specs.Equal.{exact_by}
use Rattle.wkt_convert.proofs.PlainComesBack.{again}
use Rattle.wkt_convert.proofs.laws.plain_comes_back.Goals as goal

pub returns : goal.returns
returns g c t closed plain = again (exact_by g.met.T.WktNum.same) t plain closed
