use Rattle.wkt_dialects.proofs.FrontSrid.{one-srid}
use Rattle.wkt_dialects.proofs.laws.one_srid.Goals as goal

pub returns : goal.returns
returns c = one-srid
