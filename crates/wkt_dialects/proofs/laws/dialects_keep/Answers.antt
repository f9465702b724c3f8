use Rattle.wkt_dialects.proofs.Keeping.{dialects-keep}
use Rattle.wkt_dialects.proofs.laws.dialects_keep.Goals as goal

pub returns : goal.returns
returns c = dialects-keep
