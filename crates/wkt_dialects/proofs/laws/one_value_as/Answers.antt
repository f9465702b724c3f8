use Rattle.wkt_dialects.proofs.OneValue.{one-value}
use Rattle.wkt_dialects.proofs.laws.one_value_as.Goals as goal

pub returns : goal.returns
returns c = one-value
