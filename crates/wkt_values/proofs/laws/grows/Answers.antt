use Rattle.std.proofs.Common.{[]}
use Rattle.wkt_values.proofs.ValueFromEvents.{value_grows}
use Rattle.wkt_values.proofs.laws.grows.Goals as goal

pub returns : goal.returns
returns g c = λ v h. let k = value_grows g.T.WktNum.is_value v h [] in (k.is, k.may)
