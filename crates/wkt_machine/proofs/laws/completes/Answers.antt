use Rattle.wkt_machine.proofs.Complete.{value_run}
use Rattle.wkt_machine.proofs.laws.completes.Goals as goal

pub returns : goal.returns
returns g c = λ v ls rest n h. (value_run g.T.WktNum.read v ls n h).on rest
