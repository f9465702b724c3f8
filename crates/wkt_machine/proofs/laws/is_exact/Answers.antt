use Rattle.wkt_machine.proofs.WholeRuns.{exact}
use Rattle.wkt_machine.proofs.laws.is_exact.Goals as goal

pub returns : goal.returns
returns g c = λ ls s es e o. exact g.T.WktNum.read ls s es e o
