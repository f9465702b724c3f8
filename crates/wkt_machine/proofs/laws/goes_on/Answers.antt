use Rattle.wkt_machine.proofs.WholeRuns.{goes_on}
use Rattle.wkt_machine.proofs.laws.goes_on.Goals as goal

pub returns : goal.returns
returns g c = λ ls s es e o. goes_on g.T.WktNum.read ls s es e o
