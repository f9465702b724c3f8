use Rattle.wkt_num.proofs.Printed.{Trims}
use Rattle.wkt_num.proofs.printing.without_zeros.Given as goal

abbrev pub invariant-loop-at : goal.invariant-loop-at
invariant-loop-at l = Trims l.out l.end l.at

abbrev pub decreases-loop-at : goal.decreases-loop-at
decreases-loop-at l = l.at
