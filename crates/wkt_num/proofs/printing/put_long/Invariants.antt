use Rattle.std.proofs.Common.{◌-◌, ◌++◌, take}
use Rattle.wkt_num.specs.Decimal.{fraction_digits}
use Rattle.wkt_num.proofs.Scan.{Keeps}
use Rattle.wkt_num.proofs.printing.put_long.Given as goal

abbrev pub invariant-loop-rest : goal.invariant-loop-rest
invariant-loop-rest l = Keeps l.places l.out (take 41 l.fn.out ++ fraction_digits l.places l.fraction) l.at l.rest

abbrev pub decreases-loop-rest : goal.decreases-loop-rest
decreases-loop-rest l = 80 - l.at
