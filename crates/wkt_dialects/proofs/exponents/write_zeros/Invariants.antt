use Rattle.std.proofs.Common.{◌≡◌, ◌++◌}
use Rattle.wkt_num.specs.Decimal.{zeros}
use Rattle.wkt_dialects.proofs.exponents.write_zeros.Given as goal

abbrev pub invariant-zeros : goal.invariant-zeros
invariant-zeros g l = g.P.Put.written l.out ++ zeros l.left ≡ g.P.Put.written l.initial.out ++ zeros l.count

abbrev pub decreases-zeros : goal.decreases-zeros
decreases-zeros g l = l.left
