use Rattle.wkt_dialects.specs.Numbers.{HasNoPoint}
use Rattle.wkt_dialects.proofs.exponents.point_in.Given as goal

abbrev pub invariant-loop-at : goal.invariant-loop-at
invariant-loop-at l = HasNoPoint l.body l.at
