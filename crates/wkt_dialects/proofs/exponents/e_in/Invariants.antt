use Rattle.wkt_dialects.specs.Numbers.{HasNoE}
use Rattle.wkt_dialects.proofs.exponents.e_in.Given as goal

abbrev pub invariant-loop-at : goal.invariant-loop-at
invariant-loop-at l = HasNoE l.number l.at
