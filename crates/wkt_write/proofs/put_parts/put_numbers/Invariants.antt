use Rattle.std.specs.Prelude.{codes}
use Rattle.wkt_write.proofs.FirstErrors.{Listing}
use Rattle.std.proofs.Common.{take}
use Rattle.wkt_write.proofs.put_parts.put_numbers.Given as goal

abbrev pub invariant-loop-n : goal.invariant-loop-n
invariant-loop-n g l = Listing g.W.TextSink.sink (codes " ") (g.C.T.WktNum.num) (take l.k (g.C.CoordTrait.numbers l.c)) l.n l.k l.initial.f l.f
