-- The first numbers are values.
use Rattle.std.specs.Prelude.{take}
use Rattle.std.specs.List.{AllByRecursion}
use Rattle.wkt_write.proofs.check.check_coord.Given as goal

abbrev pub invariant-loop-n : goal.invariant-loop-n
invariant-loop-n g l = AllByRecursion g.C.T.WktNum.is_value (take l.n (g.C.CoordTrait.numbers l.c))
