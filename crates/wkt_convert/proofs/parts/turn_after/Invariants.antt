use Rattle.std.proofs.Common.{◌≡◌, ◌++◌, map, take}
use Rattle.wkt_convert.proofs.parts.turn_after.Given as goal

abbrev pub invariant-loop-part : goal.invariant-loop-part
invariant-loop-part g l = l.all.items ≡ l.initial.all.items ++ map g.X.Turn.turned (take l.part-index l.parts)
