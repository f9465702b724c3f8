use Rattle.std.proofs.Common.{◌≡◌, ◌++◌, take, map}
use Rattle.wkt_types.specs.Tree.{tree}
use Rattle.wkt_types.proofs.geometry.+copy.Given as goal

abbrev pub invariant-push_copies-loop-w : goal.invariant-push_copies-loop-w
invariant-push_copies-loop-w g l = map tree l.copies.items ≡ map tree l.fn.copies.items ++ map tree (take l.w-index l.w-items)
