use Rattle.std.proofs.Common.{◌≡◌, ◌++◌, take, map}
use Rattle.wkt_flat.specs.Tree.{flat_tree}
use Rattle.wkt_flat.proofs.geometry.+copy.Given as goal

abbrev pub invariant-push_copies-loop-g : goal.invariant-push_copies-loop-g
invariant-push_copies-loop-g g l = map flat_tree l.copies.items ≡ map flat_tree l.fn.copies.items ++ map flat_tree (take l.g-index l.g-items)
