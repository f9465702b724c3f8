use Rattle.wkt_flat.proofs.TreeLemmas.{AreAlikeTo}
use Rattle.wkt_types.specs.Tree.{members}
use Rattle.wkt_types.specs.Equal.{trees_eq}
use Rattle.wkt_types.proofs.equal.+same.Given as goal

abbrev pub invariant-same_members-loop-i : goal.invariant-same_members-loop-i
invariant-same_members-loop-i g l = AreAlikeTo (λ xs ys. trees_eq g.T.PartialEq.eq (members xs) (members ys)) l.a l.b l.i
