use Rattle.wkt_flat.proofs.TreeLemmas.{AreAlikeTo}
use Rattle.wkt_flat.specs.Tree.{flat_members}
use Rattle.wkt_flat.specs.Equal.{flats_eq}
use Rattle.wkt_flat.proofs.equal.+same.Given as goal

abbrev pub invariant-same_members-loop-i : goal.invariant-same_members-loop-i
invariant-same_members-loop-i g l = AreAlikeTo (λ xs ys. flats_eq g.T.PartialEq.eq (flat_members xs) (flat_members ys)) l.a l.b l.i
