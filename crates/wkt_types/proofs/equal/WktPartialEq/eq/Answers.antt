-- `==` decides whether the trees are equal.
use Rattle.wkt_flat.specs.Equal.{exact_by}
use Rattle.wkt_types.specs.Equal.{tree_exact}
use Rattle.wkt_flat.proofs.TreeLemmas.{reported}
use Rattle.wkt_types.proofs.equal.WktPartialEq.eq.Goals as goal

pub returns-clause-exact : goal.returns-clause-exact
returns-clause-exact g c = reported (tree_exact (exact_by g.met.T.WktNum.same)) _ _ _ c.same_wkt.ensures
