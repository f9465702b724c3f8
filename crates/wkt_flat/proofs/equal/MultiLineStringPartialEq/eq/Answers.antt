-- Equal items make equal lists.
use Rattle.std.proofs.Common.{rules}
use Rattle.wkt_flat.specs.Equal.{exact_by, pointwise_exact, sequence_exact}
use Rattle.wkt_flat.proofs.TreeLemmas.{reported}
use Rattle.wkt_flat.proofs.equal.MultiLineStringPartialEq.eq.Goals as goal

pub returns-clause-exact : goal.returns-clause-exact
returns-clause-exact g c = reported (pointwise_exact (sequence_exact (exact_by g.met.T.WktNum.same))) _ _ _ (search rules)
