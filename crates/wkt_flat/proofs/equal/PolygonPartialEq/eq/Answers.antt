-- Equal parts make equal polygons.
use Rattle.std.proofs.Common.{rules}
use Rattle.wkt_flat.specs.Equal.{exact_by, rings_exact, coord_exact}
use Rattle.wkt_flat.proofs.TreeLemmas.{reported}
use Rattle.wkt_flat.proofs.equal.PolygonPartialEq.eq.Goals as goal

pub returns-then-eq-clause-exact : goal.returns-then-eq-clause-exact
returns-then-eq-clause-exact g c = reported (rings_exact (coord_exact (exact_by g.met.T.WktNum.same))) _ _ _ (search rules)
