-- `==` decides whether the rings and the dimension are equal.
use Rattle.std.proofs.Common.{rules}
use Rattle.wkt_flat.specs.Equal.{exact_by}
use Rattle.wkt_types.specs.Equal.{held_exact, wkt_line_string_exact}
use Rattle.wkt_flat.proofs.TreeLemmas.{reported}
use Rattle.wkt_types.proofs.equal.PolygonPartialEq.eq.Goals as goal

pub returns-clause-exact : goal.returns-clause-exact
returns-clause-exact g c = reported (held_exact (wkt_line_string_exact (exact_by g.met.T.WktNum.same))) _ _ _ (search rules)
