-- The measure: how many geometries wait.
use Rattle.wkt_flat.specs.Tree.{total}
use Rattle.wkt_flat.proofs.dropping.drop_all.Given as goal

abbrev pub decreases-loop-geometry : goal.decreases-loop-geometry
decreases-loop-geometry g l = total g.G.Nested.inside l.waiting.items
