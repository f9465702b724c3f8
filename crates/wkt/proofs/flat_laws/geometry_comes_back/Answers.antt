-- A geometry's rings are closed, so a plain one comes back from its text.
use Rattle.wkt_flat.specs.Tree.{flat_tree}
use Rattle.wkt.proofs.flat_laws.geometry_comes_back.Goals as goal

pub returns-clause-reads_back : goal.returns-clause-reads_back
returns-clause-reads_back g c = c.plain_reads_back.ensures (flat_tree c.args.geometry.now) c.rings_are_closed.ensures
