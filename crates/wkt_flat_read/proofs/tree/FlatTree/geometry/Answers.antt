-- A collection is the one with the members that were taken.
use Rattle.std.proofs.Common.{ap, ◌∙◌}
use Rattle.wkt_flat.specs.Equal.{coord_eq}
use Rattle.wkt_flat.specs.Tree.{Flat}
use Rattle.wkt_flat.proofs.TreeLemmas.{flat-collection}
use Rattle.wkt_flat_read.proofs.Holding.{collection_gives}
use Rattle.wkt_flat_read.proofs.tree.FlatTree.geometry.Goals as goal

pub returns-in-Collection : goal.returns-in-Collection
returns-in-Collection g c =
    collection_gives (coord_eq g.T.PartialEq.eq) c.args.self.now c.members.new.self c.members.result _ c.in-Collection.is c.members.ensures (flat-collection c.new_from.result ∙ ap (λ ts. Flat.collection ts) c.new_from.ensures)
