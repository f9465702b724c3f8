-- The copy of a collection has the same tree.
use Rattle.std.proofs.Common.{ap, ◌∙◌}
use Rattle.wkt_flat.proofs.TreeLemmas.{copied-in}
use Rattle.wkt_types.specs.Tree.{tree, trees_of, collection}
use Rattle.wkt_types.proofs.TreeLemmas.{tree-collection, tree-members}
use Rattle.wkt_types.proofs.geometry.+copy.Goals as goal

pub push_copy-returns-in_ok-geometries-in-GeometryCollection : goal.push_copy-returns-in_ok-geometries-in-GeometryCollection
push_copy-returns-in_ok-geometries-in-GeometryCollection g t c =
    let of = c.in-GeometryCollection in
    copied-in tree (λ ts. collection (trees_of ts) of.c.dim) c.push_filled.result c.push_copies-filled.result _ _ _ _ of.c.geometries.items _ _
    c.push_filled.ensures.filled c.in_ok-geometries-in-GeometryCollection.ensures.items c.push_copies-filled.ensures
    c.new.ensures (ap tree of.is ∙ (tree-collection of.c ∙ tree-members of.c))
    c.push_filled.ensures.pushed
