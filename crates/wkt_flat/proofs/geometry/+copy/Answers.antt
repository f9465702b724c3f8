-- The copy of a collection has the same tree.
use Rattle.std.proofs.Common.{ap, ◌∙◌}
use Rattle.wkt_flat.specs.Tree.{flat_tree, flats_of, collection}
use Rattle.wkt_flat.proofs.TreeLemmas.{copied-in, flat-collection, flat-members}
use Rattle.wkt_flat.proofs.geometry.+copy.Goals as goal

pub push_copy-returns-in_ok-geometries-in-GeometryCollection : goal.push_copy-returns-in_ok-geometries-in-GeometryCollection
push_copy-returns-in_ok-geometries-in-GeometryCollection g t c =
    let of = c.in-GeometryCollection in
    copied-in flat_tree (λ ts. collection (flats_of ts)) c.push_filled.result c.push_copies-filled.result _ _ _ _ of.c.0.items _ _
    c.push_filled.ensures.filled c.in_ok-geometries-in-GeometryCollection.ensures.items c.push_copies-filled.ensures
    (ap (λ m. collection m) c.new_from.ensures) (ap flat_tree of.is ∙ (flat-collection of.c ∙ ap (λ m. collection m) (flat-members of.c)))
    c.push_filled.ensures.pushed
