-- The copy of a collection has the same tree.
use Rattle.std.proofs.Common.{ap, sym, ◌∙◌}
use Rattle.wkt_flat.specs.Tree.{flat_tree, collection}
use Rattle.wkt_flat.proofs.TreeLemmas.{flat-collection}
use Rattle.wkt_flat.proofs.geometry.Geometry.try_clone.Goals as goal

pub returns-in_ok-try_clone-in-GeometryCollection : goal.returns-in_ok-try_clone-in-GeometryCollection
returns-in_ok-try_clone-in-GeometryCollection g c =
    flat-collection c.in_ok-try_clone-in-GeometryCollection.field-0
    ∙ (ap (λ m. collection m) c.in_ok-try_clone-in-GeometryCollection.ensures
    ∙ (sym (flat-collection c.in-GeometryCollection.c) ∙ sym (ap flat_tree c.in-GeometryCollection.is)))
