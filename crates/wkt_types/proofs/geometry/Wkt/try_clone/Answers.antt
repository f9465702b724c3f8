-- The copy of a collection has the same tree.
use Rattle.std.proofs.Common.{ap, sym, ◌∙◌}
use Rattle.wkt_types.specs.Tree.{tree}
use Rattle.wkt_types.proofs.TreeLemmas.{tree-collection}
use Rattle.wkt_types.proofs.geometry.Wkt.try_clone.Goals as goal

pub returns-in_ok-try_clone-in-GeometryCollection : goal.returns-in_ok-try_clone-in-GeometryCollection
returns-in_ok-try_clone-in-GeometryCollection g c =
    tree-collection c.in_ok-try_clone-in-GeometryCollection.field-0
    ∙ (c.in_ok-try_clone-in-GeometryCollection.ensures
    ∙ (sym (tree-collection c.in-GeometryCollection.c) ∙ sym (ap tree c.in-GeometryCollection.is)))
