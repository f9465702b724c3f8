-- The collection has the members of its tree.
use Rattle.std.proofs.Common.{ap, sym, subst, ◌∙◌}
use Rattle.wkt_types.specs.Outcome.{Answers}
use Rattle.wkt_types.specs.Tree.{Tree, tree}
use Rattle.wkt_types.proofs.TreeLemmas.{tree-collection}
use Rattle.wkt_flat.specs.Equal.{coord_eq}
use Rattle.wkt_flat.specs.Tree.{flat_trees}
use Rattle.wkt_convert.specs.Flatten.{flat_collection}
use Rattle.wkt_convert.proofs.kinds.FlatGeometryCollectionFromAny.from_any.Goals as goal

pub returns-in-GeometryCollection : goal.returns-in-GeometryCollection
returns-in-GeometryCollection g c =
    let is = ap tree c.in-GeometryCollection.is ∙ (tree-collection c.in-GeometryCollection.c ∙ c.geometries.ensures) in
    subst (λ (t : Tree g.row.T.Denot). Answers flat_trees (flat_collection (coord_eq g.T.PartialEq.eq) t) c.collection.result) (sym is) c.collection.ensures
