-- The tree is that of the collection that was made.
use Rattle.std.proofs.Common.{ap, sym, ◌∙◌}
use Rattle.wkt_access.specs.declared.dimensions.Dimension.TheVariants.{XY}
use Rattle.wkt_types.specs.Tree as trees
use Rattle.wkt_types.proofs.TreeLemmas.{tree-collection}
use Rattle.wkt_convert.specs.Back.{all_back}
use Rattle.wkt_convert.proofs.flat_values.FlatGeometryCollectionFlatValue.make_wkt.Goals as goal

pub returns : goal.returns
returns g c =
    tree-collection c.new.result
    ∙ (c.new.ensures ∙ ap (λ ms. trees.collection ms XY) (c.in_ok-all.ensures ∙ ap all_back (sym c.geometries.ensures)))
