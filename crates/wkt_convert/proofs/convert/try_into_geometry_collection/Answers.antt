-- The flat value is the collection of the members.
use Rattle.std.proofs.Common.{ap, sym, ◌∙◌}
use Rattle.wkt_types.specs.Outcome.{value}
use Rattle.wkt_flat.specs.Equal.{coord_eq}
use Rattle.wkt_flat.specs.Tree.{Flat}
use Rattle.wkt_flat.proofs.TreeLemmas.{flat-collection}
use Rattle.wkt_convert.specs.Flatten.{flat_all, trees_in, outcome_map}
use Rattle.wkt_convert.proofs.convert.try_into_geometry_collection.Goals as goal

pub returns : goal.returns
returns g c =
    let k = c.in_ok-collection in
    ap (outcome_map Flat.collection) (ap (λ t. flat_all (coord_eq g.T.PartialEq.eq) (trees_in t)) c.geometries.ensures ∙ k.ensures)
    ∙ ap value (sym (flat-collection k.field-0))
