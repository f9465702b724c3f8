-- A collection is the one that it holds.
use Rattle.std.proofs.Common.{ap, sym, subst, ◌∙◌}
use Rattle.wkt_types.specs.Outcome.{value}
use Rattle.wkt_flat.specs.Equal.{coord_eq}
use Rattle.wkt_flat.proofs.TreeLemmas.{flat-collection}
use Rattle.wkt_convert.specs.Kinds.{IsFlattened}
use Rattle.wkt_convert.proofs.flattened.Flattened.into_geometry.Goals as goal

pub returns-in-Collection : goal.returns-in-Collection
returns-in-Collection g c = λ t h.
    let (whole, members) = subst (IsFlattened (coord_eq g.T.PartialEq.eq) t) c.in-Collection.is h in
    whole ∙ ap value (sym (flat-collection c.in-Collection.collection))
