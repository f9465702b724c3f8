-- The flat value is the multipoint of the points.
use Rattle.std.proofs.Common.{ap, sym, ◌∙◌}
use Rattle.wkt_types.specs.Outcome.{value}
use Rattle.wkt_flat.specs.Tree.{Flat}
use Rattle.wkt_convert.specs.Flatten.{points, outcome_map}
use Rattle.wkt_flat.proofs.TreeLemmas.{flat-multi_point}
use Rattle.wkt_convert.proofs.convert.GeometryConvertFromRefTypesMultiPoint.convert_from.Goals as goal

pub returns : goal.returns
returns g c =
    let k = c.in_ok-all_points in
    ap (outcome_map Flat.multi_point) (ap points (sym c.points.ensures) ∙ k.ensures) ∙ ap value (sym (flat-multi_point k.field-0))
