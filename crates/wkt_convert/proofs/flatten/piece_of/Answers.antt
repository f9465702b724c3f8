-- Each kind has the flat value of its definition, or its error.
use Rattle.std.proofs.Common.{ap, sym, ◌∙◌}
use Rattle.std.proofs.lemmas.Result.{err_from_is_err_and}
use Rattle.wkt_types.specs.Tree.{tree}
use Rattle.wkt_types.specs.Outcome.{value}
use Rattle.wkt_types.proofs.TreeLemmas.{tree-collection}
use Rattle.wkt_flat.specs.Equal.{coord_eq}
use Rattle.wkt_flat.specs.Tree.{Flat, flat_tree}
use Rattle.wkt_convert.specs.Flatten.{flat, points, outcome_map}
use Rattle.wkt_flat.proofs.TreeLemmas.{flat-multi_point}
use Rattle.wkt_convert.proofs.FlatKinds.{tree-multi_point}
use Rattle.wkt_convert.proofs.Opened.{passes_on, map_refused}
use Rattle.wkt_convert.proofs.flatten.piece_of.Goals as goal

pub returns-in_err-points-in-MultiPoint : goal.returns-in_err-points-in-MultiPoint
returns-in_err-points-in-MultiPoint g c =
    let E = coord_eq g.T.PartialEq.eq in
    let p = err_from_is_err_and c.from_residual-in_err-points-in-MultiPoint.result c.from_residual-in_err-points-in-MultiPoint.ensures.1 in
    rw (p.1, p.2)
    (passes_on (λ m. m) flat_tree _ _ (λ k r.
    ap (λ w. flat E (tree w)) c.in-MultiPoint.is
    ∙ (ap (flat E) (tree-multi_point c.in-MultiPoint.m) ∙ map_refused Flat.multi_point _ k (ap points (sym c.points.ensures) ∙ r))) _ c.in_err-points-in-MultiPoint.ensures)

pub returns-in_ok-points-in-MultiPoint : goal.returns-in_ok-points-in-MultiPoint
returns-in_ok-points-in-MultiPoint g c =
    let E = coord_eq g.T.PartialEq.eq in
    let k = c.in_ok-points-in-MultiPoint in
    ap (λ w. flat E (tree w)) c.in-MultiPoint.is
    ∙ (ap (flat E) (tree-multi_point c.in-MultiPoint.m)
    ∙ (ap (outcome_map Flat.multi_point) (ap points (sym c.points.ensures) ∙ k.ensures) ∙ ap value (sym (flat-multi_point k.points))))

pub returns-in-GeometryCollection : goal.returns-in-GeometryCollection
returns-in-GeometryCollection g c =
    (_, ap tree c.in-GeometryCollection.is ∙ (tree-collection c.in-GeometryCollection.c ∙ c.geometries.ensures))
