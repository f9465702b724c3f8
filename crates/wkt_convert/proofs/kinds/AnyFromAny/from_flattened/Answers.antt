-- Why there is no flat value is passed on.
use Rattle.std.proofs.Common.{ap}
use Rattle.std.proofs.lemmas.Result.{err_from_is_err_and}
use Rattle.wkt_flat.specs.Tree.{flat_tree}
use Rattle.wkt_convert.specs.Kinds.{only}
use Rattle.wkt_convert.proofs.Opened.{passes_on}
use Rattle.wkt_convert.proofs.kinds.AnyFromAny.from_flattened.Goals as goal

pub returns-in_err-into_geometry : goal.returns-in_err-into_geometry
returns-in_err-into_geometry g c = λ t h.
    let p = err_from_is_err_and c.from_residual.result c.from_residual.ensures.1 in
    rw (p.1, p.2) (passes_on flat_tree (λ x. x) _ _ (λ k r. ap (only g.G.OneKind.kind) r) _ (c.in_err-into_geometry.ensures t h))
