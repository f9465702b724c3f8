-- It has the given points, and the dimension of the first.
use Rattle.wkt_types.proofs.TreeLemmas.{made_none, made_some}
use Rattle.wkt_types.proofs.multipoint.MultiPoint.from_points.Goals as goal

pub returns-in-None : goal.returns-in-None
returns-in-None g c = made_none (λ x. x.dim) _ _ (c.in_ok-points.ensures.runs tt) c.deref.ensures.value c.in-None.ensures.value

pub returns-in-Some : goal.returns-in-Some
returns-in-Some g c = made_some (λ x. x.dim) _ _ (c.in_ok-points.ensures.runs tt) c.deref.ensures.value c.in-Some.first.now _ c.in-Some.ensures.value c.dimension-dim.ensures
