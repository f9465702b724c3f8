-- The line string has the given coordinates, and the dimension of the first.
use Rattle.wkt_types.specs.Held.{coord_dim}
use Rattle.wkt_types.proofs.TreeLemmas.{made_none, made_some}
use Rattle.wkt_types.proofs.linestring.LineString.from_coords.Goals as goal

pub returns-in-None : goal.returns-in-None
returns-in-None g c = made_none coord_dim _ _ (c.in_ok-coords.ensures.runs tt) c.deref.ensures.value c.in-None.ensures.value

pub returns-in-Some : goal.returns-in-Some
returns-in-Some g c = made_some coord_dim _ _ (c.in_ok-coords.ensures.runs tt) c.deref.ensures.value c.in-Some.first.now _ c.in-Some.ensures.value c.dimension-dim.ensures
