-- The corners of a rectangle are in order on both axes.
use Rattle.wkt.proofs.Texts.{in_order}
use Rattle.wkt.proofs.flat_laws.corners_are_in_order.Goals as goal

pub returns : goal.returns
returns g c = λ a b.
    let ordered = in_order g.T.Ord.cmp g.met.T.Ord.total g.T.PartialOrd.partial_cmp g.met.T.Ord.matches_partial_cmp in
    (ordered a.x b.x, ordered a.y b.y)
