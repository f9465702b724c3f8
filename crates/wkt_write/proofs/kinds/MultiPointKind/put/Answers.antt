-- The text is a header and the points.
use Rattle.wkt_write.proofs.Bracketed.{multi_point_text}
use Rattle.wkt_write.proofs.kinds.MultiPointKind.put.Goals as goal

pub returns : goal.returns
returns g c =
    rw (multi_point_text g.M.T.WktNum.num (g.M.MultiPointTrait.dimension c.args.self.now.0.now) (g.M.MultiPointTrait.points c.args.self.now.0.now), ← c.dim.ensures)
    c.put_listed.ensures
