-- The text is a header and the coordinate, if there is one.
use Rattle.std.specs.Prelude.{option_to_list}
use Rattle.wkt_num.proofs.SinkCalls.{puts_err}
use Rattle.wkt_write.proofs.Bracketed.{headed_broken, headed_adds, point_text}
use Rattle.wkt_write.proofs.kinds.PointKind.put.Goals as goal

pub returns-in_err-put_header : goal.returns-in_err-put_header
returns-in_err-put_header g c =
    let e = point_text g.P.T.WktNum.num (g.P.PointTrait.dimension c.args.self.now.0.now) (g.P.PointTrait.coordinate c.args.self.now.0.now) in
    puts_err _ _ c.from_residual.ensures.1
    (rw (e, ← c.dim.ensures, ← c.dimension_in-d.ensures) (headed_broken _ (option_to_list (g.P.PointTrait.coordinate c.args.self.now.0.now)) _ _ _ c.has_no_coord.ensures c.in_err-put_header.ensures))

pub returns : goal.returns
returns g c =
    let e = point_text g.P.T.WktNum.num (g.P.PointTrait.dimension c.args.self.now.0.now) (g.P.PointTrait.coordinate c.args.self.now.0.now) in
    rw (e, ← c.dim.ensures, ← c.dimension_in-d.ensures, ← c.size_in.ensures)
    (headed_adds _ (option_to_list (g.P.PointTrait.coordinate c.args.self.now.0.now)) _ _ _ c.has_no_coord.ensures _ _ c.in_ok-put_header.ensures c.put_point_body.ensures)
