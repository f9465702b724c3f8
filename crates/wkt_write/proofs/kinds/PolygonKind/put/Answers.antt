-- The text is a header and the rings.
use Rattle.wkt_access.specs.Shapes.{rings_of}
use Rattle.wkt_num.proofs.SinkCalls.{puts_err}
use Rattle.wkt_write.proofs.Bracketed.{headed_broken, headed_adds, rings_text}
use Rattle.wkt_write.proofs.kinds.PolygonKind.put.Goals as goal

pub returns-in_err-put_header : goal.returns-in_err-put_header
returns-in_err-put_header g c =
    let e = rings_text g.Y.T.WktNum.num (g.Y.PolygonTrait.dimension c.args.self.now.0.now) (g.Y.PolygonTrait.polygon c.args.self.now.0.now) in
    puts_err _ _ c.from_residual.ensures.1
    (rw (e, ← c.dim.ensures, ← c.dimension_in-d.ensures) (headed_broken _ (rings_of (g.Y.PolygonTrait.polygon c.args.self.now.0.now)) _ _ _ c.has_no_rings.ensures c.in_err-put_header.ensures))

pub returns : goal.returns
returns g c =
    let e = rings_text g.Y.T.WktNum.num (g.Y.PolygonTrait.dimension c.args.self.now.0.now) (g.Y.PolygonTrait.polygon c.args.self.now.0.now) in
    rw (e, ← c.dim.ensures, ← c.dimension_in-d.ensures, ← c.size_in.ensures)
    (headed_adds _ (rings_of (g.Y.PolygonTrait.polygon c.args.self.now.0.now)) _ _ _ c.has_no_rings.ensures _ _ c.in_ok-put_header.ensures c.put_polygon_body.ensures)
