-- The body is the exterior and the interiors, or EMPTY.
use Rattle.wkt_num.proofs.SinkCalls.{puts_err, puts_then, breaks_first, breaks_then}
use Rattle.wkt_write.proofs.Bracketed.{rings_pieces, rings_no_piece, rings_none, rings_empty}
use Rattle.wkt_write.proofs.put_parts.put_polygon_body.Goals as goal

pub returns-in-None : goal.returns-in-None
returns-in-None g c =
    let h = rings_none (g.Y.PolygonTrait.polygon c.args.y.now) c.in-None.ensures in
    rw (rings_no_piece g.Y.T.WktNum.num c.args.k (g.Y.PolygonTrait.polygon c.args.y.now) h) c.put_opening.ensures

pub returns-then-num_coords-eq0 : goal.returns-then-num_coords-eq0
returns-then-num_coords-eq0 g c =
    let h = rings_empty (g.Y.PolygonTrait.polygon c.args.y.now) _ _ c.in-Some.ensures c.num_coords.ensures c.if-num_coords-eq0.true in
    rw (rings_no_piece g.Y.T.WktNum.num c.args.k (g.Y.PolygonTrait.polygon c.args.y.now) h) c.put_opening-then-num_coords-eq0.ensures

pub returns-in_err-put_opening-in-Some : goal.returns-in_err-put_opening-in-Some
returns-in_err-put_opening-in-Some g c =
    let e = rings_pieces g.Y.T.WktNum.num c.args.k (g.Y.PolygonTrait.polygon c.args.y.now) _ _ c.in-Some.ensures c.num_coords.ensures c.if-num_coords-eq0.false in
    puts_err _ _ c.from_residual.ensures.1 (rw e (breaks_first _ c.in_err-put_opening-in-Some.ensures))

pub returns-in_err-put_coords-in-Some : goal.returns-in_err-put_coords-in-Some
returns-in_err-put_coords-in-Some g c =
    let e = rings_pieces g.Y.T.WktNum.num c.args.k (g.Y.PolygonTrait.polygon c.args.y.now) _ _ c.in-Some.ensures c.num_coords.ensures c.if-num_coords-eq0.false in
    puts_err _ _ c.from_residual-in_err-put_coords-in-Some.ensures.1 (rw e (breaks_then c.in_ok-put_opening-in-Some.ensures (breaks_first _ c.in_err-put_coords-in-Some.ensures)))

pub returns-in_err-put_following-in-Some : goal.returns-in_err-put_following-in-Some
returns-in_err-put_following-in-Some g c =
    let e = rings_pieces g.Y.T.WktNum.num c.args.k (g.Y.PolygonTrait.polygon c.args.y.now) _ _ c.in-Some.ensures c.num_coords.ensures c.if-num_coords-eq0.false in
    puts_err _ _ c.from_residual-in_err-put_following-in-Some.ensures.1 (rw e (breaks_then c.in_ok-put_opening-in-Some.ensures (breaks_then c.in_ok-put_coords-in-Some.ensures (breaks_first _ c.in_err-put_following-in-Some.ensures))))

pub returns-in_ok-put_following-in-Some : goal.returns-in_ok-put_following-in-Some
returns-in_ok-put_following-in-Some g c =
    let e = rings_pieces g.Y.T.WktNum.num c.args.k (g.Y.PolygonTrait.polygon c.args.y.now) _ _ c.in-Some.ensures c.num_coords.ensures c.if-num_coords-eq0.false in
    rw e (puts_then _ _ _ c.in_ok-put_opening-in-Some.ensures (puts_then _ _ _ c.in_ok-put_coords-in-Some.ensures (puts_then _ _ _ c.in_ok-put_following-in-Some.ensures c.put_closing.ensures)))
