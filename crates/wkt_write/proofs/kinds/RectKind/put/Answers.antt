-- The text is the ring in its parentheses.
use Rattle.wkt_write.proofs.Bracketed.{rect_text}
use Rattle.wkt_num.proofs.SinkCalls.{puts_err, puts_then, breaks_first, breaks_then}
use Rattle.wkt_write.proofs.kinds.RectKind.put.Goals as goal

pub returns-in_err-write_str : goal.returns-in_err-write_str
returns-in_err-write_str g c =
    let e = rect_text g.R.T.WktNum.num (g.R.RectTrait.dimension c.args.self.now.0.now) _ _ _ _ c.min-min.ensures c.max-max.ensures in
    puts_err _ _ c.from_residual.ensures.1 (rw e (breaks_first _ c.in_err-write_str.ensures))

pub returns-in_err-put_rect_ring : goal.returns-in_err-put_rect_ring
returns-in_err-put_rect_ring g c =
    let e = rect_text g.R.T.WktNum.num (g.R.RectTrait.dimension c.args.self.now.0.now) _ _ _ _ c.min-min.ensures c.max-max.ensures in
    puts_err _ _ c.from_residual-in_err-put_rect_ring.ensures.1 (rw e (breaks_then c.in_ok-write_str.ensures (breaks_first _ c.in_err-put_rect_ring.ensures)))

pub returns : goal.returns
returns g c =
    let e = rect_text g.R.T.WktNum.num (g.R.RectTrait.dimension c.args.self.now.0.now) _ _ _ _ c.min-min.ensures c.max-max.ensures in
    rw e (puts_then _ _ _ c.in_ok-write_str.ensures (puts_then _ _ _ c.in_ok-put_rect_ring.ensures (c.write_str-2.ensures)))
