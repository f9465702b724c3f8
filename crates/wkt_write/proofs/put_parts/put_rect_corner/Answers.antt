-- A corner is the x of one coordinate and the y of another.
use Rattle.wkt_write.proofs.Bracketed.{rect_corner_pieces}
use Rattle.wkt_num.proofs.SinkCalls.{puts_err, puts_then, breaks_first, breaks_then}
use Rattle.wkt_write.proofs.put_parts.put_rect_corner.Goals as goal

pub returns-in_err-write_number : goal.returns-in_err-write_number
returns-in_err-write_number g c =
    let e = rect_corner_pieces g.C.T.WktNum.num (g.C.CoordTrait.numbers c.args.a.now) (g.C.CoordTrait.numbers c.args.b.now) _ _ c.x-x.ensures c.y-y.ensures in
    puts_err _ _ c.from_residual.ensures.1 (rw e (breaks_first _ c.in_err-write_number.ensures))

pub returns-in_err-write_str : goal.returns-in_err-write_str
returns-in_err-write_str g c =
    let e = rect_corner_pieces g.C.T.WktNum.num (g.C.CoordTrait.numbers c.args.a.now) (g.C.CoordTrait.numbers c.args.b.now) _ _ c.x-x.ensures c.y-y.ensures in
    puts_err _ _ c.from_residual-in_err-write_str.ensures.1 (rw e (breaks_then c.in_ok-write_number.ensures (breaks_first _ c.in_err-write_str.ensures)))

pub returns : goal.returns
returns g c =
    let e = rect_corner_pieces g.C.T.WktNum.num (g.C.CoordTrait.numbers c.args.a.now) (g.C.CoordTrait.numbers c.args.b.now) _ _ c.x-x.ensures c.y-y.ensures in
    rw e (puts_then _ _ _ c.in_ok-write_number.ensures (puts_then _ _ _ c.in_ok-write_str.ensures (c.write_number-2.ensures)))
