-- The head, two numbers and a parenthesis come next.
use Rattle.std.proofs.Common.{arith}
use Rattle.std.proofs.lemmas.Bool.{OnTrue_at}
use Rattle.wkt_sources.proofs.ByteSteps.{point_name, point-held, shuts}
use Rattle.wkt_sources.proofs.points.fast_point.Goals as goal

pub returns : goal.returns
returns c =
    let (r, one, ex, fx) = c.in_ok-x.ensures in
    let (s, two, ey, fy) = c.in_ok-y.ensures in
    point-held c.args.places c.args.text.now c.in_ok-head.head.end c.in_ok-x.between c.in_ok-y.behind _ r s c.in_ok-x.x c.in_ok-y.y (c.in_ok-head.ensures.word c.in-Inside.is) one ex two ey
    (shuts c.args.text.now c.in_ok-y.behind c.skip_white-close.result c.byte_at.result c.skip_white-close.ensures.order c.skip_white-close.ensures.same c.byte_at.ensures.value c.if-byte_at-ne41.false) fx fy

pub plain-requires : goal.plain-requires
plain-requires c = (omega arith, (point_name, (omega arith, (omega arith, (omega arith, OnTrue_at c.if-not-is_point.false c.is_point.ensures)))))
