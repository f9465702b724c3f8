-- The arrays of the point that the text begins with.
use Rattle.std.proofs.Common.{refl}
use Rattle.wkt_calls.proofs.Pieces.{point-arrays}
use Rattle.wkt_calls.proofs.flat.make_point.Goals as goal

pub returns : goal.returns
returns c =
    let p = c.in-Some.point in
    point-arrays c.args.places c.args.text.now p.x p.y p.end c.in-Some.ensures (c.in-Some.ensures.utf8.1 (c.if-not-is_text_from.ensures.0 refl))
