-- The answer is the outcome of the front.
use Rattle.wkt_flat.specs.Equal.{coord_eq}
use Rattle.wkt.proofs.Texts.{flat_answers}
use Rattle.wkt.proofs.from_text.AnyTryFromWkt.try_from_wkt_str.Goals as goal

pub returns-in-Ok : goal.returns-in-Ok
returns-in-Ok g c =
    flat_answers g.T.WktNum.read g.G.FromAny.content g.G.FromAny.outcome (coord_eq g.T.PartialEq.eq) c.args.text.now c.in-Ok.flattened c.from_flattened.result c.in-Ok.ensures c.from_flattened.ensures
