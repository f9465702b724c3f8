-- The bytes that a source gave are answered as the definition says.
use Rattle.std.proofs.Common.{rules}
use Rattle.wkt.proofs.Texts.{source_answers}
use Rattle.wkt.proofs.from_text.AnyTryFromWkt.try_from_wkt_reader.Goals as goal

pub returns-in-Ok-clause-answer : goal.returns-in-Ok-clause-answer
returns-in-Ok-clause-answer g c =
    source_answers g.T.WktNum.read g.G.FromAny.content g.G.FromAny.outcome (g.R.ByteSource.left c.args.reader.now) _ c.deref.result.now
    c.in-Ok.ensures.text (search rules) c.deref.utf8 c.try_from_wkt_str.result c.try_from_wkt_str.ensures
