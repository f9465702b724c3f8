-- Bytes that aren't UTF-8 are no text.
use Rattle.std.proofs.Common.{inr, refl}
use Rattle.wkt_calls.specs.Answer.{read_at, places_in}
use Rattle.wkt_calls.proofs.Pieces.{not-text-other}
use Rattle.wkt_calls.proofs.compare.same_long.Goals as goal

pub returns-in_default-from_utf8 : goal.returns-in_default-from_utf8
returns-in_default-from_utf8 c = inr (not-text-other (read_at (places_in c.args.options)) c.args.one.now c.args.other.now 20 refl c.in_default-from_utf8.ensures.cases.0)
