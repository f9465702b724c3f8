-- What is held is UTF-8.
use Rattle.std.proofs.lemmas.Str.{IsUtf8-had}
use Rattle.wkt_bytes.proofs.gathered.GatheredText.finish.Goals as goal

pub from_utf8_unchecked-held-requires : goal.from_utf8_unchecked-held-requires
from_utf8_unchecked-held-requires g c = IsUtf8-had _ c.args.self.now.utf8
