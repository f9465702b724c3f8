-- The lexeme that was looked at is taken.
use Rattle.wkt_sources.proofs.ByteViews.{skips_to}
use Rattle.wkt_sources.proofs.bytes.ByteCursorSource.skip.Goals as goal

pub returns : goal.returns
returns g c = skips_to _ c.args.self c.new.result c.requires.looked c.requires.some c.requires.word c.new.ensures.text c.new.ensures.at
