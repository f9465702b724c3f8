-- The start is a boundary of characters.
use Rattle.std.proofs.lemmas.Str.{IsCharBoundary-start}
use Rattle.wkt_read.proofs.tokenizer.cursor.Cursor.new.Goals as goal

pub returns-clause-boundary : goal.returns-clause-boundary
returns-clause-boundary c = IsCharBoundary-start c.args.text.now c.utf8.text
