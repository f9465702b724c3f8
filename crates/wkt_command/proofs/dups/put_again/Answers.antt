-- The lines of canonical text are texts.
use Rattle.std.proofs.Common.{sym, subst, IsUtf8}
use Rattle.wkt_command.proofs.TextLines.{text-lines}
use Rattle.wkt_command.proofs.dups.put_again.Goals as goal

pub from_utf8_unchecked-text-requires : goal.from_utf8_unchecked-text-requires
from_utf8_unchecked-text-requires g c = (text-lines c.lines.rest.now c.line_end-end.result c.lines.invariant c.line_end-end.ensures.within c.line_end-end.ensures.before).0

pub lines-preserved : goal.lines-preserved
lines-preserved g c =
    subst IsUtf8 (sym c.after_line-rest.ensures) (text-lines c.lines.rest.now c.line_end-end.result c.lines.invariant c.line_end-end.ensures.within c.line_end-end.ensures.before).1
