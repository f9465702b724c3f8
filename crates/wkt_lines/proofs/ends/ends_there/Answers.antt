-- Where a line feed stands, the line ends.
use Rattle.std.proofs.Common.{sym, ◌∙◌}
use Rattle.wkt_lines.proofs.Lining.{ends-here}
use Rattle.wkt_lines.proofs.ends.ends_there.Goals as goal

pub returns-then-byte_at-eq10 : goal.returns-then-byte_at-eq10
returns-then-byte_at-eq10 c = ends-here c.args.rest.now c.args.at c.requires.line (sym c.byte_at.ensures.value ∙ c.if-byte_at-eq10.true)
