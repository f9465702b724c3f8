-- The line ends where its rest does, and is text where its rest is.
use Rattle.wkt_lines.proofs.Lining.{ends-tested}
use Rattle.wkt_lines.proofs.ends.text_end.Goals as goal

pub returns-in-Ok : goal.returns-in-Ok
returns-in-Ok c =
    let e = c.line_end.ensures in
    ends-tested c.args.rest.now c.args.from c.line_end.result c.requires.line e.within e.before e.after c.in-Ok.ensures.cases.1
