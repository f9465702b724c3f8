-- The message on a bad number comes only where the number type refuses one.
use Rattle.wkt_read.proofs.Refusals.{said_bad}
use Rattle.wkt_explain.proofs.api.explain_by.Goals as goal

pub returns-clause-bad : goal.returns-clause-bad
returns-clause-bad g c = λ is. said_bad (g.N.Numbers.read c.args.numbers) c.args.text.now _ (c.in-Err.found.message, c.text.ensures, c.in-Err.ensures.message) is
