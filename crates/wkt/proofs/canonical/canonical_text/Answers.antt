-- An empty text has no front. The message on a bad number comes only where the number type refuses one.
use Rattle.std.proofs.Common.{sym, ◌∙◌}
use Rattle.wkt_sources.proofs.TableMessages as empty
use Rattle.wkt.proofs.Texts.{bad_of}
use Rattle.wkt.proofs.canonical.canonical_text.Goals as goal

pub returns-in-Ok-Err-clause-bad : goal.returns-in-Ok-Err-clause-bad
returns-in-Ok-Err-clause-bad g c =
    let writes = rw c.in-Ok-Err.field-0-is at c.in-Ok-Err.ensures.writes in
    λ is. bad_of g.T.WktNum.read c.args.text.now c.in-Ok-Err.message writes.1 (sym c.text-in-Ok-Err.ensures ∙ is)

pub returns-in-None-clause-bad : goal.returns-in-None-clause-bad
returns-in-None-clause-bad g c = λ is. bad_of g.T.WktNum.read c.args.text.now c.message_of.result c.message_of.ensures (sym c.text-in-None.ensures ∙ is)

pub returns-then-is_empty-clause-no_front : goal.returns-then-is_empty-clause-no_front
returns-then-is_empty-clause-no_front g c = empty.empty_no_front g.T.WktNum.read c.args.text.now (empty.no_bytes _ (sym c.is_empty.ensures ∙ c.if-is_empty.true))

pub returns-then-is_empty-clause-bad : goal.returns-then-is_empty-clause-bad
returns-then-is_empty-clause-bad g c = empty.empty_no_bad g.T.WktNum.read c.args.text.now c.text.result.now c.text.ensures

pub returns-then-is_empty-clause-refusal : goal.returns-then-is_empty-clause-refusal
returns-then-is_empty-clause-refusal g c = empty.empty_refused g.T.WktNum.read c.args.text.now c.text.result.now (empty.no_bytes _ (sym c.is_empty.ensures ∙ c.if-is_empty.true)) c.text.ensures
