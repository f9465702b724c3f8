-- A refusal leaves everything, so the second answer stands.
use Rattle.wkt_calls.specs.Dialects.{AnswersCanonicalIn}
use Rattle.wkt_calls.proofs.InDialects.{canonical-after, canonical-read, canonical-none-read}
use Rattle.wkt_c.proofs.exports_dialects.wkt_canonical_in.Goals as goal

pub returns-in-Ok : goal.returns-in-Ok
returns-in-Ok c =
    let asks = c.has_dialects.ensures.yes c.if-not-has_dialects.false in
    let refused = c.is_refused.ensures.yes c.if-not-is_refused.false in
    canonical-after c.args.places c.args.text.now asks c.behind_srid-plain.result c.answer-status.result _ _ _ _ _ _ c.answer-status.ensures refused.0 refused.1
    (λ o n e. AnswersCanonicalIn c.args.places c.args.text.now c.answer.result o c.answer.new.out n c.answer.new.needed e c.answer.new.end)
    (canonical-read c.args.places c.args.text.now asks c.in-Ok.read c.answer.result _ _ _ _ _ _ c.answer.ensures c.in-Ok.ensures)

pub returns-in-Err : goal.returns-in-Err
returns-in-Err c =
    let asks = c.has_dialects.ensures.yes c.if-not-has_dialects.false in
    let refused = c.is_refused.ensures.yes c.if-not-is_refused.false in
    canonical-after c.args.places c.args.text.now asks c.behind_srid-plain.result c.answer-status.result _ _ _ _ _ _ c.answer-status.ensures refused.0 refused.1
    (λ o n e. AnswersCanonicalIn c.args.places c.args.text.now c.in-Err.status o c.answer-status.new.out n c.answer-status.new.needed e c.answer-status.new.end)
    (canonical-none-read c.args.places c.args.text.now asks c.in-Err.status _ _ _ c.in-Err.ensures)
