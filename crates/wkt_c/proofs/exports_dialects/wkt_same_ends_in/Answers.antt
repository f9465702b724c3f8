-- A refusal leaves everything, so the second answer stands.
use Rattle.wkt_calls.specs.Dialects.{AnswersSameIn}
use Rattle.wkt_calls.proofs.InDialects.{same-after, same-read}
use Rattle.wkt_c.proofs.exports_dialects.wkt_same_ends_in.Goals as goal

pub returns-in-Ok-read_as : goal.returns-in-Ok-read_as
returns-in-Ok-read_as c =
    let asks = c.has_dialects.ensures.yes c.if-not-has_dialects.false in
    let refused = c.is_refused.ensures.yes c.if-not-is_refused.false in
    let first = c.compare-status in
    let last = c.compare in
    same-after c.args.places c.args.one.now c.args.other.now asks c.behind_srid-first.result c.behind_srid-second.result first.result _ _ _ _ _ _ first.ensures refused.0 refused.1
    (λ s e o. AnswersSameIn c.args.places c.args.one.now c.args.other.now last.result s last.new.same e last.new.end o last.new.other_end)
    (same-read c.args.places c.args.one.now c.args.other.now asks c.in-Ok.read c.in-Ok-read_as.other last.result _ _ _ _ _ _ last.ensures c.in-Ok.ensures c.in-Ok-read_as.ensures)
