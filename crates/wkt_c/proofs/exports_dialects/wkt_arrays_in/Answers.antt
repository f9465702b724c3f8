-- A refusal leaves everything, so the second answer stands.
use Rattle.std.proofs.Common.{arith}
use Rattle.wkt_calls.specs.Dialects.{AnswersArraysIn}
use Rattle.wkt_calls.proofs.InDialects.{read-readable, arrays-plain, arrays-after, arrays-read, arrays-none-read}
use Rattle.wkt_c.proofs.exports_dialects.wkt_arrays_in.Goals as goal

pub returns-then-not-is_refused : goal.returns-then-not-is_refused
returns-then-not-is_refused c =
    let k = c.behind_srid-plain.ensures in
    arrays-plain c.args.places c.args.text.now (c.has_dialects.ensures.yes c.if-not-has_dialects.false) c.behind_srid-plain.result c.arrays_of-status.result _ _ _ _ _ _ _ _ c.arrays_of-status.ensures
    (record { rest = k.rest; same = k.same; text_is = k.text; utf8 = k.utf8 }) (c.is_refused.ensures.no c.if-not-is_refused.true)

pub arrays_of-requires-clause-readable : goal.arrays_of-requires-clause-readable
arrays_of-requires-clause-readable c = read-readable c.args.places c.args.text.now c.in-Ok.read c.in-Ok.ensures (omega arith)

pub returns-in-Ok : goal.returns-in-Ok
returns-in-Ok c =
    let asks = c.has_dialects.ensures.yes c.if-not-has_dialects.false in
    let refused = c.is_refused.ensures.yes c.if-not-is_refused.false in
    let last = c.arrays_of in
    arrays-after c.args.places c.args.text.now asks c.behind_srid-plain.result c.arrays_of-status.result _ _ _ _ _ _ _ _ c.arrays_of-status.ensures refused.0 refused.1
    (λ s n r p. AnswersArraysIn c.args.places c.args.text.now last.result s last.new.sizes n last.new.numbers r last.new.rings p last.new.polygons)
    (arrays-read c.args.places c.args.text.now asks c.in-Ok.read last.result _ _ _ _ _ _ _ _ last.ensures c.in-Ok.ensures)

pub returns-in-Err : goal.returns-in-Err
returns-in-Err c =
    let asks = c.has_dialects.ensures.yes c.if-not-has_dialects.false in
    let refused = c.is_refused.ensures.yes c.if-not-is_refused.false in
    let first = c.arrays_of-status in
    arrays-after c.args.places c.args.text.now asks c.behind_srid-plain.result first.result _ _ _ _ _ _ _ _ first.ensures refused.0 refused.1
    (λ s n r p. AnswersArraysIn c.args.places c.args.text.now c.in-Err.status s first.new.sizes n first.new.numbers r first.new.rings p first.new.polygons)
    (arrays-none-read c.args.places c.args.text.now asks c.in-Err.status _ _ _ _ c.in-Err.ensures)
