-- What stands behind the SRID is read, or another text.
use Rattle.std.proofs.Common.{◌≡◌, ◌≤◌, ◌+◌, drop, length, sym, subst, IfOk, ◌∙◌}
use Rattle.wkt_dialects.specs.Dialects.{IsRest}
use Rattle.wkt_dialects.specs.Reading.{IsRestAs}
use Rattle.wkt_command.specs.Dialects.{IsVerdictIn}
use Rattle.wkt_command.specs.declared.verdict.Verdict.TheVariants.{Read, Rest}
use Rattle.wkt_command.proofs.InDialects.{if-ok, in-none, in-rest-read, in-rest-rest, in-other}
use Rattle.wkt_command.proofs.dialects.verdict_in.Goals as goal

pub returns-in_default : goal.returns-in_default
returns-in_default c =
    let room = c.verdict_at.new.room.items in
    subst (λ d. IfOk c.verdict_at.result (IsVerdictIn d c.args.places c.args.front c.args.text.now room)) (sym c.in_default.is)
    (if-ok c.verdict_at.result _ _ (in-none c.args.places c.args.front c.args.text.now room) c.verdict_at.ensures)

pub returns-in-Ok-Read : goal.returns-in-Ok-Read
returns-in-Ok-Read c =
    let d = c.in-Some.dialects in
    let text = c.args.text.now in
    let from = c.rest_of-from.result in
    let room = c.verdict_at-2.new.room.items in
    let bytes = c.as_bytes.ensures.value in
    let inside = subst (λ t. from ≤ length t) bytes c.rest_of-from.ensures.inside in
    let rest = subst (λ t. IsRest d t (drop from t)) bytes c.rest_of-from.ensures.rest in
    let is = rw (c.in-Ok-Read.field-0-is, c.behind-rest.ensures) at c.in-Ok-Read.ensures in
    subst (λ e. IsVerdictIn e c.args.places c.args.front text room (Read c.in-Ok-Read.len)) (sym c.in-Some.is)
    (in-rest-read c.args.places c.args.front text room d from inside rest c.in-Ok-Read.len is)

pub returns-in-Ok-Rest : goal.returns-in-Ok-Rest
returns-in-Ok-Rest c =
    let d = c.in-Some.dialects in
    let text = c.args.text.now in
    let from = c.rest_of-from.result in
    let room = c.verdict_at-2.new.room.items in
    let bytes = c.as_bytes.ensures.value in
    let inside = subst (λ t. from ≤ length t) bytes c.rest_of-from.ensures.inside in
    let rest = subst (λ t. IsRest d t (drop from t)) bytes c.rest_of-from.ensures.rest in
    let is = rw (c.in-Ok-Rest.field-0-is, c.behind-rest.ensures) at c.in-Ok-Rest.ensures in
    subst (λ e. IsVerdictIn e c.args.places c.args.front text room (Rest (from + c.in-Ok-Rest.end))) (sym c.in-Some.is)
    (in-rest-rest c.args.places c.args.front text room d from inside rest c.in-Ok-Rest.end is)

pub placed-requires-clause-rest : goal.placed-requires-clause-rest
placed-requires-clause-rest c =
    let from = c.rest_of-from.result in
    subst (λ t. IsRest c.in-Some.dialects t (drop from t)) c.as_bytes.ensures.value c.rest_of-from.ensures.rest

pub returns-in-Ok-verdict_at : goal.returns-in-Ok-verdict_at
returns-in-Ok-verdict_at c =
    let d = c.in-Some.dialects in
    let text = c.args.text.now in
    let from = c.rest_of-from.result in
    let room = c.verdict_at-3.new.room.items in
    let other = c.from_utf8_unchecked-read.result.now in
    let bytes = c.as_bytes.ensures.value in
    let inside = subst (λ t. from ≤ length t) bytes c.rest_of-from.ensures.inside in
    let rest = subst (λ t. IsRest d t (drop from t)) bytes c.rest_of-from.ensures.rest in
    let refused = rw (c.in-Ok-Refused.field-0-is, c.behind-rest.ensures) at c.in-Ok-Refused.ensures in
    let behind : c.as_bytes-2.result.now ≡ drop from text = c.as_bytes-2.ensures.value ∙ c.behind-rest.ensures in
    let here : other ≡ c.write_as_read.new.out.items = c.from_utf8_unchecked-read.ensures ∙ c.as_slice.ensures.value in
    let written = subst (λ o. IsRestAs d (drop from text) o) (sym here) (subst (λ r. IsRestAs d r c.write_as_read.new.out.items) behind c.in-Ok.ensures.0) in
    subst (λ e. IsVerdictIn e c.args.places c.args.front text room c.placed.result) (sym c.in-Some.is)
    (in-other c.args.places c.args.front text room d from inside rest other c.in-Ok-verdict_at.verdict c.placed.result refused.5 written c.in-Ok-verdict_at.ensures c.placed.ensures)
