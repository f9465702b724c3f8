-- The first word of a kind decides.
use Rattle.std.proofs.Common.{◌≡◌, ◌∷◌, sym, subst, inl, inr, true, false}
use Rattle.wkt_command.specs.Row.{IsRow, BeginsKind}
use Rattle.wkt_command.proofs.csv.looks_like_row.Goals as goal

pub bytes-preserved : goal.bytes-preserved
bytes-preserved c = λ is row.
    let parts : c.bytes.rest.now ≡ c.in-Some.byte.now ∷ c.in-Some.others.now = c.in-Some.ensures.cases.0 in
    let none = subst (λ l. BeginsKind c.bytes.before l false) parts c.if-begins_kind.ensures in
    c.bytes.invariant is (subst (λ l. IsRow c.bytes.before l is) (sym parts) (inr (none, row)))

pub returns-then-begins_kind : goal.returns-then-begins_kind
returns-then-begins_kind c =
    let is = c.begins_field.result in
    let parts : c.bytes.rest.now ≡ c.in-Some.byte.now ∷ c.in-Some.others.now = c.in-Some.ensures.cases.0 in
    let some = subst (λ l. BeginsKind c.bytes.before l true) parts c.if-begins_kind.ensures in
    c.bytes.invariant is (subst (λ l. IsRow c.bytes.before l is) (sym parts) (inl (some, c.begins_field.ensures)))
