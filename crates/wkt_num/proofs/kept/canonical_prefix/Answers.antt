-- The number keeps its text, and is found.
use Rattle.std.proofs.Common.{◌≡◌, ◌<◌, ◌≤◌, ◌+◌, ◌-◌, ℕ, length, get_or, true, sym, subst, ◌∙◌, arith}
use Rattle.std.specs.Char.{is_ascii_digit}
use Rattle.wkt_num.specs.Bytes.{class_of, Run}
use Rattle.wkt_num.proofs.DecimalParts.{keeps-whole, keeps-plain}
use Rattle.wkt_num.proofs.FoundDecimal.{point-low, point-ends, met, passed, ended, end-ends, found-same}
use Rattle.wkt_num.proofs.kept.canonical_prefix.Goals as goal
use Rattle.wkt_num.proofs.kept.canonical_prefix.Goals.{then-not-is_whole_number-via-then-not-is_whole_number, then-not-is_whole_number-via-else-not-is_whole_number+then-is_of_run}

pub returns-then-bytes-point-ne46-clause-keeps : goal.returns-then-bytes-point-ne46-clause-keeps
returns-then-bytes-point-ne46-clause-keeps c =
    keeps-whole c.args.places c.args.bytes.now c.after_minus-first.result c.in-Some.point c.after_minus-first.ensures.sign c.if-not-is_whole_number.ensures.whole c.if-not-is_whole_number.ensures.zero (λ _. c.if-is_of_run.ensures)

pub returns-then-is_plain-clause-keeps : goal.returns-then-is_plain-clause-keeps
returns-then-is_plain-clause-keeps c =
    let p = c.in-Some in
    let e = c.in-Some-first_other in
    keeps-plain c.args.places c.args.bytes.now c.after_minus-first.result p.point e.end c.after_minus-first.ensures.sign p.ensures.some.order p.ensures.some.digits
    (omega (arith, e.ensures.some.order)) (omega (arith, e.ensures.some.within, c.requires)) c.if-bytes-point-ne46.false e.ensures.some.digits (λ _. c.if-is_of_run-2.ensures) c.if-is_plain.ensures

pub returns-in_default-clause-finds : goal.returns-in_default-clause-finds
returns-in_default-clause-finds c end t less =
    let D = c.args.places in
    let bs = c.args.bytes.now in
    let a = c.after_minus-first in
    absurd (point-ends D bs end a.result t a.ensures.minus a.ensures.sign a.ensures.none 32 (omega (arith, less, point-low D bs end a.result t a.ensures.minus a.ensures.sign a.ensures.none)) c.requires c.in_default.ensures.none)

pub returns-then-not-is_whole_number-clause-finds : goal.returns-then-not-is_whole_number-clause-finds
returns-then-not-is_whole_number-clause-finds c end t less =
    let a = c.after_minus-first in
    let p = c.in-Some.ensures.some in
    let m = met c.args.places c.args.bytes.now end a.result t a.ensures.minus a.ensures.sign a.ensures.none c.in-Some.point p.order (omega (arith, p.within, c.requires)) p.digits (λ _. p.other) in
    let all = m.alone (λ _. c.if-bytes-point-ne46.true) in
    elim c.then-not-is_whole_number.branch [
      | then-not-is_whole_number-via-then-not-is_whole_number v ↦ let zero = v.if-not-is_whole_number.ensures.other m.whole in absurd (all.1 zero.0 zero.1)
      | then-not-is_whole_number-via-else-not-is_whole_number+then-is_of_run v ↦ absurd (t.stops (omega (arith, less, c.requires)) (subst (λ (n : ℕ). class_of (get_or c.args.bytes.now n 0) ≡ Run) all.0 v.if-is_of_run.ensures))
    ]

pub returns-then-bytes-point-ne46-clause-finds : goal.returns-then-bytes-point-ne46-clause-finds
returns-then-bytes-point-ne46-clause-finds c end t less =
    let a = c.after_minus-first in
    let p = c.in-Some.ensures.some in
    let m = met c.args.places c.args.bytes.now end a.result t a.ensures.minus a.ensures.sign a.ensures.none c.in-Some.point p.order (omega (arith, p.within, c.requires)) p.digits (λ _. p.other) in
    found-same c.in-Some.point end (m.alone (λ _. c.if-bytes-point-ne46.true)).0

pub returns-in_default-first_other-clause-finds : goal.returns-in_default-first_other-clause-finds
returns-in_default-first_other-clause-finds c end t less =
    let a = c.after_minus-first in
    let p = c.in-Some.ensures.some in
    let m = met c.args.places c.args.bytes.now end a.result t a.ensures.minus a.ensures.sign a.ensures.none c.in-Some.point p.order (omega (arith, p.within, c.requires)) p.digits (λ _. p.other) in
    let inside : t.point < length c.args.bytes.now = omega (arith, m.same, p.within, c.requires) in
    let is : get_or c.args.bytes.now t.point 0 ≡ 46 = subst (λ (n : ℕ). get_or c.args.bytes.now n 0 ≡ 46) m.same c.if-bytes-point-ne46.false in
    absurd (end-ends c.args.places c.args.bytes.now end a.result t a.ensures.minus a.ensures.sign a.ensures.none inside is 32 less c.requires (subst (λ (n : ℕ). (at : ℕ) → n + 1 ≤ at → at < 32 → is_ascii_digit (get_or c.args.bytes.now at 0) ≡ true) m.same c.in_default-first_other.ensures.none))

pub returns-then-is_of_run-2-clause-finds : goal.returns-then-is_of_run-2-clause-finds
returns-then-is_of_run-2-clause-finds c end t less =
    let a = c.after_minus-first in
    let p = c.in-Some.ensures.some in
    let m = met c.args.places c.args.bytes.now end a.result t a.ensures.minus a.ensures.sign a.ensures.none c.in-Some.point p.order (omega (arith, p.within, c.requires)) p.digits (λ _. p.other) in
    let e = c.in-Some-first_other.ensures.some in
    let ends = ended c.args.places c.args.bytes.now end a.result t a.ensures.minus a.ensures.sign a.ensures.none c.in-Some.point c.in-Some-first_other.end m (omega (arith, p.within, c.requires)) c.if-bytes-point-ne46.false e.order (omega (arith, e.within, c.requires)) e.digits (λ _. e.other) in
    absurd (t.stops (omega (arith, less, c.requires)) (subst (λ (n : ℕ). class_of (get_or c.args.bytes.now n 0) ≡ Run) ends c.if-is_of_run-2.ensures))

pub returns-then-is_plain-clause-finds : goal.returns-then-is_plain-clause-finds
returns-then-is_plain-clause-finds c end t less =
    let a = c.after_minus-first in
    let p = c.in-Some.ensures.some in
    let m = met c.args.places c.args.bytes.now end a.result t a.ensures.minus a.ensures.sign a.ensures.none c.in-Some.point p.order (omega (arith, p.within, c.requires)) p.digits (λ _. p.other) in
    let e = c.in-Some-first_other.ensures.some in
    let ends = ended c.args.places c.args.bytes.now end a.result t a.ensures.minus a.ensures.sign a.ensures.none c.in-Some.point c.in-Some-first_other.end m (omega (arith, p.within, c.requires)) c.if-bytes-point-ne46.false e.order (omega (arith, e.within, c.requires)) e.digits (λ _. e.other) in
    found-same c.in-Some-first_other.end end ends

pub returns-then-not-is_whole_part-clause-finds : goal.returns-then-not-is_whole_part-clause-finds
returns-then-not-is_whole_part-clause-finds c end t less =
    let a = c.after_minus-first in
    let p = c.in-Some.ensures.some in
    let m = met c.args.places c.args.bytes.now end a.result t a.ensures.minus a.ensures.sign a.ensures.none c.in-Some.point p.order (omega (arith, p.within, c.requires)) p.digits (λ _. p.other) in
    absurd (c.if-not-is_whole_part.ensures m.whole)

pub returns-clause-finds : goal.returns-clause-finds
returns-clause-finds c end t less =
    let a = c.after_minus-first in
    let p = c.in-Some.ensures.some in
    let m = met c.args.places c.args.bytes.now end a.result t a.ensures.minus a.ensures.sign a.ensures.none c.in-Some.point p.order (omega (arith, p.within, c.requires)) p.digits (λ _. p.other) in
    let e = c.in-Some-first_other.ensures.some in
    let ends = ended c.args.places c.args.bytes.now end a.result t a.ensures.minus a.ensures.sign a.ensures.none c.in-Some.point c.in-Some-first_other.end m (omega (arith, p.within, c.requires)) c.if-bytes-point-ne46.false e.order (omega (arith, e.within, c.requires)) e.digits (λ _. e.other) in
    let f = passed c.args.places c.args.bytes.now end a.result t a.ensures.minus a.ensures.sign a.ensures.none c.in-Some.point m (omega (arith, p.within, c.requires)) c.if-bytes-point-ne46.false in
    c.kept_fraction.ensures.finds (omega (arith, ends, f.some)) (subst (λ (n : ℕ). get_or c.args.bytes.now (n - 1) 0 ≡ 48 → ⊥) (sym ends) f.last) (omega (arith, ends, f.few))
    ∙ found-same c.in-Some-first_other.end end ends
