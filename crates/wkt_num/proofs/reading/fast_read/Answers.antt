-- The whole part, the fraction and its last zeros make the units of the body.
use Rattle.std.proofs.Common.{◌≡◌, ◌+◌, ◌*◌, ◌-◌, ◌<◌, ◌≤◌, ◌^◌, ℕ, List, drop, length, sym, ap, subst, ◌∙◌, arith, length-drop}
use Rattle.std.specs.Str.Parse.{AllDigits, digits_value}
use Rattle.wkt_num.proofs.TextInsideText.{near-fraction, near-whole, near-tail, near-body}
use Rattle.wkt_num.proofs.reading.fast_read.Goals as goal

-- the whole part ends in the body
few : {at n : ℕ} → at ≤ 8 → 8 ≤ n → at ≤ n
few h k = omega (arith, h, k)

-- where the point stands
inside : {at n : ℕ} → at ≤ n → (at ≡ n → ⊥) → at < n
inside h k = omega (arith, h, k)

-- the digits after the point are few units
units : (D at f s : ℕ) (body : List ℕ) → at < length body → length body - at - 1 ≤ D → D ≤ 18
    → AllDigits 10 (drop (length body - (length body - at - 1)) body) → f ≡ digits_value 10 (drop (length body - (length body - at - 1)) body) → s ≡ 10 ^ (D - (length body - at - 1)) → f * s < 10 ^ 18
units D at f s body n few most digits value shift =
    let tail = near-tail at body n in
    near-fraction D (length body - at - 1) f s (drop (at + 1) body) (omega (arith, length-drop (at + 1) body)) few most (subst (AllDigits 10) tail digits) (value ∙ ap (digits_value 10) tail) shift

pub overflow_mul-fraction : goal.overflow_mul-fraction
overflow_mul-fraction c =
    let d = c.digits_from-whole in
    let f = c.in_ok-fraction in
    omega (arith, units c.args.places d.result.1 f.fraction c.ten_to-shift.result c.args.body.now (inside (few (d.ensures.within (omega arith)) c.if-body-lt-VECTOR_BYTES.false) c.if-at-body.false) c.if-after-places.false c.if-places-gt-SHORT_PLACES.false f.ensures.digits f.ensures.value c.ten_to-shift.ensures)

pub overflow_add-result : goal.overflow_add-result
overflow_add-result c =
    let d = c.digits_from-whole in
    let f = c.in_ok-fraction in
    let n = inside (few (d.ensures.within (omega arith)) c.if-body-lt-VECTOR_BYTES.false) c.if-at-body.false in
    let less = units c.args.places d.result.1 f.fraction c.ten_to-shift.result c.args.body.now n c.if-after-places.false c.if-places-gt-SHORT_PLACES.false f.ensures.digits f.ensures.value c.ten_to-shift.ensures in
    let whole = near-whole c.from.result d.result.1 c.from-2.result c.args.places (subst (λ w. w < 10 ^ d.result.1) (sym c.from.ensures) d.ensures.small) (omega (arith, n, c.if-body-gt-SHORT_BYTES.false)) (c.from-2.ensures ∙ c.ten_to.ensures) c.if-places-gt-SHORT_PLACES.false in
    omega (arith, less, whole, c.from-3.ensures)

pub returns : goal.returns
returns c =
    let d = c.digits_from-whole in
    let f = c.in_ok-fraction in
    let n = inside (few (d.ensures.within (omega arith)) c.if-body-lt-VECTOR_BYTES.false) c.if-at-body.false in
    let tail = near-tail d.result.1 c.args.body.now n in
    near-body c.args.places d.result.1 c.from.result c.from-2.result f.fraction c.ten_to-shift.result c.from-3.result c.args.body.now n c.if-body-lt-VECTOR_BYTES.false c.if-body-gt-SHORT_BYTES.false c.if-body-at-ne46.false c.if-after-places.false c.if-places-gt-SHORT_PLACES.false
    d.ensures.digits (c.from.ensures ∙ d.ensures.value) (subst (λ w. w < 10 ^ d.result.1) (sym c.from.ensures) d.ensures.small)
    (subst (AllDigits 10) tail f.ensures.digits) (f.ensures.value ∙ ap (digits_value 10) tail)
    (c.from-2.ensures ∙ c.ten_to.ensures) c.ten_to-shift.ensures c.from-3.ensures
