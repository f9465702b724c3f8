-- The reading of a short body, and the text of a decimal inside the text that it is read from.
use Rattle.std.proofs.Common.{◌≡◌, ℕ, suc, ◌+◌, ◌-◌, ◌*◌, ◌^◌, ◌%◌, ◌<◌, ◌≤◌, true, List, [], ◌∷◌, ◌++◌, length, take, drop, get_or, if◌then◌else◌, Some, None, slice_range, sym, ap, subst, ◌∙◌, arith, length-append, length-drop, take_all, zero, ◌/◌, Bool, false, cond, ℤ, pos, negsuc, refl, append_assoc}
use Rattle.std.specs.Char.{is_ascii_digit, digit_value}
use Rattle.std.specs.Str.Parse.{AllDigits, digits_value, digits_value_after, IsNumeral, starts_with_minus, without_leading_plus}
use Rattle.std.proofs.lemmas.Bool.Decides.{nat_tests}
use Rattle.std.proofs.lemmas.List.{append-nil, get_or-drop, drop_more, take-append-drop}
use Rattle.std.proofs.lemmas.Nat.{pow-add, div-mul-add, mod-mul-add}
use Rattle.std.proofs.Math.Nat.{pow-suc, pow-le-pow_right, mul-le-mul, mul-le-mul_right, le-mul_of_pos_right}
use Rattle.std.proofs.lemmas.Int.Digits.{digits_value-lt}
use Rattle.std.proofs.Math.Seq.{take-suc}
use Rattle.std.specs.Fmt.{decimal, sign_text}
use Rattle.std.specs.Int.{IsInRange}
use Rattle.std.proofs.lemmas.Fmt.{decimal_digit, decimal_step_wide}
use Rattle.std.proofs.lemmas.Str.Parse.{digit_from_value, without_leading_plus_none}
use borrow.Author.Tests.{le-leb, ne_eqb, lt-ltb}
use Rattle.wkt_num.specs.Whole.{is_numeral, keep_if}
use Rattle.wkt_num.specs.WholeLaws.{is_numeral_of}
use Rattle.wkt_num.specs.Decimal.{before_point, after_point, units_of, read_magnitude, read_decimal, with_sign, and_then, fraction_digits, fraction_text, magnitude_text, decimal_text, zeros}
use Rattle.wkt_num.specs.DecimalLaws.{before_digits, after_digits, digits_append, value_append, not_negative, units_is, after_split, ten_pos, fraction-none, read-near}
use Rattle.wkt_num.proofs.Printed.{step}

-- The reading of a short body.

-- one digit more
pub digits-suc : (body : List ℕ) (from at : ℕ) → from ≤ at → at < length body → slice_range body from (at + 1) ≡ slice_range body from at ++ get_or body at 0 ∷ []
digits-suc body from at h k =
    ap (λ (n : ℕ). take n (drop from body)) {x = at + 1 - from} {y = suc (at - from)} (omega arith)
    ∙ take-suc (drop from body) (at - from) 0 (omega (arith, length-drop from body))
    ∙ ap (λ d. take (at - from) (drop from body) ++ d ∷ []) (get_or-drop from body (at - from) 0 ∙ ap (λ (n : ℕ). get_or body n 0) {x = from + (at - from)} {y = at} (omega arith))

digit_is : (b : ℕ) → is_ascii_digit b ≡ true → (digit_value b ≡ b - 48) × (b - 48 ≤ 9)
digit_is b e = (grind (arith, nat_tests), grind (arith, nat_tests))

digit-test : (b : ℕ) → 48 ≤ b → b ≤ 57 → is_ascii_digit b ≡ true
digit-test b h k = grind (arith, nat_tests)

pub digit-small : (b : ℕ) → is_ascii_digit b ≡ true → b - 48 ≤ 9
digit-small b e = (digit_is b e).1

pub digits-more : (number all : ℕ) (body : List ℕ) (from at d : ℕ) → from ≤ at → at < length body → is_ascii_digit (get_or body at 0) ≡ true → d ≡ get_or body at 0 - 48
    → AllDigits 10 (slice_range body from at) → all ≡ digits_value_after 10 number (slice_range body from at)
    → AllDigits 10 (slice_range body from (at + 1)) × (all * 10 + d ≡ digits_value_after 10 number (slice_range body from (at + 1)))
digits-more number all body from at d h k digit e before value =
    let b : ℕ = get_or body at 0 in
    let is = digit_is b digit in
    let more = digits-suc body from at h k in (
      subst (λ (l : List ℕ). AllDigits 10 l) (sym more) (digits_append (slice_range body from at) (b ∷ []) before (omega (arith, is.0, is.1), tt)),
      ap (λ n. n * 10 + d) value ∙ omega (arith, is.0, e) ∙ sym (value_append number (slice_range body from at) (b ∷ [])) ∙ ap (digits_value_after 10 number) (sym more),
    )

-- no digit yet
pub digits-none : (body : List ℕ) (from : ℕ) → slice_range body from (from + 0) ≡ []
digits-none body from = ap (λ (n : ℕ). take n (drop from body)) {x = from + 0 - from} {y = 0} (omega arith)

-- a byte that is a digit when 48 is taken away, as 64 bits wrap
pub digit-in : (b r : ℕ) → b < 256 → r ≡ b → (r + 18446744073709551568) % 18446744073709551616 ≤ 9
    → (is_ascii_digit b ≡ true) × ((r + 18446744073709551568) % 18446744073709551616 ≡ b - 48)
digit-in b r h e k = let d : (48 ≤ b) × (b ≤ 57) = (omega (arith, h, e, k), omega (arith, h, e, k)) in (digit-test b d.0 d.1, omega (arith, h, e, k))

pub fits-more : (all at d : ℕ) → all < 10 ^ at → d ≤ 9 → all * 10 + d < 10 ^ (at + 1)
fits-more all at d h k = omega (arith, h, k, pow-suc 10 at, ap (λ n. 10 ^ n) {x = at + 1} {y = suc at} (omega arith))

pub fits-within : (n at most : ℕ) → n < 10 ^ at → at ≤ most → n < 10 ^ most
fits-within n at most h k = omega (arith, h, pow-le-pow_right {n = 10} (omega arith) {i = at} {j = most} k)

-- the product is within the limit
product-fits : (all t D : ℕ) → all < 10 ^ 19 → t ≡ 10 ^ D → D ≤ 18 → all * t ≤ 2 ^ 127
product-fits all t D h e k =
    let low : t ≤ 10 ^ 18 = omega (arith, e, pow-le-pow_right {n = 10} (omega arith) {i = D} {j = 18} k) in
    omega (arith, mul-le-mul {n₁ = all} {m₁ = t} {n₂ = 10 ^ 19} {m₂ = 10 ^ 18} (omega (arith, h)) low)

-- the units that the parts around the point say
pub from-parts : (limit D : ℕ) (body ds fs : List ℕ) (u : ℕ) → before_point body ≡ ds → after_point body ≡ fs → AllDigits 10 (ds ++ fs) → 0 < length (ds ++ fs)
    → u * 10 ^ length fs ≡ digits_value 10 (ds ++ fs) * 10 ^ D → u ≤ limit → read_magnitude limit D body ≡ Some u
unfolding read_magnitude
from-parts limit D body ds fs u before after digits some equation small =
    ap (λ (l : List ℕ). if is_numeral (l ++ after_point body) then units_of limit D (digits_value 10 (l ++ after_point body)) (length (after_point body)) else None) before
    ∙ ap (λ (l : List ℕ). if is_numeral (ds ++ l) then units_of limit D (digits_value 10 (ds ++ l)) (length l) else None) after
    ∙ ap (λ b. if b then units_of limit D (digits_value 10 (ds ++ fs)) (length fs) else None) (is_numeral_of (ds ++ fs) (some, digits))
    ∙ units_is limit D (digits_value 10 (ds ++ fs)) (length fs) u equation
    ∙ ap (λ b. keep_if b u) (le-leb u limit small)

-- digits alone
pub whole-body : (D at all t : ℕ) (body : List ℕ) → at ≡ length body → (at ≡ 0 → ⊥) → length body ≤ 19 → AllDigits 10 (slice_range body 0 at) → all ≡ digits_value_after 10 0 (slice_range body 0 at) → all < 10 ^ at
    → t ≡ 10 ^ D → D ≤ 18 → read_magnitude (2 ^ 127) D body ≡ Some (all * t)
whole-body D at all t body e some short digits value small ten few =
    let same : slice_range body 0 at ≡ body = take_all (at - 0) (drop 0 body) (omega (arith, e)) in
    let all_digits : AllDigits 10 body = subst (λ (l : List ℕ). AllDigits 10 l) same digits in
    let none : body ++ [] ≡ body = append-nil body in
    from-parts (2 ^ 127) D body body [] (all * t)
    (ap before_point (sym none) ∙ before_digits body [] all_digits ∙ none)
    (ap after_point (sym none) ∙ after_digits body [] all_digits)
    (subst (λ (l : List ℕ). AllDigits 10 l) (sym none) all_digits)
    (omega (arith, ap length none, e, some))
    (omega (arith, ap (λ x. all * x) ten) ∙ ap (λ x. x * 10 ^ D) (value ∙ ap (digits_value_after 10 0) (same ∙ sym none)))
    (product-fits all t D (fits-within all at 19 small (omega (arith, e, short))) ten few)

-- digits around a point
pub point-body : (D at whole all end t : ℕ) (body : List ℕ) → at < length body → length body ≤ 19 → get_or body at 0 ≡ 46 → length body ≤ end → end ≤ length body → (length body - at - 1 ≡ 0 → ⊥) → length body - at - 1 ≤ D
    → AllDigits 10 (slice_range body 0 at) → whole ≡ digits_value_after 10 0 (slice_range body 0 at)
    → AllDigits 10 (slice_range body (at + 1) end) → all ≡ digits_value_after 10 whole (slice_range body (at + 1) end) → all < 10 ^ end
    → t ≡ 10 ^ (D - (length body - at - 1)) → D ≤ 18 → read_magnitude (2 ^ 127) D body ≡ Some (all * t)
point-body D at whole all end t body inside short point past within some few before value after value_all small ten most =
    let ds : List ℕ = slice_range body 0 at in
    let fs : List ℕ = slice_range body (at + 1) end in
    let k : ℕ = length body - at - 1 in
    let rest : fs ≡ drop (at + 1) body = take_all (end - (at + 1)) (drop (at + 1) body) (omega (arith, past, length-drop (at + 1) body)) in
    let long : length fs ≡ k = omega (arith, ap length rest, length-drop (at + 1) body) in
    let parts : body ≡ ds ++ 46 ∷ fs =
    sym (take-append-drop at body)
    ∙ ap (λ (n : ℕ). take n body ++ drop at body) {x = at} {y = at - 0} (omega arith)
    ∙ ap (λ l. ds ++ l) (drop_more body at 0 inside ∙ ap (λ b. b ∷ drop (at + 1) body) point ∙ ap (λ l. 46 ∷ l) (sym rest)) in
    let scale : t * 10 ^ length fs ≡ 10 ^ D =
    ap (λ x. x * 10 ^ length fs) ten ∙ sym (pow-add 10 (D - k) (length fs)) ∙ ap (λ n. 10 ^ n) {x = D - k + length fs} {y = D} (omega (arith, long, few)) in
    from-parts (2 ^ 127) D body ds fs (all * t)
    (ap before_point parts ∙ before_digits ds (46 ∷ fs) before ∙ append-nil ds)
    (ap after_point parts ∙ after_digits ds (46 ∷ fs) before)
    (digits_append ds fs before after)
    (omega (arith, length-append ds fs, long, some))
    (omega (arith, ap (λ x. all * x) scale) ∙ ap (λ x. x * 10 ^ D) (value_all ∙ ap (λ n. digits_value_after 10 n fs) value ∙ sym (value_append 0 ds fs)))
    (product-fits all t (D - k) (fits-within all end 19 small (omega (arith, within, short))) ten (omega (arith, most)))

-- digits around a point, those before it and those after it each as a number
near-equation : (w t f s x P T : ℕ) → t ≡ T → s * P ≡ T → x ≡ f * s → (w * t + x) * P ≡ (w * P + f) * T
near-equation w t f s x P T e g h = omega (arith, ap (λ y. w * y * P) e, ap (λ y. f * y) g, ap (λ y. y * P) h)

near-scale : (D k s : ℕ) → k ≤ D → s ≡ 10 ^ (D - k) → s * 10 ^ k ≡ 10 ^ D
near-scale D k s few e = ap (λ x. x * 10 ^ k) e ∙ sym (pow-add 10 (D - k) k) ∙ ap (λ n. 10 ^ n) {x = D - k + k} {y = D} (omega (arith, few))

-- the digits after the point, as units
pub near-fraction : (D k f s : ℕ) (fs : List ℕ) → length fs ≡ k → k ≤ D → D ≤ 18 → AllDigits 10 fs → f ≡ digits_value 10 fs → s ≡ 10 ^ (D - k) → f * s < 10 ^ 18
near-fraction D k f s fs long few most digits value e =
    let small : f < 10 ^ k = omega (arith, value, digits_value-lt 10 fs digits, ap (λ n. 10 ^ n) long) in
    let one : (f + 1) * s ≤ 10 ^ k * s = mul-le-mul_right {m = f + 1} {n = 10 ^ k} s (omega (arith, small)) in
    omega (arith, one, near-scale D k s few e, e, ten_pos (D - k), pow-le-pow_right {n = 10} (omega arith) {i = D} {j = 18} most)

pub near-whole : (w at t D : ℕ) → w < 10 ^ at → at ≤ 19 → t ≡ 10 ^ D → D ≤ 18 → w * t ≤ 10 ^ 37
near-whole w at t D h short e k =
    let low : t ≤ 10 ^ 18 = omega (arith, e, pow-le-pow_right {n = 10} (omega arith) {i = D} {j = 18} k) in
    omega (arith, mul-le-mul {n₁ = w} {m₁ = t} {n₂ = 10 ^ 19} {m₂ = 10 ^ 18} (omega (arith, fits-within w at 19 h short)) low)

pub near-tail : (at : ℕ) (body : List ℕ) → at < length body → drop (length body - (length body - at - 1)) body ≡ drop (at + 1) body
near-tail at body inside = ap (λ (n : ℕ). drop n body) {x = length body - (length body - at - 1)} {y = at + 1} (omega (arith, inside))

pub near-body : (D at w t f s x : ℕ) (body : List ℕ) → at < length body → 8 ≤ length body → length body ≤ 19 → get_or body at 0 ≡ 46 → length body - at - 1 ≤ D → D ≤ 18
    → AllDigits 10 (slice_range body 0 at) → w ≡ digits_value_after 10 0 (slice_range body 0 at) → w < 10 ^ at
    → AllDigits 10 (drop (at + 1) body) → f ≡ digits_value 10 (drop (at + 1) body)
    → t ≡ 10 ^ D → s ≡ 10 ^ (D - (length body - at - 1)) → x ≡ f * s → read_magnitude (2 ^ 127) D body ≡ Some (w * t + x)
near-body D at w t f s x body inside many short point few most before value small after value_after ten shift product =
    let ds : List ℕ = slice_range body 0 at in
    let fs : List ℕ = drop (at + 1) body in
    let k : ℕ = length body - at - 1 in
    let long : length fs ≡ k = omega (arith, length-drop (at + 1) body) in
    let parts : body ≡ ds ++ 46 ∷ fs =
    sym (take-append-drop at body)
    ∙ ap (λ (n : ℕ). take n body ++ drop at body) {x = at} {y = at - 0} (omega arith)
    ∙ ap (λ l. ds ++ l) (drop_more body at 0 inside ∙ ap (λ b. b ∷ fs) point) in
    let all : digits_value 10 (ds ++ fs) ≡ w * 10 ^ k + f =
    value_append 0 ds fs ∙ ap (λ n. digits_value_after 10 n fs) (sym value) ∙ after_split w fs
    ∙ ap (λ n. w * 10 ^ n + digits_value 10 fs) long ∙ ap (λ n. w * 10 ^ k + n) (sym value_after) in
    from-parts (2 ^ 127) D body ds fs (w * t + x)
    (ap before_point parts ∙ before_digits ds (46 ∷ fs) before ∙ append-nil ds)
    (ap after_point parts ∙ after_digits ds (46 ∷ fs) before)
    (digits_append ds fs before after)
    (omega (arith, length-append ds fs, long, ap length parts, length-append ds (46 ∷ fs), many))
    (ap (λ n. (w * t + x) * 10 ^ n) long ∙ near-equation w t f s x (10 ^ k) (10 ^ D) ten (near-scale D k s few shift) product ∙ ap (λ n. n * 10 ^ D) (sym all))
    (omega (arith, product, near-fraction D k f s fs long few most after value_after shift, near-whole w at t D small (omega (arith, inside, short)) ten most))

pub ruleset whole_body = (whole-body, point-body)

-- The text of a decimal inside the text that it is read from.

-- ---- digits as they are printed

pub digit-is : (c : ℕ) → digit_value c < 10 → 48 + digit_value c ≡ c
digit-is c h = let r : IsInRange 48 57 c = digit_from_value c h in by-range c r.0 r.1
  where
    by-range : (b : ℕ) → 48 ≤ b → b ≤ 57 → 48 + digit_value b ≡ b
    by-range b low high = grind (arith, nat_tests)

-- the number of digits after n is n or more
pub value-low : (n : ℕ) (ds : List ℕ) → n ≤ digits_value_after 10 n ds
value-low n ds = omega (arith, after_split n ds, le-mul_of_pos_right n (ten_pos (length ds)))

-- one digit more
decimal-more : (n c : ℕ) → 0 < n → digit_value c < 10 → n * 10 + digit_value c < 10 ^ 64 → decimal (n * 10 + digit_value c) ≡ decimal n ++ c ∷ []
decimal-more n c some digit fits =
    let a : (n * 10 + digit_value c) / 10 ≡ n = omega (arith, digit) in
    let b : (n * 10 + digit_value c) % 10 ≡ digit_value c = omega (arith, digit) in
    decimal_step_wide (n * 10 + digit_value c) (omega (arith, some)) fits
    ∙ ap (λ q. decimal q ++ (48 + (n * 10 + digit_value c) % 10) ∷ []) a
    ∙ ap (λ d. decimal n ++ d ∷ []) (ap (λ d. 48 + d) b ∙ digit-is c digit)

-- digits after a number that isn't 0
decimal-grows : (n : ℕ) (ds : List ℕ) → 0 < n → AllDigits 10 ds → digits_value_after 10 n ds < 10 ^ 64 → decimal (digits_value_after 10 n ds) ≡ decimal n ++ ds
decimal-grows n [] some digits fits = sym (append-nil (decimal n))
decimal-grows n (c ∷ cs) some digits fits =
    let low : n * 10 + digit_value c ≤ digits_value_after 10 (n * 10 + digit_value c) cs = value-low (n * 10 + digit_value c) cs in
    decimal-grows (n * 10 + digit_value c) cs (omega (arith, some)) digits.1 fits
    ∙ ap (λ l. l ++ cs) (decimal-more n c some digits.0 (omega (arith, low, fits)))
    ∙ append_assoc (decimal n) (c ∷ []) cs

decimal-one : (c : ℕ) → digit_value c < 10 → decimal (digit_value c) ≡ c ∷ []
decimal-one c h = decimal_digit (digit_value c) h ∙ ap (λ d. d ∷ []) (digit-is c h)

-- digits with no zero in front, or the one digit 0
pub decimal-is : (ds : List ℕ) → IsNumeral 10 ds → (get_or ds 0 0 ≡ 48 → length ds ≡ 1) → digits_value 10 ds < 10 ^ 64 → decimal (digits_value 10 ds) ≡ ds
decimal-is [] h plain fits = absurd (omega (arith, h.0))
decimal-is (c ∷ []) h plain fits = ap decimal {x = 0 * 10 + digit_value c} {y = digit_value c} (omega arith) ∙ decimal-one c h.1.0
decimal-is (c ∷ d ∷ ds) h plain fits =
    let same : 0 * 10 + digit_value c ≡ digit_value c = omega arith in
    let some : 0 < digit_value c = positive c (λ e. omega (arith, plain e)) h.1.0 in
    ap (λ (n : ℕ). decimal (digits_value_after 10 n (d ∷ ds))) same
    ∙ decimal-grows (digit_value c) (d ∷ ds) some h.1.1 (subst (λ (n : ℕ). digits_value_after 10 n (d ∷ ds) < 10 ^ 64) same fits)
    ∙ ap (λ l. l ++ d ∷ ds) (decimal-one c h.1.0)
  where
    positive : (b : ℕ) → (b ≡ 48 → ⊥) → digit_value b < 10 → 0 < digit_value b
    positive b other digit = omega (arith, digit-is b digit, other)

-- ---- a fraction that doesn't end in 0

-- the number of digits that end in b is not 0
pub value-some : (init : List ℕ) (b : ℕ) → 0 < digit_value b → 0 < digits_value 10 (init ++ b ∷ [])
value-some init b some = let e : digits_value 10 (init ++ b ∷ []) ≡ digits_value 10 init * 10 + digit_value b = value_append 0 init (b ∷ []) in omega (arith, e, some)

-- it is below the unit
pub value-less : (D a : ℕ) (fs : List ℕ) → AllDigits 10 fs → D ≡ length fs + a → digits_value 10 fs * 10 ^ a < 10 ^ D
value-less D a fs digits e =
    let v : ℕ = digits_value 10 fs in
    let small : v + 1 ≤ 10 ^ length fs = omega (arith, digits_value-lt 10 fs digits) in
    let scale : 10 ^ D ≡ 10 ^ length fs * 10 ^ a = ap (λ n. 10 ^ n) e ∙ pow-add 10 (length fs) a in
    omega (arith, scale, mul-le-mul_right {m = v + 1} {n = 10 ^ length fs} (10 ^ a) small, ten_pos a)

-- the first digit of a fraction
fraction-first : (j a c : ℕ) (fs : List ℕ) → j ≡ length fs + a → AllDigits 10 (c ∷ fs) → 0 < digits_value 10 (c ∷ fs)
    → fraction_digits (suc j) (digits_value 10 (c ∷ fs) * 10 ^ a) ≡ c ∷ fraction_digits j (digits_value 10 fs * 10 ^ a)
fraction-first j a c fs e digits some =
    let d : ℕ = digit_value c in
    let g : ℕ = digits_value 10 fs * 10 ^ a in
    let f : ℕ = digits_value 10 (c ∷ fs) * 10 ^ a in
    let less : g < 10 ^ j = value-less j a fs digits.1 e in
    let scale : 10 ^ j ≡ 10 ^ length fs * 10 ^ a = ap (λ n. 10 ^ n) e ∙ pow-add 10 (length fs) a in
    let split : digits_value 10 (c ∷ fs) ≡ (0 * 10 + d) * 10 ^ length fs + digits_value 10 fs = after_split (0 * 10 + d) fs in
    let parts : f ≡ d * 10 ^ j + g = omega (arith, ap (λ n. n * 10 ^ a) split, ap (λ n. d * n) scale) in
    let low : digits_value 10 (c ∷ fs) ≤ f = le-mul_of_pos_right (digits_value 10 (c ∷ fs)) (ten_pos a) in
    step j f (λ z. omega (arith, z, low, some))
    ∙ ap (λ (n : ℕ). (48 + n / 10 ^ j) ∷ fraction_digits j (n % 10 ^ j)) parts
    ∙ ap (λ (n : ℕ). (48 + n) ∷ fraction_digits j ((d * 10 ^ j + g) % 10 ^ j)) (div-mul-add d (10 ^ j) g less)
    ∙ ap (λ (n : ℕ). (48 + d) ∷ fraction_digits j n) (mod-mul-add d (10 ^ j) g less)
    ∙ ap (λ b. b ∷ fraction_digits j g) (digit-is c digits.0)

pub fraction-is : (D a : ℕ) (init : List ℕ) (b : ℕ) → D ≡ length (init ++ b ∷ []) + a → AllDigits 10 (init ++ b ∷ []) → 0 < digit_value b → fraction_digits D (digits_value 10 (init ++ b ∷ []) * 10 ^ a) ≡ init ++ b ∷ []
fraction-is zero a [] b e digits some = absurd (omega (arith, e))
fraction-is zero a (c ∷ cs) b e digits some = absurd (omega (arith, e))
fraction-is (suc j) a [] b e digits some =
    fraction-first j a b [] (omega (arith, e)) digits (value-some [] b some)
    ∙ ap (λ l. b ∷ l) (fraction-none j (digits_value 10 [] * 10 ^ a) (omega arith))
fraction-is (suc j) a (c ∷ cs) b e digits some =
    fraction-first j a c (cs ++ b ∷ []) (omega (arith, e)) digits (value-some (c ∷ cs) b some)
    ∙ ap (λ l. c ∷ l) (fraction-is j a cs b (omega (arith, e)) digits.1 some)

-- ---- units of a whole part and a fraction

pub magnitude-is : (D w g : ℕ) (negative : Bool) → g < 10 ^ D → magnitude_text D negative (w * 10 ^ D + g) ≡ sign_text negative ++ decimal w ++ fraction_text D g
magnitude-is D w g negative less =
    ap (λ (q : ℕ). sign_text negative ++ decimal q ++ fraction_text D ((w * 10 ^ D + g) % 10 ^ D)) (div-mul-add w (10 ^ D) g less)
    ∙ ap (λ (r : ℕ). sign_text negative ++ decimal w ++ fraction_text D r) (mod-mul-add w (10 ^ D) g less)

-- zeros after a number
pub value-zeros : (n k : ℕ) → digits_value_after 10 n (zeros k) ≡ n * 10 ^ k
value-zeros n zero = omega arith
value-zeros n (suc k) = value-zeros (n * 10 + digit_value 48) k ∙ omega (arith, ap (λ p. n * p) (pow-suc 10 k))

pub length-zeros : (k : ℕ) → length (zeros k) ≡ k
length-zeros zero = refl
length-zeros (suc k) = ap suc (length-zeros k)

pub digits-zeros : (k : ℕ) → AllDigits 10 (zeros k)
digits-zeros zero = tt
digits-zeros (suc k) = (omega arith, digits-zeros k)

-- the units of a text with zeros after its fraction
pub reads-fraction : (D a k : ℕ) (ws fs : List ℕ) → IsNumeral 10 ws → AllDigits 10 fs → D ≡ length fs + a → (digits_value 10 ws * 10 ^ D + digits_value 10 fs * 10 ^ a) ≤ 2 ^ 127
    → read_magnitude (2 ^ 127) D (ws ++ 46 ∷ (fs ++ zeros k)) ≡ Some (digits_value 10 ws * 10 ^ D + digits_value 10 fs * 10 ^ a)
reads-fraction D a k ws fs whole digits e fits =
    from-parts (2 ^ 127) D (ws ++ 46 ∷ gs) ws gs u
    (before_digits ws (46 ∷ gs) whole.1 ∙ append-nil ws)
    (after_digits ws (46 ∷ gs) whole.1)
    (digits_append ws gs whole.1 (digits_append fs (zeros k) digits (digits-zeros k)))
    (omega (arith, whole.0, length-append ws gs))
    equation
    fits
  where
    gs : List ℕ
    gs = fs ++ zeros k

    w : ℕ
    w = digits_value 10 ws

    f : ℕ
    f = digits_value 10 fs

    u : ℕ
    u = w * 10 ^ D + f * 10 ^ a

    long : 10 ^ length gs ≡ 10 ^ length fs * 10 ^ k
    long = ap (λ n. 10 ^ n) {x = length gs} {y = length fs + k} (omega (arith, length-append fs (zeros k), length-zeros k)) ∙ pow-add 10 (length fs) k

    value : digits_value 10 gs ≡ f * 10 ^ k
    value = value_append 0 fs (zeros k) ∙ value-zeros f k

    all : digits_value 10 (ws ++ gs) ≡ w * 10 ^ length gs + f * 10 ^ k
    all = value_append 0 ws gs ∙ after_split w gs ∙ ap (λ n. w * 10 ^ length gs + n) value

    scale : 10 ^ D ≡ 10 ^ length fs * 10 ^ a
    scale = ap (λ n. 10 ^ n) e ∙ pow-add 10 (length fs) a

    join : (w f l k a d : ℕ) → d ≡ l * a → (w * d + f * a) * (l * k) ≡ (w * (l * k) + f * k) * d
    join w f l k a d h = omega (arith, ap (λ n. f * n * k) h)

    equation : u * 10 ^ length gs ≡ digits_value 10 (ws ++ gs) * 10 ^ D
    equation =
        ap (λ n. u * n) long
        ∙ join w f (10 ^ length fs) (10 ^ k) (10 ^ a) (10 ^ D) scale
        ∙ ap (λ n. (w * n + f * 10 ^ k) * 10 ^ D) (sym long)
        ∙ ap (λ n. n * 10 ^ D) (sym all)

-- the units of a text without a point
pub reads-whole : (D : ℕ) (ws : List ℕ) → IsNumeral 10 ws → digits_value 10 ws * 10 ^ D ≤ 2 ^ 127 → read_magnitude (2 ^ 127) D ws ≡ Some (digits_value 10 ws * 10 ^ D)
reads-whole D ws whole fits =
    let none : ws ++ [] ≡ ws = append-nil ws in
    from-parts (2 ^ 127) D ws ws [] (digits_value 10 ws * 10 ^ D)
    (ap before_point (sym none) ∙ before_digits ws [] whole.1 ∙ none)
    (ap after_point (sym none) ∙ after_digits ws [] whole.1)
    (subst (λ (l : List ℕ). AllDigits 10 l) (sym none) whole.1)
    (omega (arith, ap length none, whole.0))
    (omega arith ∙ ap (λ (l : List ℕ). digits_value 10 l * 10 ^ D) (sym none))
    fits

-- ---- the sign

-- units with their sign: what they are, how they are read, and their text
pub record Shown (D : ℕ) (text kept : List ℕ) : Type 0 where
  pub number : ℤ
  pub reads : read_decimal 127 36 D text ≡ Some number
  pub shows : decimal_text D number ≡ kept

signed-minus : (D u : ℕ) (body : List ℕ) → D ≤ 36 → 0 < u → read_magnitude (2 ^ 127) D body ≡ Some u → Shown D (45 ∷ body) (magnitude_text D true u)
signed-minus D zero body few some reads = absurd (omega (arith, some))
signed-minus D (suc n) body few some reads = record {
  number = negsuc n;
  reads = read-near 127 36 D (45 ∷ body) few ∙ ap (λ o. and_then o (with_sign 127 true)) reads;
  shows = refl;
}

signed-plain : (D u : ℕ) (body : List ℕ) → D ≤ 36 → u < 2 ^ 127 → IsInRange 48 57 (get_or body 0 0) → read_magnitude (2 ^ 127) D body ≡ Some u → Shown D body (magnitude_text D false u)
signed-plain D u body few fits range reads =
    let plain : starts_with_minus body ≡ false = ne_eqb (get_or body 0 0) 45 (λ e. omega (arith, range, e)) in
    let same : without_leading_plus body ≡ body = without_leading_plus_none body (λ e. omega (arith, range, e)) in
    record {
      number = pos u;
      reads =
          read-near 127 36 D body few
          ∙ ap (λ b. and_then (read_magnitude (2 ^ 127) D (cond b (drop 1 body) (without_leading_plus body))) (with_sign 127 b)) plain
          ∙ ap (λ l. and_then (read_magnitude (2 ^ 127) D l) (with_sign 127 false)) same
          ∙ ap (λ o. and_then o (with_sign 127 false)) reads
          ∙ ap (λ b. keep_if b (pos u)) (lt-ltb u (2 ^ 127) fits);
      shows = ap (λ b. magnitude_text D b u) (not_negative u);
    }

pub signed : (D u : ℕ) (negative : Bool) (body : List ℕ) → D ≤ 36 → u < 2 ^ 127 → (negative ≡ true → 0 < u) → IsInRange 48 57 (get_or body 0 0) → read_magnitude (2 ^ 127) D body ≡ Some u
    → Shown D (sign_text negative ++ body) (magnitude_text D negative u)
signed D u true body few fits some range reads = signed-minus D u body few (some refl) reads
signed D u false body few fits some range reads = signed-plain D u body few fits range reads
