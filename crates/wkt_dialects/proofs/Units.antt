-- Units with the point moved.
use Rattle.std.proofs.Common.{◌≡◌, ℕ, zero, suc, ◌+◌, ◌*◌, ◌/◌, ◌^◌, ◌<◌, ◌≤◌, Bool, true, false, ◌==◌, if◌then◌else◌, List, ◌∷◌, ◌++◌, length, Some, None, refl, sym, ap, ◌∙◌, arith}
use Rattle.std.specs.Str.Parse.{AllDigits, digits_value, digits_value_after}
use Rattle.std.proofs.lemmas.List.{append-nil}
use Rattle.std.proofs.lemmas.Nat.{pow-add}
use Rattle.std.proofs.Math.Nat.{pow-le-pow_right, mul-le-mul_right, le_of_mul-le-mul_right, mul-div_cancel}
use borrow.Author.Tests.{eqb-true, eqb-false, le-leb}
use Rattle.wkt_num.specs.Whole.{is_numeral, keep_if}
use Rattle.wkt_num.specs.WholeLaws.{is_numeral_of}
use Rattle.wkt_num.specs.Decimal.{before_point, after_point, units_of, read_magnitude, zeros}
use Rattle.wkt_num.specs.DecimalLaws.{before_digits, after_digits, digits_append, units_is, ten_pos, value_append}
use Rattle.wkt_num.proofs.NumberLaws.{cancel}
use Rattle.wkt_num.proofs.Scan.{units_none}
use Rattle.wkt_num.proofs.TextInsideText.{value-zeros}

-- Two fractions that are equal have the same units.

crossed : (u a b p q r : ℕ) → u * p ≡ a → a * r ≡ b * p → u * r * p ≡ b * p
crossed u a b p q r e f = omega (arith, ap (λ x. x * r) e, f)

pub units_equal : (limit D n k E m j : ℕ) → n * 10 ^ D * 10 ^ j ≡ m * 10 ^ E * 10 ^ k → units_of limit D n k ≡ units_of limit E m j
units_equal limit D n k E m j same = go (q * 10 ^ k == n * 10 ^ D) refl
  where
    q : ℕ
    q = n * 10 ^ D / 10 ^ k

    over : (u : ℕ) → u * 10 ^ k ≡ n * 10 ^ D → u * 10 ^ j ≡ m * 10 ^ E
    over u e = cancel _ _ (10 ^ k) (ten_pos k) (crossed u (n * 10 ^ D) (m * 10 ^ E) (10 ^ k) 0 (10 ^ j) e same)

    back : (u : ℕ) → u * 10 ^ j ≡ m * 10 ^ E → u * 10 ^ k ≡ n * 10 ^ D
    back u e = cancel _ _ (10 ^ j) (ten_pos j) (crossed u (m * 10 ^ E) (n * 10 ^ D) (10 ^ j) 0 (10 ^ k) e (sym same))

    never : (q * 10 ^ k == n * 10 ^ D) ≡ false → (u : ℕ) → u * 10 ^ k ≡ n * 10 ^ D → ⊥
    never f u e = eqb-false _ _ f (ap (λ x. x * 10 ^ k) (ap (λ x. x / 10 ^ k) (sym e) ∙ mul-div_cancel u (ten_pos k)) ∙ e)

    go : (b : Bool) → (q * 10 ^ k == n * 10 ^ D) ≡ b → units_of limit D n k ≡ units_of limit E m j
    go true e = units_is limit D n k q (eqb-true _ _ e) ∙ sym (units_is limit E m j q (over q (eqb-true _ _ e)))
    go false e = units_none limit D n k (λ u f le. never e u f) ∙ sym (units_none limit E m j (λ u f le. never e u (back u f)))

-- Nothing is nothing, wherever the point stands.
zero-units : (limit D k : ℕ) → units_of limit D 0 k ≡ Some 0
zero-units limit D k = units_is limit D 0 k 0 (omega arith) ∙ ap (λ b. keep_if b 0) (le-leb 0 limit (omega arith))

-- Past 40 places behind the digits there are no units.
none-right : (limit D n k x : ℕ) → limit < 10 ^ 40 → 0 < n → k + 40 ≤ x → units_of limit (D + x) n k ≡ None
none-right limit D n k x small some far = units_none limit (D + x) n k (λ u e le.
    let one : 10 ^ (40 + k) ≤ 10 ^ (D + x) = pow-le-pow_right (omega arith) (omega arith) in
    let two : 10 ^ (40 + k) ≡ 10 ^ 40 * 10 ^ k = pow-add 10 40 k in
    let three : 1 * 10 ^ (D + x) ≤ n * 10 ^ (D + x) = mul-le-mul_right (10 ^ (D + x)) some in
    let four : 10 ^ 40 ≤ u = le_of_mul-le-mul_right {k = 10 ^ k} (omega (arith, e, one, two, three)) (ten_pos k) in
    omega arith)

none-left : (limit D n k w x : ℕ) → D ≤ 36 → 0 < n → n < 10 ^ (w + k) → w + 40 ≤ x → units_of limit D n (k + x) ≡ None
none-left limit D n k w x few some less far = units_none limit D n (k + x) (λ u e le.
    let one : 10 ^ ((w + k) + D) ≤ 10 ^ (k + x) = pow-le-pow_right (omega arith) (omega arith) in
    let two : 10 ^ ((w + k) + D) ≡ 10 ^ (w + k) * 10 ^ D = pow-add 10 (w + k) D in
    let three : suc n * 10 ^ D ≤ 10 ^ (w + k) * 10 ^ D = mul-le-mul_right (10 ^ D) less in
    let four : 1 * 10 ^ D ≤ n * 10 ^ D = mul-le-mul_right (10 ^ D) some in
    go u (omega (arith, e, one, two, three, ten_pos D)) (omega (arith, e, four, ten_pos D)))
  where
    go : (u : ℕ) → u * 10 ^ (k + x) < 10 ^ (k + x) → 0 < u * 10 ^ (k + x) → ⊥
    go zero a b = omega (arith, b)
    go (suc u) a b = omega (arith, a, mul-le-mul_right {m = 1} {n = suc u} (10 ^ (k + x)) (omega arith))

-- So it is enough to move the point by 40 places past the digits.
pub enough_right : (limit D n k x : ℕ) → limit < 10 ^ 40 → k + 40 ≤ x → units_of limit (D + x) n k ≡ units_of limit (D + (k + 40)) n k
enough_right limit D zero k x small far = zero-units limit (D + x) k ∙ sym (zero-units limit (D + (k + 40)) k)
enough_right limit D (suc n) k x small far = none-right limit D (suc n) k x small (omega arith) far ∙ sym (none-right limit D (suc n) k (k + 40) small (omega arith) (omega arith))

pub enough_left : (limit D n k w x : ℕ) → D ≤ 36 → n < 10 ^ (w + k) → w + 40 ≤ x → units_of limit D n (k + x) ≡ units_of limit D n (k + (w + 40))
enough_left limit D zero k w x few less far = zero-units limit D (k + x) ∙ sym (zero-units limit D (k + (w + 40)))
enough_left limit D (suc n) k w x few less far = none-left limit D (suc n) k w x few (omega arith) less far ∙ sym (none-left limit D (suc n) k w (w + 40) few (omega arith) less (omega arith))

-- Digits with a point between them.
pub point_between : (limit D : ℕ) (xs ys : List ℕ) → AllDigits 10 xs → AllDigits 10 ys → 0 < length (xs ++ ys) → read_magnitude limit D (xs ++ (46 ∷ ys)) ≡ units_of limit D (digits_value 10 (xs ++ ys)) (length ys)
unfolding read_magnitude
point_between limit D xs ys a b some =
    let before : before_point (xs ++ (46 ∷ ys)) ≡ xs = before_digits xs (46 ∷ ys) a ∙ append-nil xs in
    let after : after_point (xs ++ (46 ∷ ys)) ≡ ys = after_digits xs (46 ∷ ys) a in
    let body : List ℕ = xs ++ (46 ∷ ys) in
    ap (λ (l : List ℕ). if is_numeral (l ++ after_point body) then units_of limit D (digits_value 10 (l ++ after_point body)) (length (after_point body)) else None) before
    ∙ ap (λ (l : List ℕ). if is_numeral (xs ++ l) then units_of limit D (digits_value 10 (xs ++ l)) (length l) else None) after
    ∙ ap (λ t. if t then units_of limit D (digits_value 10 (xs ++ ys)) (length ys) else None) (is_numeral_of (xs ++ ys) (some, digits_append xs ys a b))

-- Zeros in front and behind.
pub value-front : (k : ℕ) (ds : List ℕ) → digits_value 10 (zeros k ++ ds) ≡ digits_value 10 ds
value-front k ds = value_append 0 (zeros k) ds ∙ ap (λ n. digits_value_after 10 n ds) (value-zeros 0 k ∙ omega arith)

pub value-behind : (k : ℕ) (ds : List ℕ) → digits_value 10 (ds ++ zeros k) ≡ digits_value 10 ds * 10 ^ k
value-behind k ds = value_append 0 ds (zeros k) ∙ value-zeros (digits_value 10 ds) k
