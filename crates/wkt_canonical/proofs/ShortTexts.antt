-- The shortest run of a number, and texts that are shorter than twice any run that they are read from.
use Rattle.std.proofs.Common.{◌≡◌, ◌≢◌, ℕ, zero, suc, ◌+◌, ◌-◌, ◌*◌, ◌/◌, ◌%◌, ◌^◌, ◌<◌, ◌≤◌, Bool, true, false, cond, ◌&&◌, ◌==◌, nat_lt, nat_le, if◌then◌else◌, List, [], ◌∷◌, ◌++◌, length, drop, pos, neg_ℤ, Option, Some, None, IfSome, inl, inr, refl, sym, ap, subst, ◌∙◌, arith, length-append, get_or, slice_range}
use Rattle.std.specs.Fmt.{decimal, signed_decimal, sign_text}
use Rattle.std.specs.Str.Parse.{IsNumeral, digits_value, starts_with_minus, without_leading_plus, without_leading_sign}
use Rattle.std.proofs.lemmas.Fmt.{length-decimal-le_wide}
use Rattle.std.proofs.lemmas.Int.Digits.{digits_value-lt}
use Rattle.std.proofs.lemmas.Nat.{div-add-mod', pow-add}
use Rattle.std.proofs.lemmas.Bool.{cases_lt, eq-eqb, cases_eq, ne_eqb}
use Rattle.std.proofs.Math.Nat.{mul-le-mul_right, pow-le-pow_right, pow-suc, mod-lt, div-le_self}
use Rattle.std.proofs.lemmas.List.Edits.{length-between, get_or-between}
use borrow.Author.Tests.{eqb-true, ltb-true, leb-true}
use Rattle.wkt_num.specs.Whole.{is_numeral, keep_if, read_signed, read_unsigned}
use Rattle.wkt_num.specs.WholeLaws.{both_true, numeral_from}
use Rattle.wkt_num.specs.Decimal.{before_point, after_point, units_of, read_magnitude, read_decimal, with_sign, and_then, fraction_digits, fraction_text, magnitude_text, decimal_text}
use Rattle.wkt_num.specs.DecimalLaws.{not_negative, fraction-none, ten_pos, keep_some, magnitude-small}
use Rattle.wkt_read.specs.Lexemes.{without_plus}
use Rattle.wkt_canonical.specs.Canonical.{HasLongText}
use Rattle.wkt_num.specs.Number.{begins_number, IsNumberText}
use Rattle.wkt_events.specs.Remaining.{plus_len}
use Rattle.wkt_events.proofs.Runs.{behind-plus}
use Rattle.wkt_machine.specs.Room.{shortest}

-- The text of a decimal, and of a whole number, is shorter than twice any run that it is read from.

-- What is over of equal products, when a part is taken off both.
over : (f q P Q v r : ℕ) → f ≡ q * P + r → f * Q ≡ v * P → 0 < P → r * Q ≡ (v - q * Q) * P
over f q P Q v r split e some =
    let all : q * Q * P + r * Q ≡ v * P = omega (arith, e, ap (λ x. x * Q) split) in
    elim (cases_lt v (q * Q)) [
      | inl less ↦ absurd (omega (arith, all, some, mul-le-mul_right {m = v + 1} {n = q * Q} P (omega arith)))
      | inr more ↦
          let w : ℕ = v - q * Q in
          let whole : q * Q + w ≡ v = omega arith in
          omega (arith, all, ap (λ x. x * P) whole)
    ]

-- Of f / 10 ^ D, which has at most k places, no more digits are printed.
fraction-len : (D k f v : ℕ) → f < 10 ^ D → f * 10 ^ k ≡ v * 10 ^ D → length (fraction_digits D f) ≤ k
fraction-len zero k f v less e = omega arith
fraction-len (suc j) zero f zero less e = omega (arith, ap length (fraction-none (suc j) f (omega (arith, e))))
fraction-len (suc j) zero f (suc v) less e = absurd (omega (arith, e, less))
fraction-len (suc j) (suc k) f v less e = go (fraction-len j k (f % 10 ^ j) (v - f / 10 ^ j * 10 ^ k) (mod-lt f (ten_pos j)) rest) (f == 0)
  where
    g : ℕ
    g = f % 10 ^ j

    equal : f * 10 ^ k ≡ v * 10 ^ j
    equal = omega (arith, e, ap (λ p. f * p) (pow-suc 10 k), ap (λ p. v * p) (pow-suc 10 j))

    rest : g * 10 ^ k ≡ (v - f / 10 ^ j * 10 ^ k) * 10 ^ j
    rest = over f (f / 10 ^ j) (10 ^ j) (10 ^ k) v g (sym (div-add-mod' f (10 ^ j))) equal (ten_pos j)

    go : length (fraction_digits j g) ≤ k → (b : Bool) → length (if b then [] else (48 + f / 10 ^ j) ∷ fraction_digits j g) ≤ suc k
    go ih true = omega arith
    go ih false = omega (arith, ih)

-- the same with its point
point-len : (D k f v : ℕ) → f < 10 ^ D → f * 10 ^ k ≡ v * 10 ^ D → (length (fraction_text D f) ≤ k + 1) × (k ≡ 0 → length (fraction_text D f) ≡ 0)
point-len D k f v less e = go (f == 0) refl
  where
    digits : length (fraction_digits D f) ≤ k
    digits = fraction-len D k f v less e

    none : k ≡ 0 → f ≡ 0
    none z = zeroed v (subst (λ (n : ℕ). f * 10 ^ n ≡ v * 10 ^ D) z e)
      where
        zeroed : (n : ℕ) → f * 10 ^ 0 ≡ n * 10 ^ D → f ≡ 0
        zeroed zero h = omega (arith, h)
        zeroed (suc n) h = absurd (omega (arith, h, less))

    go : (b : Bool) → (f == 0) ≡ b → (length (if b then [] else 46 ∷ fraction_digits D f) ≤ k + 1) × (k ≡ 0 → length (if b then [] else 46 ∷ fraction_digits D f) ≡ 0)
    go true g = (omega arith, λ z. refl)
    go false g = (omega (arith, digits), λ z. let t : (f == 0) ≡ true = eq-eqb f 0 (none z) in let u : true ≡ false = sym t ∙ g in cc)

-- how much a text with no digit before its point gains
abbrev spare : ℕ → ℕ
spare zero = 1
spare (suc n) = 0

-- A number below 10 ^ n has at most n digits, and at least room for one.
whole-len : (n x : ℕ) → x < 10 ^ n → x < 10 ^ 64 → length (decimal x) ≤ n + spare n
whole-len zero x less wide = omega (arith, length-decimal-le_wide 1 x (omega arith) (omega (arith, less)) wide)
whole-len (suc n) x less wide = omega (arith, length-decimal-le_wide (suc n) x (omega arith) less wide)

-- the lengths of what stands before and after a point
parts-len : (body : List ℕ) → (length (before_point body) + length (after_point body) ≤ length body) × (0 < length (after_point body) → length (before_point body) + length (after_point body) + 1 ≤ length body)
parts-len [] = (omega arith, λ s. absurd (omega (arith, s)))
parts-len (c ∷ cs) = go (parts-len cs) (c == 46)
  where
    go : (length (before_point cs) + length (after_point cs) ≤ length cs) × (0 < length (after_point cs) → length (before_point cs) + length (after_point cs) + 1 ≤ length cs)
        → (b : Bool) → (length (if b then [] else c ∷ before_point cs) + length (if b then cs else after_point cs) ≤ length (c ∷ cs))
        × (0 < length (if b then cs else after_point cs) → length (if b then [] else c ∷ before_point cs) + length (if b then cs else after_point cs) + 1 ≤ length (c ∷ cs))
    go h true = (omega arith, λ s. omega arith)
    go h false = (omega (arith, h.0), λ s. omega (arith, h.1 s))

units-equation : (limit D n k m : ℕ) → units_of limit D n k ≡ Some m → m * 10 ^ k ≡ n * 10 ^ D
unfolding units_of
units-equation limit D n k m e =
    let u : ℕ = n * 10 ^ D / 10 ^ k in
    let p = keep_some ((u * 10 ^ k == n * 10 ^ D) && nat_le u limit) u m e in
    ap (λ x. x * 10 ^ k) p.1 ∙ eqb-true _ _ (both_true (u * 10 ^ k == n * 10 ^ D) (nat_le u limit) p.0).0

-- The text of a magnitude is at most one byte longer than what it is read from, and no longer where that is one byte.
magnitude-len : (D : ℕ) (body : List ℕ) (m : ℕ) (negative : Bool) → read_magnitude (2 ^ 127) D body ≡ Some m
    → (0 < length body) × (length (magnitude_text D negative m) ≤ length (sign_text negative) + length body + 1) × (length body ≡ 1 → length (magnitude_text D negative m) ≤ length (sign_text negative) + 1)
unfolding read_magnitude
magnitude-len D body m negative e = go (is_numeral (ws ++ fs)) refl e
  where
    ws : List ℕ
    ws = before_point body

    fs : List ℕ
    fs = after_point body

    P : ℕ
    P = 10 ^ D

    Q : ℕ
    Q = 10 ^ length fs

    small : m ≤ 2 ^ 127
    small = magnitude-small (2 ^ 127) D body m e

    made : IsNumeral 10 (ws ++ fs) → m * Q ≡ digits_value 10 (ws ++ fs) * P
        → (0 < length body) × (length (magnitude_text D negative m) ≤ length (sign_text negative) + length body + 1) × (length body ≡ 1 → length (magnitude_text D negative m) ≤ length (sign_text negative) + 1)
    made num equal =
        let n : ℕ = digits_value 10 (ws ++ fs) in
        let w : ℕ = m / P in
        let f : ℕ = m % P in
        let A : ℕ = 10 ^ length ws in
        let split : w * P + f ≡ m = div-add-mod' m P in
        let over_it : f * Q ≡ (n - w * Q) * P = over m w P Q n f (sym split) equal (ten_pos D) in
        let frac = point-len D (length fs) f (n - w * Q) (mod-lt m (ten_pos D)) over_it in
        let less : n < 10 ^ length (ws ++ fs) = omega (arith, digits_value-lt 10 (ws ++ fs) num.1) in
        let power : 10 ^ length (ws ++ fs) ≡ A * Q = ap (λ (k : ℕ). 10 ^ k) (length-append ws fs) ∙ pow-add 10 (length ws) (length fs) in
        let below : w < A = elim (cases_lt w A) [
          | inl h ↦ h
          | inr h ↦ absurd (omega (arith, equal, less, power, ten_pos D, split, mul-le-mul_right {m = A} {n = w} (P * Q) h, ap (λ x. x * Q) split, mul-le-mul_right {m = n + 1} {n = A * Q} P (omega (arith, less, power))))
        ] in
        let whole = whole-len (length ws) w below (omega (arith, div-le_self m P, small)) in
        let parts = parts-len body in
        let total : length (magnitude_text D negative m) ≡ length (sign_text negative) + (length (decimal w) + length (fraction_text D f)) = omega (arith, length-append (sign_text negative ++ decimal w) (fraction_text D f), length-append (sign_text negative) (decimal w)) in
        counted (length ws) (length fs) (length (decimal w)) (length (fraction_text D f)) (length (sign_text negative)) (length (magnitude_text D negative m)) (length body) total whole frac.0 frac.1 parts.0 parts.1 (omega (arith, num.0, length-append ws fs))
      where
        counted : (a k d t s l b : ℕ) → l ≡ s + (d + t) → d ≤ a + spare a → t ≤ k + 1 → (k ≡ 0 → t ≡ 0) → a + k ≤ b → (0 < k → a + k + 1 ≤ b) → 0 < a + k
            → (0 < b) × (l ≤ s + b + 1) × (b ≡ 1 → l ≤ s + 1)
        counted zero zero d t s l b e1 e2 e3 e4 e5 e6 e7 = absurd (omega (arith, e7))
        counted zero (suc k) d t s l b e1 e2 e3 e4 e5 e6 e7 = let g : suc k + 1 ≤ b = omega (arith, e6 (omega arith)) in (omega (arith, g), omega (arith, g, e1, e2, e3), λ z. omega (arith, g, z))
        counted (suc a) zero d t s l b e1 e2 e3 e4 e5 e6 e7 = let g : t ≡ 0 = e4 refl in (omega (arith, e5), omega (arith, g, e1, e2, e5), λ z. omega (arith, g, e1, e2, e5, z))
        counted (suc a) (suc k) d t s l b e1 e2 e3 e4 e5 e6 e7 = let g : suc a + suc k + 1 ≤ b = omega (arith, e6 (omega arith)) in (omega (arith, g), omega (arith, g, e1, e2, e3), λ z. omega (arith, g, z))

    go : (b : Bool) → is_numeral (ws ++ fs) ≡ b → (if b then units_of (2 ^ 127) D (digits_value 10 (ws ++ fs)) (length fs) else None) ≡ Some m
        → (0 < length body) × (length (magnitude_text D negative m) ≤ length (sign_text negative) + length body + 1) × (length body ≡ 1 → length (magnitude_text D negative m) ≤ length (sign_text negative) + 1)
    go true g h = made (numeral_from (ws ++ fs) g) (units-equation (2 ^ 127) D (digits_value 10 (ws ++ fs)) (length fs) m h)
    go false g h = cc

-- a text without its sign, and whether it had a minus
sign-len : (bs : List ℕ) → (length (without_leading_sign bs) ≤ length bs) × (starts_with_minus bs ≡ true → length (without_leading_sign bs) + 1 ≤ length bs)
sign-len [] = (omega arith, λ e. cc)
sign-len (c ∷ cs) = go (c == 45) (c == 43)
  where
    go : (a b : Bool) → (length (cond a cs (drop (cond b 1 0) (c ∷ cs))) ≤ length (c ∷ cs)) × (a ≡ true → length (cond a cs (drop (cond b 1 0) (c ∷ cs))) + 1 ≤ length (c ∷ cs))
    go true b = (omega arith, λ e. omega arith)
    go false true = (omega arith, λ e. cc)
    go false false = (omega arith, λ e. cc)

plus-len : (run : List ℕ) → length (without_plus run) ≤ length run
plus-len [] = omega arith
plus-len (b ∷ bs) = go (b == 43)
  where
    go : (t : Bool) → length (if t then bs else b ∷ bs) ≤ length (b ∷ bs)
    go true = omega arith
    go false = omega arith

-- from the lengths of the sign, what follows it, the text and the run
less-twice : (s b l r : ℕ) → 0 < b → l ≤ s + b + 1 → (b ≡ 1 → l ≤ s + 1) → s + b ≤ r → l < 2 * r
less-twice s zero l r some most one fits = absurd (omega (arith, some))
less-twice s (suc zero) l r some most one fits = omega (arith, one refl, fits)
less-twice s (suc (suc b)) l r some most one fits = omega (arith, most, fits)

-- A decimal's text is shorter than twice the run that it is read from.
pub decimal_shorter : (D : ℕ) (run : List ℕ) → run ≢ [] → IfSome (read_decimal 127 36 D (without_plus run)) (λ u. length (decimal_text D u) < 2 * length run)
unfolding read_decimal
decimal_shorter D run some = go (nat_le D 36) (read_magnitude (2 ^ 127) D body) refl
  where
    bs : List ℕ
    bs = without_plus run

    body : List ℕ
    body = without_leading_sign bs

    plain : (m : ℕ) → read_magnitude (2 ^ 127) D body ≡ Some m → length (magnitude_text D false m) < 2 * length run
    plain m e =
        let h = magnitude-len D body m false e in
        less-twice 0 (length body) (length (magnitude_text D false m)) (length run) h.0 (omega (arith, h.1)) (λ z. omega (arith, h.2 z)) (omega (arith, (sign-len bs).0, plus-len run))

    minus : (m : ℕ) → read_magnitude (2 ^ 127) D body ≡ Some m → starts_with_minus bs ≡ true → length (magnitude_text D true m) < 2 * length run
    minus m e s =
        let h = magnitude-len D body m true e in
        less-twice 1 (length body) (length (magnitude_text D true m)) (length run) h.0 (omega (arith, h.1)) (λ z. omega (arith, h.2 z)) (omega (arith, (sign-len bs).1 s, plus-len run))

    negated : (m : ℕ) → read_magnitude (2 ^ 127) D body ≡ Some m → starts_with_minus bs ≡ true → length (decimal_text D (neg_ℤ (pos m))) < 2 * length run
    negated zero e s = subst (λ b. length (magnitude_text D b 0) < 2 * length run) (sym (not_negative 0)) (plain 0 e)
    negated (suc m) e s = minus (suc m) e s

    signed : (m : ℕ) → read_magnitude (2 ^ 127) D body ≡ Some m → (b : Bool) → starts_with_minus bs ≡ b → IfSome (with_sign 127 b m) (λ u. length (decimal_text D u) < 2 * length run)
    signed m e true s = negated m e s
    signed m e false s = kept (nat_lt m (2 ^ 127))
      where
        kept : (b : Bool) → IfSome (keep_if b (pos m)) (λ u. length (decimal_text D u) < 2 * length run)
        kept true = subst (λ b. length (magnitude_text D b m) < 2 * length run) (sym (not_negative m)) (plain m e)
        kept false = tt

    go : (a : Bool) (o : Option ℕ) → read_magnitude (2 ^ 127) D body ≡ o → IfSome (if a then and_then o (with_sign 127 (starts_with_minus bs)) else None) (λ u. length (decimal_text D u) < 2 * length run)
    go true (Some m) e = signed m e (starts_with_minus bs) refl
    go true None e = tt
    go false o e = tt

-- digits are no fewer than those of their number, and one more may be written for none
digits-len : (ds : List ℕ) → is_numeral ds ≡ true → digits_value 10 ds ≤ 2 ^ 128 → (0 < length ds) × (length (decimal (digits_value 10 ds)) ≤ length ds)
digits-len ds e small =
    let n = numeral_from ds e in
    (n.0, length-decimal-le_wide (length ds) (digits_value 10 ds) n.0 (digits_value-lt 10 ds n.1) (omega (arith, small)))

power : (k : ℕ) → k ≤ 128 → 2 ^ k ≤ 2 ^ 128
power k narrow = pow-le-pow_right {n = 2} (omega arith) {i = k} {j = 128} narrow

leading-len : (bs : List ℕ) → length (without_leading_plus bs) ≤ length bs
leading-len [] = omega arith
leading-len (c ∷ cs) = go (c == 43)
  where
    go : (b : Bool) → length (drop (cond b 1 0) (c ∷ cs)) ≤ length (c ∷ cs)
    go true = omega arith
    go false = omega arith

-- A whole number's text without a sign is no longer than the run that it is read from.
pub unsigned_shorter : (k : ℕ) → k ≤ 128 → (run : List ℕ) → run ≢ [] → IfSome (read_unsigned k (without_plus run)) (λ u. length (decimal u) < 2 * length run)
unsigned_shorter k narrow run some = go (is_numeral ds && nat_lt v (2 ^ k)) refl
  where
    ds : List ℕ
    ds = without_leading_plus (without_plus run)

    v : ℕ
    v = digits_value 10 ds

    go : (b : Bool) → is_numeral ds && nat_lt v (2 ^ k) ≡ b → IfSome (keep_if b v) (λ u. length (decimal u) < 2 * length run)
    go true e =
        let p = both_true (is_numeral ds) (nat_lt v (2 ^ k)) e in
        let n = digits-len ds p.0 (omega (arith, ltb-true v (2 ^ k) p.1, power k narrow)) in
        omega (arith, n.0, n.1, leading-len (without_plus run), plus-len run)
    go false e = tt

-- With one it is shorter than twice the run.
pub signed_shorter : (k : ℕ) → k ≤ 128 → (run : List ℕ) → run ≢ [] → IfSome (read_signed k (without_plus run)) (λ u. length (signed_decimal u) < 2 * length run)
signed_shorter k narrow run some = go (starts_with_minus bs) (is_numeral ds && nat_le v (2 ^ k)) (is_numeral ds && nat_lt v (2 ^ k)) refl refl refl
  where
    bs : List ℕ
    bs = without_plus run

    ds : List ℕ
    ds = without_leading_sign bs

    v : ℕ
    v = digits_value 10 ds

    negative : starts_with_minus bs ≡ true → (n : ℕ) → (0 < length ds) × (length (decimal n) ≤ length ds) → length (signed_decimal (neg_ℤ (pos n))) < 2 * length run
    negative s zero h = omega (arith, h.0, h.1, (sign-len bs).1 s, plus-len run)
    negative s (suc n) h = omega (arith, h.0, h.1, (sign-len bs).1 s, plus-len run)

    go : (s a b : Bool) → starts_with_minus bs ≡ s → is_numeral ds && nat_le v (2 ^ k) ≡ a → is_numeral ds && nat_lt v (2 ^ k) ≡ b
        → IfSome (if s then keep_if a (neg_ℤ (pos v)) else keep_if b (pos v)) (λ u. length (signed_decimal u) < 2 * length run)
    go true true b s e f =
        let p = both_true (is_numeral ds) (nat_le v (2 ^ k)) e in
        negative s v (digits-len ds p.0 (omega (arith, leb-true v (2 ^ k) p.1, power k narrow)))
    go true false b s e f = tt
    go false a true s e f =
        let p = both_true (is_numeral ds) (nat_lt v (2 ^ k)) f in
        let n = digits-len ds p.0 (omega (arith, ltb-true v (2 ^ k) p.1, power k narrow)) in
        omega (arith, n.0, n.1, (sign-len bs).0, plus-len run)
    go false a false s e f = tt

-- So there are no long texts.
pub none-long : {N : Type 0} (read : List ℕ → Option N) (num : N → List ℕ) → ((run : List ℕ) → run ≢ [] → IfSome (read (without_plus run)) (λ x. length (num x) < 2 * length run)) → HasLongText read num → ⊥
none-long read num law h =
    let less : length (num h.number) < 2 * length h.run = subst (λ o. IfSome o (λ x. length (num x) < 2 * length h.run)) h.reads (law h.run h.some) in
    omega (arith, less, h.long)

-- The shortest run that is the lexeme of a number.

shortest-plain : (r : List ℕ) → 0 < length r → get_or r 0 0 ≢ 43 → shortest r ≡ r
shortest-plain [] some other = absurd (omega (arith, some))
shortest-plain (b ∷ bs) some other = ap (λ t. cond t (43 ∷ b ∷ bs) (b ∷ bs)) (ne_eqb b 43 other)

-- behind a plus that stands alone, or before another
behind-whole : (bs : List ℕ) → (0 < length bs → get_or bs 0 0 ≡ 43) → 43 ∷ bs ≡ shortest bs
behind-whole [] h = refl
behind-whole (b ∷ bs) h = sym (ap (λ t. cond t (43 ∷ b ∷ bs) (b ∷ bs)) (eq-eqb b 43 (h (omega arith))))

whole-shortest : (l : List ℕ) → 0 < length l → (get_or l 0 0 ≡ 43 → 1 < length l → get_or l 1 0 ≡ 43) → l ≡ shortest (without_plus l)
whole-shortest [] some h = absurd (omega (arith, some))
whole-shortest (b ∷ bs) some h = elim (cases_eq b 43) [
  | inl e ↦ ap (λ c. c ∷ bs) e ∙ behind-whole bs (λ more. h e (omega (arith, more))) ∙ ap shortest (sym (ap (λ t. cond t bs (b ∷ bs)) (eq-eqb b 43 e)))
  | inr n ↦ sym (shortest-plain (b ∷ bs) some n) ∙ ap shortest (sym (ap (λ t. cond t bs (b ∷ bs)) (ne_eqb b 43 n)))
]

-- a number's run in a text, from behind its plus on, or with it
module _ (text : List ℕ) (at end : ℕ) (order : at < end) (inside : end ≤ length text) where
  pub past-one : get_or text at 0 ≡ 43 → at + 1 < end → get_or text (at + 1) 0 ≢ 43 → slice_range text (at + 1) end ≡ shortest (without_plus (slice_range text at end))
  past-one plus more other =
      let is : at + 1 ≡ at + plus_len (get_or text at 0) = ap (λ b. at + plus_len b) (sym plus) in
      let (a, b, same) = behind-plus text at end (at + 1) order inside is in
      let first : get_or (slice_range text (at + 1) end) 0 0 ≡ get_or text (at + 1) 0 = get_or-between text (at + 1) end 0 0 (omega arith) ∙ ap (λ (i : ℕ). get_or text i 0) (omega arith) in
      sym (shortest-plain (slice_range text (at + 1) end) (omega (arith, length-between text (at + 1) end inside)) (λ e. other (sym first ∙ e))) ∙ ap shortest same

  pub past-none : (get_or text at 0 ≡ 43 → at + 1 < end → get_or text (at + 1) 0 ≡ 43) → slice_range text at end ≡ shortest (without_plus (slice_range text at end))
  past-none h =
      let long = length-between text at end inside in
      let first : get_or (slice_range text at end) 0 0 ≡ get_or text at 0 = get_or-between text at end 0 0 (omega arith) ∙ ap (λ (i : ℕ). get_or text i 0) (omega arith) in
      whole-shortest (slice_range text at end) (omega (arith, long))
      (λ e more. get_or-between text at end 1 0 (omega (arith, long, more)) ∙ h (sym first ∙ e) (omega (arith, long, more)))

-- it is some bytes, and a number's text no longer
pub shortest-longer : (r : List ℕ) → length r ≤ length (shortest r)
shortest-longer [] = omega arith
shortest-longer (b ∷ bs) = elim (cases_eq b 43) [
  | inl e ↦ omega (arith, ap (λ t. length (cond t (43 ∷ b ∷ bs) (b ∷ bs))) (eq-eqb b 43 e))
  | inr n ↦ omega (arith, ap (λ t. length (cond t (43 ∷ b ∷ bs) (b ∷ bs))) (ne_eqb b 43 n))
]

pub plain : (bs : List ℕ) → IsNumberText bs → (0 < length bs) × (without_plus bs ≡ bs)
plain [] h = absurd h
plain (b ∷ bs) h = (
  omega arith,
  elim (cases_eq b 43) [
    | inl e ↦ let f : false ≡ true = sym (ap begins_number e) ∙ h.0 in cc
    | inr n ↦ ap (λ t. cond t bs (b ∷ bs)) (ne_eqb b 43 n)
  ],
)

-- read back
pub without-shortest : (r : List ℕ) → without_plus (shortest r) ≡ r
without-shortest [] = refl
without-shortest (b ∷ bs) = elim (cases_eq b 43) [
  | inl e ↦ ap (λ t. without_plus (cond t (43 ∷ b ∷ bs) (b ∷ bs))) (eq-eqb b 43 e)
  | inr n ↦ ap (λ t. without_plus (cond t (43 ∷ b ∷ bs) (b ∷ bs))) (ne_eqb b 43 n) ∙ ap (λ t. cond t bs (b ∷ bs)) (ne_eqb b 43 n)
]

pub shortest-some : (r : List ℕ) → shortest r ≢ []
shortest-some [] = λ e. cc
shortest-some (b ∷ bs) = elim (cases_eq b 43) [
  | inl e ↦ λ q. let clash : 43 ∷ b ∷ bs ≡ [] = sym (ap (λ t. cond t (43 ∷ b ∷ bs) (b ∷ bs)) (eq-eqb b 43 e)) ∙ q in cc
  | inr n ↦ λ q. let clash : b ∷ bs ≡ [] = sym (ap (λ t. cond t (43 ∷ b ∷ bs) (b ∷ bs)) (ne_eqb b 43 n)) ∙ q in cc
]
