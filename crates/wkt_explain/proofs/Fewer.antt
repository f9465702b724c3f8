-- A number whose hint is that 18 places hold it is read with 18 places.
use Rattle.std.proofs.Common.{◌≡◌, ℕ, suc, ◌+◌, ◌-◌, ◌*◌, ◌^◌, ◌<◌, ◌≤◌, ◌==◌, ◌||◌, ◌&&◌, not, Bool, true, false, if◌then◌else◌, cond, List, [], ◌∷◌, ◌++◌, length, drop, Option, Some, None, ℤ, pos, neg_ℤ, nat_le, nat_lt, codes, refl, sym, ap, ◌∙◌, arith, length-append}
use Rattle.std.specs.Char.{is_ascii_digit, digit_value}
use Rattle.std.specs.Str.Parse.{AllDigits, digits_value, digits_value_after, without_leading_sign, starts_with_minus}
use Rattle.std.proofs.lemmas.Nat.{pow-add}
use Rattle.std.proofs.lemmas.Int.Digits.{digits_value-lt}
use Rattle.std.proofs.lemmas.Bool.Decides.{nat_tests}
use Rattle.std.proofs.Math.Nat.{lt_of_mul-lt-mul_right, mul-lt-mul_of_pos_right, pow-suc, pow-le-pow_right}
use borrow.Author.Tests.{eqb-true, leb-true, ltb-true, lt-ltb}
use Rattle.wkt_num.specs.Whole.{keep_if}
use Rattle.wkt_num.specs.Decimal.{before_point, after_point, read_magnitude, read_decimal, with_sign, and_then}
use Rattle.wkt_num.specs.DecimalLaws.{ten_pos, read-near}
use Rattle.wkt_num.proofs.TextInsideText.{from-parts}
use Rattle.wkt_read.specs.Lexemes.{without_plus}
use Rattle.wkt_read.specs.Header.{begins}
use Rattle.wkt_explain.specs.Hints.{begins_word, is_missing, begins_dash, has_exponent, begins_number, kept_after, places_in, places_hint, FewerIsRead}
use Rattle.wkt_explain.specs.declared.hint.Hint.TheVariants as hint

digit_is : (b : ℕ) → is_ascii_digit b ≡ true → (digit_value b ≡ b - 48) × (b - 48 ≤ 9)
digit_is b e = (grind (arith, nat_tests), grind (arith, nat_tests))

digit-less : (b : ℕ) → is_ascii_digit b ≡ true → digit_value b < 10
digit-less b e = let d = digit_is b e in omega (arith, d.0, d.1)

-- ---- digits after the point

-- Digits after n others: they have p digits with those, and zeros after them; v is the value of those before.
record Zeros (v n p : ℕ) (ds : List ℕ) : Type 0 where
  digits : AllDigits 10 ds
  lead : ℕ
  zeros : ℕ
  long : n + length ds ≡ p + zeros
  value : digits_value_after 10 v ds ≡ lead * 10 ^ zeros

one-more : (v n p b : ℕ) (bs : List ℕ) → is_ascii_digit b ≡ true → Zeros (v * 10 + digit_value b) (suc n) p bs → Zeros v n p (b ∷ bs)
one-more v n p b bs d r = record { digits = (digit-less b d, r.digits); lead = r.lead; zeros = r.zeros; long = omega (arith, r.long); value = r.value }

kept-step : (v q j n kept p b : ℕ) (bs : List ℕ) → ((v q j n kept : ℕ) → v ≡ q * 10 ^ j → n ≡ kept + j → kept_after n kept bs ≡ Some p → Zeros v n p bs)
    → v ≡ q * 10 ^ j → n ≡ kept + j → kept_after n kept (b ∷ bs) ≡ Some p → Zeros v n p (b ∷ bs)
kept-step v q j n kept p b bs rest e same h = go (is_ascii_digit b) refl (b == 48) refl h
  where
    go : (d : Bool) → is_ascii_digit b ≡ d → (z : Bool) → (b == 48) ≡ z → (if d then kept_after (suc n) (if z then kept else suc n) bs else None) ≡ Some p → Zeros v n p (b ∷ bs)
    go true d true z k =
        one-more v n p b bs d (rest (v * 10 + digit_value b) q (suc j) (suc n) kept
        (omega (arith, e, ap digit_value (eqb-true b 48 z), ap (λ t. q * t) (pow-suc 10 j)))
        (omega (arith, same)) k)
    go true d false z k = one-more v n p b bs d (rest (v * 10 + digit_value b) (v * 10 + digit_value b) 0 (suc n) (suc n) (omega arith) (omega arith) k)
    go false d z y k = cc

kept-zeros : (v q j n kept p : ℕ) (ds : List ℕ) → v ≡ q * 10 ^ j → n ≡ kept + j → kept_after n kept ds ≡ Some p → Zeros v n p ds
kept-zeros v q j n kept p [] e same h = let last : kept ≡ p = cc in record { digits = tt; lead = q; zeros = j; long = omega (arith, same, last); value = e }
kept-zeros v q j n kept p (b ∷ bs) e same h = kept-step v q j n kept p b bs (λ v q j n kept. kept-zeros v q j n kept p bs) e same h

-- ---- the parts around the point

record Parts (v p : ℕ) (any : Bool) (body : List ℕ) : Type 0 where
  whole : List ℕ
  fraction : List ℕ
  before : before_point body ≡ whole
  after : after_point body ≡ fraction
  digits : AllDigits 10 (whole ++ fraction)
  some : any ≡ false → 0 < length (whole ++ fraction)
  lead : ℕ
  zeros : ℕ
  long : length fraction ≡ p + zeros
  value : digits_value_after 10 v (whole ++ fraction) ≡ lead * 10 ^ zeros

pointed : (v p : ℕ) (any : Bool) (b : ℕ) (bs : List ℕ) → (b == 46) ≡ true → (s : Bool) → (any || nat_lt 0 (length bs)) ≡ s → (if s then kept_after 0 0 bs else None) ≡ Some p → Parts v p any (b ∷ bs)
pointed v p any b bs point false s h = cc
pointed v p any b bs point true s h =
    let z = kept-zeros v v 0 0 0 p bs (omega arith) (omega arith) h in
    record {
      whole = [];
      fraction = bs;
      before = ap (λ t. if t then [] else b ∷ before_point bs) point;
      after = ap (λ t. if t then bs else after_point bs) point;
      digits = z.digits;
      some = λ none. ltb-true 0 (length bs) (ap (λ a. a || nat_lt 0 (length bs)) (sym none) ∙ s);
      lead = z.lead;
      zeros = z.zeros;
      long = omega (arith, z.long);
      value = z.value;
    }

one-before : (v p : ℕ) (any : Bool) (b : ℕ) (bs : List ℕ) → (b == 46) ≡ false → ((v : ℕ) → places_in true bs ≡ Some p → Parts v p true bs) → (d : Bool) → is_ascii_digit b ≡ d → (if d then places_in true bs else None) ≡ Some p → Parts v p any (b ∷ bs)
one-before v p any b bs other rest false d h = cc
one-before v p any b bs other rest true d h =
    let r = rest (v * 10 + digit_value b) h in
    record {
      whole = b ∷ r.whole;
      fraction = r.fraction;
      before = ap (λ t. if t then [] else b ∷ before_point bs) other ∙ ap (λ l. b ∷ l) r.before;
      after = ap (λ t. if t then bs else after_point bs) other ∙ r.after;
      digits = (digit-less b d, r.digits);
      some = λ none. omega arith;
      lead = r.lead;
      zeros = r.zeros;
      long = r.long;
      value = r.value;
    }

places-step : (v p : ℕ) (any : Bool) (b : ℕ) (bs : List ℕ) → ((v : ℕ) → places_in true bs ≡ Some p → Parts v p true bs) → places_in any (b ∷ bs) ≡ Some p → Parts v p any (b ∷ bs)
places-step v p any b bs rest h = go (b == 46) refl h
  where
    go : (t : Bool) → (b == 46) ≡ t → (if t then (if any || nat_lt 0 (length bs) then kept_after 0 0 bs else None) else (if is_ascii_digit b then places_in true bs else None)) ≡ Some p → Parts v p any (b ∷ bs)
    go true e k = pointed v p any b bs e (any || nat_lt 0 (length bs)) refl k
    go false e k = one-before v p any b bs e rest (is_ascii_digit b) refl k

places-parts : (v p : ℕ) (any : Bool) (body : List ℕ) → places_in any body ≡ Some p → Parts v p any body
places-parts v p true [] h = let none : 0 ≡ p = cc in record { whole = []; fraction = []; before = refl; after = refl; digits = tt; some = λ e. cc; lead = v; zeros = 0; long = omega (arith, none); value = omega arith }
places-parts v p false [] h = cc
places-parts v p any (b ∷ bs) h = places-step v p any b bs (λ v. places-parts v p true bs) h

-- ---- the units

module _ (body : List ℕ) (p : ℕ) (h : places_in false body ≡ Some p) (few : p ≤ 18) (short : length (before_point body) ≤ 20) where
  abbrev r : Parts 0 p false body
  r = places-parts 0 p false body h

  abbrev k : ℕ
  k = length r.fraction

  abbrev ds : List ℕ
  ds = r.whole ++ r.fraction

  abbrev units : ℕ
  units = r.lead * 10 ^ (18 - p)

  scale : 10 ^ (18 - p) * 10 ^ k ≡ 10 ^ r.zeros * 10 ^ 18
  scale = sym (pow-add 10 (18 - p) k) ∙ ap (λ n. 10 ^ n) {x = 18 - p + k} {y = r.zeros + 18} (omega (arith, r.long, few)) ∙ pow-add 10 r.zeros 18

  equation : units * 10 ^ k ≡ digits_value 10 ds * 10 ^ 18
  equation = omega (arith, ap (λ t. r.lead * t) scale, ap (λ t. t * 10 ^ 18) r.value)

  below : digits_value 10 ds < 10 ^ 20 * 10 ^ k
  below = omega (arith, digits_value-lt 10 ds r.digits, pow-le-pow_right {n = 10} (omega arith) {i = length ds} {j = 20 + k} (omega (arith, length-append r.whole r.fraction, ap length r.before, short)), pow-add 10 20 k)

  less : units < 10 ^ 38
  less = lt_of_mul-lt-mul_right (10 ^ k) {m = units} {n = 10 ^ 38} (omega (arith, equation, mul-lt-mul_of_pos_right {m = digits_value 10 ds} {n = 10 ^ 20 * 10 ^ k} {k = 10 ^ 18} below (ten_pos 18)))

  fits : units < 2 ^ 127
  fits = omega (arith, less)

  reads : read_magnitude (2 ^ 127) 18 body ≡ Some units
  reads = from-parts (2 ^ 127) 18 body r.whole r.fraction units r.before r.after r.digits (r.some refl) equation (omega (arith, fits))

-- ---- the sign

signed : (w : List ℕ) (u : ℕ) → read_magnitude (2 ^ 127) 18 (without_leading_sign w) ≡ Some u → u < 2 ^ 127 → (x : ℤ) × (read_decimal 127 36 18 w ≡ Some x)
signed w u e less = let g = go (starts_with_minus w) in (g.0, read-near 127 36 18 w (omega arith) ∙ ap (λ o. and_then o (with_sign 127 (starts_with_minus w))) e ∙ g.1)
  where
    go : (b : Bool) → (x : ℤ) × (with_sign 127 b u ≡ Some x)
    go true = (neg_ℤ (pos u), refl)
    go false = (pos u, ap (λ t. keep_if t (pos u)) (lt-ltb u (2 ^ 127) less))

plain : (bs : List ℕ) → begins_number bs ≡ true → without_leading_sign bs ≡ bs
plain [] h = cc
plain (c ∷ cs) h = go (c == 45) refl (c == 43) refl
  where
    go : (a : Bool) → (c == 45) ≡ a → (b : Bool) → (c == 43) ≡ b → cond a cs (drop (cond b 1 0) (c ∷ cs)) ≡ c ∷ cs
    go true e b f = let no : true ≡ false = sym h ∙ ap (λ n. begins_number (n ∷ cs)) (eqb-true c 45 e) in cc
    go false e true f = let no : true ≡ false = sym h ∙ ap (λ n. begins_number (n ∷ cs)) (eqb-true c 43 f) in cc
    go false e false f = refl

plus-same : (w : List ℕ) → begins_number (without_leading_sign w) ≡ true → without_leading_sign (without_plus w) ≡ without_leading_sign w
plus-same [] h = refl
plus-same (c ∷ cs) h = go (c == 43) refl
  where
    go : (b : Bool) → (c == 43) ≡ b → without_leading_sign (if b then cs else c ∷ cs) ≡ without_leading_sign (c ∷ cs)
    go false e = refl
    go true e =
        let same : without_leading_sign (c ∷ cs) ≡ cs = ap (λ n. without_leading_sign (n ∷ cs)) (eqb-true c 43 e) in
        plain cs (ap begins_number (sym same) ∙ h) ∙ sym same

-- ---- what the hint says

-- What a number has whose hint it is.
abbrev HoldsOf : List ℕ → Type 0
HoldsOf ds = (p : ℕ) × (places_in false ds ≡ Some p) × (p ≤ 18) × (length (before_point ds) ≤ 20)

places-of : (most : ℕ) (ds : List ℕ) (o : Option ℕ) → places_in false ds ≡ o → places_hint most ds o ≡ Some hint.Fewer → HoldsOf ds
places-of most ds None e h = cc
places-of most ds (Some p) e h = go (nat_lt most p) (nat_lt 18 most) (nat_le p 18) refl (nat_le (length (before_point ds)) 20) refl h
  where
    go : (a b c : Bool) → nat_le p 18 ≡ c → (d : Bool) → nat_le (length (before_point ds)) 20 ≡ d → (if a then Some (hint.Places most) else (if b && (c && d) then Some hint.Fewer else Some hint.Large)) ≡ Some hint.Fewer → HoldsOf ds
    go true b c x d y k = cc
    go false false c x d y k = cc
    go false true false x d y k = cc
    go false true true x false y k = cc
    go false true true x true y k = (p, e, leb-true p 18 x, leb-true (length (before_point ds)) 20 y)

number-of : (most : ℕ) (ds : List ℕ) (a b c d e : Bool) → begins_number ds ≡ d
    → (if a then Some hint.NoNumber else (if b then Some hint.Missing else (if c then Some hint.Minus else (if not d then None else (if e then Some hint.Exponent else places_hint most ds (places_in false ds)))))) ≡ Some hint.Fewer
    → (begins_number ds ≡ true) × HoldsOf ds
number-of most ds true b c d e x h = cc
number-of most ds false true c d e x h = cc
number-of most ds false false true d e x h = cc
number-of most ds false false false false e x h = cc
number-of most ds false false false true true x h = cc
number-of most ds false false false true false x h = (x, places-of most ds (places_in false ds) refl h)

pub fewer_is_read : FewerIsRead
fewer_is_read most w h =
    let ds = without_leading_sign w in
    let f = number-of most ds (begins_word (codes "NAN") ds || (begins_word (codes "INF") ds || begins (codes "1.#") ds)) (is_missing ds) (begins_dash ds) (begins_number ds) (has_exponent ds) refl h in
    let same = plus-same w f.0 in
    signed (without_plus w) (units ds f.1.0 f.1.1 f.1.2 f.1.3) (ap (read_magnitude (2 ^ 127) 18) same ∙ reads ds f.1.0 f.1.1 f.1.2 f.1.3) (fits ds f.1.0 f.1.1 f.1.2 f.1.3)
