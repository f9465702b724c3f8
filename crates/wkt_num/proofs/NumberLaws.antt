-- The laws of a number of units: its reading in the words of the equation, and its one text.
use Rattle.std.proofs.Common.{◌≡◌, ◌⊎◌, inl, inr, ℕ, zero, suc, ◌*◌, ◌/◌, ◌^◌, ◌<◌, ◌≤◌, Bool, true, false, cond, ◌&&◌, ◌==◌, nat_lt, nat_le, if◌then◌else◌, List, [], ◌∷◌, ◌++◌, length, drop, get_or, ℤ, pos, negsuc, neg_ℤ, ◌*ℤ◌, Option, Some, None, IfSome, refl, sym, ap, subst, ◌∙◌, arith, ◌+◌, ◌-◌, ◌%◌, length-append}
use Rattle.std.specs.Prelude.{unsigned_abs, int_lt}
use Rattle.std.specs.Str.Parse.{IsNumeral, AllDigits, digits_value, starts_with_minus, without_leading_sign, without_leading_plus}
use Rattle.std.proofs.lemmas.List.{append-nil}
use Rattle.std.proofs.Math.Nat.{mul-le-mul_right, le_of_mul-le-mul_right, pow-suc, mod-lt, div-le_self, le-mul_of_pos_right}
use Rattle.std.proofs.lemmas.Str.Parse.{digit_from_value, without_leading_plus_none}
use Rattle.std.specs.Fmt.{decimal, sign_text}
use Rattle.std.specs.Char.{digit_value}
use Rattle.std.proofs.lemmas.Fmt.{decimal_digit, decimal_is_IsNumeral_wide}
use Rattle.std.proofs.lemmas.Nat.{pow-add, div-add-mod'}
use borrow.Author.Tests.{eqb-true, ne_eqb, leb-true, le-leb, lt-ltb, eqb-false, leb-false}
use Rattle.wkt_num.specs.Whole.{is_numeral, keep_if, IsSigned}
use Rattle.wkt_num.specs.WholeLaws.{is_numeral_of, both_true, numeral_from}
use Rattle.wkt_num.specs.Decimal.{before_point, after_point, units_of, read_magnitude, read_decimal, with_sign, and_then, Spells, StandsFor, fraction_digits, fraction_text, magnitude_text, decimal_text, EndsInDigit, IsPrinted, point_and}
use Rattle.wkt_num.specs.DecimalLaws.{before_digits, after_digits, signed_value, value_append, fraction_value, units_is, ten_pos, keep_some, after_split, read-near, magnitude-small, fraction-bytes, fraction-none}
use Rattle.wkt_num.proofs.Printed.{last-digit}
use Rattle.wkt_num.proofs.FirstTextFound.{first_decimal}
use Rattle.wkt_num.proofs.TextInsideText.{digit-is, decimal-is, value-some, value-less, fraction-is, magnitude-is}

-- The reading in the words of the equation.

-- a product of a signed number and a natural
pub times_neg : (a b : ℕ) → neg_ℤ (pos a) *ℤ pos b ≡ neg_ℤ (pos (a * b))
times_neg zero b = ap (λ x. pos x) (omega arith) ∙ ap (λ x. neg_ℤ (pos x)) {x = zero} {y = zero * b} (omega arith)
times_neg (suc a) b = refl

-- ---- from the reading to the equation

point_split : (body : List ℕ) → ((after_point body ≡ []) × (body ≡ before_point body)) ⊎ (body ≡ before_point body ++ 46 ∷ after_point body)
point_split [] = inl (refl, refl)
point_split (c ∷ cs) = go (c == 46) refl (point_split cs)
  where
    Split : Bool → Type 0
    Split b = (((if b then cs else after_point cs) ≡ []) × (c ∷ cs ≡ (if b then [] else c ∷ before_point cs))) ⊎ (c ∷ cs ≡ (if b then [] else c ∷ before_point cs) ++ 46 ∷ (if b then cs else after_point cs))

    more : ((after_point cs ≡ []) × (cs ≡ before_point cs)) ⊎ (cs ≡ before_point cs ++ 46 ∷ after_point cs) → Split false
    more (inl p) = inl (p.0, ap (λ l. c ∷ l) p.1)
    more (inr p) = inr (ap (λ l. c ∷ l) p)

    go : (b : Bool) → (c == 46) ≡ b → ((after_point cs ≡ []) × (cs ≡ before_point cs)) ⊎ (cs ≡ before_point cs ++ 46 ∷ after_point cs) → Split b
    go true e p = inr (ap (λ x. x ∷ cs) (eqb-true c 46 e))
    go false e p = more p

sign_split : (bs : List ℕ) → ((starts_with_minus bs ≡ true) × (bs ≡ 45 ∷ without_leading_sign bs)) ⊎ ((starts_with_minus bs ≡ false) × ((bs ≡ without_leading_sign bs) ⊎ (bs ≡ 43 ∷ without_leading_sign bs)))
sign_split [] = inr (refl, inl refl)
sign_split (c ∷ cs) = go (c == 45) refl (c == 43) refl
  where
    go : (a : Bool) → (c == 45) ≡ a → (b : Bool) → (c == 43) ≡ b
        → ((a ≡ true) × (c ∷ cs ≡ 45 ∷ cond a cs (drop (cond b 1 0) (c ∷ cs)))) ⊎ ((a ≡ false) × ((c ∷ cs ≡ cond a cs (drop (cond b 1 0) (c ∷ cs))) ⊎ (c ∷ cs ≡ 43 ∷ cond a cs (drop (cond b 1 0) (c ∷ cs)))))
    go true e b f = inl (refl, ap (λ x. x ∷ cs) (eqb-true c 45 e))
    go false e true f = inr (refl, inr (ap (λ x. x ∷ cs) (eqb-true c 43 f)))
    go false e false f = inr (refl, inl refl)

-- what follows for the digits from a magnitude that was read
record MagnitudeIs (limit D : ℕ) (body : List ℕ) (m : ℕ) : Type 0 where
  digits : IsNumeral 10 (before_point body ++ after_point body)
  equation : m * 10 ^ length (after_point body) ≡ digits_value 10 (before_point body ++ after_point body) * 10 ^ D
  small : m ≤ limit

units_equation : (limit D n k m : ℕ) → units_of limit D n k ≡ Some m → m * 10 ^ k ≡ n * 10 ^ D
unfolding units_of
units_equation limit D n k m e =
    let u : ℕ = n * 10 ^ D / 10 ^ k in
    let p = keep_some ((u * 10 ^ k == n * 10 ^ D) && nat_le u limit) u m e in
    ap (λ x. x * 10 ^ k) p.1 ∙ eqb-true _ _ (both_true (u * 10 ^ k == n * 10 ^ D) (nat_le u limit) p.0).0

magnitude_is : (limit D : ℕ) (body : List ℕ) (m : ℕ) → read_magnitude limit D body ≡ Some m → MagnitudeIs limit D body m
unfolding read_magnitude
magnitude_is limit D body m e = go (is_numeral (before_point body ++ after_point body)) refl e
  where
    ds : List ℕ
    ds = before_point body ++ after_point body

    go : (b : Bool) → is_numeral ds ≡ b → (if b then units_of limit D (digits_value 10 ds) (length (after_point body)) else None) ≡ Some m → MagnitudeIs limit D body m
    go true f g = record { digits = numeral_from ds f; equation = units_equation limit D _ _ m g; small = magnitude-small limit D body m e }
    go false f g = cc

-- the signed equation
signed_equation : (negative : Bool) (m a n b : ℕ) → m * a ≡ n * b → cond negative (neg_ℤ (pos m)) (pos m) *ℤ pos a ≡ cond negative (neg_ℤ (pos n)) (pos n) *ℤ pos b
signed_equation true m a n b e = times_neg m a ∙ ap (λ x. neg_ℤ (pos x)) e ∙ sym (times_neg n b)
signed_equation false m a n b e = ap pos e

sign_is : (k m : ℕ) (negative : Bool) (u : ℤ) → with_sign k negative m ≡ Some u → u ≡ cond negative (neg_ℤ (pos m)) (pos m)
sign_is k m true u e = cc
sign_is k m false u e = (keep_some (nat_lt m (2 ^ k)) (pos m) u e).1

sign_fits : (k m : ℕ) (negative : Bool) (u : ℤ) → m ≤ 2 ^ k → with_sign k negative m ≡ Some u → IsSigned k u
sign_fits k m negative u h e = subst (λ o. IfSome o (IsSigned k)) e (signed_value k negative m h)

pub stands_from : (k most D : ℕ) (bs : List ℕ) (u : ℤ) → read_decimal k most D bs ≡ Some u → StandsFor k most D bs u
unfolding read_decimal
stands_from k most D bs u e = go (nat_le D most) refl (read_magnitude (2 ^ k) D body) refl e
  where
    body : List ℕ
    body = without_leading_sign bs

    negative : Bool
    negative = starts_with_minus bs

    made : (m : ℕ) → D ≤ most → MagnitudeIs (2 ^ k) D body m → with_sign k negative m ≡ Some u → StandsFor k most D bs u
    made m h is s = record {
      negative = negative;
      whole = before_point body;
      fraction = after_point body;
      spells = record { body = body; sign = sign_split bs; point = point_split body; digits = is.digits };
      equation = ap (λ x. x *ℤ pos (10 ^ length (after_point body))) (sign_is k m negative u s) ∙ signed_equation negative m _ _ _ is.equation;
      fits = sign_fits k m negative u is.small s;
      places = h;
    }

    go : (b : Bool) → nat_le D most ≡ b → (o : Option ℕ) → read_magnitude (2 ^ k) D body ≡ o → (if b then and_then o (with_sign k negative) else None) ≡ Some u → StandsFor k most D bs u
    go true f (Some m) g s = made m (leb-true D most f) (magnitude_is (2 ^ k) D body m g) s
    go true f None g s = cc
    go false f o g s = cc

-- ---- from the equation to the reading

digits_front : (xs ys : List ℕ) → AllDigits 10 (xs ++ ys) → AllDigits 10 xs
digits_front [] ys h = tt
digits_front (x ∷ xs) ys h = (h.0, digits_front xs ys h.1)

-- whole and fraction are those that the definition finds
record Found (body whole fraction : List ℕ) : Type 0 where
  before : before_point body ≡ whole
  after : after_point body ≡ fraction

found : (body whole fraction : List ℕ) → AllDigits 10 whole → ((fraction ≡ []) × (body ≡ whole)) ⊎ (body ≡ whole ++ 46 ∷ fraction) → Found body whole fraction
found body whole fraction h (inl p) =
    let e : body ≡ whole ++ [] = p.1 ∙ sym (append-nil whole) in
    record {
      before = ap before_point e ∙ before_digits whole [] h ∙ append-nil whole;
      after = ap after_point e ∙ after_digits whole [] h ∙ sym p.0;
    }
found body whole fraction h (inr p) = record {
  before = ap before_point p ∙ before_digits whole (46 ∷ fraction) h ∙ append-nil whole;
  after = ap after_point p ∙ after_digits whole (46 ∷ fraction) h;
}

-- the body begins with no sign
no_sign : (body whole fraction : List ℕ) (s : ℕ) → ((s ≡ 43) ⊎ (s ≡ 45)) → IsNumeral 10 (whole ++ fraction) → ((fraction ≡ []) × (body ≡ whole)) ⊎ (body ≡ whole ++ 46 ∷ fraction) → get_or body 0 0 ≡ s → ⊥
no_sign body [] fraction s is h (inl p) e = omega (arith, h.0, ap length p.0)
no_sign body [] fraction s is h (inr p) e = sign_no_point s is (sym e ∙ ap (λ l. get_or l 0 0) p)
  where
    sign_no_point : (x : ℕ) → ((x ≡ 43) ⊎ (x ≡ 45)) → x ≡ 46 → ⊥
    sign_no_point x (inl a) b = omega arith
    sign_no_point x (inr a) b = omega arith
no_sign body (d ∷ ds) fraction s is h point e = sign_no_digit s is (first point)
  where
    sign_no_digit : (x : ℕ) → ((x ≡ 43) ⊎ (x ≡ 45)) → x ≡ d → ⊥
    sign_no_digit x (inl a) b = let r = digit_from_value d h.1.0 in omega arith
    sign_no_digit x (inr a) b = let r = digit_from_value d h.1.0 in omega arith

    first : ((fraction ≡ []) × (body ≡ d ∷ ds)) ⊎ (body ≡ (d ∷ ds) ++ 46 ∷ fraction) → s ≡ d
    first (inl p) = sym e ∙ ap (λ l. get_or l 0 0) p.1
    first (inr p) = sym e ∙ ap (λ l. get_or l 0 0) p

record Signs (bs : List ℕ) (negative : Bool) (body : List ℕ) : Type 0 where
  minus : starts_with_minus bs ≡ negative
  rest : without_leading_sign bs ≡ body

signs : (bs : List ℕ) (negative : Bool) (whole fraction : List ℕ) → (s : Spells bs negative whole fraction) → Signs bs negative s.body
signs bs negative whole fraction s = go s.sign
  where
    body : List ℕ
    body = s.body

    plain : starts_with_minus body ≡ false
    plain = ne_eqb (get_or body 0 0) 45 (no_sign body whole fraction 45 (inr refl) s.digits s.point)

    same : without_leading_plus body ≡ body
    same = without_leading_plus_none body (no_sign body whole fraction 43 (inl refl) s.digits s.point)

    unsigned : (xs : List ℕ) → ((xs ≡ body) ⊎ (xs ≡ 43 ∷ body)) → Signs xs false body
    unsigned xs (inl e) = record {
      minus = ap starts_with_minus e ∙ plain;
      rest = ap without_leading_sign e ∙ ap (λ b. cond b (drop 1 body) (without_leading_plus body)) plain ∙ same;
    }
    unsigned xs (inr e) = record { minus = ap starts_with_minus e; rest = ap without_leading_sign e }

    go : ((negative ≡ true) × (bs ≡ 45 ∷ body)) ⊎ ((negative ≡ false) × ((bs ≡ body) ⊎ (bs ≡ 43 ∷ body))) → Signs bs negative body
    go (inl p) = record { minus = ap starts_with_minus p.1 ∙ sym p.0; rest = ap without_leading_sign p.1 }
    go (inr p) = subst (λ b. Signs bs b body) (sym p.0) (unsigned bs p.1)

-- the magnitude and the sign of the units
record Magnitude (k : ℕ) (negative : Bool) (u : ℤ) (a n b : ℕ) : Type 0 where
  m : ℕ
  equation : m * a ≡ n * b
  small : m ≤ 2 ^ k
  answer : with_sign k negative m ≡ Some u

magnitude : (k : ℕ) (negative : Bool) (u : ℤ) (a n b : ℕ) → 0 < a → IsSigned k u → u *ℤ pos a ≡ cond negative (neg_ℤ (pos n)) (pos n) *ℤ pos b → Magnitude k negative u a n b
magnitude k false (pos m) a n b h fits e = record { m = m; equation = cc; small = omega arith; answer = ap (λ t. keep_if t (pos m)) (lt-ltb m (2 ^ k) fits) }
magnitude k false (negsuc m) a n b h fits e = absurd (never (suc m * a) (omega (arith, mul-le-mul_right {m = 1} {n = suc m} a (omega arith), h)) e)
  where
    never : (x : ℕ) → 0 < x → neg_ℤ (pos x) ≡ pos (n * b) → ⊥
    never zero g f = omega arith
    never (suc x) g f = cc
magnitude k true (pos m) a n b h fits e = go (m * a) (n * b) refl refl (e ∙ times_neg n b)
  where
    made : m * a ≡ 0 → n * b ≡ 0 → Magnitude k true (pos m) a n b
    made f g = let z : m ≡ 0 = zero_of m f in record { m = m; equation = f ∙ sym g; small = omega arith; answer = ap (λ (x : ℕ). Some (neg_ℤ (pos x))) z ∙ ap (λ (x : ℕ). Some (pos x)) (sym z) }
      where
        zero_of : (x : ℕ) → x * a ≡ 0 → x ≡ 0
        zero_of zero q = refl
        zero_of (suc x) q = absurd (omega (arith, q, h, mul-le-mul_right {m = 1} {n = suc x} a (omega arith)))

    go : (x y : ℕ) → m * a ≡ x → n * b ≡ y → pos x ≡ neg_ℤ (pos y) → Magnitude k true (pos m) a n b
    go x zero f g q = made (f ∙ zero_pos x q) g
      where
        zero_pos : (z : ℕ) → pos z ≡ pos 0 → z ≡ 0
        zero_pos z r = cc
    go x (suc y) f g q = cc
magnitude k true (negsuc m) a n b h fits e = record { m = suc m; equation = same (suc m * a) (n * b) (e ∙ times_neg n b); small = omega arith; answer = refl }
  where
    same : (x y : ℕ) → neg_ℤ (pos x) ≡ neg_ℤ (pos y) → x ≡ y
    same zero zero q = refl
    same zero (suc y) q = cc
    same (suc x) zero q = cc
    same (suc x) (suc y) q = ap suc (inner x y q)
      where
        inner : (v w : ℕ) → negsuc v ≡ negsuc w → v ≡ w
        inner v w r = cc

pub stands_to : (k most D : ℕ) (bs : List ℕ) (u : ℤ) → StandsFor k most D bs u → read_decimal k most D bs ≡ Some u
unfolding read_magnitude
stands_to k most D bs u h =
    let s = h.spells in
    let ds : List ℕ = h.whole ++ h.fraction in
    let sg = signs bs h.negative h.whole h.fraction s in
    let f = found s.body h.whole h.fraction (digits_front h.whole h.fraction s.digits.1) s.point in
    let g = magnitude k h.negative u (10 ^ length h.fraction) (digits_value 10 ds) (10 ^ D) (ten_pos (length h.fraction)) h.fits h.equation in
    let limit : ℕ = 2 ^ k in
    let read : read_magnitude limit D s.body ≡ Some g.m =
    ap (λ (l : List ℕ). if is_numeral (l ++ after_point s.body) then units_of limit D (digits_value 10 (l ++ after_point s.body)) (length (after_point s.body)) else None) f.before
    ∙ ap (λ (l : List ℕ). if is_numeral (h.whole ++ l) then units_of limit D (digits_value 10 (h.whole ++ l)) (length l) else None) f.after
    ∙ ap (λ b. if b then units_of limit D (digits_value 10 ds) (length h.fraction) else None) (is_numeral_of ds s.digits)
    ∙ units_is limit D (digits_value 10 ds) (length h.fraction) g.m g.equation
    ∙ ap (λ b. keep_if b g.m) (le-leb g.m limit g.small) in
    read-near k most D bs h.places
    ∙ ap (λ l. and_then (read_magnitude limit D l) (with_sign k (starts_with_minus bs))) sg.rest
    ∙ ap (λ b. and_then (read_magnitude limit D s.body) (with_sign k b)) sg.minus
    ∙ ap (λ o. and_then o (with_sign k h.negative)) read
    ∙ g.answer

-- A number of units is printed as one text.

-- the number of digits before and behind a point
joined : (ws fs : List ℕ) → digits_value 10 (ws ++ fs) ≡ digits_value 10 ws * 10 ^ length fs + digits_value 10 fs
joined ws fs = value_append 0 ws fs ∙ after_split (digits_value 10 ws) fs

last-in : (init : List ℕ) (b : ℕ) → AllDigits 10 (init ++ b ∷ []) → digit_value b < 10
last-in [] b h = h.0
last-in (c ∷ cs) b h = last-in cs b h.1

-- equal factors are left out
pub cancel : (x y p : ℕ) → 0 < p → x * p ≡ y * p → x ≡ y
cancel x y p some e =
    let le : x ≤ y = le_of_mul-le-mul_right {k = p} (omega (arith, e)) some in
    let ge : y ≤ x = le_of_mul-le-mul_right {k = p} (omega (arith, e)) some in
    omega arith

-- ---- a text of this form is the text of the units

module _ (D m : ℕ) (negative : Bool) (ws : List ℕ) (wide : m < 10 ^ 64) (digits : IsNumeral 10 ws) (plain : get_or ws 0 0 ≡ 48 → length ws ≡ 1) where
  abbrev w : ℕ
  w = digits_value 10 ws

  whole-is : (g : ℕ) → g < 10 ^ D → m ≡ w * 10 ^ D + g → magnitude_text D negative m ≡ sign_text negative ++ ws ++ fraction_text D g
  whole-is g less is =
      ap (λ (n : ℕ). magnitude_text D negative n) is
      ∙ magnitude-is D w g negative less
      ∙ ap (λ l. sign_text negative ++ l ++ fraction_text D g) (decimal-is ws digits plain (omega (arith, is, wide, le-mul_of_pos_right w (ten_pos D))))

  no-point : m * 10 ^ 0 ≡ digits_value 10 (ws ++ []) * 10 ^ D → magnitude_text D negative m ≡ sign_text negative ++ ws ++ point_and []
  no-point e = whole-is 0 (ten_pos D) (omega (arith, e, ap (λ l. digits_value 10 l * 10 ^ D) (append-nil ws)))

  module _ (init : List ℕ) (d : ℕ) (some : 0 < d) (behind : AllDigits 10 (init ++ (48 + d) ∷ []))
      (e : m * 10 ^ length (init ++ (48 + d) ∷ []) ≡ digits_value 10 (ws ++ (init ++ (48 + d) ∷ [])) * 10 ^ D) where
    abbrev fs : List ℕ
    fs = init ++ (48 + d) ∷ []

    abbrev f : ℕ
    f = digits_value 10 fs

    small : digit_value (48 + d) < 10
    small = last-in init (48 + d) behind

    positive : 0 < digit_value (48 + d)
    positive = omega (arith, digit-is (48 + d) small, some)

    long : length fs ≡ length init + 1
    long = length-append init ((48 + d) ∷ [])

    equal : m * 10 ^ length fs ≡ (w * 10 ^ length fs + f) * 10 ^ D
    equal = e ∙ ap (λ n. n * 10 ^ D) (joined ws fs)

    ends : f ≡ digits_value 10 init * 10 + digit_value (48 + d)
    ends = value_append 0 init ((48 + d) ∷ [])

    -- more digits than places would leave a last digit 0
    too-many : (r : ℕ) → length fs ≡ D + suc r → ⊥
    too-many r k = omega (arith, tens, ends, positive, small)
      where
        powers : 10 ^ length fs ≡ 10 ^ r * 10 * 10 ^ D
        powers = ap (λ n. 10 ^ n) {x = length fs} {y = suc r + D} (omega (arith, k)) ∙ pow-add 10 (suc r) D ∙ ap (λ p. p * 10 ^ D) (pow-suc 10 r)

        without : m * (10 ^ r * 10) ≡ w * 10 ^ length fs + f
        without = cancel (m * (10 ^ r * 10)) (w * 10 ^ length fs + f) (10 ^ D) (ten_pos D) (omega (arith, equal, ap (λ p. m * p) powers))

        front : 10 ^ length fs ≡ 10 ^ length init * 10
        front = ap (λ n. 10 ^ n) {x = length fs} {y = suc (length init)} (omega (arith, long)) ∙ pow-suc 10 (length init)

        tens : m * 10 ^ r * 10 ≡ (w * 10 ^ length init) * 10 + f
        tens = omega (arith, without, ap (λ p. w * p) front)

    -- as many digits as places, or fewer
    fits : (a : ℕ) → D ≡ length fs + a → magnitude_text D negative m ≡ sign_text negative ++ ws ++ point_and fs
    fits a k = whole-is g less is ∙ ap (λ l. sign_text negative ++ ws ++ l) text
      where
        g : ℕ
        g = f * 10 ^ a

        less : g < 10 ^ D
        less = value-less D a fs behind k

        scale : 10 ^ D ≡ 10 ^ a * 10 ^ length fs
        scale = ap (λ n. 10 ^ n) {x = D} {y = a + length fs} (omega (arith, k)) ∙ pow-add 10 a (length fs)

        is : m ≡ w * 10 ^ D + g
        is = cancel m (w * 10 ^ D + g) (10 ^ length fs) (ten_pos (length fs))
            (omega (arith, equal, ap (λ p. w * p * 10 ^ length fs) scale, ap (λ p. w * 10 ^ length fs * p) scale, ap (λ p. f * p) scale))

        low : 0 < g
        low = omega (arith, value-some init (48 + d) positive, le-mul_of_pos_right f (ten_pos a))

        pointed : (ds : List ℕ) (b : ℕ) → 46 ∷ (ds ++ b ∷ []) ≡ point_and (ds ++ b ∷ [])
        pointed [] b = refl
        pointed (c ∷ cs) b = refl

        text : fraction_text D g ≡ point_and fs
        text =
            ap (λ b. if b then [] else 46 ∷ fraction_digits D g) (ne_eqb g 0 (λ z. omega (arith, z, low)))
            ∙ ap (λ l. 46 ∷ l) (fraction-is D a init (48 + d) k behind positive)
            ∙ pointed init (48 + d)

    with-point : magnitude_text D negative m ≡ sign_text negative ++ ws ++ point_and fs
    with-point = go (nat_le (length fs) D) refl
      where
        go : (t : Bool) → nat_le (length fs) D ≡ t → magnitude_text D negative m ≡ sign_text negative ++ ws ++ point_and fs
        go true t = fits (D - length fs) (omega (arith, leb-true (length fs) D t))
        go false t = absurd (too-many (length fs - D - 1) (omega (arith, leb-false (length fs) D t)))

  printed-is : (xs : List ℕ) → (xs ≡ []) ⊎ EndsInDigit xs → AllDigits 10 xs → m * 10 ^ length xs ≡ digits_value 10 (ws ++ xs) * 10 ^ D → magnitude_text D negative m ≡ sign_text negative ++ ws ++ point_and xs
  printed-is xs (inl none) behind e =
      no-point (subst (λ l. m * 10 ^ length l ≡ digits_value 10 (ws ++ l) * 10 ^ D) none e) ∙ ap (λ l. sign_text negative ++ ws ++ point_and l) (sym none)
  printed-is xs (inr last) behind e =
      with-point last.0 last.1 last.3 (subst (AllDigits 10) last.2 behind) (subst (λ l. m * 10 ^ length l ≡ digits_value 10 (ws ++ l) * 10 ^ D) last.2 e)
      ∙ ap (λ l. sign_text negative ++ ws ++ point_and l) (sym last.2)

wide_of : (u : ℤ) → IsSigned 127 u → unsigned_abs u < 10 ^ 64
wide_of (pos n) h = omega (arith, h)
wide_of (negsuc n) h = omega (arith, h)

pub one-text : (D : ℕ) (u : ℤ) (text : List ℕ) → IsSigned 127 u → IsPrinted D u text → text ≡ decimal_text D u
one-text D u text fits p = p.form ∙ sym (printed-is D (unsigned_abs u) (int_lt u (pos 0)) p.whole (wide_of u fits) p.digits p.plain p.fraction p.last p.behind p.equation)

-- ---- the text of the units has this form

module _ (D m : ℕ) (wide : m < 10 ^ 64) where
  abbrev g : ℕ
  g = m % 10 ^ D

  less : g < 10 ^ D
  less = mod-lt m (ten_pos D)

  abbrev q : ℕ
  q = m / 10 ^ D

  q-wide : q < 10 ^ 64
  q-wide = omega (arith, div-le_self m (10 ^ D), wide)

  numeral : IsNumeral 10 (decimal q) × (digits_value 10 (decimal q) ≡ q)
  numeral = decimal_is_IsNumeral_wide q q-wide

  zero-alone : get_or (decimal q) 0 0 ≡ 48 → length (decimal q) ≡ 1
  zero-alone z = go q q-wide z
    where
      go : (n : ℕ) → n < 10 ^ 64 → get_or (decimal n) 0 0 ≡ 48 → length (decimal n) ≡ 1
      go zero h z = ap length (decimal_digit 0 (omega arith))
      go (suc n) h z = absurd (omega (arith, z, first_decimal (suc n) (omega arith) h))

  point-text : fraction_text D g ≡ point_and (fraction_digits D g)
  point-text = go D g less (g == 0) refl
    where
      go : (j n : ℕ) → n < 10 ^ j → (b : Bool) → (n == 0) ≡ b → fraction_text j n ≡ point_and (fraction_digits j n)
      go j n h true e = ap (λ b. if b then [] else 46 ∷ fraction_digits j n) e ∙ sym (ap point_and (fraction-none j n (eqb-true n 0 e)))
      go zero n h false e = absurd (eqb-false n 0 e (omega (arith, h)))
      go (suc j) n h false e =
          ap (λ b. if b then [] else 46 ∷ (if b then [] else (48 + n / 10 ^ j) ∷ fraction_digits j (n % 10 ^ j))) e
          ∙ sym (ap (λ b. point_and (if b then [] else (48 + n / 10 ^ j) ∷ fraction_digits j (n % 10 ^ j))) e)

  last-one : (fraction_digits D g ≡ []) ⊎ EndsInDigit (fraction_digits D g)
  last-one = go (g == 0) refl
    where
      go : (b : Bool) → (g == 0) ≡ b → (fraction_digits D g ≡ []) ⊎ EndsInDigit (fraction_digits D g)
      go true e = inl (fraction-none D g (eqb-true g 0 e))
      go false e = inr (last-digit D g less (eqb-false g 0 e))

  units : m * 10 ^ length (fraction_digits D g) ≡ digits_value 10 (decimal q ++ fraction_digits D g) * 10 ^ D
  units =
      let K : ℕ = 10 ^ length (fraction_digits D g) in
      let V : ℕ = digits_value 10 (fraction_digits D g) in
      let split : q * 10 ^ D + g ≡ m = div-add-mod' m (10 ^ D) in
      let n : digits_value 10 (decimal q ++ fraction_digits D g) ≡ q * K + V = joined (decimal q) (fraction_digits D g) ∙ ap (λ x. x * K + V) numeral.1 in
      omega (arith, ap (λ x. x * K) split, fraction_value D g less, ap (λ x. x * 10 ^ D) n)

pub is-printed : (D : ℕ) (u : ℤ) → IsSigned 127 u → IsPrinted D u (decimal_text D u)
is-printed D u fits = let h = wide_of u fits in let m : ℕ = unsigned_abs u in record {
  whole = decimal (m / 10 ^ D);
  fraction = fraction_digits D (m % 10 ^ D);
  form = ap (λ l. sign_text (int_lt u (pos 0)) ++ decimal (m / 10 ^ D) ++ l) (point-text D m h);
  digits = (numeral D m h).0;
  plain = zero-alone D m h;
  behind = fraction-bytes D (m % 10 ^ D) (less D m h);
  last = last-one D m h;
  equation = units D m h;
}

pub ruleset magnitude_small = magnitude-small
