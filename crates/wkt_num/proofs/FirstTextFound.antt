-- The text of a number that stands first in the bytes is found by its parts.
use Rattle.std.proofs.Common.{◌≡◌, ℕ, zero, suc, ◌+◌, ◌-◌, ◌%◌, ◌^◌, ◌<◌, ◌≤◌, Bool, true, false, ◌==◌, List, [], ◌∷◌, ◌++◌, length, take, drop, get_or, slice_range, Option, Some, None, inl, inr, refl, sym, ap, subst, ◌∙◌, arith, append_assoc, length-append}
use Rattle.std.specs.Fmt.{decimal, sign_text}
use Rattle.std.specs.Char.{is_ascii_digit}
use Rattle.std.specs.Int.{IsInRange}
use Rattle.std.specs.Str.Parse.{IsNumeral, AllDigits}
use Rattle.std.proofs.lemmas.Fmt.{decimal_is_IsNumeral_wide, length-decimal-le_wide, decimal_by_steps_wide, decimal_digit}
use Rattle.std.proofs.lemmas.Str.Parse.{digit_from_value}
use Rattle.std.proofs.lemmas.List.{append-nil, get_or-drop, get_or-take, get_or-append-add}
use Rattle.std.proofs.lemmas.Bool.{cases_lt, cases_eq}
use Rattle.std.proofs.lemmas.Bool.Decides.{nat_tests}
use Rattle.std.proofs.Math.ListN.{get_or-append}
use Rattle.std.proofs.Math.Seq.{take-append_seam, drop-append_seam}
use Rattle.wkt_num.specs.Bytes.{class_of, Run}
use borrow.Author.Tests.{ne_eqb}
use Rattle.wkt_num.specs.Whole.{WholeForm, IsWholeForm}
use Rattle.wkt_num.specs.WholeLaws.{digit_run, first_digit}
use Rattle.wkt_num.specs.Number.{StopsRun, StandsFirst}
use Rattle.wkt_num.specs.DigitParts.{IsPrinted, IsWholeText}
use Rattle.wkt_num.proofs.DecimalParts.{length-range}

-- ---- digits end at one place

digit-test : (b : ℕ) → 48 ≤ b → b ≤ 57 → is_ascii_digit b ≡ true
digit-test b h k = grind (arith, nat_tests)

pub test-range : (b : ℕ) → is_ascii_digit b ≡ true → IsInRange 48 57 b
test-range b e = (grind (arith, nat_tests), grind (arith, nat_tests))

digits-at : (ds : List ℕ) (k : ℕ) → AllDigits 10 ds → k < length ds → is_ascii_digit (get_or ds k 0) ≡ true
digits-at [] k h l = absurd (omega (arith, l))
digits-at (d ∷ ds) zero h l = let r = digit_from_value d h.0 in digit-test d r.0 r.1
digits-at (d ∷ ds) (suc k) h l = digits-at ds k h.1 (omega (arith, l))

pub digit-in : (bs : List ℕ) (from to at : ℕ) → AllDigits 10 (slice_range bs from to) → to ≤ length bs → from ≤ at → at < to → is_ascii_digit (get_or bs at 0) ≡ true
digit-in bs from to at digits within h k =
    let e : get_or (slice_range bs from to) (at - from) 0 ≡ get_or bs at 0 =
    get_or-take (to - from) (drop from bs) (at - from) 0 (omega (arith, h, k)) ∙ get_or-drop from bs (at - from) 0 ∙ ap (λ (n : ℕ). get_or bs n 0) {x = from + (at - from)} {y = at} (omega (arith, h)) in
    ap is_ascii_digit (sym e) ∙ digits-at (slice_range bs from to) (at - from) digits (omega (arith, h, k, length-range bs from to (omega (arith, h, k)) within))

pub not-both : {A : Type 0} (b : Bool) → b ≡ true → b ≡ false → A
not-both true e f = cc
not-both false e f = cc

pub one-end : (bs : List ℕ) (from a b : ℕ) → from ≤ a → from ≤ b → a ≤ length bs → b ≤ length bs → AllDigits 10 (slice_range bs from a) → AllDigits 10 (slice_range bs from b)
    → (a < length bs → is_ascii_digit (get_or bs a 0) ≡ false) → (b < length bs → is_ascii_digit (get_or bs b 0) ≡ false) → a ≡ b
one-end bs from a b fa fb wa wb da db na nb = elim (cases_lt a b) [
  | inl l ↦ not-both (is_ascii_digit (get_or bs a 0)) (digit-in bs from b a db wb fa l) (na (omega (arith, l, wb)))
  | inr h ↦ elim (cases_lt b a) [
    | inl l ↦ not-both (is_ascii_digit (get_or bs b 0)) (digit-in bs from a b da wa fb l) (nb (omega (arith, l, wa)))
    | inr k ↦ omega (arith, h, k)
  ]
]

-- a byte that is no part of a run is no digit
pub no-digit : (b : ℕ) → (class_of b ≡ Run → ⊥) → is_ascii_digit b ≡ false
no-digit b h = go (is_ascii_digit b) refl
  where
    go : (t : Bool) → is_ascii_digit b ≡ t → t ≡ false
    go true e = absurd (h (digit_run b (test-range b e)))
    go false e = refl

-- a minus stands there or not
pub first-of : (l : List ℕ) → take 1 l ≡ 45 ∷ [] → get_or l 0 0 ≡ 45
first-of [] e = cc
first-of (b ∷ l) e = cc

pub one-first : (bs : List ℕ) (f g : ℕ) → f ≤ 1 → take f bs ≡ sign_text (f == 1) → (f ≡ 0 → get_or bs 0 0 ≡ 45 → ⊥) → g ≤ 1 → take g bs ≡ sign_text (g == 1) → is_ascii_digit (get_or bs g 0) ≡ true → f ≡ g
one-first bs zero zero h s none k t digit = refl
one-first bs zero (suc zero) h s none k t digit = absurd (none refl (first-of bs t))
one-first bs (suc zero) zero h s none k t digit = not-both (is_ascii_digit (get_or bs 0 0)) digit (ap is_ascii_digit (first-of bs s))
one-first bs (suc zero) (suc zero) h s none k t digit = refl
one-first bs zero (suc (suc n)) h s none k t digit = absurd (omega (arith, k))
one-first bs (suc zero) (suc (suc n)) h s none k t digit = absurd (omega (arith, k))
one-first bs (suc (suc n)) g h s none k t digit = absurd (omega (arith, h))

-- ---- a whole number is found

module _ (most : ℕ) (bs : List ℕ) (end first : ℕ) (w : IsWholeText most bs end) (minus : first ≤ 1) (sign : take first bs ≡ sign_text (first == 1)) (none : first ≡ 0 → get_or bs 0 0 ≡ 45 → ⊥) where
  whole-first : w.first ≡ first
  whole-first = sym (one-first bs first w.first minus sign none w.minus w.sign (digit-in bs w.first end w.first w.digits w.within (omega arith) w.printed.some))

  pub whole-printed : IsPrinted most bs first end
  whole-printed = subst (λ (n : ℕ). IsPrinted most bs n end) whole-first w.printed

  whole-digits : AllDigits 10 (slice_range bs first end)
  whole-digits = subst (λ (n : ℕ). AllDigits 10 (slice_range bs n end)) whole-first w.digits

  pub whole-end : (at : ℕ) → first ≤ at → at ≤ length bs → AllDigits 10 (slice_range bs first at) → (at < length bs → is_ascii_digit (get_or bs at 0) ≡ false) → at ≡ end
  whole-end at h k digits stop =
      one-end bs first at end h (omega (arith, whole-printed.some)) k w.within digits whole-digits stop (λ l. no-digit (get_or bs end 0) (w.stops l))

  -- it ends where not all is digits
  pub whole-ends : (to : ℕ) → end < to → to ≤ length bs → ((at : ℕ) → first ≤ at → at < to → is_ascii_digit (get_or bs at 0) ≡ true) → ⊥
  whole-ends to h k all =
      not-both (is_ascii_digit (get_or bs end 0)) (all end (omega (arith, whole-printed.some)) h) (no-digit (get_or bs end 0) (w.stops (omega (arith, h, k))))

-- ---- digits and a sign that stand first

pub first_decimal : (n : ℕ) → 0 < n → n < 10 ^ 64 → 48 < get_or (decimal n) 0 0
first_decimal n some small = (decimal_by_steps_wide (λ m ds. (0 < length ds) × (0 < m → 48 < get_or ds 0 0)) (λ m l. (omega arith, λ a. omega arith))
    (λ m ds l h. (omega (arith, length-append ds ((48 + m % 10) ∷ [])), λ a. omega (arith, get_or-append ds ((48 + m % 10) ∷ []) 0 0 h.0, h.1 (omega arith)))) n small).1 some

pub seam-range : (xs ys zs : List ℕ) → slice_range (xs ++ (ys ++ zs)) (length xs) (length xs + length ys) ≡ ys
seam-range xs ys zs =
    ap (λ (n : ℕ). take n (drop (length xs) (xs ++ (ys ++ zs)))) {x = length xs + length ys - length xs} {y = length ys} (omega arith)
    ∙ ap (take (length ys)) (drop-append_seam xs (ys ++ zs)) ∙ take-append_seam ys zs

seam-get : (xs ys : List ℕ) → get_or (xs ++ ys) (length xs) 0 ≡ get_or ys 0 0
seam-get xs ys = ap (λ (n : ℕ). get_or (xs ++ ys) n 0) {x = length xs} {y = length xs + 0} (omega arith) ∙ get_or-append-add xs ys 0 0

sign-short : (negative : Bool) → length (sign_text negative) ≤ 1
sign-short true = omega arith
sign-short false = omega arith

sign-same : (negative : Bool) → sign_text negative ≡ sign_text (length (sign_text negative) == 1)
sign-same true = refl
sign-same false = refl

pub sign-minus : (negative : Bool) → length (sign_text negative) ≡ 1 → negative ≡ true
sign-minus true e = refl
sign-minus false e = absurd (omega (arith, e))

rest-stops : (text rest : List ℕ) → StopsRun rest → length text < length (text ++ rest) → class_of (get_or (text ++ rest) (length text) 0) ≡ Run → ⊥
rest-stops text [] stops h r = omega (arith, h, length-append text [])
rest-stops text (b ∷ rest) stops h r = stops (ap class_of (sym (seam-get text (b ∷ rest))) ∙ r)

module _ (n most : ℕ) (negative : Bool) (tail bs : List ℕ) (small : n < 10 ^ most) (some : 0 < most) (wide : n < 10 ^ 64) (stands : StandsFirst (sign_text negative ++ (decimal n ++ tail)) bs) where
  abbrev ws : List ℕ
  ws = decimal n

  abbrev sign : List ℕ
  sign = sign_text negative

  abbrev pub first : ℕ
  first = length sign

  abbrev pub point : ℕ
  point = first + length ws

  abbrev pub end : ℕ
  end = length (sign ++ (ws ++ tail))

  numeral : IsNumeral 10 ws
  numeral = (decimal_is_IsNumeral_wide n wide).0

  flat : bs ≡ sign ++ (ws ++ (tail ++ stands.rest))
  flat = stands.whole ∙ append_assoc sign (ws ++ tail) stands.rest ∙ ap (λ l. sign ++ l) (append_assoc ws tail stands.rest)

  long : length bs ≡ end + length stands.rest
  long = ap length stands.whole ∙ length-append (sign ++ (ws ++ tail)) stands.rest

  pub end-is : end ≡ point + length tail
  end-is = omega (arith, length-append sign (ws ++ tail), length-append ws tail)

  pub within : end ≤ length bs
  within = omega (arith, long)

  pub stops : end < length bs → class_of (get_or bs end 0) ≡ Run → ⊥
  stops h r = rest-stops (sign ++ (ws ++ tail)) stands.rest stands.stops (subst (λ l. end < length l) stands.whole h) (ap (λ l. class_of (get_or l end 0)) (sym stands.whole) ∙ r)

  pub minus : first ≤ 1
  minus = sign-short negative

  pub sign-is : take first bs ≡ sign_text (first == 1)
  sign-is = ap (take first) flat ∙ take-append_seam sign (ws ++ (tail ++ stands.rest)) ∙ sign-same negative

  pub digits : AllDigits 10 (slice_range bs first point)
  digits = subst (AllDigits 10) (sym (ap (λ l. slice_range l first point) flat ∙ seam-range sign ws (tail ++ stands.rest))) numeral.1

  pub is-some : first < point
  is-some = omega (arith, numeral.0)

  pub is-few : point ≤ first + most
  is-few = omega (arith, length-decimal-le_wide most n some small wide)

  head : get_or bs first 0 ≡ get_or ws 0 0
  head = ap (λ l. get_or l first 0) flat ∙ seam-get sign (ws ++ (tail ++ stands.rest)) ∙ get_or-append ws (tail ++ stands.rest) 0 0 numeral.0

  pub starts : 0 < n → get_or bs first 0 ≡ 48 → ⊥
  starts h e = omega (arith, first_decimal n h wide, sym head ∙ e)

  -- the one zero
  pub zero-alone : get_or bs first 0 ≡ 48 → (n ≡ 0) × (point ≡ first + 1)
  zero-alone e = elim (cases_eq n 0) [
    | inl z ↦ (z, omega (arith, ap (λ (m : ℕ). length (decimal m)) z ∙ ap length (decimal_digit 0 (omega arith))))
    | inr ne ↦ absurd (starts (omega (arith, ne)) e)
  ]

  pub past : get_or bs point 0 ≡ get_or (tail ++ stands.rest) 0 0
  past =
      ap (λ l. get_or l point 0) (flat ∙ sym (append_assoc sign ws (tail ++ stands.rest)))
      ∙ ap (λ (m : ℕ). get_or ((sign ++ ws) ++ (tail ++ stands.rest)) m 0) {x = point} {y = length (sign ++ ws)} (sym (length-append sign ws))
      ∙ seam-get (sign ++ ws) (tail ++ stands.rest)

-- ---- whole numbers

whole-text : (most n : ℕ) (negative : Bool) (bs : List ℕ) → n < 10 ^ most → 0 < most → n < 10 ^ 64 → (negative ≡ true → 0 < n) → StandsFirst (sign_text negative ++ decimal n) bs → IsWholeText most bs (length (sign_text negative ++ decimal n))
whole-text most n negative bs small some wide other given =
    let same : sign_text negative ++ decimal n ≡ sign_text negative ++ (decimal n ++ []) = ap (λ l. sign_text negative ++ l) (sym (append-nil (decimal n))) in
    let s : StandsFirst (sign_text negative ++ (decimal n ++ [])) bs = subst (λ l. StandsFirst l bs) same given in
    subst (IsWholeText most bs) {x = point n most negative [] bs small some wide s} {y = length (sign_text negative ++ decimal n)} (sym (length-append (sign_text negative) (decimal n))) (made s)
  where
    none : n ≡ 0 → length (sign_text negative) ≡ 0
    none z = go negative refl
      where
        go : (b : Bool) → negative ≡ b → length (sign_text b) ≡ 0
        go true e = absurd (omega (arith, other e, z))
        go false e = refl

    made : StandsFirst (sign_text negative ++ (decimal n ++ [])) bs → IsWholeText most bs (length (sign_text negative) + length (decimal n))
    made s =
        let e : end n most negative [] bs small some wide s ≡ point n most negative [] bs small some wide s = end-is n most negative [] bs small some wide s ∙ omega arith in
        record {
          first = length (sign_text negative);
          minus = minus n most negative [] bs small some wide s;
          sign = sign-is n most negative [] bs small some wide s;
          printed = record {
            some = is-some n most negative [] bs small some wide s;
            few = is-few n most negative [] bs small some wide s;
            plain = λ z. let a = zero-alone n most negative [] bs small some wide s z in (a.1, none a.0);
          };
          within = subst (λ (k : ℕ). k ≤ length bs) e (within n most negative [] bs small some wide s);
          digits = digits n most negative [] bs small some wide s;
          stops = subst (λ (k : ℕ). k < length bs → class_of (get_or bs k 0) ≡ Run → ⊥) e (stops n most negative [] bs small some wide s);
        }

module _ {T : Type 0} (most : ℕ) (form : WholeForm T) (laws : IsWholeForm most form) (x : T) (bs : List ℕ) (small : form.magnitude x < 10 ^ most) (stands : StandsFirst (form.num x) bs) where
  abbrev negative : Bool
  negative = (laws.parts x).0

  abbrev n : ℕ
  n = form.magnitude x

  wide : n < 10 ^ 64
  wide = omega (arith, small, laws.wide)

  text : form.num x ≡ sign_text negative ++ decimal n
  text = let p = laws.parts x in ap form.num (sym p.3) ∙ laws.prints negative n p.1 p.2

  parted : StandsFirst (sign_text negative ++ decimal n) bs
  parted = subst (λ l. StandsFirst l bs) text stands

  pub number-text : IsWholeText most bs (length (form.num x))
  number-text = subst (λ l. IsWholeText most bs (length l)) (sym text) (whole-text most n negative bs small laws.some wide (laws.parts x).2 parted)

  -- whether it begins with a minus tells the sign, which a number has
  pub number-sign : form.has (get_or bs 0 0 == 45) ≡ true
  number-sign = ap form.has (go negative parted) ∙ (laws.parts x).1
    where
      numeral : IsNumeral 10 (decimal n)
      numeral = (decimal_is_IsNumeral_wide n wide).0

      go : (b : Bool) → StandsFirst (sign_text b ++ decimal n) bs → (get_or bs 0 0 == 45) ≡ b
      go true s = ap (λ l. get_or l 0 0 == 45) s.whole
      go false s =
          let r = first_digit (decimal n) numeral in
          let head : get_or bs 0 0 ≡ get_or (decimal n) 0 0 = ap (λ l. get_or l 0 0) s.whole ∙ get_or-append (decimal n) s.rest 0 0 numeral.0 in
          ne_eqb (get_or bs 0 0) 45 (λ e. omega (arith, r, head, e))

-- ---- the answer at the end

some-is : (a b : ℕ) → Some a ≡ Some b → a ≡ b
some-is a b e = ap (λ (o : Option ℕ). if_some o) e
  where
    if_some : Option ℕ → ℕ
    if_some None = 0
    if_some (Some n) = n

pub found-both : {a b : ℕ} → Some a ≡ Some b → ◌≡◌ {A = Option (ℕ × ℕ)} (Some (a, a)) (Some (b, b))
found-both {a} {b} e = ap both (some-is a b e)
  where
    both : ℕ → Option (ℕ × ℕ)
    both n = Some (n, n)

pub found-none : {A : Type 0} {b : ℕ} → None ≡ Some b → A
found-none e = cc
