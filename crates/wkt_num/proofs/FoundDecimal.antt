-- The text of a decimal that stands first in the bytes is found by its parts.
use Rattle.std.proofs.Common.{◌≡◌, ◌≢◌, ℕ, zero, suc, ◌+◌, ◌-◌, ◌*◌, ◌/◌, ◌%◌, ◌^◌, ◌<◌, ◌≤◌, Bool, true, false, ◌==◌, if◌then◌else◌, List, [], ◌∷◌, ◌++◌, length, take, drop, get_or, slice_range, ℤ, pos, negsuc, Option, Some, inl, inr, refl, sym, ap, subst, ◌∙◌, arith, append_assoc, length-append}
use Rattle.std.specs.Prelude.{unsigned_abs, int_lt}
use Rattle.std.specs.Fmt.{decimal, sign_text}
use Rattle.std.specs.Char.{is_ascii_digit}
use Rattle.std.specs.Str.Parse.{AllDigits}
use Rattle.std.proofs.lemmas.List.{get_or-drop, get_or-take}
use Rattle.std.proofs.lemmas.Bool.{cases_eq}
use Rattle.std.proofs.lemmas.Nat.{pow-add, div-add-mod'}
use Rattle.std.proofs.Math.Seq.{get_or-append_seam}
use Rattle.std.proofs.Math.Nat.{mod-lt, div-lt_iff_lt-mul}
use borrow.Author.Tests.{eqb-true, eqb-false}
use Rattle.wkt_num.specs.Bytes.{class_of, Run}
use Rattle.wkt_num.specs.Decimal.{fraction_digits, fraction_text, magnitude_text, decimal_text, IsShortDecimal, zeros, EndsInDigit}
use Rattle.wkt_num.specs.DecimalLaws.{not_negative, fraction-bytes, ten_pos}
use Rattle.wkt_num.specs.WholeLaws.{point_run}
use Rattle.wkt_num.specs.Number.{StandsFirst}
use Rattle.wkt_num.specs.DigitParts.{IsWholePart, HasZeros, IsFraction, IsDecimalText}
use Rattle.wkt_num.proofs.Printed.{length-padded, pads, last-digit}
use Rattle.wkt_num.proofs.FirstTextFound.{end, end-is, within, stops, minus, sign-is, sign-minus, digits, is-some, is-few, starts, zero-alone, past, seam-range, digit-in, not-both, no-digit, one-end, one-first}

-- ---- the text has these parts

length-fraction : (D g : ℕ) → length (fraction_digits D g) ≤ D
length-fraction D g = let p = pads D g in omega (arith, length-padded D g, ap length p.1, length-append (fraction_digits D g) (zeros p.0))

module _ (D n : ℕ) (negative : Bool) (bs : List ℕ) (few : D ≤ 18) (small : n < 10 ^ 20) where
  wide : n < 10 ^ 64
  wide = omega (arith, small)

  whole-part : (tail : List ℕ) (s : StandsFirst (sign_text negative ++ (decimal n ++ tail)) bs) → IsWholePart D bs (length (sign_text negative)) (length (sign_text negative) + length (decimal n))
  whole-part tail s = record {
    some = is-some n 20 negative tail bs small (omega arith) wide s;
    places = omega (arith, few);
    few = is-few n 20 negative tail bs small (omega arith) wide s;
    fits = omega (arith, few, is-few n 20 negative tail bs small (omega arith) wide s);
    within = omega (arith, within n 20 negative tail bs small (omega arith) wide s, end-is n 20 negative tail bs small (omega arith) wide s);
    digits = digits n 20 negative tail bs small (omega arith) wide s;
    plain = λ z. (zero-alone n 20 negative tail bs small (omega arith) wide s z).1;
  }

  whole-only : (negative ≡ true → 0 < n) → StandsFirst (sign_text negative ++ (decimal n ++ [])) bs → IsDecimalText D bs (length (sign_text negative ++ (decimal n ++ [])))
  whole-only other s = record {
    first = length (sign_text negative);
    point = length (sign_text negative) + length (decimal n);
    minus = minus n 20 negative [] bs small (omega arith) wide s;
    sign = sign-is n 20 negative [] bs small (omega arith) wide s;
    whole = whole-part [] s;
    fraction = inl (omega (arith, end-is n 20 negative [] bs small (omega arith) wide s), λ e z. starts n 20 negative [] bs small (omega arith) wide s (other (sign-minus negative e)) z);
    within = within n 20 negative [] bs small (omega arith) wide s;
    stops = stops n 20 negative [] bs small (omega arith) wide s;
  }

  module _ (g : ℕ) (less : g < 10 ^ D) (some : g ≡ 0 → ⊥) (s : StandsFirst (sign_text negative ++ (decimal n ++ 46 ∷ fraction_digits D g)) bs) where
    abbrev fs : List ℕ
    fs = fraction_digits D g

    abbrev p : ℕ
    p = length (sign_text negative) + length (decimal n)

    abbrev e : ℕ
    e = length (sign_text negative ++ (decimal n ++ 46 ∷ fs))

    last : EndsInDigit fs
    last = last-digit D g less some

    long : length fs ≡ length last.0 + 1
    long = ap length last.2 ∙ length-append last.0 ((48 + last.1) ∷ [])

    ends : e ≡ p + 1 + length fs
    ends = omega (arith, end-is n 20 negative (46 ∷ fs) bs small (omega arith) wide s)

    abbrev front : List ℕ
    front = (sign_text negative ++ decimal n) ++ 46 ∷ []

    front-long : length front ≡ p + 1
    front-long = omega (arith, length-append (sign_text negative ++ decimal n) (46 ∷ []), length-append (sign_text negative) (decimal n))

    flat : bs ≡ front ++ (fs ++ s.rest)
    flat =
        s.whole
        ∙ ap (λ l. l ++ s.rest) (sym (append_assoc (sign_text negative) (decimal n) (46 ∷ fs)) ∙ sym (append_assoc (sign_text negative ++ decimal n) (46 ∷ []) fs))
        ∙ append_assoc front fs s.rest

    range : slice_range bs (p + 1) e ≡ fs
    range =
        ap (slice_range bs (p + 1)) {x = e} {y = p + 1 + length fs} ends
        ∙ ap (λ (k : ℕ). slice_range bs k (k + length fs)) {x = p + 1} {y = length front} (sym front-long)
        ∙ ap (λ l. slice_range l (length front) (length front + length fs)) flat
        ∙ seam-range front fs s.rest

    last-byte : get_or bs (e - 1) 0 ≡ 48 + last.1
    last-byte =
        ap (λ (k : ℕ). get_or bs k 0) {x = e - 1} {y = p + 1 + length last.0} (omega (arith, ends, long))
        ∙ sym (get_or-drop (p + 1) bs (length last.0) 0)
        ∙ sym (get_or-take (e - (p + 1)) (drop (p + 1) bs) (length last.0) 0 (omega (arith, ends, long)))
        ∙ ap (λ l. get_or l (length last.0) 0) (range ∙ last.2)
        ∙ get_or-append_seam last.0 (48 + last.1) [] 0

    is-fraction : IsFraction D bs p e
    is-fraction = record {
      is = past n 20 negative (46 ∷ fs) bs small (omega arith) wide s;
      some = omega (arith, ends, long);
      few = omega (arith, ends, length-fraction D g);
      digits = subst (AllDigits 10) (sym range) (fraction-bytes D g less);
      last = λ z. omega (arith, last-byte, z, last.3);
    }

    with-fraction : IsDecimalText D bs e
    with-fraction = record {
      first = length (sign_text negative);
      point = p;
      minus = minus n 20 negative (46 ∷ fs) bs small (omega arith) wide s;
      sign = sign-is n 20 negative (46 ∷ fs) bs small (omega arith) wide s;
      whole = whole-part (46 ∷ fs) s;
      fraction = inr is-fraction;
      within = within n 20 negative (46 ∷ fs) bs small (omega arith) wide s;
      stops = stops n 20 negative (46 ∷ fs) bs small (omega arith) wide s;
    }

magnitude-parts : (D m : ℕ) (negative : Bool) (bs : List ℕ) → D ≤ 18 → m < 10 ^ (20 + D) → (negative ≡ true → 0 < m) → StandsFirst (magnitude_text D negative m) bs → IsDecimalText D bs (length (magnitude_text D negative m))
magnitude-parts D m negative bs few fits other stands =
    subst (λ (l : List ℕ). StandsFirst l bs → IsDecimalText D bs (length l)) (sym (append_assoc (sign_text negative) (decimal (m / 10 ^ D)) (fraction_text D (m % 10 ^ D)))) (go (m % 10 ^ D == 0) refl) stands
  where
    small : m / 10 ^ D < 10 ^ 20
    small = (div-lt_iff_lt-mul (ten_pos D)).1 (omega (arith, fits, pow-add 10 20 D))

    split : m / 10 ^ D * 10 ^ D + m % 10 ^ D ≡ m
    split = div-add-mod' m (10 ^ D)

    some : m % 10 ^ D ≡ 0 → negative ≡ true → 0 < m / 10 ^ D
    some z n = elim (m / 10 ^ D == 0) as (λ b. (m / 10 ^ D == 0) ≡ b → 0 < m / 10 ^ D) [
      | true ↦ λ t.
          let all : m ≡ 0 * 10 ^ D + m % 10 ^ D = sym split ∙ ap (λ d. d * 10 ^ D + m % 10 ^ D) (eqb-true (m / 10 ^ D) 0 t) in
          absurd (omega (arith, other n, all, z))
      | false ↦ λ t. omega (arith, eqb-false (m / 10 ^ D) 0 t)
    ] refl

    go : (b : Bool) → (m % 10 ^ D == 0) ≡ b → StandsFirst (sign_text negative ++ (decimal (m / 10 ^ D) ++ (if b then [] else 46 ∷ fraction_digits D (m % 10 ^ D)))) bs
        → IsDecimalText D bs (length (sign_text negative ++ (decimal (m / 10 ^ D) ++ (if b then [] else 46 ∷ fraction_digits D (m % 10 ^ D)))))
    go true e s = whole-only D (m / 10 ^ D) negative bs few small (some (eqb-true (m % 10 ^ D) 0 e)) s
    go false e s = with-fraction D (m / 10 ^ D) negative bs few small (m % 10 ^ D) (mod-lt m (ten_pos D)) (eqb-false (m % 10 ^ D) 0 e) s

pub decimal-parts : (D : ℕ) (u : ℤ) (bs : List ℕ) → IsShortDecimal D u → StandsFirst (decimal_text D u) bs → IsDecimalText D bs (length (decimal_text D u))
decimal-parts D u bs short stands = magnitude-parts D (unsigned_abs u) (int_lt u (pos 0)) bs short.0 short.1 (other u) stands
  where
    other : (x : ℤ) → int_lt x (pos 0) ≡ true → 0 < unsigned_abs x
    other (pos n) e = not-both (int_lt (pos n) (pos 0)) e (not_negative n)
    other (negsuc n) e = omega arith

-- ---- the parts are found

module _ (D : ℕ) (bs : List ℕ) (end first : ℕ) (t : IsDecimalText D bs end) (minus : first ≤ 1) (sign : take first bs ≡ sign_text (first == 1)) (none : first ≡ 0 → get_or bs 0 0 ≡ 45 → ⊥) where
  first-is : t.first ≡ first
  first-is = sym (one-first bs first t.first minus sign none t.minus t.sign (digit-in bs t.first t.point t.first t.whole.digits t.whole.within (omega arith) t.whole.some))

  pub whole-is : IsWholePart D bs first t.point
  whole-is = subst (λ (k : ℕ). IsWholePart D bs k t.point) first-is t.whole

  -- the byte behind the whole part
  point-stops : t.point < length bs → is_ascii_digit (get_or bs t.point 0) ≡ false
  point-stops h = elim t.fraction [
    | inl w ↦ no-digit (get_or bs t.point 0) (subst (λ (k : ℕ). k < length bs → class_of (get_or bs k 0) ≡ Run → ⊥) w.0 t.stops h)
    | inr f ↦ ap is_ascii_digit f.is
  ]

  pub point-is : (at : ℕ) → first ≤ at → at ≤ length bs → AllDigits 10 (slice_range bs first at) → (at < length bs → is_ascii_digit (get_or bs at 0) ≡ false) → at ≡ t.point
  point-is at h k ds stop = one-end bs first at t.point h (omega (arith, whole-is.some)) k t.whole.within ds whole-is.digits stop point-stops

  -- it ends where not all is digits
  pub point-ends : (to : ℕ) → t.point < to → to ≤ length bs → ((at : ℕ) → first ≤ at → at < to → is_ascii_digit (get_or bs at 0) ≡ true) → ⊥
  point-ends to h k all = not-both (is_ascii_digit (get_or bs t.point 0)) (all t.point (omega (arith, whole-is.some)) h) (point-stops (omega (arith, h, k)))

  pub point-low : t.point ≤ end
  point-low = elim t.fraction [
    | inl w ↦ omega (arith, w.0)
    | inr f ↦ omega (arith, f.some)
  ]

  -- no point stands there: this is all, and no minus before a zero
  pub all-whole : (t.point < length bs → get_or bs t.point 0 ≡ 46 → ⊥) → (end ≡ t.point) × (first ≡ 1 → get_or bs first 0 ≢ 48)
  all-whole other = elim t.fraction [
    | inl w ↦ (w.0, subst (λ (k : ℕ). k ≡ 1 → get_or bs k 0 ≡ 48 → ⊥) first-is w.1)
    | inr f ↦ absurd (other (omega (arith, f.some, t.within)) f.is)
  ]

  -- a point stands there
  pub has-fraction : t.point < length bs → get_or bs t.point 0 ≡ 46 → IsFraction D bs t.point end
  has-fraction h is = elim t.fraction [
    | inl w ↦ absurd (subst (λ (k : ℕ). k < length bs → class_of (get_or bs k 0) ≡ Run → ⊥) w.0 t.stops h (ap class_of is ∙ point_run))
    | inr f ↦ f
  ]

  module _ (h : t.point < length bs) (is : get_or bs t.point 0 ≡ 46) where
    abbrev f : IsFraction D bs t.point end
    f = has-fraction h is

    pub end-found : (at : ℕ) → t.point + 1 ≤ at → at ≤ length bs → AllDigits 10 (slice_range bs (t.point + 1) at) → (at < length bs → is_ascii_digit (get_or bs at 0) ≡ false) → at ≡ end
    end-found at low k ds stop = one-end bs (t.point + 1) at end low (omega (arith, f.some)) k t.within ds f.digits stop (λ l. no-digit (get_or bs end 0) (t.stops l))

    pub end-ends : (to : ℕ) → end < to → to ≤ length bs → ((at : ℕ) → t.point + 1 ≤ at → at < to → is_ascii_digit (get_or bs at 0) ≡ true) → ⊥
    end-ends to low k all = not-both (is_ascii_digit (get_or bs end 0)) (all end (omega (arith, f.some)) low) (no-digit (get_or bs end 0) (t.stops (omega (arith, low, k))))

  -- what is known where the digits after the sign end at a place
  pub record Met (at : ℕ) : Type 0 where
    pub same : at ≡ t.point
    pub whole : IsWholePart D bs first at
    pub alone : (at < length bs → get_or bs at 0 ≡ 46 → ⊥) → (at ≡ end) × (first ≡ 1 → get_or bs first 0 ≢ 48)

  pub met : (at : ℕ) → first ≤ at → at ≤ length bs → AllDigits 10 (slice_range bs first at) → (at < length bs → is_ascii_digit (get_or bs at 0) ≡ false) → Met at
  met at low high digits stops =
      let same : at ≡ t.point = point-is at low high digits stops in
      record {
        same = same;
        whole = subst (IsWholePart D bs first) (sym same) whole-is;
        alone = λ other. let all = all-whole (subst (λ (n : ℕ). n < length bs → get_or bs n 0 ≡ 46 → ⊥) same other) in (same ∙ sym all.0, all.1);
      }

  -- and behind a point there
  pub passed : (at : ℕ) → Met at → at < length bs → get_or bs at 0 ≡ 46 → IsFraction D bs at end
  passed at m inside is = subst (λ (n : ℕ). IsFraction D bs n end) (sym m.same) (has-fraction (omega (arith, m.same, inside)) (subst (λ (n : ℕ). get_or bs n 0 ≡ 46) m.same is))

  -- the digits of the fraction end with the text
  pub ended : (at to : ℕ) → (m : Met at) → at < length bs → get_or bs at 0 ≡ 46 → at + 1 ≤ to → to ≤ length bs → AllDigits 10 (slice_range bs (at + 1) to)
      → (to < length bs → is_ascii_digit (get_or bs to 0) ≡ false) → to ≡ end
  ended at to m inside is low high digits stops =
      end-found (omega (arith, m.same, inside)) (subst (λ (n : ℕ). get_or bs n 0 ≡ 46) m.same is) to (omega (arith, m.same, low)) high
      (subst (λ (n : ℕ). AllDigits 10 (slice_range bs (n + 1) to)) m.same digits) stops

-- ---- no zeros stand last

zeros-at : (m k : ℕ) → k < m → get_or (zeros m) k 0 ≡ 48
zeros-at zero k h = absurd (omega (arith, h))
zeros-at (suc m) zero h = refl
zeros-at (suc m) (suc k) h = zeros-at m k (omega (arith, h))

pub no-zeros : (bs : List ℕ) (kept end : ℕ) → end ≤ length bs → HasZeros bs kept end → get_or bs (end - 1) 0 ≢ 48 → kept ≡ end
no-zeros bs kept end within z last = elim (cases_eq kept end) [
  | inl e ↦ e
  | inr ne ↦ absurd (last (
      ap (λ (k : ℕ). get_or bs k 0) {x = end - 1} {y = kept + (end - 1 - kept)} (omega (arith, z.within, ne))
      ∙ sym (get_or-drop kept bs (end - 1 - kept) 0)
      ∙ sym (get_or-take (end - kept) (drop kept bs) (end - 1 - kept) 0 (omega (arith, z.within, ne)))
      ∙ ap (λ l. get_or l (end - 1 - kept) 0) z.zeros
      ∙ zeros-at (end - kept) (end - 1 - kept) (omega (arith, z.within, ne))))
]

pub found-same : (at to : ℕ) → at ≡ to → ◌≡◌ {A = Option (ℕ × ℕ)} (Some (at, at)) (Some (to, to))
found-same at to e = ap both e
  where
    both : ℕ → Option (ℕ × ℕ)
    both k = Some (k, k)

pub found-end : (end : ℕ) {kept : ℕ} → kept ≡ end → ◌≡◌ {A = Option (ℕ × ℕ)} (Some (end, kept)) (Some (end, end))
found-end end e = ap at e
  where
    at : ℕ → Option (ℕ × ℕ)
    at k = Some (end, k)
