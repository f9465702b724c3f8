-- The parts of a decimal's text by their places in the bytes, and digits after others, which are read at once.
use Rattle.std.proofs.Common.{◌≡◌, ℕ, zero, suc, ◌+◌, ◌-◌, ◌*◌, ◌^◌, ◌<◌, ◌≤◌, Bool, true, false, ◌==◌, if◌then◌else◌, List, [], ◌∷◌, ◌++◌, length, take, drop, get_or, slice_range, Some, inl, inr, refl, sym, ap, subst, ◌∙◌, arith, append_assoc, length-drop}
use Rattle.std.specs.Fmt.{decimal, sign_text}
use Rattle.std.specs.Char.{digit_value}
use Rattle.std.specs.Str.Parse.{IsNumeral, AllDigits, digits_value, digits_value_after}
use Rattle.std.proofs.lemmas.Int.Digits.{digits_value-lt}
use Rattle.std.proofs.lemmas.List.{append-nil, drop_more, take_more, get_or-drop, get_or-take, length-take-le, drop-drop}
use Rattle.std.proofs.Math.Seq.{take-add}
use Rattle.std.proofs.Math.Nat.{mul-le-mul, le-mul_of_pos_right, pow-le-pow_right, mul-le-mul_right}
use Rattle.std.proofs.lemmas.Bool.{cases_eq}
use Rattle.std.proofs.lemmas.Nat.{pow-add}
use borrow.Author.Tests.{eqb-true, ne_eqb}
use Rattle.wkt_num.specs.Bytes.{class_of, Run, AllRun}
use Rattle.wkt_num.specs.Number.{IsNumberText, StopsRun, KeepsText}
use Rattle.wkt_num.specs.WholeLaws.{digits_are_run, point_run, minus_run}
use Rattle.wkt_num.specs.Decimal.{read_magnitude, read_decimal, magnitude_text, decimal_text, fraction_digits, fraction_text, zeros}
use Rattle.wkt_num.specs.DecimalLaws.{first_of, run_append, number_first, ten_pos, after_split}
use Rattle.wkt_num.specs.DigitParts.{IsWholePart, IsPlainDecimal, HasZeros}
use Rattle.wkt_num.proofs.TextInsideText.{digits-suc, Shown, decimal-is, fraction-is, magnitude-is, reads-fraction, reads-whole, signed, value-less, value-some, value-low, digit-is, digits-zeros, fits-within}

-- The parts of a decimal's text by their places in the bytes.

-- ---- places in a list

pub take-range : (bs : List ℕ) (i j : ℕ) → i ≤ j → take j bs ≡ take i bs ++ slice_range bs i j
take-range bs i j h = ap (λ (n : ℕ). take n bs) {x = j} {y = i + (j - i)} (omega arith) ∙ take-add i (j - i) bs

pub length-range : (bs : List ℕ) (i j : ℕ) → i ≤ j → j ≤ length bs → length (slice_range bs i j) ≡ j - i
length-range bs i j h k = length-take-le (j - i) (drop i bs) (omega (arith, length-drop i bs))

pub first-range : (bs : List ℕ) (i j : ℕ) → i < j → get_or (slice_range bs i j) 0 0 ≡ get_or bs i 0
first-range bs i j h = get_or-take (j - i) (drop i bs) 0 0 (omega arith) ∙ get_or-drop i bs 0 0 ∙ ap (λ (n : ℕ). get_or bs n 0) {x = i + 0} {y = i} (omega arith)

-- a range by its first byte
range-first : (bs : List ℕ) (i j : ℕ) → i < j → j ≤ length bs → slice_range bs i j ≡ get_or bs i 0 ∷ slice_range bs (i + 1) j
range-first bs i j h k =
    ap (take (j - i)) (drop_more bs i 0 (omega arith))
    ∙ ap (λ (n : ℕ). take n (get_or bs i 0 ∷ drop (i + 1) bs)) {x = j - i} {y = suc (j - (i + 1))} (omega arith)

-- one zero more
pub zero_more : (bs : List ℕ) (kept end : ℕ) → 0 < kept → kept ≤ end → end ≤ length bs → get_or bs (kept - 1) 0 ≡ 48 → slice_range bs kept end ≡ zeros (end - kept) → slice_range bs (kept - 1) end ≡ zeros (end - (kept - 1))
zero_more bs kept end some h k is before =
    range-first bs (kept - 1) end (omega arith) k
    ∙ ap (λ b. b ∷ slice_range bs (kept - 1 + 1) end) is
    ∙ ap (λ (n : ℕ). 48 ∷ slice_range bs n end) {x = kept - 1 + 1} {y = kept} (omega arith)
    ∙ ap (λ l. 48 ∷ l) before
    ∙ ap zeros {x = suc (end - kept)} {y = end - (kept - 1)} (omega arith)

pub stops-at : (bs : List ℕ) (end : ℕ) → (end < length bs → class_of (get_or bs end 0) ≡ Run → ⊥) → StopsRun (drop end bs)
stops-at [] zero h = tt
stops-at [] (suc end) h = tt
stops-at (b ∷ bs) zero h = h (omega arith)
stops-at (b ∷ bs) (suc end) h = stops-at bs end (λ k. h (omega (arith, k)))

-- two ranges side by side
pub range-split : (bs : List ℕ) (i j k : ℕ) → i ≤ j → j ≤ k → slice_range bs i k ≡ slice_range bs i j ++ slice_range bs j k
range-split bs i j k h l =
    ap (λ (n : ℕ). take n (drop i bs)) {x = k - i} {y = j - i + (k - j)} (omega arith)
    ∙ take-add (j - i) (k - j) (drop i bs)
    ∙ ap (λ r. slice_range bs i j ++ take (k - j) r) (drop-drop (j - i) i bs)
    ∙ ap (λ (n : ℕ). slice_range bs i j ++ take (k - j) (drop n bs)) {x = i + (j - i)} {y = j} (omega arith)

-- ---- digits

pub digits-parts : (xs ys : List ℕ) → AllDigits 10 (xs ++ ys) → AllDigits 10 xs × AllDigits 10 ys
digits-parts [] ys h = (tt, h)
digits-parts (x ∷ xs) ys h = let more = digits-parts xs ys h.1 in ((h.0, more.0), more.1)

positive : (b : ℕ) → (b ≡ 48 → ⊥) → digit_value b < 10 → 0 < digit_value b
positive b other digit = omega (arith, digit-is b digit, other)

-- what begins with a digit that isn't 0 is not 0
pub value-first : (ds : List ℕ) → IsNumeral 10 ds → (get_or ds 0 0 ≡ 48 → ⊥) → 0 < digits_value 10 ds
value-first [] h other = absurd (omega (arith, h.0))
value-first (c ∷ cs) h other = let some : 0 < digit_value c = positive c other h.1.0 in omega (arith, some, value-low (0 * 10 + digit_value c) cs)

-- a sign, digits and a rest are one run
pub text-run : (negative : Bool) (ws rest : List ℕ) → IsNumeral 10 ws → AllRun rest → IsNumberText (sign_text negative ++ (ws ++ rest))
text-run true ws rest h run = (refl, (minus_run, run_append ws rest (digits_are_run ws h.1) run))
text-run false ws rest h run = number_first ws rest h run

-- ---- the whole part

module _ (D : ℕ) (bs : List ℕ) (first point : ℕ) (sign : take first bs ≡ sign_text (first == 1)) (whole : IsWholePart D bs first point) where
  abbrev ws : List ℕ
  ws = slice_range bs first point

  abbrev w : ℕ
  w = digits_value 10 ws

  abbrev negative : Bool
  negative = first == 1

  long : length ws ≡ point - first
  long = length-range bs first point (omega (arith, whole.some)) whole.within

  numeral : IsNumeral 10 ws
  numeral = (omega (arith, long, whole.some), whole.digits)

  head : get_or ws 0 0 ≡ get_or bs first 0
  head = first-range bs first point whole.some

  small : w < 10 ^ 20
  small = omega (arith, digits_value-lt 10 ws whole.digits, pow-le-pow_right {n = 10} (omega arith) {i = length ws} {j = 20} (omega (arith, long, whole.few)))

  printed : decimal w ≡ ws
  printed = decimal-is ws numeral (λ e. omega (arith, long, whole.plain (sym head ∙ e))) (omega (arith, small))

  -- the units fit
  fits : (g : ℕ) → g < 10 ^ D → w * 10 ^ D + g < 2 ^ 127
  fits g less =
      let below : w < 10 ^ length ws = digits_value-lt 10 ws whole.digits in
      let one : (w + 1) * 10 ^ D ≤ 10 ^ length ws * 10 ^ D = mul-le-mul_right {m = w + 1} {n = 10 ^ length ws} (10 ^ D) (omega (arith, below)) in
      let two : 10 ^ (length ws + D) ≤ 10 ^ 38 = pow-le-pow_right {n = 10} (omega arith) {i = length ws + D} {j = 38} (omega (arith, long, whole.some, whole.fits)) in
      omega (arith, one, pow-add 10 (length ws) D, two, less)

  -- the number is not 0
  whole-some : (first ≡ 1 → get_or bs first 0 ≡ 48 → ⊥) → (g : ℕ) → negative ≡ true → 0 < w * 10 ^ D + g
  whole-some other g e =
      let some : 0 < w = value-first ws numeral (λ z. other (eqb-true first 1 e) (sym head ∙ z)) in
      omega (arith, some, le-mul_of_pos_right w (ten_pos D))

  -- `rest` follows the whole part
  keeps : (end kept g : ℕ) (rest : List ℕ) → g < 10 ^ D → end ≤ length bs → kept ≤ end → take end bs ≡ sign_text negative ++ (ws ++ rest) → take kept bs ≡ sign_text negative ++ (ws ++ fraction_text D g)
      → AllRun rest → read_magnitude (2 ^ 127) D (ws ++ rest) ≡ Some (w * 10 ^ D + g) → (negative ≡ true → 0 < w * 10 ^ D + g) → (end < length bs → class_of (get_or bs end 0) ≡ Run → ⊥)
      → KeepsText (read_decimal 127 36 D) (decimal_text D) bs end kept
  keeps end kept g rest less within shorter text shows run reads some stops =
      let s : Shown D (sign_text negative ++ (ws ++ rest)) (magnitude_text D negative (w * 10 ^ D + g)) = signed D (w * 10 ^ D + g) negative (ws ++ rest) whole.places (fits g less) some (first_of ws rest numeral) reads in
      record {
        number = s.number;
        within = within;
        shorter = shorter;
        run = subst IsNumberText (sym text) (text-run negative ws rest numeral run);
        stops = stops-at bs end stops;
        reads = ap (read_decimal 127 36 D) text ∙ s.reads;
        text =
            s.shows
            ∙ magnitude-is D w g negative less
            ∙ ap (λ d. sign_text negative ++ d ++ fraction_text D g) printed
            ∙ append_assoc (sign_text negative) ws (fraction_text D g)
            ∙ sym shows;
      }

  to-point : take point bs ≡ sign_text negative ++ (ws ++ [])
  to-point = take-range bs first point (omega (arith, whole.some)) ∙ ap (λ l. l ++ ws) sign ∙ ap (λ l. sign_text negative ++ l) (sym (append-nil ws))

  pub keeps-whole : (first ≡ 1 → get_or bs first 0 ≡ 48 → ⊥) → (point < length bs → class_of (get_or bs point 0) ≡ Run → ⊥) → KeepsText (read_decimal 127 36 D) (decimal_text D) bs point point
  keeps-whole other stops =
      keeps point point 0 [] (ten_pos D) whole.within (omega arith) to-point to-point tt
      (ap (read_magnitude (2 ^ 127) D) (append-nil ws) ∙ reads-whole D ws numeral (omega (arith, fits 0 (ten_pos D))) ∙ ap (λ (n : ℕ). Some n) (omega arith))
      (whole-some other 0) stops

  module _ (end : ℕ) (after : point < end) (within : end ≤ length bs) (is : get_or bs point 0 ≡ 46) (stops : end < length bs → class_of (get_or bs end 0) ≡ Run → ⊥) where
    past-point : (to : ℕ) → point < to → to ≤ end → take to bs ≡ sign_text negative ++ (ws ++ 46 ∷ slice_range bs (point + 1) to)
    past-point to h k =
        let gs : List ℕ = slice_range bs (point + 1) to in
        take-range bs (point + 1) to (omega (arith, h))
        ∙ ap (λ l. l ++ gs) (take_more bs point 0 (omega (arith, after, within)))
        ∙ ap (λ b. take point bs ++ b ∷ [] ++ gs) is
        ∙ append_assoc (take point bs) (46 ∷ []) gs
        ∙ ap (λ l. l ++ 46 ∷ gs) (take-range bs first point (omega (arith, whole.some)) ∙ ap (λ l. l ++ ws) sign)
        ∙ append_assoc (sign_text negative) ws (46 ∷ gs)

    pub keeps-point : HasZeros bs (point + 1) end → (first ≡ 1 → get_or bs first 0 ≡ 48 → ⊥) → KeepsText (read_decimal 127 36 D) (decimal_text D) bs end point
    keeps-point zeroes other =
        let k : ℕ = end - (point + 1) in
        keeps end point 0 (46 ∷ zeros k) (ten_pos D) within (omega (arith, after))
        (past-point end after (omega arith) ∙ ap (λ gs. sign_text negative ++ (ws ++ 46 ∷ gs)) zeroes.zeros)
        to-point
        (point_run, digits_are_run (zeros k) (digits-zeros k))
        (reads-fraction D D k ws [] numeral tt (omega arith) (omega (arith, fits 0 (ten_pos D))) ∙ ap (λ (n : ℕ). Some n) (omega arith))
        (whole-some other 0) stops

    module _ (kept : ℕ) (past : point + 1 < kept) (zeroes : HasZeros bs kept end) (digits : AllDigits 10 (slice_range bs (point + 1) end)) (most : kept - point - 1 ≤ D) where
      abbrev init : List ℕ
      init = slice_range bs (point + 1) (kept - 1)

      abbrev last : ℕ
      last = get_or bs (kept - 1) 0

      abbrev fs : List ℕ
      fs = init ++ last ∷ []

      abbrev a : ℕ
      a = D - (kept - point - 1)

      abbrev g : ℕ
      g = digits_value 10 fs * 10 ^ a

      fraction : slice_range bs (point + 1) kept ≡ fs
      fraction =
          ap (slice_range bs (point + 1)) {x = kept} {y = kept - 1 + 1} (omega (arith, past))
          ∙ digits-suc bs (point + 1) (kept - 1) (omega (arith, past)) (omega (arith, past, zeroes.within, within))

      whole-fraction : slice_range bs (point + 1) end ≡ fs ++ zeros (end - kept)
      whole-fraction = range-split bs (point + 1) kept end (omega (arith, past)) zeroes.within ∙ ap (λ l. l ++ slice_range bs kept end) fraction ∙ ap (λ l. fs ++ l) zeroes.zeros

      all : AllDigits 10 fs
      all = (digits-parts fs (zeros (end - kept)) (subst (AllDigits 10) whole-fraction digits)).0

      last-some : 0 < digit_value last
      last-some = positive last zeroes.last (digits-parts init (last ∷ []) all).1.0

      count : D ≡ length fs + a
      count = omega (arith, ap length fraction, length-range bs (point + 1) kept (omega (arith, past)) (omega (arith, zeroes.within, within)), most, past)

      less : g < 10 ^ D
      less = value-less D a fs all count

      some : 0 < g
      some = omega (arith, value-some init last last-some, le-mul_of_pos_right (digits_value 10 fs) (ten_pos a))

      shown : fraction_text D g ≡ 46 ∷ fs
      shown = ap (λ b. if b then [] else 46 ∷ fraction_digits D g) (ne_eqb g 0 (λ e. omega (arith, e, some))) ∙ ap (λ l. 46 ∷ l) (fraction-is D a init last count all last-some)

      pub keeps-fraction : KeepsText (read_decimal 127 36 D) (decimal_text D) bs end kept
      keeps-fraction =
          keeps end kept g (46 ∷ (fs ++ zeros (end - kept))) less within zeroes.within
          (past-point end after (omega arith) ∙ ap (λ gs. sign_text negative ++ (ws ++ 46 ∷ gs)) whole-fraction)
          (past-point kept (omega (arith, past)) zeroes.within ∙ ap (λ gs. sign_text negative ++ (ws ++ 46 ∷ gs)) fraction ∙ ap (λ gs. sign_text negative ++ (ws ++ gs)) (sym shown))
          (point_run, run_append fs (zeros (end - kept)) (digits_are_run fs all) (digits_are_run (zeros (end - kept)) (digits-zeros (end - kept))))
          (reads-fraction D a (end - kept) ws fs numeral all count (omega (arith, fits g less)))
          (λ _. omega (arith, some)) stops

    -- no zero stands last, and not the point
    pub keeps-all : AllDigits 10 (slice_range bs (point + 1) end) → 48 < get_or bs (end - 1) 0 → end - point - 1 ≤ D → KeepsText (read_decimal 127 36 D) (decimal_text D) bs end end
    keeps-all digits last most = keeps-fraction end past zeroes digits most
      where
        past : point + 1 < end
        past = elim (cases_eq end (point + 1)) [
          | inl e ↦ absurd (omega (arith, last, is, ap (λ (n : ℕ). get_or bs n 0) {x = end - 1} {y = point} (omega (arith, e))))
          | inr ne ↦ omega (arith, after, ne)
        ]

        zeroes : HasZeros bs end end
        zeroes = record {
          within = omega arith;
          zeros = ap (λ (n : ℕ). take n (drop end bs)) {x = end - end} {y = 0} (omega arith) ∙ ap zeros {x = 0} {y = end - end} (omega arith);
          last = λ e. omega (arith, last, e);
        }

-- digits around a point of which no zero stands first or last
pub keeps-plain : (D : ℕ) (bs : List ℕ) (first point end : ℕ) → take first bs ≡ sign_text (first == 1) → first ≤ point → AllDigits 10 (slice_range bs first point)
    → point < end → end ≤ length bs → get_or bs point 0 ≡ 46 → AllDigits 10 (slice_range bs (point + 1) end) → (end < length bs → class_of (get_or bs end 0) ≡ Run → ⊥) → IsPlainDecimal D bs first end
    → KeepsText (read_decimal 127 36 D) (decimal_text D) bs end end
keeps-plain D bs first point end sign order whole after within is digits stops plain =
    keeps-all D bs first point sign part end after within is stops digits plain.last (omega (arith, plain.short, some))
  where
    some : first < point
    some = elim (cases_eq first point) [
      | inl e ↦ absurd (omega (arith, plain.starts, is, ap (λ (n : ℕ). get_or bs n 0) e))
      | inr ne ↦ omega (arith, order, ne)
    ]

    -- the last digit stands behind the point
    past : point + 1 < end
    past = elim (cases_eq end (point + 1)) [
      | inl e ↦ absurd (omega (arith, plain.last, is, ap (λ (n : ℕ). get_or bs n 0) {x = end - 1} {y = point} (omega (arith, e))))
      | inr ne ↦ omega (arith, after, ne)
    ]

    part : IsWholePart D bs first point
    part = record {
      some = some;
      places = plain.places;
      few = omega (arith, plain.short, plain.fits, after);
      fits = omega (arith, plain.fits, past);
      within = omega (arith, after, within);
      digits = whole;
      plain = λ e. absurd (omega (arith, plain.starts, e));
    }

-- Digits after others, which are read at once.

-- a number goes on with these digits, and is below so many
pub record AtOnce (bs : List ℕ) (number all from end : ℕ) : Type 0 where
  pub digits : AllDigits 10 (slice_range bs from end)
  pub value : all ≡ digits_value_after 10 number (slice_range bs from end)
  pub small : all < 10 ^ end
  pub fits : all < 10 ^ 19

pub at-once : (bs : List ℕ) (number fraction ten from count most : ℕ) → from + count ≤ most → most ≤ length bs → most ≤ 18 → number < 10 ^ from → ten ≡ 10 ^ count
    → AllDigits 10 (slice_range bs from (from + count)) → fraction ≡ digits_value 10 (slice_range bs from (from + count))
    → AtOnce bs number (number * ten + fraction) from (from + count)
at-once bs number fraction ten from count most order within few less tens digits is =
    let end : ℕ = from + count in
    let gs : List ℕ = slice_range bs from (from + count) in
    let inside : from + count ≤ length bs = omega (arith, order, within) in
    let long : length gs ≡ count = length-range bs from (from + count) (omega arith) inside ∙ omega arith in
    let value : number * ten + fraction ≡ digits_value_after 10 number gs =
    ap (λ t. number * t + fraction) (tens ∙ ap (λ (n : ℕ). 10 ^ n) (sym long))
    ∙ ap (λ (f : ℕ). number * 10 ^ length gs + f) is
    ∙ sym (after_split number gs) in
    let least : fraction < 10 ^ count = omega (arith, is, digits_value-lt 10 gs digits, ap (λ (n : ℕ). 10 ^ n) long) in
    let one : (number + 1) * ten ≤ 10 ^ from * ten = mul-le-mul_right {m = number + 1} {n = 10 ^ from} ten (omega (arith, less)) in
    let all : 10 ^ from * ten ≡ 10 ^ (from + count) = ap (λ t. 10 ^ from * t) tens ∙ sym (pow-add 10 from count) in
    let small : number * ten + fraction < 10 ^ (from + count) = omega (arith, one, all, least, tens) in
    record {
      digits = digits;
      value = value;
      small = small;
      fits = fits-within _ _ 19 small (omega (arith, order, few));
    }
