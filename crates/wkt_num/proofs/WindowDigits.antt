-- The digits in a window of bytes, where a run of them stops, and a whole number that keeps its text.
use Rattle.std.proofs.Common.{◌≡◌, ℕ, zero, suc, ◌<◌, Bool, true, false, ◌&&◌, ◌==◌, refl, subst, arith, sym, List, ◌∷◌, ◌++◌, get_or, replicate, ap, ◌∙◌, inl, inr, ◌+◌, ◌-◌, ◌*◌, ◌/◌, ◌%◌, ◌^◌, ◌≤◌, cond, min, nat_lt, bit_and, [], length, take, drop, map, slice_range, Fits, w8, slice_index_or}
use Rattle.std.specs.Prelude.{not}
use Rattle.std.specs.Bool.{MatchBool}
use Rattle.std.proofs.lemmas.Bool.{cases_eq, le-ltb}
use Rattle.std.specs.List.{prefix_len}
use Rattle.std.specs.Fmt.{sign_text, decimal}
use Rattle.std.specs.Int.{IsInRange}
use Rattle.std.specs.Char.{is_ascii_digit}
use Rattle.std.specs.Str.Parse.{AllDigits, IsNumeral, digits_value}
use Rattle.std.specs.Int.Bits.{and_self}
use Rattle.std.proofs.lemmas.Bool.Decides.{nat_tests}
use Rattle.std.proofs.lemmas.List.{length-take-le, length-map, take-take, drop-take, get_or-take, map-id, append-nil}
use Rattle.std.proofs.lemmas.Simd.{chunk-fits, trailing_mask_l, zip2_splat, map-map}
use Rattle.std.proofs.lemmas.Int.Digits.{digits_value-lt}
use Rattle.std.proofs.Math.Nat.{pow-le-pow_right}
use borrow.Author.Tests.{eqb-true, eqb-false, ltb-false, ne_eqb, eq-eqb}
use lib.Bits.{and_step}
use lib.Count.{count_trailing_zeros}
use lib.Lanes.{zip2, Each1, chunk, mask_l, top}
use mir.Val.{bits, hbits}
use Rattle.wkt_num.specs.WholeLaws.{both_true, first_digit}
use Rattle.wkt_num.specs.Bytes.{Class, Nul, White, Mark, Run, class_of}
use Rattle.wkt_num.specs.declared.powers.TheConstants.{FIVES, TENS}
use Rattle.wkt_num.specs.DigitParts.{is_other, bits_from, others_mask, IsFirstOther, IsWholeText}
use Rattle.wkt_num.proofs.DigitLanes.{over-mask, byte-digit}
use Rattle.wkt_num.specs.Number.{IsNumberText, KeepsText}
use Rattle.wkt_num.specs.Whole.{WholeForm, IsWholeForm}
use Rattle.wkt_num.proofs.TextInsideText.{decimal-is}
use Rattle.wkt_num.proofs.FirstTextFound.{first-of}
use Rattle.wkt_num.proofs.DecimalParts.{take-range, length-range, first-range, stops-at, text-run, value-first}

-- Facts of each number below a bound, by computing them.

-- the test is true of each number below n
abbrev pub all_below : (ℕ → Bool) → ℕ → Bool
all_below test zero = true
all_below test (suc n) = test n && all_below test n

pub below-all : (test : ℕ → Bool) (n k : ℕ) → all_below test n ≡ true → k < n → test k ≡ true
below-all test zero k e h = absurd (omega arith)
below-all test (suc n) k e h =
    let both = both_true (test n) (all_below test n) e in
    elim (k == n) as (λ b. (k == n) ≡ b → test k ≡ true) [
      | true ↦ λ f. subst (λ (i : ℕ). test i ≡ true) (sym (eqb-true k n f)) both.0
      | false ↦ λ f. below-all test n k both.1 (omega (arith, h, eqb-false k n f))
    ] refl

-- Each row of a table is that power, by computing all of them.

pub fives : (k : ℕ) → k ≤ 18 → slice_index_or FIVES k 0 ≡ 5 ^ k
fives k h = eqb-true _ _ (below-all (λ k. slice_index_or FIVES k 0 == 5 ^ k) 19 k refl (omega (arith, h)))

pub tens : (k : ℕ) → k ≤ 18 → slice_index_or TENS k 0 ≡ 10 ^ k
tens k h = eqb-true _ _ (below-all (λ k. slice_index_or TENS k 0 == 10 ^ k) 19 k refl (omega (arith, h)))

-- The bytes that are no parts of a run.

abbrev is_run : Class → Bool
is_run Nul = false
is_run White = false
is_run (Mark l) = false
is_run Run = true

abbrev same : Bool → Bool → Bool
same true b = b
same false true = false
same false false = true

same-is : (a b : Bool) → same a b ≡ true → a ≡ b
same-is true b e = sym e
same-is false true e = cc
same-is false false e = refl

-- the bytes that are no parts of a run
abbrev pub stops : List ℕ
stops = 1 ∷ (replicate 8 0 ++ (1 ∷ 1 ∷ 0 ∷ 0 ∷ 1 ∷ (replicate 18 0 ++ (1 ∷ (replicate 7 0 ++ (1 ∷ 1 ∷ 0 ∷ 0 ∷ 1 ∷ replicate 211 0))))))

abbrev is_clear : ℕ → Bool
is_clear b = get_or stops b 0 == 0

-- the table is right for each byte below n
abbrev all_report : ℕ → Bool
all_report zero = true
all_report (suc n) = same (is_clear n) (is_run (class_of n)) && all_report n

all-report : all_report 256 ≡ true
unfolding class_of
all-report = refl

reports : (n b : ℕ) → b < n → all_report n ≡ true → is_clear b ≡ is_run (class_of b)
reports zero b h e = absurd (omega (arith, h))
reports (suc n) b h e = let p = both_true (same (is_clear n) (is_run (class_of n))) (all_report n) e in elim (cases_eq b n) [
  | inl i ↦ ap is_clear i ∙ same-is (is_clear n) (is_run (class_of n)) p.0 ∙ ap (λ (k : ℕ). is_run (class_of k)) (sym i)
  | inr i ↦ reports n b (omega (arith, h, i)) p.1
]

run-is : (c : Class) → is_run c ≡ true → c ≡ Run
run-is Nul e = cc
run-is White e = cc
run-is (Mark l) e = cc
run-is Run e = refl

pub table-reports : (b : ℕ) → b < 256 → MatchBool (is_clear b) (class_of b ≡ Run) (class_of b ≡ Run → ⊥)
table-reports b h = go (is_clear b) (reports 256 b h all-report)
  where
    go : (t : Bool) → t ≡ is_run (class_of b) → MatchBool t (class_of b ≡ Run) (class_of b ≡ Run → ⊥)
    go true e = run-is (class_of b) (sym e)
    go false e = λ r. let f : false ≡ true = e ∙ ap is_run r in cc

pub ruleset table_reports = table-reports

-- The digits in a window of bytes.

-- ---- a mask without its lowest bit

abbrev without_first : List Bool → List Bool
without_first [] = []
without_first (true ∷ ms) = false ∷ ms
without_first (false ∷ ms) = false ∷ without_first ms

-- how many bits stand below the first that is set
abbrev zeros_below : List Bool → ℕ
zeros_below ms = prefix_len (λ b. not b) ms

less-and : (ms : List Bool) → 0 < mask_l ms → bit_and (mask_l ms) (mask_l ms - 1) ≡ mask_l (without_first ms)
less-and [] some = absurd (omega (arith, some))
less-and (true ∷ ms) some =
    let m : ℕ = mask_l ms in
    and_step (1 + 2 * m) (1 + 2 * m - 1)
    ∙ ap (λ (n : ℕ). bit_and n ((1 + 2 * m - 1) / 2) * 2 + min ((1 + 2 * m) % 2) ((1 + 2 * m - 1) % 2)) {x = (1 + 2 * m) / 2} {y = m} (omega arith)
    ∙ ap (λ (n : ℕ). bit_and m n * 2 + min ((1 + 2 * m) % 2) ((1 + 2 * m - 1) % 2)) {x = (1 + 2 * m - 1) / 2} {y = m} (omega arith)
    ∙ omega (arith, and_self m)
less-and (false ∷ ms) some =
    let m : ℕ = mask_l ms in
    and_step (0 + 2 * m) (0 + 2 * m - 1)
    ∙ ap (λ (n : ℕ). bit_and n ((0 + 2 * m - 1) / 2) * 2 + min ((0 + 2 * m) % 2) ((0 + 2 * m - 1) % 2)) {x = (0 + 2 * m) / 2} {y = m} (omega arith)
    ∙ ap (λ (n : ℕ). bit_and m n * 2 + min ((0 + 2 * m) % 2) ((0 + 2 * m - 1) % 2)) {x = (0 + 2 * m - 1) / 2} {y = m - 1} (omega (arith, some))
    ∙ omega (arith, less-and ms (omega (arith, some)))

-- what is left of the bits from a place on
next-bits : (i : ℕ) (ms : List Bool) → 0 < mask_l (bits_from i ms) → without_first (bits_from i ms) ≡ bits_from (zeros_below (bits_from i ms) + 1) ms
next-bits zero [] some = absurd (omega (arith, some))
next-bits zero (true ∷ ms) some = ap (λ (n : ℕ). bits_from n (true ∷ ms)) {x = 1} {y = 0 + 1} (omega arith)
next-bits zero (false ∷ ms) some =
    ap (λ l. false ∷ l) (next-bits zero ms (omega (arith, some)))
    ∙ ap (λ (n : ℕ). bits_from n (false ∷ ms)) {x = suc (zeros_below ms + 1)} {y = 1 + zeros_below ms + 1} (omega arith)
next-bits (suc i) [] some = absurd (omega (arith, some))
next-bits (suc i) (m ∷ ms) some =
    ap (λ l. false ∷ l) (next-bits i ms (omega (arith, some)))
    ∙ ap (λ (n : ℕ). bits_from n (m ∷ ms)) {x = suc (zeros_below (bits_from i ms) + 1)} {y = 1 + zeros_below (bits_from i ms) + 1} (omega arith)

-- ---- the bytes before the first that is no digit

pub record Digits (xs : List ℕ) (from at : ℕ) : Type 0 where
  pub order : from ≤ at
  pub within : at < length xs
  pub digits : AllDigits 10 (slice_range xs from at)

-- one byte more in front
digits-next : (x : ℕ) (xs : List ℕ) (from at : ℕ) → Digits xs from at → Digits (x ∷ xs) (suc from) (1 + at)
digits-next x xs from at d = record {
  order = omega (arith, d.order);
  within = omega (arith, d.within);
  digits = subst (λ (n : ℕ). AllDigits 10 (take n (drop from xs))) {x = at - from} {y = 1 + at - suc from} (omega arith) d.digits;
}

digits-one : (x : ℕ) (xs : List ℕ) (at : ℕ) → x < 256 → is_other x ≡ false → Digits xs 0 at → Digits (x ∷ xs) 0 (1 + at)
digits-one x xs at byte e d = record {
  order = omega arith;
  within = omega (arith, d.within);
  digits = subst (λ (n : ℕ). AllDigits 10 (take n (x ∷ xs))) {x = suc (at - 0)} {y = 1 + at - 0} (omega arith) ((byte-digit x byte (ltb-false 9 ((x + 208) % 256) e)).1, d.digits);
}

digits-below : (from : ℕ) (xs : List ℕ) → Each1 (Fits w8) xs → 0 < mask_l (bits_from from (map is_other xs)) → Digits xs from (zeros_below (bits_from from (map is_other xs)))
digits-below zero [] f some = absurd (omega (arith, some))
digits-below zero (x ∷ xs) f some = go (is_other x) refl some (digits-below zero xs f.1)
  where
    go : (b : Bool) → is_other x ≡ b → 0 < cond b 1 0 + 2 * mask_l (map is_other xs) → (0 < mask_l (map is_other xs) → Digits xs 0 (zeros_below (map is_other xs))) → Digits (x ∷ xs) 0 (cond (not b) (1 + zeros_below (map is_other xs)) 0)
    go true e some more = record { order = omega arith; within = omega arith; digits = subst (λ (n : ℕ). AllDigits 10 (take n (x ∷ xs))) {x = 0} {y = 0 - 0} (omega arith) tt }
    go false e some more = digits-one x xs (zeros_below (map is_other xs)) f.0.fits e (more (omega (arith, some)))
digits-below (suc i) [] f some = absurd (omega (arith, some))
digits-below (suc i) (x ∷ xs) f some = digits-next x xs i _ (digits-below i xs f.1 (omega (arith, some)))

-- the byte of the lowest bit is no digit
byte-test : (b : ℕ) → b < 256 → (is_ascii_digit b ≡ true → is_other b ≡ false) × (is_other b ≡ false → is_ascii_digit b ≡ true)
byte-test b byte = (
  λ e. let r = range e in le-ltb 9 ((b + 208) % 256) (omega (arith, byte, r)),
  λ e. let k = ltb-false 9 ((b + 208) % 256) e in test (omega (arith, byte, k)) (omega (arith, byte, k)),
)
  where
    range : is_ascii_digit b ≡ true → (48 ≤ b) × (b ≤ 57)
    range e = (grind (arith, nat_tests), grind (arith, nat_tests))

    test : 48 ≤ b → b ≤ 57 → is_ascii_digit b ≡ true
    test low high = grind (arith, nat_tests)

byte-other : (b : ℕ) → b < 256 → is_other b ≡ true → is_ascii_digit b ≡ false
byte-other b byte e = go (is_ascii_digit b) refl
  where
    go : (t : Bool) → is_ascii_digit b ≡ t → t ≡ false
    go true f = let g : true ≡ false = sym e ∙ (byte-test b byte).0 f in cc
    go false f = refl

other-below : (from : ℕ) (xs : List ℕ) → Each1 (Fits w8) xs → 0 < mask_l (bits_from from (map is_other xs)) → is_ascii_digit (get_or xs (zeros_below (bits_from from (map is_other xs))) 0) ≡ false
other-below zero [] f some = absurd (omega (arith, some))
other-below zero (x ∷ xs) f some = go (is_other x) refl some (other-below zero xs f.1)
  where
    go : (b : Bool) → is_other x ≡ b → 0 < cond b 1 0 + 2 * mask_l (map is_other xs) → (0 < mask_l (map is_other xs) → is_ascii_digit (get_or xs (zeros_below (map is_other xs)) 0) ≡ false)
        → is_ascii_digit (get_or (x ∷ xs) (cond (not b) (1 + zeros_below (map is_other xs)) 0) 0) ≡ false
    go true e some more = byte-other x f.0.fits e
    go false e some more =
        ap (λ (n : ℕ). is_ascii_digit (get_or (x ∷ xs) n 0)) {x = 1 + zeros_below (map is_other xs)} {y = suc (zeros_below (map is_other xs))} (omega arith)
        ∙ more (omega (arith, some))
other-below (suc i) [] f some = absurd (omega (arith, some))
other-below (suc i) (x ∷ xs) f some =
    ap (λ (n : ℕ). is_ascii_digit (get_or (x ∷ xs) n 0)) {x = 1 + zeros_below (bits_from i (map is_other xs))} {y = suc (zeros_below (bits_from i (map is_other xs)))} (omega arith)
    ∙ other-below i xs f.1 (omega (arith, some))

-- where no bit is set, all are digits
all-below : (from : ℕ) (xs : List ℕ) → Each1 (Fits w8) xs → mask_l (bits_from from (map is_other xs)) ≡ 0 → (at : ℕ) → from ≤ at → at < length xs → is_ascii_digit (get_or xs at 0) ≡ true
all-below from [] f none at h k = absurd (omega (arith, k))
all-below zero (x ∷ xs) f none at h k = go (is_other x) refl none (all-below zero xs f.1) at k
  where
    go : (b : Bool) → is_other x ≡ b → cond b 1 0 + 2 * mask_l (map is_other xs) ≡ 0 → (mask_l (map is_other xs) ≡ 0 → (at : ℕ) → 0 ≤ at → at < length xs → is_ascii_digit (get_or xs at 0) ≡ true)
        → (at : ℕ) → at < length (x ∷ xs) → is_ascii_digit (get_or (x ∷ xs) at 0) ≡ true
    go true e none more at k = absurd (omega (arith, none))
    go false e none more zero k = (byte-test x f.0.fits).1 e
    go false e none more (suc at) k = more (omega (arith, none)) at (omega arith) (omega (arith, k))
all-below (suc i) (x ∷ xs) f none zero h k = absurd (omega (arith, h))
all-below (suc i) (x ∷ xs) f none (suc at) h k = all-below i xs f.1 (omega (arith, none)) at (omega (arith, h)) (omega (arith, k))

length-bits : (i : ℕ) (ms : List Bool) → length (bits_from i ms) ≡ length ms
length-bits zero ms = refl
length-bits (suc i) [] = refl
length-bits (suc i) (m ∷ ms) = ap suc (length-bits i ms)

-- the lowest bit is the place of the first that is no digit
pub is-first : (bs : List ℕ) (from others : ℕ) → ((k : ℕ) → Fits w8 (get_or bs k 0)) → 32 ≤ length bs → others ≡ others_mask bs from → 0 < others → IsFirstOther bs from others (count_trailing_zeros 64 others)
is-first bs from others fits window e some = record {
  order = omega (arith, count, d.order);
  within = omega (arith, count, d.within, long);
  digits = subst (λ (n : ℕ). AllDigits 10 (slice_range bs from n)) (sym count) (subst (AllDigits 10) same d.digits);
  other = ap (λ (n : ℕ). is_ascii_digit (get_or bs n 0)) count ∙ ap is_ascii_digit (sym (get_or-take 32 bs (zeros_below ms) 0 (omega (arith, d.within, long)))) ∙ other-below from xs (chunk-fits w8 0 32 bs fits) some';
  some = some;
  next = ap (λ (n : ℕ). bit_and n (n - 1)) e ∙ less-and ms some' ∙ ap mask_l (next-bits from (map is_other xs) some') ∙ ap (λ (n : ℕ). others_mask bs (n + 1)) (sym count);
}
  where
    xs : List ℕ
    xs = take 32 bs

    ms : List Bool
    ms = bits_from from (map is_other xs)

    long : length xs ≡ 32
    long = length-take-le 32 bs window

    some' : 0 < mask_l ms
    some' = subst (λ n. 0 < n) e some

    d : Digits xs from (zeros_below ms)
    d = digits-below from xs (chunk-fits w8 0 32 bs fits) some'

    all : mask_l (map (λ b. b) ms) ≡ mask_l ms
    all = ap mask_l (map-id ms)

    count : count_trailing_zeros 64 others ≡ zeros_below ms
    count =
        ap (count_trailing_zeros 64) (e ∙ sym all)
        ∙ trailing_mask_l (λ (b : Bool). b) 64 ms (omega (arith, length-bits from (map is_other xs), length-map xs is_other, long)) (subst (λ n. 0 < n) (sym all) some')

    same : slice_range xs from (zeros_below ms) ≡ slice_range bs from (zeros_below ms)
    same =
        ap (λ (n : ℕ). take (zeros_below ms - from) (drop from (take n bs))) {x = 32} {y = from + (32 - from)} (omega (arith, d.order, d.within, long))
        ∙ ap (take (zeros_below ms - from)) (drop-take from (32 - from) bs)
        ∙ take-take (zeros_below ms - from) (32 - from) (drop from bs) (omega (arith, d.within, long))

-- in a window without a bit from a place on, all are digits from there on
pub all-digits : (bs : List ℕ) (from others : ℕ) → ((k : ℕ) → Fits w8 (get_or bs k 0)) → 32 ≤ length bs → others ≡ others_mask bs from → others ≡ 0 → (at : ℕ) → from ≤ at → at < 32 → is_ascii_digit (get_or bs at 0) ≡ true
all-digits bs from others fits window e none at h k =
    ap is_ascii_digit (sym (get_or-take 32 bs at 0 k))
    ∙ all-below from (take 32 bs) (chunk-fits w8 0 32 bs fits) (sym e ∙ none) at h (omega (arith, k, length-take-le 32 bs window))

-- ---- a minus

-- a minus that stands first has the lowest bit
minus-bit : (bs : List ℕ) → 32 ≤ length bs → take 1 bs ≡ 45 ∷ [] → (0 < others_mask bs 0) × (bit_and (others_mask bs 0) (others_mask bs 0 - 1) ≡ others_mask bs 1)
minus-bit [] window sign = absurd (omega (arith, window))
minus-bit (b ∷ bs) window sign =
    let ms : List Bool = map is_other (take 32 (b ∷ bs)) in
    let is : b ≡ 45 = ap (λ (l : List ℕ). get_or l 0 0) sign in
    let front : ms ≡ true ∷ map is_other (take 31 bs) = ap (λ (n : ℕ). is_other n ∷ map is_other (take 31 bs)) is in
    let some : 0 < mask_l ms = subst (λ (l : List Bool). 0 < mask_l l) (sym front) (omega arith) in
    (some, less-and ms some ∙ ap (λ (l : List Bool). mask_l (without_first l)) front)

pub minus-less : (bs : List ℕ) (first all : ℕ) → 32 ≤ length bs → first ≤ 1 → take first bs ≡ sign_text (first == 1) → all ≡ others_mask bs 0 → (first ≤ all) × (bit_and all (all - first) ≡ others_mask bs first)
minus-less bs zero all window minus sign e = (omega arith, ap (bit_and all) {x = all - 0} {y = all} (omega arith) ∙ and_self all ∙ e)
minus-less bs (suc zero) all window minus sign e =
    let m = minus-bit bs window sign in
    (omega (arith, e, m.0), ap (λ (n : ℕ). bit_and n (n - 1)) e ∙ m.1)
minus-less bs (suc (suc n)) all window minus sign e = absurd (omega (arith, minus))

-- ---- what the lanes say

pub mask-of : (bs : List ℕ) → 32 ≤ length bs
    → mask_l (map (top (hbits w8)) (zip2 (λ a b. cond (nat_lt a b) (2 ^ bits w8 - 1) 0) (replicate 32 9) (zip2 (λ a b. (a + (256 - b)) % 256) (chunk 0 32 bs) (replicate 32 48)))) % 2 ^ 64 ≡ others_mask bs 0
mask-of bs window =
    let xs : List ℕ = take 32 bs in
    let long : length xs ≡ 32 = length-take-le 32 bs window in
    let lanes : zip2 (λ a b. (a + (256 - b)) % 256) (chunk 0 32 bs) (replicate 32 48) ≡ map (λ b. (b + 208) % 256) xs = zip2_splat (λ a b. (a + (256 - b)) % 256) xs 32 48 long in
    over-mask 32 _ (ap length lanes ∙ length-map xs (λ b. (b + 208) % 256) ∙ long) (omega arith)
    ∙ ap (λ l. mask_l (map (λ x. nat_lt 9 x) l)) lanes
    ∙ ap mask_l (map-map (λ x. nat_lt 9 x) (λ b. (b + 208) % 256) xs)

pub ruleset mask_of = mask-of

pub ruleset minus_less = minus-less

-- A whole number as it is printed keeps its text.

module _ {T : Type 0} (most : ℕ) (form : WholeForm T) (laws : IsWholeForm most form) (bs : List ℕ) (end : ℕ) (h : IsWholeText most bs end) where
  abbrev ws : List ℕ
  ws = slice_range bs h.first end

  abbrev v : ℕ
  v = digits_value 10 ws

  abbrev negative : Bool
  negative = h.first == 1

  long : length ws ≡ end - h.first
  long = length-range bs h.first end (omega (arith, h.printed.some)) h.within

  numeral : IsNumeral 10 ws
  numeral = (omega (arith, long, h.printed.some), h.digits)

  head : get_or ws 0 0 ≡ get_or bs h.first 0
  head = first-range bs h.first end h.printed.some

  small : v < 10 ^ most
  small = omega (arith, digits_value-lt 10 ws h.digits, pow-le-pow_right {n = 10} (omega arith) {i = length ws} {j = most} (omega (arith, long, h.printed.few)))

  wide : v < 10 ^ 64
  wide = omega (arith, small, laws.wide)

  printed : decimal v ≡ ws
  printed = decimal-is ws numeral (λ e. let p = h.printed.plain (sym head ∙ e) in omega (arith, long, p.0)) wide

  text : take end bs ≡ sign_text negative ++ ws
  text = take-range bs h.first end (omega (arith, h.printed.some)) ∙ ap (λ l. l ++ ws) h.sign

  some : negative ≡ true → 0 < v
  some e = value-first ws numeral (λ z. let p = h.printed.plain (sym head ∙ z) in omega (arith, eqb-true h.first 1 e, p.1))

  -- whether a minus stands first tells the sign
  minus-shown : (get_or bs 0 0 == 45) ≡ negative
  minus-shown = go h.first h.minus h.sign (sym head) (first_digit ws numeral)
    where
      go : (f : ℕ) → f ≤ 1 → take f bs ≡ sign_text (f == 1) → get_or bs f 0 ≡ get_or ws 0 0 → IsInRange 48 57 (get_or ws 0 0) → (get_or bs 0 0 == 45) ≡ (f == 1)
      go zero order s e r = ne_eqb (get_or bs 0 0) 45 (λ z. omega (arith, r, e, z))
      go (suc zero) order s e r = eq-eqb (get_or bs 0 0) 45 (first-of bs s)
      go (suc (suc f)) order s e r = absurd (omega (arith, order))

  pub keeps-number : form.has (get_or bs 0 0 == 45) ≡ true → KeepsText form.read form.num bs end end
  keeps-number has =
      let its : form.has negative ≡ true = ap form.has (sym minus-shown) ∙ has in
      record {
        number = form.of negative v;
        within = h.within;
        shorter = omega arith;
        run = subst IsNumberText (sym text) (subst (λ l. IsNumberText (sign_text negative ++ l)) (append-nil ws) (text-run negative ws [] numeral tt));
        stops = stops-at bs end h.stops;
        reads = ap form.read text ∙ laws.reads_digits negative ws its numeral small;
        text = laws.prints negative v its some ∙ ap (λ l. sign_text negative ++ l) printed ∙ sym text;
      }
