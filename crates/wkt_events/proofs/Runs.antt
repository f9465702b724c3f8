-- Runs of bytes: where they end, and the numbers that they are.
use Rattle.std.proofs.Common.{w8, ◌≡◌, ◌≢◌, ℕ, zero, suc, ◌+◌, ◌-◌, ◌*◌, ◌^◌, ◌%◌, ◌<◌, ◌≤◌, List, [], ◌∷◌, length, get_or, drop, map, slice_range, replicate, refl, sym, ap, ◌∙◌, arith, Bool, true, false, cond, if◌then◌else◌, inl, inr, nat_lt, take, Option, IsTrue, ◌||◌, ◌==◌, subst}
use Rattle.std.specs.Prelude.{not}
use Rattle.std.specs.List.{prefix_len}
use Rattle.std.proofs.lemmas.Bool.{ne_eqb, leb-false, cases_lt, cases_eq, eq-eqb}
use Rattle.std.proofs.lemmas.List.{get_or_past, get_or-drop, get_or-take, length-drop, length-take, length-map, drop-take, drop-drop, length-take-le}
use Rattle.std.proofs.lemmas.Simd.{length-chunk, bitmask_splat, trailing_mask_l, run_in_chunk_fails, tops_compared, zip2_splat_left, mask_l-mod, none_from_empty_mask}
use Rattle.std.specs.Str.{IsAscii}
use Rattle.std.proofs.lemmas.List.Edits.{get_or-between}
use Rattle.std.proofs.lemmas.Bool.Decides.{nat_tests}
use lib.Count.{count_trailing_zeros}
use lib.Dec.{leb}
use lib.Lanes.{chunk, mask_l, top, zip2}
use mir.Val.{bits, hbits}
use borrow.Author.Tests.{ltb-false}
use Rattle.wkt_num.specs.Bytes.{Nul, Run, AllRun, class_of}
use Rattle.wkt_events.specs.Remaining.{low_mask, high_mask, plus_len, IsNumberAt}
use Rattle.wkt_num.specs.Number.{begins_number, IsNumberText, KeepsText, StopsRun}
use Rattle.wkt_read.specs.Lexemes.{starts_number, without_plus}

-- Where a run ends.

-- each byte of a range
all-run : (xs : List ℕ) → ((k : ℕ) → k < length xs → class_of (get_or xs k 0) ≡ Run) → AllRun xs
all-run [] all = tt
all-run (x ∷ xs) all = (all 0 (omega arith), all-run xs (λ k h. all (suc k) (omega (arith, h))))

pub length-range : (text : List ℕ) (from end : ℕ) → from ≤ end → end ≤ length text → length (slice_range text from end) ≡ end - from
length-range text from end order inside = simp (length-take, length-drop) (omega (arith, inside, order))

pub get_or-range : (text : List ℕ) (from end k : ℕ) → k < end - from → get_or (slice_range text from end) k 0 ≡ get_or text (from + k) 0
get_or-range text from end k h = get_or-take (end - from) (drop from text) k 0 h ∙ get_or-drop from text k 0

pub range-run : (text : List ℕ) (from end : ℕ) → from ≤ end → end ≤ length text → ((k : ℕ) → from ≤ k → k < end → class_of (get_or text k 0) ≡ Run) → AllRun (slice_range text from end)
range-run text from end order inside all =
    let count = length-range text from end order inside in
    all-run (slice_range text from end) (λ k h.
    let low : k < end - from = omega (arith, count, h) in
    ap class_of (get_or-range text from end k low) ∙ all (from + k) (omega arith) (omega (arith, low)))

run-each : (xs : List ℕ) (k : ℕ) → k < length xs → AllRun xs → class_of (get_or xs k 0) ≡ Run
run-each [] k h all = absurd (omega (arith, h))
run-each (x ∷ xs) zero h all = all.0
run-each (x ∷ xs) (suc k) h all = run-each xs k (omega (arith, h)) all.1

pub run-byte : (text : List ℕ) (from end k : ℕ) → end ≤ length text → AllRun (slice_range text from end) → from ≤ k → k < end → class_of (get_or text k 0) ≡ Run
run-byte text from end k inside all low high =
    let count = length-range text from end (omega (arith, low, high)) inside in
    let at : from + (k - from) ≡ k = omega (arith, low) in
    ap class_of (ap (λ n. get_or text n 0) (sym at) ∙ sym (get_or-range text from end (k - from) (omega (arith, low, high)))) ∙ run-each (slice_range text from end) (k - from) (omega (arith, count, low, high)) all

-- one byte more
pub run-more : (text : List ℕ) (from at : ℕ) → from ≤ at → at < length text → class_of (get_or text at 0) ≡ Run → AllRun (slice_range text from at) → AllRun (slice_range text from (at + 1))
run-more text from at order inside is all = range-run text from (at + 1) (omega (arith, order)) (omega (arith, inside)) (λ k low high.
    elim (cases_lt k at) [
      | inl h ↦ run-byte text from at k (omega (arith, inside)) all low h
      | inr h ↦ let same : k ≡ at = omega (arith, h, high) in ap (λ n. class_of (get_or text n 0)) same ∙ is
    ])

-- the end of the text is no part of a run
pub past-run : (text : List ℕ) (at : ℕ) → length text ≤ at → class_of (get_or text at 0) ≢ Run
unfolding class_of
past-run text at h e = let nul : Nul ≡ Run = sym (ap class_of (get_or_past text at 0 h)) ∙ e in cc

-- a byte after the last mark is a part of a run
pub late-run : (b : ℕ) → 44 < b → class_of b ≡ Run
unfolding class_of
late-run b h = rw (ne_eqb b 0 (λ e. omega arith), ne_eqb b 32 (λ e. omega arith), ne_eqb b 10 (λ e. omega arith), ne_eqb b 13 (λ e. omega arith), ne_eqb b 9 (λ e. omega arith), ne_eqb b 40 (λ e. omega arith), ne_eqb b 41 (λ e. omega arith), ne_eqb b 44 (λ e. omega arith)) refl

-- where a bit is set, some lane passes
some-lane : (p : ℕ → Bool) (xs : List ℕ) → 0 < mask_l (map p xs) → prefix_len (λ x. not (p x)) xs < length xs
some-lane p [] h = absurd (omega (arith, h))
some-lane p (x ∷ xs) h =
    let more : 0 < mask_l (map p xs) → prefix_len (λ x. not (p x)) xs < length xs = some-lane p xs in
    elim (p x) as (λ t. 0 < cond t 1 0 + 2 * mask_l (map p xs) → (if not t then 1 + prefix_len (λ x. not (p x)) xs else 0) < length (x ∷ xs)) [
      | true ↦ λ h. omega arith
      | false ↦ λ h. let m = more (omega (arith, h)) in omega (arith, m)
    ] h

-- the mask, as the lanes give it
pub low-lanes : (text : List ℕ) (from : ℕ) → from + 32 ≤ length text
    → mask_l (map (top (hbits w8)) (zip2 (λ a b. cond (leb a b) (2 ^ bits w8 - 1) 0) (chunk from 32 text) (replicate 32 44))) % 2 ^ 64 ≡ low_mask text from
unfolding low_mask
low-lanes text from room = bitmask_splat w8 leb (chunk from 32 text) 32 44 (length-chunk from 32 text room) (omega arith)

-- the low bytes of a window: the first of them, before which the run goes on
module _ (text : List ℕ) (from : ℕ) (room : from + 32 ≤ length text) (low : ℕ) (is : low ≡ low_mask text from) (some : low ≢ 0) where
  mask : low ≡ mask_l (map (λ x. leb x 44) (chunk from 32 text))
  unfolding low_mask
  mask = is

  first : count_trailing_zeros 64 low ≡ prefix_len (λ x. not (leb x 44)) (chunk from 32 text)
  first = ap (count_trailing_zeros 64) mask ∙ trailing_mask_l (λ x. leb x 44) 64 (chunk from 32 text) (let long = length-chunk from 32 text room in omega (arith, long)) (omega (arith, mask, some))

  pub low-within : count_trailing_zeros 64 low < 32
  low-within = let long = length-chunk from 32 text room in let h = some-lane (λ x. leb x 44) (chunk from 32 text) (omega (arith, mask, some)) in omega (arith, first, h, long)

  pub low-run : AllRun (slice_range text from (from + count_trailing_zeros 64 low))
  low-run =
      let within = low-within in
      range-run text from (from + count_trailing_zeros 64 low) (omega arith) (omega (arith, within, room)) (λ k after before.
      late-run (get_or text k 0) (leb-false (get_or text k 0) 44 (run_in_chunk_fails (λ x. leb x 44) text from 32 (count_trailing_zeros 64 low) 0 room first k after before)))

-- The bytes of a window below the lowest that is not ASCII are text.

-- the high-mask-is, as the lanes give it
pub high-lanes : (text : List ℕ) (from : ℕ) → from + 32 ≤ length text
    → mask_l (map (top (hbits w8)) (zip2 (λ a b. cond (nat_lt a b) (2 ^ bits w8 - 1) 0) (replicate 32 127) (chunk from 32 text))) % 2 ^ 64 ≡ high_mask text from
unfolding high_mask
high-lanes text from room =
    let v = chunk from 32 text in
    let long = length-chunk from 32 text room in
    ap (λ ms. mask_l ms % 2 ^ 64) (tops_compared w8 nat_lt (replicate 32 127) v ∙ zip2_splat_left nat_lt 127 32 v long)
    ∙ mask_l-mod (map (λ b. nat_lt 127 b) v) 64 (omega (arith, length-map v (λ b. nat_lt 127 b), long))

module _ (text : List ℕ) (from : ℕ) (room : from + 32 ≤ length text) (high : ℕ) (is : high ≡ high_mask text from) where
  high-mask-is : high ≡ mask_l (map (λ b. nat_lt 127 b) (chunk from 32 text))
  unfolding high_mask
  high-mask-is = is

  ascii-byte : (k : ℕ) → from ≤ k → k < from + 32 → k < from + count_trailing_zeros 64 high → get_or text k 0 ≤ 127
  ascii-byte k low near before =
      let long = length-chunk from 32 text room in
      ltb-false 127 (get_or text k 0) (elim (cases_lt 0 high) [
        | inl some ↦
            let first = ap (count_trailing_zeros 64) high-mask-is ∙ trailing_mask_l (λ b. nat_lt 127 b) 64 (chunk from 32 text) (omega (arith, long)) (omega (arith, high-mask-is, some)) in
            run_in_chunk_fails (λ b. nat_lt 127 b) text from 32 (count_trailing_zeros 64 high) 0 room first k low before
        | inr none ↦ none_from_empty_mask (λ b. nat_lt 127 b) text from 32 0 room (omega (arith, high-mask-is, none)) k low near
      ])

  pub ascii-run : (end : ℕ) → from ≤ end → end ≤ length text → end - from ≤ 32 → end - from ≤ count_trailing_zeros 64 high → IsAscii (slice_range text from end)
  ascii-run end order inside near before k =
      let count = length-range text from end order inside in
      elim (cases_lt k (end - from)) [
        | inl h ↦ let least = ascii-byte (from + k) (omega arith) (omega (arith, h, near)) (omega (arith, h, before)) in omega (arith, get_or-range text from end k h, least)
        | inr h ↦ omega (arith, get_or_past (slice_range text from end) k 0 (omega (arith, h, count)))
      ]

-- Runs of bytes at places of a text, and the numbers that they are.

-- the text of a number is some bytes
some-bytes : (bs : List ℕ) → IsNumberText bs → 0 < length bs
some-bytes [] h = absurd h
some-bytes (b ∷ bs) h = omega arith

number-all-run : (bs : List ℕ) → IsNumberText bs → AllRun bs
number-all-run [] h = tt
number-all-run (b ∷ bs) h = h.1

-- it begins with no plus
plain-text : (bs : List ℕ) → IsNumberText bs → (without_plus bs ≡ bs) × IsTrue (starts_number (get_or bs 0 0))
plain-text [] h = absurd h
plain-text (b ∷ bs) h = elim (cases_eq b 43) [
  | inl e ↦ let f : false ≡ true = sym (ap begins_number e) ∙ h.0 in cc
  | inr n ↦ (ap (λ t. cond t bs (b ∷ bs)) (ne_eqb b 43 n), ap (λ t. t || (b == 43)) h.0)
]

stopped : (bs : List ℕ) → StopsRun bs → class_of (get_or bs 0 0) ≢ Run
unfolding class_of
stopped [] h = λ e. cc
stopped (b ∷ bs) h = h

-- A number that keeps its text stands where the text goes on.
pub kept-there : {T : Type 0} (read : List ℕ → Option T) (num : T → List ℕ) (text : List ℕ) (at end kept to : ℕ) → at ≤ length text → to ≡ at + end
    → (k : KeepsText read num (drop at text) end kept) → IsNumberAt read text at to k.number
kept-there read num text at end kept to within is k =
    let inside : end ≤ length text - at = subst (λ n. end ≤ n) (length-drop at text) k.within in
    let some : 0 < end = omega (arith, some-bytes (take end (drop at text)) k.run, length-take-le end (drop at text) k.within) in
    let same : slice_range text at to ≡ take end (drop at text) = ap (λ (n : ℕ). take n (drop at text)) {x = to - at} {y = end} (omega (arith, is)) in
    let plain = plain-text (take end (drop at text)) k.run in
    let first : get_or (take end (drop at text)) 0 0 ≡ get_or text at 0 = get_or-take end (drop at text) 0 0 some ∙ get_or-drop at text 0 0 ∙ ap (λ (i : ℕ). get_or text i 0) (omega arith) in
    let next : get_or (drop end (drop at text)) 0 0 ≡ get_or text to 0 = ap (λ l. get_or l 0 0) (drop-drop end at text) ∙ get_or-drop (at + end) text 0 0 ∙ ap (λ (i : ℕ). get_or text i 0) (omega (arith, is)) in
    record {
      order = omega (arith, is, some);
      ends = record {
        order = omega (arith, is);
        inside = omega (arith, is, inside, within);
        run = subst AllRun (sym same) (number-all-run (take end (drop at text)) k.run);
        stops = subst (λ b. class_of b ≢ Run) next (stopped (drop end (drop at text)) k.stops);
      };
      begins = subst (λ b. IsTrue (starts_number b)) first plain.1;
      reads = ap read (ap without_plus same ∙ plain.0) ∙ k.reads;
    }

-- bytes without the plus that they may begin with
dropped : (bs : List ℕ) → without_plus bs ≡ drop (plus_len (get_or bs 0 0)) bs
dropped [] = refl
dropped (b ∷ bs) = elim (cases_eq b 43) [
  | inl e ↦ ap (λ t. cond t bs (b ∷ bs)) (eq-eqb b 43 e) ∙ ap (λ t. drop (cond t 1 0) (b ∷ bs)) (sym (eq-eqb b 43 e))
  | inr n ↦ ap (λ t. cond t bs (b ∷ bs)) (ne_eqb b 43 n) ∙ ap (λ t. drop (cond t 1 0) (b ∷ bs)) (sym (ne_eqb b 43 n))
]

plus-most : (b : ℕ) → plus_len b ≤ 1
plus-most b = grind (arith, nat_tests)

-- What is read of a run stands behind its plus.
pub behind-plus : (text : List ℕ) (at end start : ℕ) → at < end → end ≤ length text → start ≡ at + plus_len (get_or text at 0)
    → (at ≤ start) × (start ≤ end) × (slice_range text start end ≡ without_plus (slice_range text at end))
behind-plus text at end start order inside is =
    let p : ℕ = plus_len (get_or text at 0) in
    let most : p ≤ 1 = plus-most (get_or text at 0) in
    let first : get_or (slice_range text at end) 0 0 ≡ get_or text at 0 = get_or-between text at end 0 0 (omega arith) ∙ ap (λ (i : ℕ). get_or text i 0) (omega arith) in (
      omega (arith, is),
      omega (arith, is, most),
      ap (λ (l : List ℕ). take (end - start) l) (ap (λ (n : ℕ). drop n text) is ∙ sym (drop-drop p at text))
          ∙ ap (λ (n : ℕ). take n (drop p (drop at text))) {x = end - start} {y = end - at - p} (omega (arith, is))
          ∙ sym (drop-take p (end - at - p) (drop at text))
          ∙ ap (λ (n : ℕ). drop p (take n (drop at text))) {x = p + (end - at - p)} {y = end - at} (omega (arith, most))
          ∙ ap (λ (b : ℕ). drop (plus_len b) (slice_range text at end)) (sym first)
          ∙ sym (dropped (slice_range text at end)),
    )

pub ruleset high_lanes = high-lanes

pub ruleset ascii_run = ascii-run

pub ruleset low_lanes = low-lanes
