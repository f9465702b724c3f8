-- Bytes that are copied and lines that are answered piece by piece, and what is handed out of what was read and written: texts,
-- arrays, points.
use Rattle.std.proofs.Common.{◌≡◌, ◌+◌, ◌-◌, ◌<◌, ◌≤◌, ◌++◌, ◌⊎◌, inl, inr, ℕ, zero, suc, List, [], ◌∷◌, Option, Bool, length, take, drop, get_or, refl, sym, ap, ◌∙◌, subst, arith, append_assoc, length-drop, length-append, ◌%◌, ◌^◌, replicate, cond, map, w8, nat_lt, drop-cons, IsUtf8, ◌↔◌, ◌≢◌, ℤ, Some}
use Rattle.std.specs.Prelude.{◌==◌, if◌then◌else◌, true, false}
use Rattle.std.proofs.lemmas.List.{length-take, append-nil, take_all, length-map, get_or-take, get_or_past, drop_all, take-append-drop}
use Rattle.std.proofs.lemmas.Bool.Decides.{eqb_tells}
use Rattle.std.proofs.Math.Seq.{take-add, take-append_seam}
use Rattle.std.specs.Str.{IsAscii}
use Rattle.std.proofs.lemmas.Simd.{length-chunk, tops_compared, zip2_splat_left, mask_l-mod, none_from_empty_mask}
use Rattle.std.proofs.lemmas.Str.{IsUtf8-from_ascii}
use Rattle.std.proofs.lemmas.Slice.{take-put_mid, drop-put_mid, drop-append-drop}
use borrow.Author.Tests.{ltb-false}
use lib.Lanes.{zip2, chunk, mask_l, top}
use mir.Val.{bits, hbits}
use borrow.Rule.Slice.PartMut.{put_mid}
use Rattle.wkt_lines.specs.Laws.{IsWholeLines, OutputOfParts}
use Rattle.wkt_lines.specs.Output.{IsOutput, IsAnswer}
use Rattle.wkt_lines.specs.Lines.{input_lines, before_feed, after_feed}
use Rattle.wkt_lines.specs.Replies.{AreReplies}
use Rattle.wkt_lines.proofs.Outcomes.{lines_step}
use Rattle.wkt_calls.specs.Calls.{AreWholeLines}
use Rattle.wkt_calls.specs.Answer.{RefusesText, RefusesOne, HasFront, kind_number, dimension_number}
use Rattle.wkt_fill.specs.Filled.{view, FillsFront, HoldsAll}
use Rattle.wkt_fill.specs.declared.array_builder.ArrayBuilder.{ArrayBuilder}
use Rattle.wkt_fill.specs.declared.array_builder.Room.{Room}
use Rattle.wkt_calls.specs.Arrays.{AreOf, IsNotFlatIn}
use Rattle.wkt_num.specs.Decimal.{read_decimal, IsUnits}
use Rattle.wkt_num.specs.DecimalLaws.{decimal_reads_values}
use Rattle.wkt_access.specs.declared.dimensions.Dimension.TheVariants.{XY}
use Rattle.wkt_access.specs.Values.{Value}
use Rattle.wkt_read.proofs.OneForm.{geometry_fits}
use Rattle.wkt_sources.specs.Taken.{IsPointFront}

-- Bytes that are copied and lines that are answered piece by piece.

-- Lines that are answered piece by piece.

-- the output for a piece more
pub more_output : {N : Type 0} (read : List ℕ → Option N) (num : N → List ℕ) → OutputOfParts read num → (input : List ℕ) (taken piece : ℕ) (x v : List ℕ) →
    IsWholeLines (take taken input) → IsOutput read num (take taken input) x → IsOutput read num (take piece (drop taken input)) v → IsOutput read num (take (taken + piece) input) (x ++ v)
more_output read num law input taken piece x v w h k =
    subst (λ bs. IsOutput read num bs (x ++ v)) (sym (take-add taken piece input))
    (law (take taken input ∷ []) (x ∷ []) (take piece (drop taken input)) v (w, tt) (x, [], refl, h, refl) k)

-- whole lines after whole lines
pub whole_more : (input : List ℕ) (taken piece : ℕ) → IsWholeLines (take taken input) → IsWholeLines (take piece (drop taken input)) → IsWholeLines (take (taken + piece) input)
whole_more input taken piece w h = subst IsWholeLines (sym (take-add taken piece input)) (elim h [
  | inl e ↦ subst IsWholeLines (sym (ap (λ z. take taken input ++ z) e ∙ append-nil (take taken input))) w
  | inr k ↦ inr (take taken input ++ k.0, ap (λ z. take taken input ++ z) k.1 ∙ sym (append_assoc (take taken input) k.0 (10 ∷ [])))
])

take-one : (xs : List ℕ) (n : ℕ) → n < length xs → take (suc n) xs ≡ take n xs ++ (get_or xs n 0 ∷ [])
take-one [] n h = absurd (omega (arith, h))
take-one (x ∷ xs) zero h = refl
take-one (x ∷ xs) (suc n) h = ap (λ zs. x ∷ zs) (take-one xs n (omega (arith, h)))

-- the bytes up to a line feed
pub whole_at : (xs : List ℕ) (at : ℕ) → 0 < at → at ≤ length xs → get_or xs (at - 1) 0 ≡ 10 → IsWholeLines (take at xs)
whole_at xs at p h e =
    let same : suc (at - 1) ≡ at = omega (arith, p) in
    inr (take (at - 1) xs, ap (λ n. take n xs) (sym same) ∙ take-one xs (at - 1) (omega (arith, p, h)) ∙ ap (λ b. take (at - 1) xs ++ (b ∷ [])) e)

feed-step : (b : ℕ) (bs : List ℕ) → (length (before_feed bs) < length bs → take (suc (length (before_feed bs))) bs ≡ before_feed bs ++ (10 ∷ [])) →
    length (before_feed (b ∷ bs)) < length (b ∷ bs) → take (suc (length (before_feed (b ∷ bs)))) (b ∷ bs) ≡ before_feed (b ∷ bs) ++ (10 ∷ [])
feed-step b bs h = elim (eqb_tells b 10) [
  | inl t ↦
      let e : before_feed (b ∷ bs) ≡ [] = ap (λ u. if u then [] else b ∷ before_feed bs) t.0 in
      λ lt. ap (λ xs. take (suc (length xs)) (b ∷ bs)) e ∙ ap (λ c. c ∷ []) t.1 ∙ ap (λ xs. xs ++ (10 ∷ [])) (sym e)
  | inr f ↦
      let e : before_feed (b ∷ bs) ≡ b ∷ before_feed bs = ap (λ u. if u then [] else b ∷ before_feed bs) f.0 in
      λ lt. ap (λ xs. take (suc (length xs)) (b ∷ bs)) e ∙ ap (λ xs. b ∷ xs) (h (omega (arith, lt, ap length e))) ∙ ap (λ xs. xs ++ (10 ∷ [])) (sym e)
]

feed-there : (bs : List ℕ) → length (before_feed bs) < length bs → take (suc (length (before_feed bs))) bs ≡ before_feed bs ++ (10 ∷ [])
feed-there [] lt = absurd (omega (arith, lt))
feed-there (b ∷ bs) lt = feed-step b bs (feed-there bs) lt

-- a first line that ends before the text does
pub whole_line : (bs : List ℕ) (end : ℕ) → end < length bs → take end bs ≡ before_feed bs → IsWholeLines (take (end + 1) bs)
whole_line bs end lt e =
    let long : end ≡ length (before_feed bs) = omega (arith, lt, length-take end bs, ap length e) in
    inr (before_feed bs, ap (λ n. take n bs) {x = end + 1} {y = suc (length (before_feed bs))} (omega (arith, long)) ∙ feed-there bs (omega (arith, lt, long)))

-- a first line that ends where the text does
pub one_line : (bs : List ℕ) (end : ℕ) → length bs ≤ end → take end bs ≡ before_feed bs → before_feed bs ≡ bs
one_line bs end le e = sym e ∙ take_all end bs le

-- a line that ends within a part is the whole's
padded-line : (k : ℕ) (rest : List ℕ) → length (before_feed (take k rest)) < length (take k rest) → before_feed (take k rest) ≡ before_feed rest
padded-line zero rest h = absurd (omega (arith, h))
padded-line (suc k) [] h = refl
padded-line (suc k) (b ∷ rest) h = elim (b == 10) as (λ t. length (if t then [] else b ∷ before_feed (take k rest)) < suc (length (take k rest))
    → (if t then [] else b ∷ before_feed (take k rest)) ≡ (if t then [] else b ∷ before_feed rest)) [
      | true ↦ λ less. refl
      | false ↦ λ less. ap (λ l. b ∷ l) (padded-line k rest (omega (arith, less)))
    ] h

-- the first line with its feed is one line
abbrev first-of : List ℕ → List ℕ
first-of bs = take (suc (length (before_feed bs))) bs

one-before : (bs : List ℕ) → before_feed (first-of bs) ≡ before_feed bs
one-before [] = refl
one-before (b ∷ bs) = elim (b == 10) as (λ t. (if t then [] else b ∷ before_feed (take (length (if t then [] else b ∷ before_feed bs)) bs)) ≡ (if t then [] else b ∷ before_feed bs)) [
  | true ↦ refl
  | false ↦ ap (λ l. b ∷ l) (one-before bs)
]

one-after : (bs : List ℕ) → after_feed (first-of bs) ≡ []
one-after [] = refl
one-after (b ∷ bs) = elim (b == 10) as (λ t. (if t then take (length (if t then [] else b ∷ before_feed bs)) bs else after_feed (take (length (if t then [] else b ∷ before_feed bs)) bs)) ≡ []) [
  | true ↦ refl
  | false ↦ one-after bs
]

one-lines : (b : ℕ) (bs : List ℕ) → input_lines (first-of (b ∷ bs)) ≡ before_feed (b ∷ bs) ∷ []
one-lines b bs = lines_step b (take (length (before_feed (b ∷ bs))) bs) ∙ ap (λ l. l ∷ input_lines (after_feed (first-of (b ∷ bs)))) (one-before (b ∷ bs)) ∙ ap (λ l. before_feed (b ∷ bs) ∷ input_lines l) (one-after (b ∷ bs))

-- the output for it is its answer
one-output : {N : Type 0} (read : List ℕ → Option N) (num : N → List ℕ) (bs answer : List ℕ) → 0 < length bs → IsAnswer read num (before_feed bs) answer → IsOutput read num (first-of bs) (answer ++ (10 ∷ []))
one-output read num [] answer some is = absurd (omega (arith, some))
one-output read num (b ∷ bs) answer some is =
    subst (λ ls. AreReplies (IsAnswer read num) ls (answer ++ (10 ∷ []))) (sym (one-lines b bs)) (answer, [], sym (append-nil (answer ++ (10 ∷ []))), is, refl)

-- what ends after something ends as that does
ends-in : (a b c : List ℕ) (x : ℕ) → a ++ b ≡ c ++ (x ∷ []) → 0 < length b → (d : List ℕ) × (b ≡ d ++ (x ∷ []))
ends-in [] b c x e some = (c, e)
ends-in (y ∷ a) b [] x e some = absurd (omega (arith, some, ap length e, length-append a b))
ends-in (y ∷ a) b (z ∷ c) x e some = let t : a ++ b ≡ c ++ (x ∷ []) = cc in ends-in a b c x t some

-- a feed ends the first line
feed-some : (d : List ℕ) → length (before_feed (d ++ (10 ∷ []))) < length (d ++ (10 ∷ []))
feed-some [] = omega arith
feed-some (b ∷ d) = elim (b == 10) as (λ t. length (if t then [] else b ∷ before_feed (d ++ (10 ∷ []))) < suc (length (d ++ (10 ∷ [])))) [
  | true ↦ omega arith
  | false ↦ omega (arith, feed-some d)
]

pub less-or : (a b : ℕ) → (a < b) ⊎ (b ≤ a)
less-or zero zero = inr (omega arith)
less-or zero (suc b) = inl (omega arith)
less-or (suc a) zero = inr (omega arith)
less-or (suc a) (suc b) = elim (less-or a b) [ inl h ↦ inl (omega (arith, h)) | inr h ↦ inr (omega (arith, h)) ]

module _ (last : Bool) (input : List ℕ) (at : ℕ) where
  abbrev rest : List ℕ
  rest = drop at input

  -- whole lines behind whole lines
  pub whole-pick : (n : ℕ) → at ≤ length input → at < length input → AreWholeLines last input at → AreWholeLines last rest n → AreWholeLines last input (at + n)
  whole-pick n within less before whole = elim before [
    | inl h ↦ elim whole [
      | inl w ↦ inl (whole_more input at n h w)
      | inr e ↦ inr (e.0, omega (arith, e.1, length-drop at input, within))
    ]
    | inr e ↦ absurd (omega (arith, e.1, less))
  ]

  module _ (end : ℕ) (less : at < end) (within : end ≤ length input) where
    abbrev part : List ℕ
    part = take (end - at) rest

    some-left : 0 < length rest
    some-left = omega (arith, length-drop at input, less, within)

    -- the part's first line is the rest's
    same-line : AreWholeLines last input end → before_feed part ≡ before_feed rest
    same-line (inl (inl e)) = absurd (omega (arith, ap length e, length-take end input, less, within))
    same-line (inl (inr (c, e))) =
        let whole : take at input ++ part ≡ c ++ (10 ∷ []) = sym (take-add at (end - at) input) ∙ ap (λ n. take n input) {x = at + (end - at)} {y = end} (omega (arith, less)) ∙ e in
        let (d, is) = ends-in (take at input) part c 10 whole (omega (arith, length-take (end - at) rest, length-drop at input, less, within)) in
        padded-line (end - at) rest (subst (λ l. length (before_feed l) < length l) (sym is) (feed-some d))
    same-line (inr (l, e)) = ap before_feed (take_all (end - at) rest (omega (arith, length-drop at input, e, less)))

    -- where the first line has no feed, it is the last
    no-feed : AreWholeLines last input end → length rest ≤ length (before_feed rest) → (last ≡ true) × (end ≡ length input)
    no-feed (inl (inl e)) long = absurd (omega (arith, ap length e, length-take end input, less, within))
    no-feed (inl (inr (c, e))) long =
        let whole : take at input ++ part ≡ c ++ (10 ∷ []) = sym (take-add at (end - at) input) ∙ ap (λ n. take n input) {x = at + (end - at)} {y = end} (omega (arith, less)) ∙ e in
        let (d, is) = ends-in (take at input) part c 10 whole (omega (arith, length-take (end - at) rest, length-drop at input, less, within)) in
        let short : length (before_feed part) < length part = subst (λ l. length (before_feed l) < length l) (sym is) (feed-some d) in
        absurd (omega (arith, ap length (same-line (inl (inr (c, e)))), short, length-take (end - at) rest, long))
    no-feed (inr h) long = h

    -- the answer to the first line, behind those before it
    pub line-lines : (taken n : ℕ) → AreWholeLines last input at → AreWholeLines last input end → taken ≡ length (before_feed part) + 1 → (at + taken ≤ n ⊎ n ≡ length input) → n ≤ at + taken → n ≤ length input → AreWholeLines last input n
    line-lines taken n before ends takes is most inside =
        let same : length (before_feed part) ≡ length (before_feed rest) = ap length (same-line ends) in
        elim (less-or (length (before_feed rest)) (length rest)) [
          | inl short ↦
              let k : n ≡ at + suc (length (before_feed rest)) = elim is [ inl le ↦ omega (arith, le, most, takes, same) | inr e ↦ omega (arith, e, most, takes, same, short, length-drop at input, less, within) ] in
              subst (AreWholeLines last input) (sym k) (whole-pick (suc (length (before_feed rest))) (omega (arith, less, within)) (omega (arith, less, within)) before (inl (inr (before_feed rest, feed-there rest short))))
          | inr long ↦
              let h = no-feed ends long in
              inr (h.0, elim is [ inl le ↦ omega (arith, le, takes, same, long, length-drop at input, inside, less, within) | inr e ↦ e ])
        ]

    pub line-output : {N : Type 0} (read : List ℕ → Option N) (num : N → List ℕ) → OutputOfParts read num → (taken n : ℕ) (x answer : List ℕ) → AreWholeLines last input at → AreWholeLines last input end →
        IsOutput read num (take at input) x → IsAnswer read num (before_feed part) answer → taken ≡ length (before_feed part) + 1 → (at + taken ≤ n ⊎ n ≡ length input) → n ≤ at + taken → n ≤ length input →
        IsOutput read num (take n input) (x ++ (answer ++ (10 ∷ [])))
    line-output read num law taken n x answer before ends out is takes reaches most inside =
        let whole : IsWholeLines (take at input) = elim before [ inl h ↦ h | inr e ↦ absurd (omega (arith, e.1, less, within)) ] in
        let same = same-line ends in
        let k : at + taken ≡ at + suc (length (before_feed rest)) = omega (arith, takes, ap length same) in
        let v = one-output read num rest answer some-left (subst (λ l. IsAnswer read num l answer) same is) in
        let all : take n input ≡ take (at + suc (length (before_feed rest))) input = elim reaches [
          | inl le ↦ ap (λ m. take m input) {x = n} {y = at + suc (length (before_feed rest))} (omega (arith, le, most, k))
          | inr e ↦ take_all n input (omega (arith, e)) ∙ sym (take_all (at + suc (length (before_feed rest))) input (omega (arith, e, most, k)))
        ] in
        subst (λ l. IsOutput read num l (x ++ (answer ++ (10 ∷ [])))) (sym all) (more_output read num law input at (suc (length (before_feed rest))) x (answer ++ (10 ∷ [])) whole out v)

-- nothing is the output for nothing
pub no-output : {N : Type 0} (read : List ℕ → Option N) (num : N → List ℕ) (input x : List ℕ) → IsOutput read num (take 0 input) x → x ≡ []
no-output read num input x h = h

-- A window of bytes of which none is above 127.

high-mask : (xs : List ℕ) → length xs ≡ 32 → mask_l (map (top (hbits w8)) (zip2 (λ a b. cond (nat_lt a b) (2 ^ bits w8 - 1) 0) (replicate 32 127) xs)) % 2 ^ 64 ≡ mask_l (map (λ x. nat_lt 127 x) xs)
high-mask xs long =
    ap (λ ms. mask_l ms % 2 ^ 64) (tops_compared w8 nat_lt (replicate 32 127) xs ∙ zip2_splat_left nat_lt 127 32 xs long)
    ∙ mask_l-mod (map (λ x. nat_lt 127 x) xs) 64 (omega (arith, length-map xs (λ x. nat_lt 127 x), long))

pub window-below : (bs : List ℕ) (at : ℕ) → at + 32 ≤ length bs → ((k : ℕ) → k < at → get_or bs k 0 < 128)
    → mask_l (map (top (hbits w8)) (zip2 (λ a b. cond (nat_lt a b) (2 ^ bits w8 - 1) 0) (replicate 32 127) (chunk at 32 bs))) % 2 ^ 64 ≡ 0
    → (k : ℕ) → k < at + 32 → get_or bs k 0 < 128
window-below bs at room before e k less = elim (less-or k at) [
  | inl h ↦ before k h
  | inr h ↦
      let none = sym (high-mask (chunk at 32 bs) (length-chunk at 32 bs room)) ∙ e in
      let le : get_or bs k 0 ≤ 127 = ltb-false 127 (get_or bs k 0) (none_from_empty_mask (λ x. nat_lt 127 x) bs at 32 0 room none k h less) in
      omega (arith, le)
]

-- the first of some bytes that are below
pub front-below : (bs : List ℕ) (n at : ℕ) → n ≤ at → ((k : ℕ) → k < at → get_or bs k 0 < 128) → IsAscii (take n bs)
front-below bs n at le below = λ i. elim (less-or i n) [
  | inl h ↦ omega (arith, get_or-take n bs i 0 h, below i (omega (arith, h, le)))
  | inr h ↦ omega (arith, get_or_past (take n bs) i 0 (omega (arith, h, length-take n bs)))
]

-- The last byte of a text, where it is of ASCII, is text.

single : (b : ℕ) → b < 128 → IsAscii (b ∷ [])
single b low zero = low
single b low (suc i) = omega arith

pub last-ascii : (text : List ℕ) (end : ℕ) → end + 1 ≡ length text → get_or text end 0 < 128 → IsUtf8 (drop end text)
last-ascii text end long low =
    let inside : end < length text = omega (arith, long) in
    let over : length text ≤ suc end = omega (arith, long) in
    let one : drop end text ≡ get_or text end 0 ∷ [] = drop-cons text end 0 inside ∙ ap (λ (l : List ℕ). get_or text end 0 ∷ l) (drop_all (suc end) text over) in
    subst IsUtf8 (sym one) (IsUtf8-from_ascii (get_or text end 0 ∷ []) (single (get_or text end 0) low))

-- A list that is copied piece by piece.

-- one piece more
pub copied-piece : {A : Type 0} (at end : ℕ) (list old out ys : List A) → at ≤ end → end ≤ length list → length list ≤ length old → out ≡ take at list ++ drop at old →
    ys ≡ take (end - at) (drop at list) → put_mid at (end - at) out ys ≡ take end list ++ drop end old
copied-piece at end list old out ys order within fits e f =
    let before : length (take at list) ≡ at = omega (arith, length-take at list, order, within) in
    let long : length out ≡ length old = omega (arith, ap length e, length-append (take at list) (drop at old), before, length-drop at old, order, within, fits) in
    let piece : length ys ≡ end - at = omega (arith, ap length f, length-take (end - at) (drop at list), length-drop at list, order, within) in
    let seam : take at (take at list ++ drop at old) ≡ take at list =
    ap (λ n. take n (take at list ++ drop at old)) {x = at} {y = length (take at list)} (omega (arith, before)) ∙ take-append_seam (take at list) (drop at old) in
    let front : take end (put_mid at (end - at) out ys) ≡ take end list =
    take-put_mid at (end - at) out ys end (omega (arith, piece, order)) (omega (arith, long, order, within, fits))
    ∙ ap (λ l. take at l ++ ys) e ∙ ap (λ l. l ++ ys) seam ∙ ap (λ l. take at list ++ l) f ∙ sym (take-add at (end - at) list) ∙ ap (λ n. take n list) {x = at + (end - at)} {y = end} (omega (arith, order)) in
    let back : drop end (put_mid at (end - at) out ys) ≡ drop end old =
    drop-put_mid at (end - at) out ys end (omega (arith, order)) (omega (arith, long, order, within, fits)) piece ∙ ap (λ l. drop end l) e ∙ drop-append-drop at old (take at list) end order before in
    sym (take-append-drop end (put_mid at (end - at) out ys)) ∙ ap (λ l. l ++ drop end (put_mid at (end - at) out ys)) front ∙ ap (λ l. take end list ++ l) back

-- What is handed out of what was read and written: texts, arrays, points.

-- What is handed out of what was read and written.

-- a text that isn't UTF-8
pub no-text : {N : Type 0} (read : List ℕ → Option N) (text : List ℕ) (status : ℕ) → status ≡ 20 → (IsUtf8 text → ⊥) → RefusesText read text status
no-text read text status e bad = record {
  utf8 = λ _ h. absurd (omega (arith, e, h));
  no_front = λ _ h. absurd (omega (arith, e, h));
  message = λ _ h. absurd (omega (arith, e, h));
  bad = λ h. absurd (omega (arith, e, h));
  not_utf8 = λ _ u. bad u;
  others = inr e;
  some = omega (arith, e);
}

-- why one of two texts is refused: the first, where the other is text or isn't; or the other, where the first has a front
pub refused-first : {N : Type 0} (read : List ℕ → Option N) (one other : List ℕ) (status result : ℕ) → RefusesText read one status
    → ((result ≡ status) × IsUtf8 other) ⊎ ((result ≡ 20) × (IsUtf8 other → ⊥)) → RefusesOne read one other result
refused-first read one other status result h k = elim k [
  | inl a ↦ record {
    which = inl (subst (RefusesText read one) (sym a.0) h);
    utf8 = λ l m. (h.utf8 (omega (arith, l, a.0)) (omega (arith, m, a.0)), a.1);
  }
  | inr b ↦ record {
    which = inr (no-text read other result b.0 b.1, inl b.0);
    utf8 = λ l m. absurd (omega (arith, m, b.0));
  }
]

pub refused-other : {N : Type 0} (read : List ℕ → Option N) (one other : List ℕ) (status : ℕ) → IsUtf8 one → HasFront read one
    → RefusesText read other status → RefusesOne read one other status
refused-other read one other status utf8 front h = record { which = inr (h, inr front); utf8 = λ l m. (utf8, h.utf8 l m) }

-- a text that isn't UTF-8 decides
pub not-text-first : {N : Type 0} (read : List ℕ → Option N) (one other : List ℕ) (status : ℕ) → status ≡ 20 → (IsUtf8 one → ⊥) → RefusesOne read one other status
not-text-first read one other status e bad = record { which = inl (no-text read one status e bad); utf8 = λ l m. absurd (omega (arith, m, e)) }

pub not-text-other : {N : Type 0} (read : List ℕ → Option N) (one other : List ℕ) (status : ℕ) → status ≡ 20 → (IsUtf8 other → ⊥) → RefusesOne read one other status
not-text-other read one other status e bad = record { which = inr (no-text read other status e bad, inl e); utf8 = λ l m. absurd (omega (arith, m, e)) }

-- a comparison of two lists that are these
pub same_lists : {B : Type 0} (x y a b : List ℕ) → B ↔ (x ≡ y) → x ≡ a → y ≡ b → B ↔ (a ≡ b)
same_lists x y a b h e f = (λ t. sym e ∙ h.0 t ∙ f, λ k. h.1 (e ∙ k ∙ sym f))

pub iff-more : {A B C : Type 0} → A ↔ B → B ↔ C → A ↔ C
iff-more h k = (λ a. k.0 (h.0 a), λ c. h.1 (k.1 c))

-- The arrays of what was filled, or why there are none.

module _ (places : ℕ) (text : List ℕ) (r : Room) (f : ArrayBuilder) (end : ℕ) (h : FillsFront places text r f end) where
  -- the arrays of the front
  pub arrays-of : IsUtf8 text → f.status ≡ 0 → (k d : ℕ) → k ≡ kind_number f.kind → d ≡ dimension_number f.dimension → AreOf places text end k d (view f).flat.numbers (view f).flat.rings (view f).flat.polygons
  arrays-of utf8 z k d is at =
      let all : HoldsAll f h.value = h.holds z in
      record {
        utf8 = utf8;
        value = h.value;
        front = h.front;
        fits = h.fits;
        arrays = record {
          parts = all.parts;
          flat = all.flat;
          kind_is = is ∙ ap kind_number all.kind_is;
          dimension_is = at ∙ ap dimension_number all.dimension_is;
          numbers_are = all.numbers_are;
          rings_are = all.rings_are;
          polygons_are = all.polygons_are;
        };
      }

  -- why there are none
  pub no-arrays : IsUtf8 text → f.status ≢ 0 → IsNotFlatIn places text r f.status
  no-arrays utf8 n = elim (h.unheld n) [
    | inl m ↦ inl (m.0, record { utf8 = utf8; value = h.value; end = end; front = h.front; lack = m.1 })
    | inr k ↦ inr (inr (inl (record { utf8 = utf8; value = h.value; end = end; front = h.front; why = k })))
  ]

-- The text isn't UTF-8.
pub not-text : {N : Type 0} (read : List ℕ → Option N) (text : List ℕ) → (IsUtf8 text → ⊥) → RefusesText read text 20
not-text read text n = record {
  utf8 = λ _ h. absurd (omega (arith, h));
  no_front = λ _ h. absurd (omega (arith, h));
  message = λ _ h. absurd (omega (arith, h));
  bad = λ h. absurd (omega (arith, h));
  not_utf8 = λ _. n;
  others = inr refl;
  some = omega arith;
}

-- The arrays of a point of two numbers.

module _ (places : ℕ) (text : List ℕ) (x y : ℤ) (end : ℕ) (h : IsPointFront places text x y end) where
  pub point-arrays : IsUtf8 text → AreOf places text end 0 0 (x ∷ y ∷ []) (0 ∷ 1 ∷ []) (0 ∷ 1 ∷ [])
  point-arrays utf8 = record {
    utf8 = utf8;
    value = Value.point XY (Some (x ∷ y ∷ []));
    front = h.front;
    fits = geometry_fits (IsUnits places) (read_decimal 127 36 places) (decimal_reads_values places) (Value.point XY (Some (x ∷ y ∷ []))) h.front.lexemes h.front.reads;
    arrays = record {
      parts = (((x ∷ y ∷ []) ∷ []) ∷ []) ∷ [];
      flat = refl;
      kind_is = refl;
      dimension_is = refl;
      numbers_are = refl;
      rings_are = refl;
      polygons_are = refl;
    };
  }
