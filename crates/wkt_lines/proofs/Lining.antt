-- Bytes that come, where their lines end, and lines that come one by one.
use Rattle.std.proofs.Common.{◌≡◌, ◌≢◌, ℕ, zero, suc, ◌+◌, ◌-◌, ◌<◌, ◌≤◌, List, [], ◌∷◌, ◌++◌, length, take, drop, get_or, refl, sym, ap, ◌∙◌, inl, inr, arith, subst, Bool, true, false, ◌==◌, if◌then◌else◌, IsUtf8, append_assoc, Option, None, Some}
use Rattle.std.specs.Prelude.{not}
use Rattle.std.proofs.lemmas.List.{length-drop, take-append-le, take-append-drop, take_all, get_or-drop, get_or-take, length-take-le, get_or_past, drop_all, drop-drop, take_rest, append-nil}
use Rattle.std.proofs.Math.Seq.{take-append-add, take-append_seam}
use Rattle.std.proofs.lemmas.Bool.{cases_lt, eq-eqb}
use Rattle.std.specs.List.{prefix_len}
use Rattle.std.proofs.lemmas.Simd.{run_in_chunk_fails, run_in_chunk_stops, run_in_chunk_le}
use Rattle.std.proofs.lemmas.Str.{IsUtf8-nil}
use Rattle.std.proofs.lemmas.Bool.Decides.{eqb_tells}
use Rattle.std.specs.Io.KnownBytes.{Consumes, Keeps, IsAtEnd, prepend_known}
use lib.Lanes.{chunk}
use Rattle.wkt_lines.specs.Laws.{IsWholeLines}
use Rattle.wkt_lines.specs.Lines.{HasNoFeed, before_feed, after_feed, EndsText, input_lines}
use Rattle.wkt_events.proofs.Utf8Lines.{drop-line, line-within}
use Rattle.wkt_lines.proofs.Answering.{one_more}
use Rattle.wkt_lines.specs.Reading.{GivesLine}

-- Bytes that come, and the last line feed among them.

-- what came stands after what was there
pub comes : (len n : ℕ) (xs buf r : List ℕ) → len ≤ length xs → n ≤ length buf → take (len + n) (take len xs ++ (buf ++ r)) ≡ take len xs ++ take n buf
comes len n xs buf r h k =
    let long : length (take len xs) ≡ len = length-take-le len xs h in
    ap (λ (m : ℕ). take (m + n) (take len xs ++ (buf ++ r))) (sym long)
    ∙ (take-append-add (take len xs) (buf ++ r) n ∙ ap (λ (zs : List ℕ). take len xs ++ zs) (take-append-le n buf r k))

take_one : (xs : List ℕ) (n : ℕ) → n < length xs → take (suc n) xs ≡ take n xs ++ (get_or xs n 0 ∷ [])
take_one [] n h = absurd (omega (arith, h))
take_one (x ∷ xs) zero h = refl
take_one (x ∷ xs) (suc n) h = ap (λ (zs : List ℕ). x ∷ zs) (take_one xs n (omega (arith, h)))

-- the bytes up to a line feed
pub whole_at : (xs : List ℕ) (at : ℕ) → 0 < at → at ≤ length xs → get_or xs (at - 1) 0 ≡ 10 → IsWholeLines (take at xs)
whole_at xs at p h e =
    let same : suc (at - 1) ≡ at = omega (arith, p) in
    inr (take (at - 1) xs, ap (λ (n : ℕ). take n xs) (sym same) ∙ (take_one xs (at - 1) (omega (arith, p, h)) ∙ ap (λ (b : ℕ). take (at - 1) xs ++ (b ∷ [])) e))

-- what was there before has none
pub seen_none : (n : ℕ) (front fresh more : List ℕ) → n ≡ length front → more ≡ front ++ fresh → HasNoFeed front → HasNoFeed (take n more)
seen_none n front fresh more e f h =
    let same : take n more ≡ front = ap (λ (m : ℕ). take m more) e ∙ (ap (λ (xs : List ℕ). take (length front) xs) f ∙ take-append_seam front fresh) in
    subst (λ (xs : List ℕ). HasNoFeed xs) (sym same) h

-- nothing has none
pub none_in_nothing : (xs : List ℕ) → xs ≡ [] → HasNoFeed xs
none_in_nothing xs e = λ k h. let n : length xs ≡ 0 = ap length e in absurd (omega (arith, h, n))

-- the front of the bytes, and the rest as code takes it
pub parted : (n : ℕ) (xs : List ℕ) → xs ≡ take n xs ++ take (length xs - n) (drop n xs)
parted n xs = sym (take-append-drop n xs) ∙ ap (λ (zs : List ℕ). take n xs ++ zs) (sym (take_all (length xs - n) (drop n xs) (omega (arith, length-drop n xs))))

-- Where the first line of an input ends.

-- none of the first `at` bytes is one
abbrev pub NoFeed : List ℕ → ℕ → Type 0
NoFeed bs at = (k : ℕ) → k < at → (get_or bs k 0 == 10) ≡ false

-- a byte that is none
other-byte : (b : ℕ) (bs : List ℕ) → (b == 10) ≡ false → (before_feed (b ∷ bs) ≡ b ∷ before_feed bs) × (after_feed (b ∷ bs) ≡ after_feed bs)
other-byte b bs e = (ap (λ t. if t then [] else b ∷ before_feed bs) e, ap (λ t. if t then bs else after_feed bs) e)

-- it is at place k
pub feed-at : (bs : List ℕ) (k : ℕ) → k < length bs → NoFeed bs k → (get_or bs k 0 == 10) ≡ true → (take k bs ≡ before_feed bs) × (drop (k + 1) bs ≡ after_feed bs)
feed-at [] k h none is = absurd (omega (arith, h))
feed-at (b ∷ bs) zero h none is = (sym (ap (λ t. if t then [] else b ∷ before_feed bs) is), sym (ap (λ t. if t then bs else after_feed bs) is))
feed-at (b ∷ bs) (suc k) h none is =
    let o = other-byte b bs (none 0 (omega arith)) in
    let more = feed-at bs k (omega (arith, h)) (λ j m. none (suc j) (omega (arith, m))) is in
    (ap (λ l. b ∷ l) more.0 ∙ sym o.0, ap (λ (n : ℕ). drop n (b ∷ bs)) {x = suc k + 1} {y = suc (k + 1)} (omega arith) ∙ more.1 ∙ sym o.1)

-- there is none
pub feed-none : (bs : List ℕ) → NoFeed bs (length bs) → (take (length bs) bs ≡ before_feed bs) × (drop (length bs + 1) bs ≡ after_feed bs)
feed-none [] none = (refl, refl)
feed-none (b ∷ bs) none =
    let o = other-byte b bs (none 0 (omega arith)) in
    let more = feed-none bs (λ j m. none (suc j) (omega (arith, m))) in
    (ap (λ l. b ∷ l) more.0 ∙ sym o.0, ap (λ (n : ℕ). drop n (b ∷ bs)) {x = suc (length bs) + 1} {y = suc (length bs + 1)} (omega arith) ∙ more.1 ∙ sym o.1)

-- r bytes of a block come before its first, or are all of it
module _ (bs : List ℕ) (at n r : ℕ) (room : at + n ≤ length bs) (counted : r ≡ prefix_len (λ b. not (b == 10)) (chunk at n bs)) (before : NoFeed bs at) where
  pub none-more : NoFeed bs (at + r)
  none-more k high = elim (cases_lt k at) [
    | inl h ↦ before k h
    | inr h ↦ run_in_chunk_fails (λ b. b == 10) bs at n r 0 room counted k h high
  ]

  pub no-more : r ≤ n
  no-more = run_in_chunk_le (λ b. b == 10) bs at n r 0 room counted

  pub found : r < n → (take (at + r) bs ≡ before_feed bs) × (drop (at + r + 1) bs ≡ after_feed bs)
  found short = feed-at bs (at + r) (omega (arith, room, short)) none-more (run_in_chunk_stops (λ b. b == 10) bs at n r 0 room counted short)

pub found-one : (bs : List ℕ) (at : ℕ) → at < length bs → NoFeed bs at → get_or bs at 0 ≡ 10 → (take at bs ≡ before_feed bs) × (drop (at + 1) bs ≡ after_feed bs)
found-one bs at h none is = feed-at bs at h none (eq-eqb _ _ is)

pub found-none : (bs : List ℕ) (at : ℕ) → at ≡ length bs → NoFeed bs at → (take at bs ≡ before_feed bs) × (drop (at + 1) bs ≡ after_feed bs)
found-none bs at end none =
    let e = feed-none bs (λ k h. none k (omega (arith, h, end))) in
    (ap (λ (n : ℕ). take n bs) end ∙ e.0, ap (λ (n : ℕ). drop (n + 1) bs) end ∙ e.1)

-- what stands behind the line, from a place of it on
after-line : (bs : List ℕ) (from : ℕ) → from ≤ length (before_feed bs) → after_feed bs ≡ after_feed (drop from bs)
after-line bs zero h = refl
after-line [] (suc from) h = absurd (omega (arith, h))
after-line (b ∷ bs) (suc from) h = go (b == 10) refl (after-line bs from)
  where
    go : (t : Bool) → (b == 10) ≡ t → (from ≤ length (before_feed bs) → after_feed bs ≡ after_feed (drop from bs)) → after_feed (b ∷ bs) ≡ after_feed (drop from bs)
    go true e rec = let none : length (before_feed (b ∷ bs)) ≡ 0 = ap (λ t. length (if t then [] else b ∷ before_feed bs)) e in absurd (omega (arith, h, none))
    go false e rec = let o = other-byte b bs e in let len = ap length o.0 in o.1 ∙ rec (omega (arith, h, len))

-- a line feed at the end of the line
no-feed-in : (bs : List ℕ) (k : ℕ) → k < length (before_feed bs) → (get_or bs k 0 == 10) ≡ false
no-feed-in [] k h = absurd (omega (arith, h))
no-feed-in (b ∷ bs) k h = go (b == 10) refl k h (λ j. no-feed-in bs j)
  where
    go : (t : Bool) → (b == 10) ≡ t → (k : ℕ) → k < length (before_feed (b ∷ bs)) → ((j : ℕ) → j < length (before_feed bs) → (get_or bs j 0 == 10) ≡ false) → (get_or (b ∷ bs) k 0 == 10) ≡ false
    go true e k h rec = let none : length (before_feed (b ∷ bs)) ≡ 0 = ap (λ t. length (if t then [] else b ∷ before_feed bs)) e in absurd (omega (arith, h, none))
    go false e zero h rec = e
    go false e (suc k) h rec = let len = ap length (other-byte b bs e).0 in rec k (omega (arith, h, len))

module _ (bs : List ℕ) (from : ℕ) (inside : from ≤ length (before_feed bs)) where
  -- the line ends here
  pub ends-here : get_or bs from 0 ≡ 10 → EndsText bs from from
  ends-here is =
      let end : from ≡ length (before_feed bs) = elim (cases_lt from (length (before_feed bs))) [
        | inl less ↦ let c : true ≡ false = sym (eq-eqb _ _ is) ∙ no-feed-in bs from less in cc
        | inr more ↦ omega (arith, more, inside)
      ] in
      let some : from < length bs = elim (cases_lt from (length bs)) [
        | inl h ↦ h
        | inr h ↦ let c : 0 ≡ 10 = sym (get_or_past bs from 0 h) ∙ is in absurd (omega (arith, c))
      ] in
      record {
        within = omega (arith, some);
        ends = end;
        after = (feed-at bs from some (λ k h. no-feed-in bs k (omega (arith, h, end))) (eq-eqb _ _ is)).1;
        utf8 = subst IsUtf8 (sym (drop_all from (before_feed bs) (omega (arith, end)))) IsUtf8-nil;
      }

  -- or further on
  module _ (rest : List ℕ) (is : rest ≡ drop from bs) (n : ℕ) (within : n ≤ length rest) (before : take n rest ≡ before_feed rest) (after : drop (n + 1) rest ≡ after_feed rest) where
    same : before_feed rest ≡ drop from (before_feed bs)
    same = ap before_feed is ∙ sym (drop-line bs from inside).0

    count : length (before_feed rest) ≡ n
    count = sym (ap length before) ∙ length-take-le n rest within

    pub ends-later : IsUtf8 (take n rest) → EndsText bs from (from + n)
    ends-later u =
        let behind = ap length same in let left = length-drop from (before_feed bs) in let many = count in let line = line-within bs in
        record {
          within = omega (arith, behind, left, many, line, inside);
          ends = omega (arith, behind, left, many, inside);
          after = ap (λ (k : ℕ). drop k bs) {x = from + n + 1} {y = from + (n + 1)} (omega arith) ∙ sym (drop-drop (n + 1) from bs) ∙ ap (drop (n + 1)) (sym is) ∙ after ∙ ap after_feed is ∙ sym (after-line bs from inside);
          utf8 = subst IsUtf8 (before ∙ same) u;
        }

    pub no-text : (IsUtf8 (take n rest) → ⊥) → IsUtf8 (drop from (before_feed bs)) → ⊥
    no-text h u = h (subst IsUtf8 (sym (before ∙ same)) u)

-- the bytes that the test sees
part : (bs : List ℕ) (from n : ℕ) → take (from + n - from) (drop from bs) ≡ take n (take (length bs - from) (drop from bs))
part bs from n = ap (λ (k : ℕ). take k (drop from bs)) {x = from + n - from} {y = n} (omega arith) ∙ ap (take n) (sym (take_rest bs from))

pub ends-tested : (bs : List ℕ) (from n : ℕ) → from ≤ length (before_feed bs) → n ≤ length (take (length bs - from) (drop from bs))
    → take n (take (length bs - from) (drop from bs)) ≡ before_feed (take (length bs - from) (drop from bs)) → drop (n + 1) (take (length bs - from) (drop from bs)) ≡ after_feed (take (length bs - from) (drop from bs))
    → IsUtf8 (take (from + n - from) (drop from bs)) → EndsText bs from (from + n)
ends-tested bs from n inside within before after u = ends-later bs from inside (take (length bs - from) (drop from bs)) (take_rest bs from) n within before after (subst IsUtf8 (part bs from n) u)

pub none_tested : (bs : List ℕ) (from n : ℕ) → from ≤ length (before_feed bs) → n ≤ length (take (length bs - from) (drop from bs))
    → take n (take (length bs - from) (drop from bs)) ≡ before_feed (take (length bs - from) (drop from bs)) → drop (n + 1) (take (length bs - from) (drop from bs)) ≡ after_feed (take (length bs - from) (drop from bs))
    → (IsUtf8 (take (from + n - from) (drop from bs)) → ⊥) → IsUtf8 (drop from (before_feed bs)) → ⊥
none_tested bs from n inside within before after h = no-text bs from inside (take (length bs - from) (drop from bs)) (take_rest bs from) n within before after (λ u. h (subst IsUtf8 (sym (part bs from n)) u))

-- Lines that come one by one.

-- a byte that is no line feed
other : (b : ℕ) (bs : List ℕ) → (b == 10) ≡ false → (before_feed (b ∷ bs) ≡ b ∷ before_feed bs) × (after_feed (b ∷ bs) ≡ after_feed bs)
other b bs e = (ap (λ t. if t then [] else b ∷ before_feed bs) e, ap (λ t. if t then bs else after_feed bs) e)

not_feed : (b : ℕ) → b ≢ 10 → (b == 10) ≡ false
not_feed b n = elim (eqb_tells b 10) [ inl t ↦ absurd (n t.1) | inr f ↦ f.0 ]

none_onto : (b : ℕ) (bs : List ℕ) → b ≢ 10 → HasNoFeed bs → HasNoFeed (b ∷ bs)
none_onto b bs n h zero k = n
none_onto b bs n h (suc i) k = h i (omega (arith, k))

-- what stands before a line feed has none
pub none_before : (xs : List ℕ) → HasNoFeed (before_feed xs)
none_before [] = λ k h. absurd (omega (arith, h))
none_before (b ∷ bs) = elim (eqb_tells b 10) [
  | inl t ↦
      let e : before_feed (b ∷ bs) ≡ [] = ap (λ u. if u then [] else b ∷ before_feed bs) t.0 in
      subst (λ (xs : List ℕ). HasNoFeed xs) (sym e) (λ k h. absurd (omega (arith, h)))
  | inr f ↦ subst (λ (xs : List ℕ). HasNoFeed xs) (sym (other b bs f.0).0) (none_onto b (before_feed bs) f.1 (none_before bs))
]

-- what was seen has none, so the line ends where it ends in the rest
seen_on : (seen n : ℕ) (xs : List ℕ) → seen ≤ length xs → HasNoFeed (take seen xs)
    → (take n (drop seen xs) ≡ before_feed (drop seen xs)) × (drop (n + 1) (drop seen xs) ≡ after_feed (drop seen xs))
    → (take (seen + n) xs ≡ before_feed xs) × (drop (seen + n + 1) xs ≡ after_feed xs)
seen_on zero n xs s h e =
    let same : 0 + n ≡ n = omega arith in
    (ap (λ (m : ℕ). take m xs) same ∙ e.0, ap (λ (m : ℕ). drop (m + 1) xs) same ∙ e.1)
seen_on (suc s) n [] k h e = absurd (omega (arith, k))
seen_on (suc s) n (x ∷ xs) k h e =
    let more = seen_on s n xs (omega (arith, k)) (λ i below. h (suc i) (omega (arith, below))) e in
    let o = other x xs (not_feed x (h 0 (omega arith))) in
    let long : suc s + n ≡ suc (s + n) = omega arith in
    let past : suc s + n + 1 ≡ suc (s + n + 1) = omega arith in
    (ap (λ (m : ℕ). take m (x ∷ xs)) long ∙ (ap (λ (zs : List ℕ). x ∷ zs) more.0 ∙ sym o.0), ap (λ (m : ℕ). drop m (x ∷ xs)) past ∙ (more.1 ∙ sym o.1))

module _ (seen n : ℕ) (xs rest : List ℕ) (is : rest ≡ xs) (within : seen ≤ length xs) (none : HasNoFeed (take seen xs))
    (before : take n (take (length rest - seen) (drop seen rest)) ≡ before_feed (take (length rest - seen) (drop seen rest)))
    (after : drop (n + 1) (take (length rest - seen) (drop seen rest)) ≡ after_feed (take (length rest - seen) (drop seen rest))) where
  unseen : take (length rest - seen) (drop seen rest) ≡ drop seen xs
  unseen = take_all (length rest - seen) (drop seen rest) (omega (arith, length-drop seen rest)) ∙ ap (λ (zs : List ℕ). drop seen zs) is

  pub seen_line : (take (seen + n) xs ≡ before_feed xs) × (drop (seen + n + 1) xs ≡ after_feed xs)
  seen_line = seen_on seen n xs within none
      (subst (λ (zs : List ℕ). take n zs ≡ before_feed zs) unseen before, subst (λ (zs : List ℕ). drop (n + 1) zs ≡ after_feed zs) unseen after)

-- what ends the first line is a line feed
feed_at : (xs : List ℕ) → length (before_feed xs) < length xs → get_or xs (length (before_feed xs)) 0 ≡ 10
feed_at [] h = absurd (omega (arith, h))
feed_at (b ∷ bs) h = elim (eqb_tells b 10) [
  | inl t ↦
      let e : before_feed (b ∷ bs) ≡ [] = ap (λ u. if u then [] else b ∷ before_feed bs) t.0 in
      ap (λ (l : List ℕ). get_or (b ∷ bs) (length l) 0) e ∙ t.1
  | inr f ↦
      let o = (other b bs f.0).0 in
      let long : length (before_feed (b ∷ bs)) ≡ suc (length (before_feed bs)) = ap length o in
      ap (λ (l : List ℕ). get_or (b ∷ bs) (length l) 0) o ∙ feed_at bs (omega (arith, h, long))
]

-- the first line and its line feed
pub first_whole : (xs : List ℕ) (n : ℕ) → n ≤ length xs → n ≢ length xs → take n xs ≡ before_feed xs → IsWholeLines (take (n + 1) xs)
first_whole xs n h some e =
    let long : length (before_feed xs) ≡ n = ap length (sym e) ∙ length-take-le n xs h in
    let below : n < length xs = elim (cases_lt n (length xs)) [ inl l ↦ l | inr m ↦ absurd (some (omega (arith, h, m))) ] in
    let same : n + 1 - 1 ≡ length (before_feed xs) = omega (arith, long) in
    whole_at xs (n + 1) (omega arith) (omega (arith, below)) (ap (λ (k : ℕ). get_or xs k 0) same ∙ feed_at xs (omega (arith, below, long)))

-- a line that ends where the bytes end has none
pub none_to_end : (n : ℕ) (xs : List ℕ) → length xs ≤ n → take n xs ≡ before_feed xs → HasNoFeed xs
none_to_end n xs h e = subst (λ (ys : List ℕ). HasNoFeed ys) (sym e ∙ take_all n xs h) (none_before xs)

-- none in a piece, and none behind it
pub none_window : (xs : List ℕ) (from at n : ℕ) → from ≤ at → at ≤ length xs → at - from ≤ n → take n (take (at - from) (drop from xs)) ≡ before_feed (take (at - from) (drop from xs))
    → ((k : ℕ) → at ≤ k → k < length xs → get_or xs k 0 ≢ 10) → (k : ℕ) → from ≤ k → k < length xs → get_or xs k 0 ≢ 10
none_window xs from at n o w long e high k low below = elim (cases_lt k at) [
  | inl l ↦
      let len : length (take (at - from) (drop from xs)) ≡ at - from = length-take-le (at - from) (drop from xs) (omega (arith, w, o, length-drop from xs)) in
      let none : HasNoFeed (take (at - from) (drop from xs)) = none_to_end n (take (at - from) (drop from xs)) (omega (arith, len, long)) e in
      let place : from + (k - from) ≡ k = omega (arith, low) in
      let is : get_or (take (at - from) (drop from xs)) (k - from) 0 ≡ get_or xs k 0 = get_or-take (at - from) (drop from xs) (k - from) 0 (omega (arith, low, l)) ∙ (get_or-drop from xs (k - from) 0 ∙ ap (λ (j : ℕ). get_or xs j 0) place) in
      λ q. none (k - from) (omega (arith, len, low, l)) (is ∙ q)
  | inr m ↦ high k m below
]

-- the first line ends within the first of two pieces
ends_within : (xs ys : List ℕ) → length (before_feed xs) < length xs → (before_feed (xs ++ ys) ≡ before_feed xs) × (after_feed (xs ++ ys) ≡ after_feed xs ++ ys)
ends_within [] ys h = absurd (omega (arith, h))
ends_within (b ∷ bs) ys h = elim (eqb_tells b 10) [
  | inl t ↦ (
    ap (λ u. if u then [] else b ∷ before_feed (bs ++ ys)) t.0 ∙ sym (ap (λ u. if u then [] else b ∷ before_feed bs) t.0),
    ap (λ u. if u then bs ++ ys else after_feed (bs ++ ys)) t.0 ∙ ap (λ (zs : List ℕ). zs ++ ys) (sym (ap (λ u. if u then bs else after_feed bs) t.0)),
  )
  | inr f ↦
      let o = other b bs f.0 in
      let p = other b (bs ++ ys) f.0 in
      let long : length (before_feed (b ∷ bs)) ≡ suc (length (before_feed bs)) = ap length o.0 in
      let more = ends_within bs ys (omega (arith, h, long)) in
      (p.0 ∙ (ap (λ (zs : List ℕ). b ∷ zs) more.0 ∙ sym o.0), p.1 ∙ (more.1 ∙ ap (λ (zs : List ℕ). zs ++ ys) (sym o.1)))
]

some_left : (xs ys : List ℕ) → xs ≢ [] → xs ++ ys ≢ []
some_left [] ys h e = h refl
some_left (x ∷ xs) ys h e = cc

module _ (xs line next : List ℕ) (n : ℕ) (within : n ≤ length xs) (before : take n xs ≡ before_feed xs) (after : drop (n + 1) xs ≡ after_feed xs)
    (some : xs ≢ []) (is : line ≡ take n xs) (rest : next ≡ drop (n + 1) xs) where
  -- the line ends in what was read
  gives_inner : (ys : List ℕ) → n < length xs → input_lines (xs ++ ys) ≡ line ∷ input_lines (next ++ ys)
  gives_inner ys h =
      let long : length (before_feed xs) ≡ n = ap length (sym before) ∙ length-take-le n xs within in
      let e = ends_within xs ys (omega (arith, h, long)) in
      sym (one_more [] (xs ++ ys) (xs ++ ys) line (next ++ ys) refl (some_left xs ys some) (is ∙ (before ∙ sym e.0)) (ap (λ (zs : List ℕ). zs ++ ys) (rest ∙ after) ∙ sym e.1))

  -- it is the last
  gives_last : (ys : List ℕ) → ys ≡ [] → input_lines (xs ++ ys) ≡ line ∷ input_lines (next ++ ys)
  gives_last ys e =
      let none : (zs : List ℕ) → zs ++ ys ≡ zs = λ zs. ap (λ (us : List ℕ). zs ++ us) e ∙ append-nil zs in
      sym (one_more [] (xs ++ ys) (xs ++ ys) line (next ++ ys) refl (some_left xs ys some) (is ∙ (before ∙ ap before_feed (sym (none xs)))) (none next ∙ (rest ∙ (after ∙ ap after_feed (sym (none xs))))))

  pub gives : (left : Option (List ℕ)) → (n ≡ length xs → IsAtEnd left) → GivesLine (prepend_known xs left) (prepend_known next left) line
  gives None last = tt
  gives (Some ys) last = elim (cases_lt n (length xs)) [ inl h ↦ gives_inner ys h | inr h ↦ gives_last ys (last (omega (arith, h, within))) ]

-- what is to come, as bytes are read and lines are given
pub came_keeps : (left rest : Option (List ℕ)) (old new fresh : List ℕ) → new ≡ old ++ fresh → Consumes left rest fresh → Keeps (prepend_known old left) (prepend_known new rest)
came_keeps None rest old new fresh e h = tt
came_keeps (Some xs) None old new fresh e h = absurd h
came_keeps (Some xs) (Some ys) old new fresh e h = ap (λ (zs : List ℕ). zs ++ ys) e ∙ (append_assoc old fresh ys ∙ ap (λ (zs : List ℕ). old ++ zs) (sym h))

pub kept_gives : (a b c : Option (List ℕ)) (line : List ℕ) → Keeps a b → GivesLine b c line → GivesLine a c line
kept_gives None b c line h k = tt
kept_gives (Some xs) None c line h k = absurd h
kept_gives (Some xs) (Some ys) None line h k = k
kept_gives (Some xs) (Some ys) (Some zs) line h k = ap input_lines (sym h) ∙ k

-- what is to come, behind bytes that are passed
pub passed : (left : Option (List ℕ)) (xs : List ℕ) (n : ℕ) → Consumes (prepend_known xs left) (prepend_known (drop n xs) left) (take n xs)
passed None xs n = tt
passed (Some ys) xs n = ap (λ (zs : List ℕ). zs ++ ys) (sym (take-append-drop n xs)) ∙ append_assoc (take n xs) (drop n xs) ys

-- no byte came
pub none_came : (old new fresh : List ℕ) → new ≡ old ++ fresh → length fresh ≡ 0 → new ≡ old
none_came old new [] e h = e ∙ append-nil old
none_came old new (x ∷ xs) e h = absurd (omega (arith, h))

-- no line is lent
pub no_line : (start end : ℕ) (xs : List ℕ) → start ≡ 0 → end ≡ 0 → drop start (take end xs) ≡ []
no_line start end xs s e = rw (s, e) refl
