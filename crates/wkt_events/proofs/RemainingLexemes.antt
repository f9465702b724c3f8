-- What is left of a text's lexemes, by what a byte is, and the numbers among them.
use Rattle.std.proofs.Common.{◌≡◌, ◌≢◌, ℕ, suc, ◌+◌, ◌-◌, ◌<◌, ◌≤◌, List, [], ◌∷◌, ◌++◌, length, get_or, drop, slice_range, refl, sym, ap, ◌∙◌, subst, arith, add-one, Bool, true, false, ◌==◌, if◌then◌else◌, ⊎_elim, length-append, ◌↔◌, ◌||◌, IsTrue, nat_le, ◌&&◌, inl, inr, IsUtf8, Option, None}
use Rattle.std.specs.Prelude.{not}
use Rattle.std.proofs.lemmas.Bool.{cases_lt, ne_eqb, cases_eq, eq-eqb, cases_Bool, eqb-true, leb-true}
use Rattle.std.proofs.lemmas.List.{drop_all, get_or_past, drop_more, length-drop, length-take, get_or-drop}
use Rattle.std.proofs.lemmas.List.Folds.{drop_split}
use Rattle.std.proofs.lemmas.List.Edits.{length-between, get_or-between}
use Rattle.std.proofs.lemmas.Str.{IsUtf8-drop, IsCharBoundary-before_ascii}
use Rattle.wkt_num.specs.Bytes.{Lexeme, Open, Close, Comma, Word, Num, Class, Nul, White, Mark, Run, AllRun, class_of}
use Rattle.wkt_read.specs.Lexemes.{lexeme_of, IsBoundary, starts_number, without_plus}
use Rattle.wkt_read.specs.Spanned.{Spanned, lexemes_of, marks, front, after_run, joined, spanned_from, spanned}
use Rattle.wkt_events.specs.Remaining.{before_feed, line_of, class_in, remaining_spanned, remaining, IsRunEnd, TakesOne, Legible, IsMark, IsNumberAt, NoNumber}
use Rattle.wkt_read.proofs.HeaderPlaces.{seam, past_ascii}
use Rattle.wkt_events.proofs.Utf8Lines.{drop-line}

-- What is left of a text's lexemes behind a byte, a mark or a run.

-- a byte that is no part of a run
joined-other : (c : Class) (b at : ℕ) (run : List ℕ) (later : List Spanned) → c ≢ Run → joined c b at run later ≡ ([], marks c (suc at) (after_run (suc at) run later))
joined-other Nul b at run later h = refl
joined-other White b at run later h = refl
joined-other (Mark l) b at run later h = refl
joined-other Run b at run later h = absurd (h refl)

front-other : (b at : ℕ) (bytes : List ℕ) → class_of b ≢ Run → front at (b ∷ bytes) ≡ ([], marks (class_of b) (suc at) (spanned_from (suc at) bytes))
unfolding front spanned_from
front-other b at bytes h = joined-other (class_of b) b at (front (suc at) bytes).0 (front (suc at) bytes).1 h

spanned-other : (b at : ℕ) (bytes : List ℕ) → class_of b ≢ Run → spanned_from at (b ∷ bytes) ≡ marks (class_of b) (suc at) (spanned_from (suc at) bytes)
unfolding spanned_from
spanned-other b at bytes h = ap (λ p. after_run at p.0 p.1) (front-other b at bytes h)

-- a part of a run
front-part : (b at : ℕ) (bytes : List ℕ) → class_of b ≡ Run → front at (b ∷ bytes) ≡ (b ∷ (front (suc at) bytes).0, (front (suc at) bytes).1)
unfolding front
front-part b at bytes e = let p = front (suc at) bytes in subst (λ k. joined k b at p.0 p.1 ≡ (b ∷ p.0, p.1)) (sym e) refl

front-none : (after : List ℕ) (at : ℕ) → IsBoundary after → front at after ≡ ([], spanned_from at after)
unfolding front spanned_from
front-none [] at stops = refl
front-none (b ∷ after) at stops = front-other b at after stops ∙ ap (λ l. ([], l)) (sym (spanned-other b at after stops))

front-run : (run after : List ℕ) (at : ℕ) → AllRun run → IsBoundary after → front at (run ++ after) ≡ (run, spanned_from (at + length run) after)
front-run [] after at all stops = let same : at ≡ at + 0 = omega arith in front-none after at stops ∙ ap (λ n. ([], spanned_from n after)) same
front-run (b ∷ run) after at all stops =
    let same : suc at + length run ≡ at + length (b ∷ run) = omega arith in
    front-part b at (run ++ after) all.0 ∙ ap (λ p. (b ∷ p.0, p.1)) (front-run run after (suc at) all.1 stops) ∙ ap (λ n. (b ∷ run, spanned_from n after)) same

spanned-run : (run after : List ℕ) (at : ℕ) → 0 < length run → AllRun run → IsBoundary after
    → spanned_from at (run ++ after) ≡ record { lexeme = lexeme_of run; end = at + length run } ∷ spanned_from (at + length run) after
unfolding spanned_from
spanned-run [] after at some all stops = absurd (omega (arith, some))
spanned-run (b ∷ run) after at some all stops = ap (λ p. after_run at p.0 p.1) (front-run (b ∷ run) after at all stops)

-- the end of a line
run-no-feed : (b : ℕ) → class_of b ≡ Run → (b == 10) ≡ false
unfolding class_of
run-no-feed b e = ne_eqb b 10 (λ q. let w : White ≡ Run = sym (ap class_of q) ∙ e in cc)

pub run-before_feed : (run after : List ℕ) → AllRun run → before_feed (run ++ after) ≡ run ++ before_feed after
run-before_feed [] after all = refl
run-before_feed (b ∷ run) after all =
    ap (λ t. if t then [] else b ∷ before_feed (run ++ after)) (run-no-feed b all.0) ∙ ap (λ l. b ∷ l) (run-before_feed run after all.1)

pub boundary-before_feed : (after : List ℕ) → IsBoundary after → IsBoundary (before_feed after)
boundary-before_feed [] h = tt
boundary-before_feed (b ∷ after) h = elim (b == 10) as (λ t. IsBoundary (if t then [] else b ∷ before_feed after)) [ true ↦ tt | false ↦ h ]

ends-other : (t : Bool) (b at : ℕ) (bytes : List ℕ) → (if t then Nul else class_of b) ≢ Run
    → spanned_from at (if t then [] else b ∷ bytes) ≡ marks (if t then Nul else class_of b) (suc at) (spanned_from (suc at) bytes)
unfolding front spanned_from
ends-other true b at bytes h = refl
ends-other false b at bytes h = spanned-other b at bytes h

line-other : (feed : Bool) (b at : ℕ) (bytes : List ℕ) → class_in feed b ≢ Run → spanned_from at (line_of feed (b ∷ bytes)) ≡ marks (class_in feed b) (suc at) (spanned_from (suc at) (line_of feed bytes))
unfolding class_in
line-other false b at bytes h = spanned-other b at bytes h
line-other true b at bytes h = ends-other (b == 10) b at (before_feed bytes) h

line-run : (feed : Bool) (run after : List ℕ) (at : ℕ) → 0 < length run → AllRun run → IsBoundary after
    → spanned_from at (line_of feed (run ++ after)) ≡ record { lexeme = lexeme_of run; end = at + length run } ∷ spanned_from (at + length run) (line_of feed after)
line-run false run after at some all stops = spanned-run run after at some all stops
line-run true run after at some all stops =
    ap (spanned_from at) (run-before_feed run after all) ∙ spanned-run run (before_feed after) at some all (boundary-before_feed after stops)

line-end : (feed : Bool) (at : ℕ) → spanned_from at (line_of feed []) ≡ []
unfolding spanned_from front
line-end false at = refl
line-end true at = refl

class-nul : (feed : Bool) → class_in feed 0 ≡ Nul
unfolding class_in class_of
class-nul false = refl
class-nul true = refl

-- past the text's end nothing is left
pub spanned-past : (feed : Bool) (text : List ℕ) (at : ℕ) → length text ≤ at → remaining_spanned feed text at ≡ []
unfolding remaining_spanned
spanned-past feed text at past = ap (λ l. spanned_from at (line_of feed l)) (drop_all at text past) ∙ line-end feed at

spanned-inside : (feed : Bool) (text : List ℕ) (at : ℕ) → at < length text → class_in feed (get_or text at 0) ≢ Run
    → remaining_spanned feed text at ≡ marks (class_in feed (get_or text at 0)) (at + 1) (remaining_spanned feed text (at + 1))
unfolding remaining_spanned
spanned-inside feed text at inside h = ap (λ l. spanned_from at (line_of feed l)) (drop_more text at 0 inside) ∙ line-other feed (get_or text at 0) at (drop (at + 1) text) h ∙ rw add-one refl

-- the byte at `at`, which is NUL past the text's end, is of this class, and it is no run's
pub spanned-class : (feed : Bool) (text : List ℕ) (at : ℕ) (c : Class) → class_in feed (get_or text at 0) ≡ c → c ≢ Run → remaining_spanned feed text at ≡ marks c (at + 1) (remaining_spanned feed text (at + 1))
spanned-class feed text at c is h = ⊎_elim
    (λ inside. spanned-inside feed text at inside (λ r. h (sym is ∙ r)) ∙ ap (λ k. marks k (at + 1) (remaining_spanned feed text (at + 1))) is)
    (λ past. let nul : Nul ≡ c = sym (ap (class_in feed) (get_or_past text at 0 past) ∙ class-nul feed) ∙ is in spanned-past feed text at past ∙ ap (λ k. marks k (at + 1) (remaining_spanned feed text (at + 1))) nul)
    (cases_lt at (length text))

-- White space is taken.
pub spanned-white : (feed : Bool) (text : List ℕ) (at : ℕ) → class_in feed (get_or text at 0) ≡ White → remaining_spanned feed text at ≡ remaining_spanned feed text (at + 1)
spanned-white feed text at is = spanned-class feed text at White is (λ e. cc)

pub remaining-white : (feed : Bool) (text : List ℕ) (at : ℕ) → class_in feed (get_or text at 0) ≡ White → remaining feed text at ≡ remaining feed text (at + 1)
unfolding remaining
remaining-white feed text at is = ap lexemes_of (spanned-white feed text at is)

pub within : (feed : Bool) (text : List ℕ) (at : ℕ) (c : Class) → class_in feed (get_or text at 0) ≡ c → c ≢ Nul → at < length text
within feed text at c is h = ⊎_elim
    (λ inside. inside)
    (λ past. absurd (h (sym is ∙ ap (class_in feed) (get_or_past text at 0 past) ∙ class-nul feed)))
    (cases_lt at (length text))

-- A mark is a lexeme.
pub takes-mark : (feed : Bool) (text : List ℕ) (at : ℕ) (l : Lexeme) → class_in feed (get_or text at 0) ≡ Mark l → TakesOne feed text at l (at + 1)
takes-mark feed text at l is =
    let inside = within feed text at (Mark l) is (λ e. cc) in
    record { grows = omega arith; inside = omega (arith, inside); next = spanned-class feed text at (Mark l) is (λ e. cc) }

-- The text ends here.
pub spanned-nul : (feed : Bool) (text : List ℕ) (at : ℕ) → class_in feed (get_or text at 0) ≡ Nul → remaining_spanned feed text at ≡ []
spanned-nul feed text at is = spanned-class feed text at Nul is (λ e. cc)

pub remaining-nul : (feed : Bool) (text : List ℕ) (at : ℕ) → class_in feed (get_or text at 0) ≡ Nul → remaining feed text at ≡ []
unfolding remaining
remaining-nul feed text at is = ap lexemes_of (spanned-nul feed text at is)

pub boundary-at : (text : List ℕ) (at : ℕ) → class_of (get_or text at 0) ≢ Run → IsBoundary (drop at text)
boundary-at text at h = ⊎_elim
    (λ inside. subst IsBoundary (sym (drop_more text at 0 inside)) h)
    (λ past. subst IsBoundary (sym (drop_all at text past)) tt)
    (cases_lt at (length text))

-- A run is a lexeme.
pub takes-run : (feed : Bool) (text : List ℕ) (from end : ℕ) → IsRunEnd text from end → from < end → TakesOne feed text from (lexeme_of (slice_range text from end)) end
unfolding remaining_spanned
takes-run feed text from end e some =
    let inside = e.inside in
    let count : length (slice_range text from end) ≡ end - from = simp (length-take, length-drop) (omega (arith, inside, some)) in
    let sum : from + length (slice_range text from end) ≡ end = omega (arith, count, some) in
    record {
      grows = some;
      inside = inside;
      next = ap (λ l. spanned_from from (line_of feed l)) (drop_split text from end e.order)
          ∙ line-run feed (slice_range text from end) (drop end text) from (omega (arith, count, some)) e.run (boundary-at text end e.stops)
          ∙ ap (λ n. record { lexeme = lexeme_of (slice_range text from end); end = n } ∷ spanned_from n (line_of feed (drop end text))) sum;
    }

-- The lexeme is taken from what is left.
pub takes-remaining : (feed : Bool) (text : List ℕ) (at : ℕ) (l : Lexeme) (to : ℕ) → TakesOne feed text at l to → remaining feed text at ≡ l ∷ remaining feed text to
unfolding remaining
takes-remaining feed text at l to t = ap lexemes_of t.next

-- The lexeme behind white space is taken from what is left.
pub takes-after : (feed : Bool) (text : List ℕ) (before at : ℕ) (l : Lexeme) (to : ℕ) → before ≤ at → remaining_spanned feed text before ≡ remaining_spanned feed text at → TakesOne feed text at l to → TakesOne feed text before l to
takes-after feed text before at l to order same t = let grows = t.grows in record { grows = omega (arith, grows, order); inside = t.inside; next = same ∙ t.next }

spanned-begins : (b at : ℕ) (bytes : List ℕ) → class_of b ≡ Run
    → spanned_from at (b ∷ bytes) ≡ record { lexeme = lexeme_of (b ∷ (front (suc at) bytes).0); end = at + length (b ∷ (front (suc at) bytes).0) } ∷ (front (suc at) bytes).1
unfolding spanned_from
spanned-begins b at bytes e = ap (λ p. after_run at p.0 p.1) (front-part b at bytes e)

-- At the beginning of a whole text, all its lexemes are left.
pub remaining-all : (text : List ℕ) → remaining_spanned false text 0 ≡ spanned text
unfolding remaining_spanned
remaining-all text = refl

ends-begins : (t : Bool) (b at : ℕ) (bytes : List ℕ) → (if t then Nul else class_of b) ≡ Run
    → (more : List ℕ) × ((rest : List Lexeme) × (lexemes_of (spanned_from at (if t then [] else b ∷ bytes)) ≡ lexeme_of (b ∷ more) ∷ rest))
ends-begins true b at bytes e = let q : Nul ≡ Run = e in cc
ends-begins false b at bytes e = ((front (suc at) bytes).0, (lexemes_of (front (suc at) bytes).1, ap lexemes_of (spanned-begins b at bytes e)))

line-begins : (feed : Bool) (b at : ℕ) (bytes : List ℕ) → class_in feed b ≡ Run
    → (more : List ℕ) × ((rest : List Lexeme) × (lexemes_of (spanned_from at (line_of feed (b ∷ bytes))) ≡ lexeme_of (b ∷ more) ∷ rest))
unfolding class_in
line-begins false b at bytes e = ends-begins false b at bytes e
line-begins true b at bytes e = ends-begins (b == 10) b at (before_feed bytes) e

-- With a byte of a run a word or a number begins.
pub remaining-begins : (feed : Bool) (text : List ℕ) (at : ℕ) → class_in feed (get_or text at 0) ≡ Run
    → (more : List ℕ) × ((rest : List Lexeme) × (remaining feed text at ≡ lexeme_of (get_or text at 0 ∷ more) ∷ rest))
unfolding remaining remaining_spanned
remaining-begins feed text at e =
    let inside = within feed text at Run e (λ e. cc) in
    let b = line-begins feed (get_or text at 0) at (drop (at + 1) text) e in
    (b.0, (b.1.0, ap (λ l. lexemes_of (spanned_from at (line_of feed l))) (drop_more text at 0 inside) ∙ b.1.1))

-- What a byte is in a text, by its number.

-- another byte than LF is the same in each text
pub class-same : (feed : Bool) (b : ℕ) → b ≢ 10 → class_in feed b ≡ class_of b
unfolding class_in
class-same false b h = refl
class-same true b h = ap (λ t. if t then Nul else class_of b) (ne_eqb b 10 h)

pub class-whole : (n b : ℕ) → n ≡ 0 → class_in (not (n == 0)) b ≡ class_of b
unfolding class_in
class-whole n b z = ap (λ t. class_in (not t) b) (eq-eqb n 0 z)

pub class-feed : (n b : ℕ) → n ≢ 0 → b ≡ 10 → class_in (not (n == 0)) b ≡ Nul
unfolding class_in
class-feed n b h z = ap (λ t. class_in (not t) b) (ne_eqb n 0 h) ∙ ap (λ t. if t then Nul else class_of b) (eq-eqb b 10 z)

-- a test for white space where another class is the same
pub reports-white : (t : Bool) (c k : Class) → c ≡ k → IsTrue t ↔ (k ≡ White) → IsTrue t ↔ (c ≡ White)
reports-white t c k e h = ((λ is. e ∙ h.0 is), (λ is. h.1 (sym e ∙ is)))

pub white-none : (c : Class) → c ≡ Nul → IsTrue false ↔ (c ≡ White)
white-none c e = ((λ h. cc), (λ is. let q : Nul ≡ White = sym e ∙ is in cc))

-- what stands after a space is no white space
pub late-byte : (feed : Bool) (b : ℕ) → 32 < b → class_in feed b ≢ White
unfolding class_of
late-byte feed b h e =
    let s : class_of b ≡ White = sym (class-same feed b (λ q. omega (arith, h, q))) ∙ e in
    let other : class_of b ≢ White = rw (ne_eqb b 0 (λ e. omega arith), ne_eqb b 32 (λ e. omega arith), ne_eqb b 10 (λ e. omega arith), ne_eqb b 13 (λ e. omega arith), ne_eqb b 9 (λ e. omega arith))
    (⊎_elim (λ q. rw q (λ e. cc)) (λ q. rw (ne_eqb b 40 q) (⊎_elim (λ r. rw r (λ e. cc)) (λ r. rw (ne_eqb b 41 r) (⊎_elim (λ s. rw s (λ e. cc)) (λ s. rw (ne_eqb b 44 s) (λ e. cc)) (cases_eq b 44))) (cases_eq b 41))) (cases_eq b 40)) in
    other s

pub space : (feed : Bool) (b : ℕ) → b ≡ 32 → class_in feed b ≡ White
unfolding class_in class_of
space false b e = ap class_of e
space true b e = ap (class_in true) e

-- the byte of a mark, and no other
pub mark-in : (feed : Bool) (b : ℕ) (l : Lexeme) → class_of b ≡ Mark l → class_in feed b ≡ Mark l
unfolding class_of
mark-in feed b l h = class-same feed b (λ e. let q : White ≡ Mark l = sym (ap class_of e) ∙ h in cc) ∙ h

not-this : (t : Bool) (x y c : Class) → (if t then x else y) ≡ c → x ≢ c → (t ≡ false) × (y ≡ c)
not-this true x y c e h = absurd (h e)
not-this false x y c e h = (refl, e)

pub class-in-mark : (feed : Bool) (b : ℕ) (l : Lexeme) → class_in feed b ≡ Mark l → class_of b ≡ Mark l
unfolding class_in
class-in-mark false b l e = e
class-in-mark true b l e = (not-this (b == 10) Nul (class_of b) (Mark l) e (λ q. cc)).1

pub class-in-run : (feed : Bool) (b : ℕ) → class_in feed b ≡ Run → class_of b ≡ Run
unfolding class_in
class-in-run false b e = e
class-in-run true b e = (not-this (b == 10) Nul (class_of b) Run e (λ q. cc)).1

module _ (feed : Bool) (text : List ℕ) where
  -- white space is no end
  pub white-some : (at b : ℕ) → b ≡ get_or text at 0 → class_in feed b ≡ White → class_in feed (get_or text at 0) ≢ Nul
  white-some at b e w h = let q : White ≡ Nul = sym w ∙ ap (class_in feed) e ∙ h in cc

  -- a step over white space
  pub past-white : (at b : ℕ) → b ≡ get_or text at 0 → class_in feed b ≡ White → (at + 1 ≤ length text) × (remaining_spanned feed text at ≡ remaining_spanned feed text (at + 1))
  past-white at b e w =
      let is : class_in feed (get_or text at 0) ≡ White = ap (class_in feed) (sym e) ∙ w in
      let inside = within feed text at White is (λ q. cc) in
      (omega (arith, inside), spanned-white feed text at is)

-- A number's run in a line that is UTF-8 is text.

letter-digit : (b : ℕ) → 65 ≤ b → (nat_le 48 b && nat_le b 57) ≡ false
letter-digit b h = elim (cases_Bool (nat_le 48 b && nat_le b 57)) [
  | inl e ↦ absurd (let both = yes_both (nat_le 48 b) (nat_le b 57) e in let low = leb-true b 57 both in omega (arith, low, h))
  | inr e ↦ e
]
  where
    yes_both : (x y : Bool) → (x && y) ≡ true → y ≡ true
    yes_both true y e = e
    yes_both false y e = cc

letter-starts : (b : ℕ) → 65 ≤ b → starts_number b ≡ false
letter-starts b h = rw (letter-digit b h, ne_eqb b 46 (λ e. omega (arith, e, h)), ne_eqb b 45 (λ e. omega (arith, e, h)), ne_eqb b 43 (λ e. omega (arith, e, h))) refl

number-low : (b : ℕ) → starts_number b ≡ true → b < 128
number-low b h = elim (cases_lt b 128) [
  | inl low ↦ low
  | inr high ↦ let f = letter-starts b (omega (arith, high)) in let q : true ≡ false = sym h ∙ f in cc
]

-- the run, and what stands behind it in the line
behind-run : (feed : Bool) (text : List ℕ) (at end : ℕ) → at ≤ length (line_of feed text) → IsRunEnd text at end
    → (after : List ℕ) × ((drop at (line_of feed text) ≡ slice_range text at end ++ after) × IsBoundary after)
behind-run false text at end h e = (drop end text, (drop_split text at end e.order, boundary-at text end e.stops))
behind-run true text at end h e =
    (before_feed (drop end text), ((drop-line text at h).0 ∙ ap before_feed (drop_split text at end e.order) ∙ run-before_feed (slice_range text at end) (drop end text) e.run, boundary-before_feed (drop end text) (boundary-at text end e.stops)))

first-of : (xs ys : List ℕ) → 0 < length xs → get_or (xs ++ ys) 0 0 ≡ get_or xs 0 0
first-of [] ys h = absurd (omega (arith, h))
first-of (x ∷ xs) ys h = refl

run-text : (feed : Bool) (text : List ℕ) (at end : ℕ) → Legible feed text at → IsRunEnd text at end → at < end → get_or text at 0 < 128 → IsUtf8 (slice_range text at end)
run-text feed text at end l e order low =
    let b = behind-run feed text at end l.1 e in
    let line = line_of feed text in
    let long : length (slice_range text at end) ≡ end - at = length-between text at end e.inside in
    let count : length line - at ≡ length (slice_range text at end) + length b.0 = sym (length-drop at line) ∙ ap length b.1.0 ∙ length-append (slice_range text at end) b.0 in
    let inside : at < length line = omega (arith, count, long, order) in
    let here : get_or line at 0 ≡ get_or text at 0 =
    ap (λ n. get_or line n 0) {x = at} {y = at + 0} (omega arith) ∙ sym (get_or-drop at line 0 0) ∙ ap (λ l. get_or l 0 0) b.1.0 ∙ first-of (slice_range text at end) b.0 (omega (arith, long, order))
    ∙ get_or-between text at end 0 0 (omega (arith, order)) ∙ ap (λ (n : ℕ). get_or text n 0) {x = at + 0} {y = at} (omega arith) in
    let cut = IsCharBoundary-before_ascii line at inside (omega (arith, here, low)) in
    (seam (slice_range text at end) b.0 b.1.1 (subst IsUtf8 b.1.0 (IsUtf8-drop line at l.0 cut))).0

no-plus : (run : List ℕ) → IsUtf8 run → IsUtf8 (without_plus run)
no-plus [] u = u
no-plus (b ∷ bs) u = go (b == 43) refl
  where
    go : (t : Bool) → (b == 43) ≡ t → IsUtf8 (if t then bs else b ∷ bs)
    go true e = past_ascii b bs (let q = eqb-true b 43 e in omega (arith, q)) u
    go false e = u

pub number-text : (feed : Bool) (text : List ℕ) (at end : ℕ) → Legible feed text at → IsRunEnd text at end → at < end → starts_number (get_or text at 0) ≡ true → IsUtf8 (without_plus (slice_range text at end))
number-text feed text at end l e order starts = no-plus (slice_range text at end) (run-text feed text at end l e order (number-low (get_or text at 0) starts))

-- What a number in bytes is among the lexemes that are left.

-- a run that begins as a number is one
number-lexeme : (run : List ℕ) → 0 < length run → IsTrue (starts_number (get_or run 0 0)) → lexeme_of run ≡ Num (without_plus run)
number-lexeme [] some h = absurd (omega (arith, some))
number-lexeme (b ∷ bs) some h = ap (λ t. if t then Num (without_plus (b ∷ bs)) else Word (b ∷ bs)) h

word-lexeme : (run : List ℕ) → starts_number (get_or run 0 0) ≡ false → lexeme_of run ≡ Word run
word-lexeme [] h = refl
word-lexeme (b ∷ bs) h = ap (λ t. if t then Num (without_plus (b ∷ bs)) else Word (b ∷ bs)) h

-- the class of a byte is that of a mark only at a mark
abbrev OnMark : Class → Type 0
OnMark Nul = Unit {0}
OnMark White = Unit {0}
OnMark (Mark l) = IsMark l
OnMark Run = Unit {0}

class-mark : (b : ℕ) → OnMark (class_of b)
unfolding class_of
class-mark b = go (b == 0) (b == 32 || b == 10 || b == 13 || b == 9) (b == 40) (b == 41) (b == 44)
  where
    go : (n w o c m : Bool) → OnMark (if n then Nul else (if w then White else (if o then Mark Open else (if c then Mark Close else (if m then Mark Comma else Run)))))
    go true w o c m = tt
    go false true o c m = tt
    go false false true c m = tt
    go false false false true m = tt
    go false false false false true = tt
    go false false false false false = tt

number-mark : (feed : Bool) (b : ℕ) → OnMark (class_in feed b)
unfolding class_in
number-mark false b = class-mark b
number-mark true b = go (b == 10)
  where
    go : (t : Bool) → OnMark (if t then Nul else class_of b)
    go true = tt
    go false = class-mark b

module _ {N : Type 0} (read : List ℕ → Option N) (feed : Bool) (text : List ℕ) (at : ℕ) where
  first : (end : ℕ) → at < end → get_or (slice_range text at end) 0 0 ≡ get_or text at 0
  first end order = get_or-between text at end 0 0 (omega arith) ∙ ap (λ (i : ℕ). get_or text i 0) (omega arith)

  -- a number is the lexeme that comes next
  pub takes-number : (end : ℕ) (x : N) → IsNumberAt read text at end x → TakesOne feed text at (Num (without_plus (slice_range text at end))) end
  takes-number end x h =
      let long : length (slice_range text at end) ≡ end - at = length-between text at end h.ends.inside in
      let is : lexeme_of (slice_range text at end) ≡ Num (without_plus (slice_range text at end)) = number-lexeme (slice_range text at end) (omega (arith, long, h.order)) (subst (λ b. IsTrue (starts_number b)) (sym (first end h.order)) h.begins) in
      subst (λ l. TakesOne feed text at l end) is (takes-run feed text at end h.ends h.order)

  -- where none is read, none that is read is the lexeme that comes next
  pub no-number : Legible feed text at → class_in feed (get_or text at 0) ≢ White → NoNumber read text at → (run : List ℕ) (rest : List Lexeme) → remaining feed text at ≡ Num run ∷ rest → read run ≡ None
  no-number legible other h run rest is = go (class_in feed (get_or text at 0)) refl (number-mark feed (get_or text at 0))
    where
      at-run : at < h.end → (t : Bool) → starts_number (get_or text at 0) ≡ t → read run ≡ None
      at-run order true e =
          let long : length (slice_range text at h.end) ≡ h.end - at = length-between text at h.end h.ends.inside in
          let number : lexeme_of (slice_range text at h.end) ≡ Num (without_plus (slice_range text at h.end)) = number-lexeme (slice_range text at h.end) (omega (arith, long, order)) (ap starts_number (first h.end order) ∙ e) in
          let same : Num (without_plus (slice_range text at h.end)) ∷ remaining feed text h.end ≡ Num run ∷ rest = ap (λ l. l ∷ remaining feed text h.end) (sym number) ∙ sym (takes-remaining feed text at (lexeme_of (slice_range text at h.end)) h.end (takes-run feed text at h.end h.ends order)) ∙ is in
          let runs : without_plus (slice_range text at h.end) ≡ run = cc in
          ap read (sym runs) ∙ h.none order e (number-text feed text at h.end legible h.ends order e)
      at-run order false e =
          let word : lexeme_of (slice_range text at h.end) ≡ Word (slice_range text at h.end) = word-lexeme (slice_range text at h.end) (ap starts_number (first h.end order) ∙ e) in
          let same : Word (slice_range text at h.end) ∷ remaining feed text h.end ≡ Num run ∷ rest = ap (λ l. l ∷ remaining feed text h.end) (sym word) ∙ sym (takes-remaining feed text at (lexeme_of (slice_range text at h.end)) h.end (takes-run feed text at h.end h.ends order)) ∙ is in
          cc

      go : (c : Class) → class_in feed (get_or text at 0) ≡ c → OnMark c → read run ≡ None
      go Nul e m = let none : [] ≡ Num run ∷ rest = sym (remaining-nul feed text at e) ∙ is in cc
      go White e m = absurd (other e)
      go (Mark l) e m =
          let same : l ∷ remaining feed text (at + 1) ≡ Num run ∷ rest = sym (takes-remaining feed text at l (at + 1) (takes-mark feed text at l e)) ∙ is in
          let number : l ≡ Num run = cc in
          absurd (subst IsMark number m)
      go Run e m = elim (cases_lt at h.end) [
        | inl order ↦ at-run order (starts_number (get_or text at 0)) refl
        | inr none ↦
            let same : h.end ≡ at = omega (arith, none, h.ends.order) in
            absurd (h.ends.stops (ap (λ (i : ℕ). class_of (get_or text i 0)) same ∙ class-in-run feed (get_or text at 0) e))
      ]
