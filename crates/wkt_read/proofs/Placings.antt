-- The placed lexemes of a text are its split; one lexeme further, and how many are left; and one byte more.
use Rattle.std.proofs.Common.{◌≤◌, ◌≡◌, length, arith, List, [], ◌∷◌, ◌++◌, sym, refl, ap, ◌∙◌, subst, append_assoc, Option, Some, None, ◌≢◌, ℕ, suc, ◌+◌, inl, inr, length-append, ◌-◌, ◌<◌, drop, ◌↔◌, get_or, add-one, take, slice_range, append-nil, IsUtf8, ⊎_elim}
use Rattle.std.specs.Prelude.{◌⊎◌}
use Rattle.std.proofs.Math.Seq.{drop-cons, drop-length}
use Rattle.std.proofs.lemmas.List.{drop_all, length-drop, take_more, get_or-drop, length-take}
use Rattle.std.specs.Str.{IsCharBoundary}
use Rattle.std.proofs.lemmas.Str.{IsCharBoundary-end, IsCharBoundary-before_ascii, IsCharBoundary-after_ascii}
use borrow.Author.Tests.{ne_eqb}
use Rattle.wkt_num.specs.Bytes.{Lexeme, Class, Nul, White, Mark, Run, class_of, AllWhite, AllRun}
use Rattle.wkt_num.specs.Bytes as lex
use Rattle.wkt_read.specs.Spanned.{Spanned, lexemes_of, end_after, AreEnds, marks, front, after_run, joined, spanned_from, spanned, Standing}
use Rattle.wkt_read.specs.Stream.{remaining, end_of, taken_of, rest, Moves, IfLast, IsAfter, StreamGoesOn, TakesNext}
use Rattle.wkt_read.specs.Lexemes.{IsBoundary, SpellsLexeme, Takes, IsOver, IsSplit, lexeme_of}
use Rattle.wkt_read.specs.Streams.{taken_in, coming_at, meant, IsRunSoFar, EndsRun, FoundClass}
use Rattle.wkt_read.specs.declared.tokenizer.cursor.Cursor.{Cursor}
use Rattle.wkt_read.proofs.HeaderPlaces.{run_or_ascii}
use Rattle.wkt_read.specs.declared.tokenizer.scan.ByteClass as code
use Rattle.wkt_read.specs.declared.tokenizer.scan.ByteClass.TheVariants as class

-- The placed lexemes of a text are its split; one lexeme further, and how many are left.

-- One lexeme further.

last-push : (given : List Spanned) (x : Spanned) → IfLast (given ++ x ∷ []) x.end
last-push [] x = refl
last-push (y ∷ []) x = refl
last-push (y ∷ z ∷ given) x = last-push (z ∷ given) x

takes-fewer : (o : Option Lexeme) (old new : List Lexeme) → TakesNext o old new → length new ≤ length old
takes-fewer None old new h = omega (arith, ap length h.0, ap length h.1)
takes-fewer (Some l) old new h = omega (arith, ap length h)

module _ where
  keeps-moves : (s : Standing) (o : Option Lexeme) (t : Standing) → Moves s o t → (start : List Spanned) → IsAfter start s → IsAfter start t
  keeps-moves s None t h start b = record { given = b.given; split = b.split ∙ ap (λ l. b.given ++ l) (h.0 ∙ sym h.1); last = subst (IfLast b.given) (sym h.2) b.last }
  keeps-moves s (Some l) t h start b =
      let y : Spanned = record { lexeme = l; end = end_of t } in
      record { given = b.given ++ (y ∷ []); split = b.split ∙ ap (λ l. b.given ++ l) h.0 ∙ sym (append_assoc b.given (y ∷ []) (remaining t)); last = last-push b.given y }

  grows-moves : (s : Standing) (o : Option Lexeme) (t : Standing) → Moves s o t → taken_of s ≤ taken_of t
  grows-moves s None t h = h.3
  grows-moves s (Some l) t h = h.3

  pub takes-moves : (s : Standing) (o : Option Lexeme) (t : Standing) → Moves s o t → TakesNext o (rest s) (rest t)
  unfolding rest
  takes-moves s None t h = (ap lexemes_of h.0, ap lexemes_of h.1)
  takes-moves s (Some l) t h = ap lexemes_of h.0

  pub goes-moves : (s : Standing) (o : Option Lexeme) (t : Standing) → Moves s o t → StreamGoesOn s t
  goes-moves s o t h = record { keeps = keeps-moves s o t h; grows = grows-moves s o t h; fewer = takes-fewer o (rest s) (rest t) (takes-moves s o t h) }

pub lexemes_of-append : (xs ys : List Spanned) → lexemes_of (xs ++ ys) ≡ lexemes_of xs ++ lexemes_of ys
lexemes_of-append [] ys = refl
lexemes_of-append (x ∷ xs) ys = ap (λ l. x.lexeme ∷ l) (lexemes_of-append xs ys)

-- The placed lexemes of a text are its split, and each beginning of them ends where it says.

-- The bytes are these lexemes, where `at` bytes stand before them.
abbrev pub Stands : ℕ → List ℕ → List Spanned → Type 0
Stands at text [] = IsOver text
Stands at text (p ∷ ps) =
    (gap : List ℕ) × (body : List ℕ) × (after : List ℕ)
    × (text ≡ gap ++ (body ++ after)) × AllWhite gap × SpellsLexeme body after p.lexeme × (p.end ≡ at + (length gap + length body)) × Stands p.end after ps

-- The bytes are a run and then these lexemes.
abbrev pub Begins : ℕ → List ℕ → List ℕ → List Spanned → Type 0
Begins at text run later =
    (rest : List ℕ) × (text ≡ run ++ rest) × AllRun run × IsBoundary rest × Stands (at + length run) rest later

past : (at : ℕ) (text run : List ℕ) (later : List Spanned) → Begins at text run later → Stands at text (after_run at run later)
past at text [] later (rest, e, ar, ib, st) = subst (λ t. Stands at t later) (sym e) (let same : at + 0 ≡ at = omega arith in subst (λ n. Stands n rest later) same st)
past at text (b ∷ run) later (rest, e, ar, ib, st) = ([], b ∷ run, rest, e, tt, inr ((λ z. cc, ar), ib, refl), omega arith, st)

white : (b at : ℕ) (t : List ℕ) (ps : List Spanned) → class_of b ≡ White → Stands (suc at) t ps → Stands at (b ∷ t) ps
white b at t [] h (gap, after, e, w, end) = (b ∷ gap, after, ap (λ x. b ∷ x) e, (h, w), end)
white b at t (p ∷ ps) h (gap, body, after, e, w, s, n, st) = (b ∷ gap, body, after, ap (λ x. b ∷ x) e, (h, w), s, omega (arith, n), st)

marked : (c : Class) (b at : ℕ) (t : List ℕ) (ps : List Spanned) → class_of b ≡ c → c ≢ Run → Stands (suc at) t ps → Stands at (b ∷ t) (marks c (suc at) ps)
marked Nul b at t ps h other st = ([], b ∷ t, refl, tt, h)
marked White b at t ps h other st = white b at t ps h st
marked (Mark l) b at t ps h other st = ([], b ∷ [], t, refl, tt, inl (b, refl, h), omega arith, st)
marked Run b at t ps h other st = absurd (other refl)

step : (c : Class) (b at : ℕ) (t run : List ℕ) (later : List Spanned) → class_of b ≡ c → Begins (suc at) t run later → Begins at (b ∷ t) (joined c b at run later).0 (joined c b at run later).1
step Run b at t run later h (rest, e, ar, ib, st) =
    (rest, ap (λ x. b ∷ x) e, (h, ar), ib, let same : suc at + length run ≡ at + length (b ∷ run) = omega arith in subst (λ n. Stands n rest later) same st)
step Nul b at t run later h all = (b ∷ t, refl, tt, (λ z. let q : Nul ≡ Run = sym h ∙ z in cc), let same : at ≡ at + 0 = omega arith in subst (λ n. Stands n (b ∷ t) (marks Nul (suc at) (after_run (suc at) run later))) same (marked Nul b at t _ h (λ z. cc) (past (suc at) t run later all)))
step White b at t run later h all = (b ∷ t, refl, tt, (λ z. let q : White ≡ Run = sym h ∙ z in cc), let same : at ≡ at + 0 = omega arith in subst (λ n. Stands n (b ∷ t) (marks White (suc at) (after_run (suc at) run later))) same (marked White b at t _ h (λ z. cc) (past (suc at) t run later all)))
step (Mark l) b at t run later h all = (b ∷ t, refl, tt, (λ z. let q : Mark l ≡ Run = sym h ∙ z in cc), let same : at ≡ at + 0 = omega arith in subst (λ n. Stands n (b ∷ t) (marks (Mark l) (suc at) (after_run (suc at) run later))) same (marked (Mark l) b at t _ h (λ z. cc) (past (suc at) t run later all)))

begins : (at : ℕ) (bytes : List ℕ) → Begins at bytes (front at bytes).0 (front at bytes).1
unfolding front
begins at [] = ([], refl, tt, tt, ([], [], refl, tt, tt))
begins at (b ∷ bytes) = step (class_of b) b at bytes (front (suc at) bytes).0 (front (suc at) bytes).1 refl (begins (suc at) bytes)

pub stands : (at : ℕ) (bytes : List ℕ) → Stands at bytes (spanned_from at bytes)
unfolding spanned_from
stands at bytes = past at bytes (front at bytes).0 (front at bytes).1 (begins at bytes)

stands-split : (at : ℕ) (text : List ℕ) (ps : List Spanned) → Stands at text ps → IsSplit text (lexemes_of ps)
stands-split at text [] over = (text, refl, over)
stands-split at text (p ∷ ps) (gap, body, after, e, w, s, n, st) =
    let (rest, t, over) = stands-split p.end after ps st in
    (rest, (gap, body, after, e, w, s, t), over)

-- the placed lexemes are the one split of the text
pub spanned-split : (text : List ℕ) → IsSplit text (lexemes_of (spanned text))
spanned-split text = stands-split 0 text (spanned text) (stands 0 text)

stands-taken : (at : ℕ) (text : List ℕ) (given later : List Spanned) → Stands at text (given ++ later) → (rest : List ℕ) × Takes text (lexemes_of given) rest × (length rest + end_after at given ≡ at + length text)
stands-taken at text [] later st = (text, refl, omega arith)
stands-taken at text (p ∷ given) later (gap, body, after, e, w, s, n, st) =
    let (rest, t, end) = stands-taken p.end after given later st in
    (rest, (gap, body, after, e, w, s, t), omega (arith, end, n, ap length e, length-append gap (body ++ after), length-append body after))

-- a beginning of them is taken from the text, and what is left of it begins at the last one's end
pub spanned-ends : (text : List ℕ) → AreEnds text (spanned text)
spanned-ends text given later e =
    let (rest, t, end) = stands-taken 0 text given later (subst (Stands 0 text) e (stands 0 text)) in
    (rest, t, omega (arith, end))

-- No more lexemes are left than bytes, but for a mark that was taken with the run before it.

after-few : (at : ℕ) (run : List ℕ) (later : List Spanned) → length (after_run at run later) ≤ length run + length later
after-few at [] later = omega arith
after-few at (b ∷ run) later = omega arith

joined-few : (c : Class) (b at n : ℕ) (run : List ℕ) (later : List Spanned) → length run + length later ≤ n → length (joined c b at run later).0 + length (joined c b at run later).1 ≤ suc n
joined-few Run b at n run later le = omega (arith, le)
joined-few Nul b at n run later le = omega arith
joined-few White b at n run later le = let few = after-few (suc at) run later in omega (arith, le, few)
joined-few (Mark l) b at n run later le = let few = after-few (suc at) run later in omega (arith, le, few)

front-few : (at : ℕ) (bytes : List ℕ) → length (front at bytes).0 + length (front at bytes).1 ≤ length bytes
unfolding front
front-few at [] = omega arith
front-few at (b ∷ bytes) = joined-few (class_of b) b at (length bytes) (front (suc at) bytes).0 (front (suc at) bytes).1 (front-few (suc at) bytes)

spanned-from-few : (at : ℕ) (bytes : List ℕ) → length (spanned_from at bytes) ≤ length bytes
unfolding spanned_from
spanned-from-few at bytes =
    let few = front-few at bytes in
    let more = after-few at (front at bytes).0 (front at bytes).1 in
    omega (arith, few, more)

marks-few : (c : Class) (at : ℕ) (later : List Spanned) → length (marks c at later) ≤ length later + 1
marks-few Nul at later = omega arith
marks-few _ at later = omega arith

pub coming-few : (c : Cursor) (kind : Class) → length (coming_at c.text.now kind (taken_in c)) ≤ length c.text.now - taken_in c + 1
coming-few c kind =
    let few = spanned-from-few c.taken (drop c.taken c.text.now) in
    let more = marks-few kind c.taken (spanned_from c.taken (drop c.taken c.text.now)) in
    omega (arith, few, more, length-drop c.taken c.text.now)

-- What is left of a list of bytes at each byte of it.

-- the first byte that is left, and the rest
first_left : (bs : List ℕ) (i : ℕ) → i < length bs → AllWhite (drop i bs) ↔ ((class_of (get_or bs i 0) ≡ White) × AllWhite (drop (i + 1) bs))
first_left bs i h = rw (drop-cons bs i 0 h, add-one) (λ a. a, λ a. a)

pub white_on : (bs : List ℕ) (i : ℕ) → i < length bs → AllWhite bs ↔ AllWhite (drop i bs) → class_of (get_or bs i 0) ≡ White →
    AllWhite bs ↔ AllWhite (drop (i + 1) bs)
white_on bs i h was white = (λ a. ((first_left bs i h).0 (was.0 a)).1, λ a. was.1 ((first_left bs i h).1 (white, a)))

pub white_here : (bs : List ℕ) (i : ℕ) → i < length bs → AllWhite bs ↔ AllWhite (drop i bs) → AllWhite bs → class_of (get_or bs i 0) ≡ White
white_here bs i h was a = ((first_left bs i h).0 (was.0 a)).0

pub none_left : (bs : List ℕ) (i : ℕ) → length bs ≤ i → AllWhite (drop i bs)
none_left bs i h = rw (drop_all i bs h) tt

-- no more was taken than the text has
pub taken-within : (c : Cursor) → taken_in c ≤ length c.text.now
taken-within c = c.in_range

pub ruleset goes_moves = (goes-moves, takes-moves)

pub ruleset taken_within = taken-within

-- One byte more.

-- after a byte that is no part of a run
spanned-mark : (c : Class) (b at : ℕ) (bytes : List ℕ) → class_of b ≡ c → c ≢ Run → spanned_from at (b ∷ bytes) ≡ marks c (suc at) (spanned_from (suc at) bytes)
unfolding front spanned_from
spanned-mark c b at bytes e h =
    let p = front (suc at) bytes in
    subst (λ k. after_run at (joined k b at p.0 p.1).0 (joined k b at p.0 p.1).1 ≡ marks c (suc at) (after_run (suc at) p.0 p.1)) (sym e)
    (elim c as (λ c. c ≢ Run → after_run at (joined c b at p.0 p.1).0 (joined c b at p.0 p.1).1 ≡ marks c (suc at) (after_run (suc at) p.0 p.1)) [ Nul ↦ λ h. refl | White ↦ λ h. refl | Mark l ↦ λ h. refl | Run ↦ λ h. absurd (h refl) ] h)

front-mark : (c : Class) (b at : ℕ) (bytes : List ℕ) → class_of b ≡ c → c ≢ Run → front at (b ∷ bytes) ≡ ([], marks c (suc at) (spanned_from (suc at) bytes))
unfolding front spanned_from
front-mark c b at bytes e h =
    let p = front (suc at) bytes in
    subst (λ k. joined k b at p.0 p.1 ≡ ([], marks c (suc at) (after_run (suc at) p.0 p.1))) (sym e)
    (elim c as (λ c. c ≢ Run → joined c b at p.0 p.1 ≡ ([], marks c (suc at) (after_run (suc at) p.0 p.1))) [ Nul ↦ λ h. refl | White ↦ λ h. refl | Mark l ↦ λ h. refl | Run ↦ λ h. absurd (h refl) ] h)

front-run : (b at : ℕ) (bytes : List ℕ) → class_of b ≡ Run → front at (b ∷ bytes) ≡ (b ∷ (front (suc at) bytes).0, (front (suc at) bytes).1)
unfolding front
front-run b at bytes e =
    let p = front (suc at) bytes in
    subst (λ k. joined k b at p.0 p.1 ≡ (b ∷ p.0, p.1)) (sym e) refl

-- a class that is not a run's means none
no-run : (c : code.ByteClass) → c ≢ class.Run → meant c ≢ Run
no-run class.Run h = absurd (h refl)
no-run _ h = λ e. cc

pub found-end : (remaining : List Spanned) (text : List ℕ) (at : ℕ) → remaining ≡ coming_at text White at → at ≡ length text → FoundClass remaining text class.Nul at
unfolding front spanned_from
found-end remaining text at e end = (e ∙ ap (λ l. spanned_from at l) (ap (λ n. drop n text) end ∙ drop-length text), subst (IsCharBoundary text) (sym end) (IsCharBoundary-end text))

-- the byte at `at` is taken
module _ (text : List ℕ) (at : ℕ) (utf8 : IsUtf8 text) (inside : at < length text) where
  next : drop at text ≡ get_or text at 0 ∷ drop (at + 1) text
  next = rw add-one (drop-cons text at 0 inside)

  -- it is no part of a run
  found-mark : (remaining : List Spanned) (c : code.ByteClass) → c ≢ class.Run → class_of (get_or text at 0) ≡ meant c → remaining ≡ coming_at text White at → FoundClass remaining text c (at + 1)
  found-mark remaining c h e is =
      let b = get_or text at 0 in
      let boundary = IsCharBoundary-after_ascii text at utf8 inside (run_or_ascii b (λ o. no-run c h (sym e ∙ o))) in
      let moved : remaining ≡ coming_at text (meant c) (at + 1) = is ∙ ap (spanned_from at) next ∙ spanned-mark (meant c) b at (drop (at + 1) text) e (no-run c h) ∙ rw add-one refl in
      elim c as (λ c. c ≢ class.Run → remaining ≡ coming_at text (meant c) (at + 1) → FoundClass remaining text c (at + 1)) [ class.Nul ↦ λ h m. (m, boundary) | class.White ↦ λ h m. (m, boundary) | class.Open ↦ λ h m. (m, boundary) | class.Close ↦ λ h m. (m, boundary) | class.Comma ↦ λ h m. (m, boundary) | class.Run ↦ λ h m. absurd (h refl) ] h moved

  -- it is a part of a run
  run-more : (from : ℕ) → class_of (get_or text at 0) ≡ Run → IsRunSoFar text from at → IsRunSoFar text from (at + 1)
  run-more from e before =
      let b = get_or text at 0 in
      let moved_on : front at (drop at text) ≡ (b ∷ (front (at + 1) (drop (at + 1) text)).0, (front (at + 1) (drop (at + 1) text)).1) = ap (front at) next ∙ front-run b at (drop (at + 1) text) e ∙ rw add-one refl in
      let order = before.order in
      let count : at + 1 - from ≡ at - from + 1 = omega arith in
      let within : at - from < length (drop from text) = omega (arith, length-drop from text) in
      let sum : from + (at - from) ≡ at = omega arith in
      let here : get_or (drop from text) (at - from) 0 ≡ b = get_or-drop from text (at - from) 0 ∙ ap (λ k. get_or text k 0) sum in
      let longer : slice_range text from (at + 1) ≡ slice_range text from at ++ b ∷ [] = ap (λ k. take k (drop from text)) count ∙ take_more (drop from text) (at - from) 0 within ∙ ap (λ d. slice_range text from at ++ d ∷ []) here in
      record {
        order = omega arith;
        run = before.run ∙ ap (λ p. slice_range text from at ++ p.0) moved_on ∙ sym (append_assoc (slice_range text from at) (b ∷ []) _) ∙ ap (λ l. l ++ (front (at + 1) (drop (at + 1) text)).0) (sym longer);
        later = before.later ∙ ap (λ p. p.1) moved_on;
      }

  -- a run begins there
  found-run : (remaining : List Spanned) → class_of (get_or text at 0) ≡ Run → remaining ≡ coming_at text White at → IsCharBoundary text at → FoundClass remaining text class.Run (at + 1)
  found-run remaining e is boundary =
      let none : at - at ≡ 0 = omega arith in
      (at, refl, is, run-more at e (record { order = omega arith; run = ap (λ n. take n (drop at text) ++ (front at (drop at text)).0) (sym none); later = refl }), boundary)

  found-next : (remaining : List Spanned) (c : code.ByteClass) → class_of (get_or text at 0) ≡ meant c → FoundClass remaining text class.White at → FoundClass remaining text c (at + 1)
  found-next remaining class.Run e before = found-run remaining e before.0 before.1
  found-next remaining c e before = found-mark remaining c (λ o. cc) e before.0

  -- it ends a run
  ends-run : (from : ℕ) (c : code.ByteClass) → class_of (get_or text at 0) ≡ meant c → c ≢ class.Run → IsRunSoFar text from at → EndsRun text from at (at + 1) c
  ends-run from c e h so_far =
      let b = get_or text at 0 in
      let low = run_or_ascii b (λ o. no-run c h (sym e ∙ o)) in
      let moved_on : front at (drop at text) ≡ ([], coming_at text (meant c) (at + 1)) = ap (front at) next ∙ front-mark (meant c) b at (drop (at + 1) text) e (no-run c h) ∙ rw add-one refl in
      let order = so_far.order in
      record {
        order = order;
        taken = omega arith;
        near = omega arith;
        run = so_far.run ∙ ap (λ p. slice_range text from at ++ p.0) moved_on ∙ simp append-nil;
        later = so_far.later ∙ ap (λ p. p.1) moved_on;
        until = IsCharBoundary-before_ascii text at inside low;
        boundary = IsCharBoundary-after_ascii text at utf8 inside low;
      }

ends-text : (text : List ℕ) (from at : ℕ) → at ≡ length text → IsRunSoFar text from at → EndsRun text from at at class.Nul
unfolding front
ends-text text from at end so_far =
    let none : drop at text ≡ [] = ap (λ n. drop n text) end ∙ drop-length text in
    let order = so_far.order in
    record {
      order = order;
      taken = omega arith;
      near = omega arith;
      run = so_far.run ∙ ap (λ l. slice_range text from at ++ (front at l).0) none ∙ simp append-nil;
      later = so_far.later ∙ ap (λ l. (front at l).1) none;
      until = subst (IsCharBoundary text) (sym end) (IsCharBoundary-end text);
      boundary = subst (IsCharBoundary text) (sym end) (IsCharBoundary-end text);
    }

-- a byte after the last mark is a part of a run
pub late-run : (b : ℕ) → 44 < b → class_of b ≡ Run
unfolding class_of
late-run b h = rw (ne_eqb b 0 (λ e. omega arith), ne_eqb b 32 (λ e. omega arith), ne_eqb b 10 (λ e. omega arith), ne_eqb b 13 (λ e. omega arith), ne_eqb b 9 (λ e. omega arith), ne_eqb b 40 (λ e. omega arith), ne_eqb b 41 (λ e. omega arith), ne_eqb b 44 (λ e. omega arith)) refl

-- one turn of the loop over white space
pub first-step : (remaining : List Spanned) (text text' : List ℕ) (was c : code.ByteClass) (at at' b : ℕ) → text' ≡ text → at' ≡ at + 1 → at < length text → b ≡ get_or text at 0 → IsUtf8 text → was ≡ class.White → meant c ≡ class_of b → FoundClass remaining text was at → FoundClass remaining text' c at'
first-step remaining text text' was c at at' b same count inside byte utf8 white is before =
    subst (λ t. FoundClass remaining t c at') (sym same) (subst (FoundClass remaining text c) (sym count) (found-next text at utf8 inside remaining c (ap class_of (sym byte) ∙ sym is) (subst (λ k. FoundClass remaining text k at) white before)))

pub run-step : (text text' : List ℕ) (from at at' b : ℕ) (c : code.ByteClass) → text' ≡ text → at' ≡ at + 1 → at < length text → b ≡ get_or text at 0 → IsUtf8 text → meant c ≡ class_of b → c ≡ class.Run → IsRunSoFar text from at → IsRunSoFar text' from at'
run-step text text' from at at' b c same count inside byte utf8 is run before =
    subst (λ t. IsRunSoFar t from at') (sym same) (subst (IsRunSoFar text from) (sym count) (run-more text at utf8 inside from (ap class_of (sym byte) ∙ sym is ∙ ap meant run) before))

pub run-end : (text text' : List ℕ) (from at at' end b : ℕ) (c : code.ByteClass) → text' ≡ text → at' ≡ at + 1 → end ≡ at → at < length text → b ≡ get_or text at 0 → IsUtf8 text → meant c ≡ class_of b → (c ≡ class.Run → ⊥) → IsRunSoFar text from at → EndsRun text' from end at' c
run-end text text' from at at' end b c same count ends inside byte utf8 is other before =
    subst (λ t. EndsRun t from end at' c) (sym same) (subst (λ n. EndsRun text from end n c) (sym count) (subst (λ n. EndsRun text from n (at + 1) c) (sym ends) (ends-run text at utf8 inside from c (ap class_of (sym byte) ∙ sym is) other before)))

pub run-end-text : (text text' : List ℕ) (from at at' end : ℕ) → text' ≡ text → at' ≡ at → end ≡ at → at ≡ length text → IsRunSoFar text from at → EndsRun text' from end at' class.Nul
run-end-text text text' from at at' end same count ends last before =
    subst (λ t. EndsRun t from end at' class.Nul) (sym same) (subst (λ n. EndsRun text from end n class.Nul) (sym count) (subst (λ n. EndsRun text from n at class.Nul) (sym ends) (ends-text text from at last before)))

pub first-end : (remaining : List Spanned) (text text' : List ℕ) (was : code.ByteClass) (at at' : ℕ) → text' ≡ text → at' ≡ at → at ≡ length text → was ≡ class.White → FoundClass remaining text was at → FoundClass remaining text' class.Nul at'
first-end remaining text text' was at at' same count last white before =
    subst (λ t. FoundClass remaining t class.Nul at') (sym same) (subst (FoundClass remaining text class.Nul) (sym count) (found-end remaining text at (subst (λ k. FoundClass remaining text k at) white before).0 last))

after-run : (at : ℕ) (run : List ℕ) (later : List Spanned) → 0 < length run → after_run at run later ≡ record { lexeme = lexeme_of run; end = at + length run } ∷ later
after-run at [] later h = absurd (omega arith)
after-run at (b ∷ run) later h = refl

-- a run is the first lexeme
pub gives-run : (lexemes : List Spanned) (text text' : List ℕ) (from end at : ℕ) (ahead : code.ByteClass) (l : Lexeme) → lexemes ≡ spanned_from from (drop from text) → text' ≡ text → from < end → EndsRun text' from end at ahead → l ≡ lexeme_of (slice_range text' from end) → lexemes ≡ record { lexeme = l; end = end } ∷ coming_at text' (meant ahead) at
unfolding spanned_from
gives-run lexemes text text' from end at ahead l is same order ends shows =
    let until = ends.until.0 in
    let len : length (slice_range text' from end) ≡ end - from = simp (length-take, length-drop) (omega arith) in
    let sum : from + length (slice_range text' from end) ≡ end = omega (arith, len) in
    is ∙ ap (λ t. spanned_from from (drop from t)) (sym same)
    ∙ ap (λ r. after_run from r (front from (drop from text')).1) ends.run
    ∙ after-run from (slice_range text' from end) _ (omega (arith, len))
    ∙ ap (λ n. record { lexeme = lexeme_of (slice_range text' from end); end = n } ∷ (front from (drop from text')).1) sum
    ∙ ap (λ l. record { lexeme = lexeme_of (slice_range text' from end); end = end } ∷ l) ends.later
    ∙ ap (λ y. record { lexeme = y; end = end } ∷ coming_at text' (meant ahead) at) (sym shows)

-- nothing is left
pub found-nul : (lexemes : List Spanned) (text : List ℕ) (c : code.ByteClass) (at : ℕ) → (c ≡ class.Nul) ⊎ (c ≡ class.White) → c ≢ class.White → FoundClass lexemes text c at → lexemes ≡ []
found-nul lexemes text c at either stops found = ⊎_elim (λ e. let r : FoundClass lexemes text class.Nul at = subst (λ k. FoundClass lexemes text k at) e found in r.0) (λ e. absurd (stops e)) either

-- a run is what begins
pub run-found : (lexemes : List Spanned) (text : List ℕ) (c : code.ByteClass) (at : ℕ) → c ≡ class.Run → FoundClass lexemes text c at → FoundClass lexemes text class.Run at
run-found lexemes text c at e found = subst (λ k. FoundClass lexemes text k at) e found

-- a mark is the first lexeme
module _ (lexemes : List Spanned) (text : List ℕ) (c : code.ByteClass) (at end : ℕ) where
  pub gives-open : c ≡ class.Open → end ≡ at → FoundClass lexemes text c at → lexemes ≡ record { lexeme = lex.Open; end = end } ∷ spanned_from at (drop at text)
  gives-open e ends found = let r : FoundClass lexemes text class.Open at = subst (λ k. FoundClass lexemes text k at) e found in r.0 ∙ ap (λ n. record { lexeme = lex.Open; end = n } ∷ spanned_from at (drop at text)) (sym ends)

  pub gives-close : c ≡ class.Close → end ≡ at → FoundClass lexemes text c at → lexemes ≡ record { lexeme = lex.Close; end = end } ∷ spanned_from at (drop at text)
  gives-close e ends found = let r : FoundClass lexemes text class.Close at = subst (λ k. FoundClass lexemes text k at) e found in r.0 ∙ ap (λ n. record { lexeme = lex.Close; end = n } ∷ spanned_from at (drop at text)) (sym ends)

  pub gives-comma : c ≡ class.Comma → end ≡ at → FoundClass lexemes text c at → lexemes ≡ record { lexeme = lex.Comma; end = end } ∷ spanned_from at (drop at text)
  gives-comma e ends found = let r : FoundClass lexemes text class.Comma at = subst (λ k. FoundClass lexemes text k at) e found in r.0 ∙ ap (λ n. record { lexeme = lex.Comma; end = n } ∷ spanned_from at (drop at text)) (sym ends)
