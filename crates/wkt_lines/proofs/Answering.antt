-- Lines that are answered, one after the other.
use Rattle.std.proofs.Common.{◌≡◌, ◌≢◌, ℕ, List, [], ◌∷◌, ◌++◌, sym, ◌∙◌, ap, subst, take, length, refl, append_assoc, Option, Result, Ok, Err, OnOk, zero, suc, ◌+◌, ◌-◌, ◌<◌, ◌≤◌, drop, arith, Bool, true, false, IsUtf8, set, Some, inl, inr, codes, ◌⊎◌, get_or}
use Rattle.std.specs.Prelude.{IfOk, ◌==◌, if◌then◌else◌, IfSome}
use Rattle.std.proofs.lemmas.List.{append-nil, take_more_set, drop_all}
use Rattle.std.proofs.lemmas.Str.{IsUtf8-append, IsUtf8-from_is_utf8, is_utf8-from_IsUtf8}
use Rattle.std.specs.Io.KnownBytes.{Appends}
use Rattle.std.specs.Str.{is_utf8}
use lib.Utf8.{encode}
use Rattle.wkt_lines.specs.Lines.{input_lines, before_feed, after_feed, EndsText}
use Rattle.wkt_lines.specs.Replies.{AreReplies, RepliesBefore, ArePartReplies, PartReplied}
use Rattle.wkt_lines.proofs.Outcomes.{lines_step}
use Rattle.wkt_lines.specs.First.{EndsLine, AnswersBehind, TestsFrom, EndsAll, AnswersWhole}
use Rattle.wkt_access.specs.Shapes.{shape_of}
use Rattle.wkt_access.specs.Texts.{shape_text}
use Rattle.wkt_read.specs.Front.{HasNoFront}
use Rattle.wkt_num.specs.Number.{ReadsTexts}
use Rattle.wkt_num.specs.Bytes.{AllWhite}
use Rattle.wkt_canonical.specs.Canonical.{HasWritten}
use Rattle.wkt_events.proofs.Utf8Lines.{line-within, text-with-front, text-behind-front}

-- One line more, answered.

-- what holds in any case
pub any_ok : {A E P : Type 0} (r : Result A E) → P → OnOk r P
any_ok (Ok x) h = h
any_ok (Err e) h = tt

pub lines_on : (xs : List ℕ) → (xs ≢ []) → input_lines xs ≡ before_feed xs ∷ input_lines (after_feed xs)
lines_on [] h = absurd (h refl)
lines_on (b ∷ bs) h = lines_step b bs

-- the lines so far and the next one
pub one_more : (first : List (List ℕ)) (rest bs line next : List ℕ) → first ++ input_lines rest ≡ input_lines bs → rest ≢ [] → line ≡ before_feed rest → next ≡ after_feed rest →
    (first ++ (line ∷ [])) ++ input_lines next ≡ input_lines bs
one_more first rest bs line next h n e f =
    append_assoc first (line ∷ []) (input_lines next) ∙ (ap (λ x. first ++ (x ∷ input_lines next)) e ∙ (ap (λ x. first ++ (before_feed rest ∷ input_lines x)) f ∙ (ap (λ x. first ++ x) (sym (lines_on rest n)) ∙ h)))

-- the line that is next
pub next_line : (first : List (List ℕ)) (rest bs line : List ℕ) → first ++ input_lines rest ≡ input_lines bs → rest ≢ [] → line ≡ before_feed rest →
    first ++ (line ∷ input_lines (after_feed rest)) ≡ input_lines bs
next_line first rest bs line h n e = ap (λ x. first ++ (x ∷ input_lines (after_feed rest))) e ∙ (ap (λ x. first ++ x) (sym (lines_on rest n)) ∙ h)

module _ (is : List ℕ → List ℕ → Type 0) where
  -- the answers so far and the next one
  pub one_reply : (first : List (List ℕ)) (out line answer : List ℕ) → AreReplies is first out → is line answer → AreReplies is (first ++ (line ∷ [])) (out ++ (answer ++ 10 ∷ []))
  one_reply [] out line answer h a = (answer, [], ap (λ xs. xs ++ (answer ++ 10 ∷ [])) h ∙ sym (append-nil (answer ++ 10 ∷ [])), a, refl)
  one_reply (l ∷ ls) out line answer (b, rest, e, a, r) k =
      (b, rest ++ (answer ++ 10 ∷ []), ap (λ xs. xs ++ (answer ++ 10 ∷ [])) e ∙ append_assoc (b ++ 10 ∷ []) rest (answer ++ 10 ∷ []), a, one_reply ls rest line answer r k)

-- The first line, and a part of what is left.

drop-one : (b : ℕ) (rest : List ℕ) (n : ℕ) (after : List ℕ) → drop (n + 1) rest ≡ after → drop (suc n + 1) (b ∷ rest) ≡ after
drop-one b rest n after e = let s : suc n + 1 ≡ suc (n + 1) = omega arith in ap (λ k. drop k (b ∷ rest)) s ∙ e

-- the first line ends before its feed
splits : (rest : List ℕ) → (take (length (before_feed rest)) rest ≡ before_feed rest) × (drop (length (before_feed rest) + 1) rest ≡ after_feed rest) × (length (before_feed rest) ≤ length rest)
splits [] = (refl, refl, omega arith)
splits (b ∷ rest) =
    let h = splits rest in
    elim (b == 10) as (λ t. (take (length (if t then [] else b ∷ before_feed rest)) (b ∷ rest) ≡ (if t then [] else b ∷ before_feed rest))
    × (drop (length (if t then [] else b ∷ before_feed rest) + 1) (b ∷ rest) ≡ (if t then rest else after_feed rest))
    × (length (if t then [] else b ∷ before_feed rest) ≤ length (b ∷ rest))) [
      | true ↦ (refl, refl, omega arith)
      | false ↦ (ap (λ l. b ∷ l) h.0, drop-one b rest (length (before_feed rest)) (after_feed rest) h.1, omega (arith, h.2))
    ]

pub ends-line : (rest : List ℕ) (taken end : ℕ) → taken ≡ length (before_feed rest) + 1 → end ≡ taken - 1 → EndsLine rest end
ends-line rest taken end e f =
    let h = splits rest in
    subst (EndsLine rest) (omega (arith, e, f)) (record { before = h.0; after = h.1; within = h.2 })

-- a line that ends within a part is the whole's
pub near-line : (k : ℕ) (rest : List ℕ) → length (before_feed (take k rest)) < length (take k rest) → before_feed (take k rest) ≡ before_feed rest
near-line zero rest h = absurd (omega (arith, h))
near-line (suc k) [] h = refl
near-line (suc k) (b ∷ rest) h = elim (b == 10) as (λ t. length (if t then [] else b ∷ before_feed (take k rest)) < suc (length (take k rest))
    → (if t then [] else b ∷ before_feed (take k rest)) ≡ (if t then [] else b ∷ before_feed rest)) [
      | true ↦ λ less. refl
      | false ↦ λ less. ap (λ l. b ∷ l) (near-line k rest (omega (arith, less)))
    ] h

pub feed-utf8 : IsUtf8 (10 ∷ [])
unfolding encode
feed-utf8 = (10 ∷ [], (refl, refl))

-- The answer to a line, by its front and by what stands behind it.

-- bytes that are no text, or have no front
by-test : {N : Type 0} (read : List ℕ → Option N) (line : List ℕ) (b : Bool) → is_utf8 line ≡ b → (IsUtf8 line → HasNoFront read line) → (IsUtf8 line → ⊥) ⊎ HasNoFront read line
by-test read line true e h = inr (h (IsUtf8-from_is_utf8 line e))
by-test read line false e h = inl (λ u. let q : false ≡ true = sym e ∙ is_utf8-from_IsUtf8 line u in cc)

refused-utf8 : IsUtf8 (codes "refused")
unfolding encode
refused-utf8 = (codes "refused", (refl, refl))

module _ {N : Type 0} (read : List ℕ → Option N) (num : N → List ℕ) where
  -- the front ends in the line
  pub end-in-line : (rest : List ℕ) (len : ℕ) (old new : List ℕ) (end n : ℕ) → HasWritten read num (before_feed rest) len old new end n → end ≤ length (before_feed rest)
  end-in-line rest len old new end n h = let e = h.front.ends in omega (arith, e)

  pub refused-line : (rest : List ℕ) (len : ℕ) (old mid new : List ℕ) (taken n : ℕ) → (IsUtf8 (before_feed rest) → ⊥) ⊎ HasNoFront read (before_feed rest)
      → take len mid ≡ take len old → take n new ≡ take len mid ++ codes "refused\n" → drop taken rest ≡ after_feed rest → AnswersBehind read num rest len old new taken n
  refused-line rest len old mid new taken n why kept written left = record {
    answer = codes "refused";
    is = inr (record { cause = why; refused = refl });
    utf8 = refused-utf8;
    written = written ∙ ap (λ l. l ++ codes "refused\n") kept;
    left = left;
  }

  pub no-front : (rest : List ℕ) → (IsUtf8 (before_feed rest) → HasNoFront read (before_feed rest)) → (IsUtf8 (before_feed rest) → ⊥) ⊎ HasNoFront read (before_feed rest)
  no-front rest h = by-test read (before_feed rest) (is_utf8 (before_feed rest)) refl h

  reads-text : ReadsTexts read → (run : List ℕ) (x : N) → read run ≡ Some x → IsUtf8 run
  reads-text law run x e = subst (λ o. IfSome o (λ x. IsUtf8 run)) e (law run)

  module _ (rest : List ℕ) (len : ℕ) (old new : List ℕ) (end n from : ℕ) (h : HasWritten read num (before_feed rest) len old new end n) (tests : TestsFrom read end from) where
    pub from-in-line : from ≤ length (before_feed rest)
    from-in-line = let e = end-in-line rest len old new end n h in elim tests [ inl t ↦ let same = t.0 in omega (arith, same, e) | inr z ↦ omega (arith, z) ]

    pub from-within : from ≤ length rest
    from-within = let e = from-in-line in omega (arith, e, line-within rest)

    -- what the test of the line's end says of all of it
    line-text : IsUtf8 (drop from (before_feed rest)) → IsUtf8 (before_feed rest)
    line-text u = elim tests [
      | inl t ↦ text-with-front read (reads-text t.1) (before_feed rest) h.value end h.front (subst (λ k. IsUtf8 (drop k (before_feed rest))) t.0 u)
      | inr z ↦ subst (λ k. IsUtf8 (drop k (before_feed rest))) z u
    ]

    line-none : (IsUtf8 (drop from (before_feed rest)) → ⊥) → IsUtf8 (before_feed rest) → ⊥
    line-none none u = none (elim tests [
      | inl t ↦ subst (λ k. IsUtf8 (drop k (before_feed rest))) (sym t.0) (text-behind-front read (reads-text t.1) (before_feed rest) h.value end h.front u)
      | inr z ↦ subst (λ k. IsUtf8 (drop k (before_feed rest))) (sym z) u
    ])

    pub no-text : (IsUtf8 (drop from (before_feed rest)) → ⊥) → (IsUtf8 (before_feed rest) → ⊥) ⊎ HasNoFront read (before_feed rest)
    no-text none = inl (line-none none)

    pub text-line : (line : ℕ) → n < length new → EndsText rest from line → AnswersBehind read num rest len old (set new n 10) (line + 1) (n + 1)
    text-line line room ends = record {
      answer = shape_text num (shape_of h.value);
      is = inl (record { utf8 = line-text ends.utf8; value = h.value; end = end; front = h.front; text = refl });
      utf8 = h.utf8;
      written = take_more_set new n 10 room ∙ ap (λ l. l ++ (10 ∷ [])) h.written ∙ append_assoc (take len old) (shape_text num (shape_of h.value)) (10 ∷ []);
      left = ends.after;
    }

    -- the line ends with its front
    pub nothing-behind : (front : Bool) → EndsText rest from from → EndsAll front (before_feed rest) end
    nothing-behind front at =
        let n = at.ends in
        let within : length (before_feed rest) ≤ end = elim tests [ inl t ↦ let same = t.0 in omega (arith, same, n) | inr z ↦ omega (arith, z, n) ] in
        inr (subst AllWhite (sym (drop_all end (before_feed rest) within)) tt)

    -- the line was read as a whole text
    pub whole-line : (front : Bool) (line : ℕ) → n < length new → EndsText rest from line → EndsAll front (before_feed rest) end
        → AnswersWhole read num front rest (take len old) (take (n + 1) (set new n 10))
    whole-line front line room ends all = record {
      answer = shape_text num (shape_of h.value);
      is = record { utf8 = line-text ends.utf8; end = end; is = record { value = h.value; front = h.front; is = refl }; whole = all };
      utf8 = h.utf8;
      written = take_more_set new n 10 room ∙ ap (λ l. l ++ (10 ∷ [])) h.written ∙ append_assoc (take len old) (shape_text num (shape_of h.value)) (10 ∷ []);
    }

-- A beginning of the answers to lines.

-- one list cut in two ways
split : (xs r p q : List ℕ) → xs ++ r ≡ p ++ q → ((m : List ℕ) × (xs ≡ p ++ m) × (q ≡ m ++ r)) ⊎ ((m : List ℕ) × (p ≡ xs ++ m) × (r ≡ m ++ q))
split [] r p q e = inr (p, refl, e)
split (x ∷ xs) r [] q e = inl (x ∷ xs, refl, sym e)
split (x ∷ xs) r (y ∷ p) q e =
    let head : x ≡ y = ap (λ (l : List ℕ). get_or l 0 0) e in
    let tail : xs ++ r ≡ p ++ q = ap (λ (l : List ℕ). drop 1 l) e in
    elim (split xs r p q tail) [
      | inl s ↦ inl (s.0, ap (λ (l : List ℕ). x ∷ l) s.1 ∙ ap (λ (z : ℕ). z ∷ (p ++ s.0)) head, s.2)
      | inr s ↦ inr (s.0, ap (λ (l : List ℕ). y ∷ l) s.1 ∙ ap (λ (z : ℕ). z ∷ (xs ++ s.0)) (sym head), s.2)
    ]

no_front : (m q : List ℕ) → [] ≡ m ++ q → m ≡ []
no_front [] q e = refl
no_front (x ∷ xs) q e = absurd (cc)

module _ (is : List ℕ → List ℕ → Type 0) where
  here : (l : List ℕ) (ls : List (List ℕ)) (answer p m : List ℕ) → is l answer → answer ++ 10 ∷ [] ≡ p ++ m → ArePartReplies is (l ∷ ls) p
  here l ls answer p m one e =
      record { before = record { first = []; line = l; others = ls; split = refl; out = []; answers = refl }; answer = answer; is_answer = one; part = p; lost = m; whole = e; ends = refl }

  later : (l : List ℕ) (ls : List (List ℕ)) (answer m p : List ℕ) → is l answer → p ≡ (answer ++ 10 ∷ []) ++ m → ArePartReplies is ls m → ArePartReplies is (l ∷ ls) p
  later l ls answer m p one e c =
      let b = c.before in
      record {
        before = record { first = l ∷ b.first; line = b.line; others = b.others; split = ap (λ (xs : List (List ℕ)). l ∷ xs) b.split; out = (answer ++ 10 ∷ []) ++ b.out; answers = (answer, b.out, refl, one, b.answers) };
        answer = c.answer;
        is_answer = c.is_answer;
        part = c.part;
        lost = c.lost;
        whole = c.whole;
        ends = e ∙ (ap (λ (xs : List ℕ). (answer ++ 10 ∷ []) ++ xs) c.ends ∙ sym (append_assoc (answer ++ 10 ∷ []) b.out c.part));
      }

  cut : (l : List ℕ) (ls : List (List ℕ)) (z p q : List ℕ) → AreReplies is (l ∷ ls) z → z ≡ p ++ q → ArePartReplies is (l ∷ ls) p
  cut l [] z p q (answer, rest, e, one, none) f = elim (split (answer ++ 10 ∷ []) rest p q (sym e ∙ f)) [
    | inl s ↦ here l [] answer p s.0 one s.1
    | inr s ↦
        let m : s.0 ≡ [] = no_front s.0 q (sym none ∙ s.2) in
        let same : p ≡ answer ++ 10 ∷ [] = s.1 ∙ (ap (λ (xs : List ℕ). (answer ++ 10 ∷ []) ++ xs) m ∙ append-nil (answer ++ 10 ∷ [])) in
        here l [] answer p [] one (sym same ∙ sym (append-nil p))
  ]
  cut l (k ∷ ls) z p q (answer, rest, e, one, more) f = elim (split (answer ++ 10 ∷ []) rest p q (sym e ∙ f)) [
    | inl s ↦ here l (k ∷ ls) answer p s.0 one s.1
    | inr s ↦ later l (k ∷ ls) answer s.0 p one s.1 (cut k ls rest s.0 q more s.2)
  ]

  cut_some : (ls : List (List ℕ)) (z p q : List ℕ) → ls ≢ [] → AreReplies is ls z → z ≡ p ++ q → ArePartReplies is ls p
  cut_some [] z p q n h e = absurd (n refl)
  cut_some (l ∷ ls) z p q n h e = cut l ls z p q h e

  -- a beginning of the answers to some first lines went out
  pub part_out : (ls others : List (List ℕ)) (z p q input : List ℕ) (old new : Option (List ℕ)) → ls ≢ [] → AreReplies is ls z → z ≡ p ++ q → ls ++ others ≡ input_lines input → Appends old new p → PartReplied is old new input
  part_out ls others z p q input old new n h e l w =
      let c = cut_some ls z p q n h e in
      let b = c.before in
      let all = sym (append_assoc b.first (b.line ∷ b.others) others) ∙ (ap (λ (xs : List (List ℕ)). xs ++ others) b.split ∙ l) in
      let before : RepliesBefore is (input_lines input) = record { first = b.first; line = b.line; others = b.others ++ others; split = all; out = b.out; answers = b.answers } in
      (p, record { before = before; answer = c.answer; is_answer = c.is_answer; part = c.part; lost = c.lost; whole = c.whole; ends = c.ends }, w)

  pub no_answers : (ls : List (List ℕ)) (z : List ℕ) → AreReplies is ls z → 0 < length z → ls ≢ []
  no_answers [] z h n e = let k : length z ≡ 0 = ap length h in omega (arith, n, k)
  no_answers (l ∷ ls) z h n e = cc
