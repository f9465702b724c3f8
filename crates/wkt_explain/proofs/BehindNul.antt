-- What stands behind a NUL is in no front, and no machine passes it.
use Rattle.std.proofs.Common.{◌≡◌, ◌<◌, ◌≤◌, ◌++◌, ◌∙◌, inl, inr, ℕ, suc, get_or, drop, List, [], ◌∷◌, Option, refl, sym, ap, subst, length, arith, false}
use Rattle.std.proofs.Math.Seq.{get_or-append_seam}
use Rattle.std.proofs.lemmas.Bool.{cases_lt}
use Rattle.std.proofs.lemmas.List.{drop-append-le, get_or_append_left}
use Rattle.wkt_num.specs.Bytes.{Lexeme, White, class_of}
use Rattle.wkt_access.specs.Values.{Value}
use Rattle.wkt_read.specs.Explained.{EndsFront}
use Rattle.wkt_read.specs.Front.{Front, HasNoFront}
use Rattle.wkt_read.specs.Grammar.{StandFor}
use Rattle.wkt_read.specs.Lexemes.{IsSplit}
use Rattle.wkt_read.specs.Refusal.{IsRefusedWith}
use Rattle.wkt_read.specs.Spanned.{Spanned, lexemes_of, end_after, AreEnds, joined, after_run, front, spanned_from, spanned}
use Rattle.wkt_read.specs.declared.messages.Message.{Message}
use Rattle.wkt_read.proofs.HeaderPlaces.{front-of-lexemes}
use Rattle.wkt_read.proofs.OneForm.{taken_begin, front_one}
use Rattle.wkt_read.proofs.Splits.{split_one}
use Rattle.wkt_read.proofs.Placings.{spanned-split, spanned-ends}
use Rattle.wkt_events.specs.Remaining.{class_in, remaining_spanned}
use Rattle.wkt_machine.specs.Goes.{IsStuck, StopsAt}
use Rattle.wkt_machine.specs.declared.machine.Machine.{Machine}
use Rattle.wkt_explain.specs.Problems.{IsPaddedFor}

front-nul : (at : ℕ) (text more : List ℕ) → front at (text ++ (0 ∷ more)) ≡ front at text
unfolding front class_of
front-nul at [] more = refl
front-nul at (b ∷ text) more = ap (λ r. joined (class_of b) b at r.0 r.1) (front-nul (suc at) text more)

spanned-nul : (at : ℕ) (text more : List ℕ) → spanned_from at (text ++ (0 ∷ more)) ≡ spanned_from at text
unfolding spanned_from
spanned-nul at text more = ap (λ r. after_run at r.0 r.1) (front-nul at text more)

left-nul : (text more : List ℕ) (at : ℕ) → at ≤ length text → remaining_spanned false (text ++ (0 ∷ more)) at ≡ remaining_spanned false text at
unfolding remaining_spanned
left-nul text more at inside = ap (spanned_from at) (drop-append-le at text (0 ∷ more) inside) ∙ spanned-nul at (drop at text) more

-- some first lexemes with their ends
split-spanned : (ps : List Spanned) (ls more : List Lexeme) → lexemes_of ps ≡ ls ++ more →
    (given : List Spanned) × (later : List Spanned) × (ps ≡ given ++ later) × (lexemes_of given ≡ ls)
split-spanned ps [] more e = ([], ps, refl, refl)
split-spanned [] (l ∷ ls) more e = cc
split-spanned (p ∷ ps) (l ∷ ls) more e =
    let tail : lexemes_of ps ≡ ls ++ more = cc in
    let (given, later, is, same) = split-spanned ps ls more tail in
    (p ∷ given, later, cc, cc)

-- texts of the same lexemes have the same fronts
same-front : {N : Type 0} (read : List ℕ → Option N) (a b : List ℕ) → spanned a ≡ spanned b → (v : Value N) (end : ℕ) → Front read a v end → Front read b v end
same-front read a b e v end f =
    let (more, is) = taken_begin a f.rest f.lexemes f.taken in
    let (given, later, parts, same) = split-spanned (spanned a) f.lexemes more (split_one a _ _ (spanned-split a) is) in
    let stands : StandFor read (lexemes_of given) v = subst (λ l. StandFor read l v) (sym same) f.reads in
    let here : Front read a v (end_after 0 given) = front-of-lexemes read a given later v (subst (AreEnds a) parts (spanned-ends a)) stands in
    let there : Front read b v (end_after 0 given) = front-of-lexemes read b given later v (subst (AreEnds b) (sym e ∙ parts) (spanned-ends b)) stands in
    subst (Front read b v) (sym (front_one read a v v end (end_after 0 given) f here).1) there

-- a NUL is no white space
nul-dark : class_in false 0 ≡ White → ⊥
unfolding class_in class_of
nul-dark h = cc

-- The machine doesn't pass a NUL, and stops where it stops in the text before.
stops-nul : {N : Type 0} (read : List ℕ → Option N) (text more : List ℕ) (m : Machine) (at : ℕ) → StopsAt read (text ++ (0 ∷ more)) m at → StopsAt read text m at
stops-nul read text more m at s =
    let padded_text = text ++ (0 ∷ more) in
    let between = s.between in
    let here : spanned text ≡ s.taken ++ remaining_spanned false padded_text at = sym (spanned-nul 0 text more) ∙ s.split in
    let (rest, takes, ends) = subst (AreEnds text) here (spanned-ends text) s.taken (remaining_spanned false padded_text at) refl in
    let from : end_after 0 s.taken ≤ length text = omega (arith, ends) in
    let inside : at ≤ length text = elim (cases_lt (length text) at) [
      | inl beyond ↦ absurd (nul-dark (subst (λ b. class_in false b ≡ White) (get_or-append_seam text 0 more 0) (between.white (length text) from beyond)))
      | inr within ↦ within
    ] in
    let left = left-nul text more at inside in
    record {
      taken = s.taken;
      events = s.events;
      split = here ∙ ap (λ l. s.taken ++ l) left;
      between = record {
        order = between.order;
        same = sym (left-nul text more (end_after 0 s.taken) from) ∙ between.same ∙ left;
        white = λ k low high. subst (λ b. class_in false b ≡ White) (get_or_append_left text (0 ∷ more) 0 k (omega (arith, high, inside))) (between.white k low high);
      };
      inside = inside;
      ran = s.ran;
      is_open = s.is_open;
      stuck = subst (IsStuck read m) left s.stuck;
    }

-- a text, and what stands behind a NUL after it, have the same fronts, and the machine stops in both at one place
module _ {N : Type 0} (read : List ℕ → Option N) (text walked : List ℕ) (walks : IsPaddedFor text walked) where
  same-spanned : spanned walked ≡ spanned text
  same-spanned = elim walks [ inl e ↦ ap spanned e | inr h ↦ ap spanned h.1 ∙ spanned-nul 0 text h.0 ]

  pub front-walked : (v : Value N) (end : ℕ) → Front read walked v end → Front read text v end
  front-walked v end f = same-front read walked text same-spanned v end f

  pub none-walked : HasNoFront read walked → HasNoFront read text
  none-walked none v end f = none v end (same-front read text walked (sym same-spanned) v end f)

  pub said-walked : (m : Message) → IsRefusedWith read walked m → IsRefusedWith read text m
  said-walked m (ls, after, split, says) =
      let same : lexemes_of (spanned text) ≡ ls = ap lexemes_of (sym same-spanned) ∙ split_one walked _ _ (spanned-split walked) split in
      (ls, after, subst (IsSplit text) same (spanned-split text), says)

  pub ends-walked : (end : ℕ) → EndsFront read walked end → EndsFront read text end
  ends-walked end (v, f) = (v, front-walked v end f)

  pub stops-walked : (m : Machine) (at : ℕ) → StopsAt read walked m at → StopsAt read text m at
  stops-walked m at s =
      elim walks [
        | inl e ↦ subst (λ t. StopsAt read t m at) e s
        | inr h ↦ stops-nul read text h.0 m at (subst (λ t. StopsAt read t m at) h.1 s)
      ]
