-- What a look at the lexemes from a place on says, one at a time.
use Rattle.std.proofs.Common.{◌≡◌, ℕ, zero, suc, ◌+◌, ◌<◌, ◌≤◌, Bool, true, false, ◌&&◌, List, [], ◌∷◌, ◌++◌, length, drop, slice_range, Option, Some, None, if◌then◌else◌, refl, sym, ap, ◌∙◌, arith, append_assoc, length-append}
use Rattle.wkt_num.specs.Bytes.{Lexeme}
use Rattle.wkt_num.specs.Bytes as lex
use Rattle.wkt_read.specs.Grammar.{is_empty_word}
use Rattle.wkt_read.specs.Spanned.{Spanned, end_after}
use Rattle.wkt_events.specs.Remaining.{remaining_spanned}
use Rattle.wkt_dialects.specs.declared.dialects.Dialects.{Dialects}
use Rattle.wkt_dialects.specs.declared.lexeme.Found.{Found}
use Rattle.wkt_dialects.specs.declared.lexeme.Kind.TheVariants as kind
use Rattle.std.proofs.Math.Seq.{drop-append_seam}
use Rattle.wkt_dialects.specs.Dialects.{counts, is_nan, nans, nans_within, begins_with, is_open, is_close, numbers_there, first_numbers, open_behind}
use Rattle.wkt_dialects.specs.Pieces.{of_kind, lexeme_in, IsFound, IsPastSome}
use Rattle.wkt_dialects.proofs.Texts.{found-text}

module _ (d : Dialects) (text : List ℕ) (at : ℕ) (f : Found) (is : IsFound text at f) where
  abbrev there : List Spanned
  there = remaining_spanned false text at

  abbrev behind : List Spanned
  behind = remaining_spanned false text f.end

  pub numbers-more : counts d (lexeme_in text f) ≡ true → numbers_there d there ≡ suc (numbers_there d behind)
  numbers-more e = ap (numbers_there d) is.next ∙ ap (λ b. if b then suc (numbers_there d behind) else 0) e

  pub first-there : (n : ℕ) → 0 < n → counts d (lexeme_in text f) ≡ true → first_numbers d (Some n) there ≡ numbers_there d there
  unfolding first_numbers
  first-there zero h e = absurd (omega (arith, h))
  first-there (suc n) h e = ap (first_numbers d (Some (suc n))) is.next ∙ ap (λ b. if b then suc (numbers_there d behind) else first_numbers d (open_behind (suc n) (lexeme_in text f)) behind) e ∙ sym (numbers-more e)

  pub first-behind : (n : ℕ) → (0 < n → counts d (lexeme_in text f) ≡ false) → first_numbers d (Some n) there ≡ first_numbers d (open_behind n (lexeme_in text f)) behind
  unfolding first_numbers
  first-behind zero h = ap (first_numbers d (Some zero)) is.next
  first-behind (suc n) h = ap (first_numbers d (Some (suc n))) is.next ∙ ap (λ b. if b then suc (numbers_there d behind) else first_numbers d (open_behind (suc n) (lexeme_in text f)) behind) (h (omega arith))

module _ (text : List ℕ) (at : ℕ) (f : Found) (is : IsFound text at f) where
  abbrev after : List Spanned
  after = remaining_spanned false text f.end

  pub nans-more : (k : ℕ) → is_nan (lexeme_in text f) ≡ true → nans (suc k) (remaining_spanned false text at) ≡ nans k after
  nans-more k e = ap (nans (suc k)) is.next ∙ ap (λ b. b && nans k after) e

  pub past-one : (from count : ℕ) → IsPastSome text from count at → IsPastSome text from (count + 1) f.end
  past-one from count p = record {
    taken = p.taken ++ (record { lexeme = lexeme_in text f; end = f.end } ∷ []);
    order = omega (arith, p.order, is.between.order, is.bytes.order);
    inside = is.bytes.inside;
    many = omega (arith, p.many, length-append p.taken (record { lexeme = lexeme_in text f; end = f.end } ∷ []));
    split = p.split ∙ ap (λ l. p.taken ++ l) is.next ∙ sym (append_assoc p.taken (record { lexeme = lexeme_in text f; end = f.end } ∷ []) after);
    ends = last from p.taken;
    no_nul = p.no_nul ∙ is.no_nul;
    utf8 = λ u. (found-text text at f is (p.utf8 u)).1;
  }
    where
      last : (n : ℕ) (ps : List Spanned) → end_after n (ps ++ (record { lexeme = lexeme_in text f; end = f.end } ∷ [])) ≡ f.end
      last n [] = refl
      last n (q ∷ ps) = last q.end ps

pub first-over : (d : Dialects) (ps : List Spanned) → first_numbers d None ps ≡ 0
unfolding first_numbers
first-over d [] = refl
first-over d (p ∷ ps) = refl

pub first-end : (d : Dialects) (n : Option ℕ) → first_numbers d n [] ≡ 0
unfolding first_numbers
first-end d n = refl

pub past-none : (text : List ℕ) (from : ℕ) → from ≤ length text → IsPastSome text from 0 from
past-none text from h = record { taken = []; order = omega arith; inside = h; many = refl; split = refl; ends = refl; no_nul = refl; utf8 = λ u. u }

pub open-most : (n : ℕ) (l : Lexeme) (m : ℕ) → open_behind n l ≡ Some m → m ≤ n + 1
open-most n lex.Open m e = let h : suc n ≡ m = cc in omega (arith, h)
open-most (suc (suc n)) lex.Close m e = let h : suc n ≡ m = cc in omega (arith, h)
open-most (suc zero) lex.Close m e = cc
open-most zero lex.Close m e = cc
open-most (suc n) lex.Comma m e = let h : suc n ≡ m = cc in omega (arith, h)
open-most zero lex.Comma m e = cc
open-most zero (lex.Word w) m e = cc
open-most (suc n) (lex.Word w) m e = go (is_empty_word w) e
  where
    go : (b : Bool) → (if b then Some (suc n) else None) ≡ Some m → m ≤ suc n + 1
    go true k = let h : suc n ≡ m = cc in omega (arith, h)
    go false k = cc
open-most zero (lex.Num run) m e = cc
open-most (suc n) (lex.Num run) m e = cc

-- Words nan in parentheses.
module _ (text : List ℕ) (from b count : ℕ) (o k : Found) (opens : IsFound text from o) (open-is : o.kind ≡ kind.Open) (past : IsPastSome text o.end count b) (closes : IsFound text b k) where
  abbrev first : Spanned
  first = record { lexeme = lexeme_in text o; end = o.end }

  abbrev last-one : Spanned
  last-one = record { lexeme = lexeme_in text k; end = k.end }

  abbrev all : List Spanned
  all = remaining_spanned false text from

  opened : begins_with is_open all ≡ true
  opened = ap (begins_with is_open) opens.next ∙ ap (λ x. is_open (of_kind x (slice_range text o.start o.end))) open-is

  inner : nans count (drop 1 all) ≡ nans count (remaining_spanned false text o.end)
  inner = ap (λ l. nans count (drop 1 l)) opens.next

  closed : (t : Bool) → is_close (lexeme_in text k) ≡ t → begins_with is_close (drop (count + 1) all) ≡ t
  closed t e =
      ap (λ l. begins_with is_close (drop (count + 1) l)) (opens.next ∙ ap (λ l. first ∷ l) past.split)
      ∙ ap (λ n. begins_with is_close (drop n (first ∷ (past.taken ++ remaining_spanned false text b)))) {x = count + 1} {y = suc (length past.taken)} (omega (arith, past.many))
      ∙ ap (begins_with is_close) (drop-append_seam past.taken (remaining_spanned false text b) ∙ closes.next)
      ∙ e

  pub within_is : (t : Bool) → nans count (remaining_spanned false text o.end) ≡ true → is_close (lexeme_in text k) ≡ t → nans_within count all ≡ t
  within_is t nan e =
      ap (λ x. x && nans count (drop 1 all) && begins_with is_close (drop (count + 1) all)) opened
      ∙ ap (λ x. true && x && begins_with is_close (drop (count + 1) all)) (inner ∙ nan)
      ∙ ap (λ x. true && true && x) (closed t e)

  pub within_past : IsPastSome text from (count + 2) k.end
  within_past = record {
    taken = first ∷ (past.taken ++ (last-one ∷ []));
    order = omega (arith, opens.bytes.order, opens.between.order, past.order, closes.between.order, closes.bytes.order);
    inside = closes.bytes.inside;
    many = omega (arith, past.many, length-append past.taken (last-one ∷ []));
    split = opens.next ∙ ap (λ l. first ∷ l) (past.split ∙ ap (λ l. past.taken ++ l) closes.next ∙ sym (append_assoc past.taken (last-one ∷ []) (remaining_spanned false text k.end)));
    ends = ends-with o.end past.taken;
    no_nul = opens.no_nul ∙ past.no_nul ∙ closes.no_nul;
    utf8 = λ u. (found-text text b k closes (past.utf8 (found-text text from o opens u).1)).1;
  }
    where
      ends-with : (n : ℕ) (ps : List Spanned) → end_after n (ps ++ (last-one ∷ [])) ≡ k.end
      ends-with n [] = refl
      ends-with n (q ∷ ps) = ends-with q.end ps
