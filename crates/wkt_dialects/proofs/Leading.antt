-- Pieces one behind the other, and what was written of them.
use Rattle.std.proofs.Common.{◌≡◌, inl, inr, ℕ, ◌+◌, false, List, [], ◌∷◌, ◌++◌, length, drop, get_or, refl, sym, ap, subst, ◌∙◌, arith, append_assoc, drop-cons}
use Rattle.std.proofs.lemmas.Bool.{cases_lt}
use Rattle.std.proofs.Math.ListN.{drop_of_length-le}
use Rattle.wkt_num.specs.Bytes.{Class, Nul, White, Mark, Run, class_of}
use Rattle.wkt_read.specs.Lexemes.{lexeme_of, IsEnd}
use Rattle.wkt_read.specs.Spanned.{Spanned, end_after, lexemes_of}
use Rattle.wkt_events.specs.Remaining.{remaining_spanned, remaining, class_in, TakesOne}
use Rattle.wkt_events.proofs.RemainingLexemes.{takes-mark, remaining-begins, remaining-all}
use Rattle.wkt_machine.specs.View.{IsDark}
use Rattle.wkt_dialects.specs.declared.dialects.Dialects.{Dialects}
use Rattle.wkt_dialects.specs.declared.pieces.Step.{Step}
use Rattle.wkt_dialects.specs.declared.spot.Spot.{Spot}
use Rattle.wkt_dialects.specs.declared.spot.Spot.TheVariants as spot
use Rattle.wkt_dialects.specs.Dialects.{read_as}
use Rattle.wkt_dialects.specs.Reading.{lexemes_as}
use Rattle.wkt_dialects.specs.Pieces.{lexeme_as, read_from, LeadsTo, TakesPiece}

pub leads-none : (d : Dialects) (s : Spot) (text : List ℕ) → LeadsTo d s text 0 [] s 0
leads-none d s text = record { order = omega arith; inside = omega arith; reads = refl; ends = refl; no_nul = refl; utf8 = λ u. u }

pub leads-more : (d : Dialects) (s t : Spot) (text : List ℕ) (at to : ℕ) (taken : List Spanned) (p : Step) → LeadsTo d s text at taken t to → (k : TakesPiece d t text to p)
    → LeadsTo d s text at (taken ++ (record { lexeme = lexeme_as p.piece k.lexeme; end = p.end } ∷ [])) p.spot p.end
leads-more d s t text at to taken p l k = record {
  order = omega (arith, l.order, k.grows);
  inside = k.inside.1;
  reads = l.reads ∙ ap (λ ps. taken ++ ps) k.reads ∙ sym (append_assoc taken (record { lexeme = lexeme_as p.piece k.lexeme; end = p.end } ∷ []) (read_from d p.spot text p.end));
  ends = last at taken;
  no_nul = l.no_nul ∙ k.no_nul;
  utf8 = λ u. (k.utf8 (l.utf8 u)).0;
}
  where
    last : (n : ℕ) (ps : List Spanned) → end_after n (ps ++ (record { lexeme = lexeme_as p.piece k.lexeme; end = p.end } ∷ [])) ≡ p.end
    last n [] = refl
    last n (q ∷ ps) = last q.end ps

pub read-nothing : (d : Dialects) (s : Spot) → read_as d 0 s [] ≡ []
unfolding read_as
read-nothing d s = refl

pub from-start : (d : Dialects) (text : List ℕ) → lexemes_as d text ≡ read_from d spot.Elsewhere text 0
from-start d text = ap (read_as d 0 spot.Elsewhere) (sym (remaining-all text))

-- What is left has no lexeme: the text ends there.
pub over-there : (text : List ℕ) (at : ℕ) → IsDark false text at → remaining_spanned false text at ≡ [] → IsEnd (drop at text)
unfolding class_in remaining
over-there text at dark none = go (class_of (get_or text at 0)) refl
  where
    go : (c : Class) → class_of (get_or text at 0) ≡ c → IsEnd (drop at text)
    go Nul e = elim (cases_lt at (length text)) [
      | inl less ↦ subst IsEnd (sym (drop-cons text at 0 less)) e
      | inr past ↦ subst IsEnd (sym (drop_of_length-le text past)) tt
    ]
    go White e = absurd (dark e)
    go (Mark l) e = let t : TakesOne false text at l (at + 1) = takes-mark false text at l e in let h = t.next in let k : [] ≡ record { lexeme = l; end = at + 1 } ∷ remaining_spanned false text (at + 1) = sym none ∙ h in cc
    go Run e =
        let (more, (rest, h)) = remaining-begins false text at e in
        let k : [] ≡ lexeme_of (get_or text at 0 ∷ more) ∷ rest = sym (ap lexemes_of none) ∙ h in
        cc
