-- A number that isn't read.
use Rattle.std.proofs.Common.{◌≡◌, ℕ, List, [], ◌∷◌, refl, sym, ap, ◌∙◌, subst, Option, Some, None, Bool, true, false, ◌≢◌, cond}
use Rattle.wkt_num.specs.Bytes.{Lexeme, Num, Word}
use Rattle.wkt_access.specs.declared.dimensions.Dimension.{Dimension}
use Rattle.wkt_read.specs.Spanned.{Spanned}
use Rattle.wkt_machine.specs.declared.step.Action.{Action}
use Rattle.wkt_machine.specs.Goes.{IsStuck, Stays, IsUnread, Refuses}
use Rattle.wkt_machine.specs.Machine.{move, moved, said, step_at, State, is_over, over_at}
use Rattle.wkt_machine.specs.Machines.{state_of, place_of}
use Rattle.wkt_machine.specs.declared.machine.Machine.{Machine}
use Rattle.wkt_machine.specs.View.{seen_of, seen_word, seen_other, sight, View}
use Rattle.wkt_read.specs.Grammar.{KindWord, kind_word, dim_word, is_empty_word}
use Rattle.wkt_machine.specs.Makers.{Maker}
use Rattle.wkt_machine.specs.declared.part.Axis.{Axis}
use Rattle.wkt_machine.specs.declared.machine.LexemeKind.TheVariants as seen
use Rattle.wkt_machine.specs.declared.machine.State.TheVariants as next
use Rattle.wkt_machine.specs.declared.part.Axis.TheVariants as axis

-- what is seen as a number is one
other_word : (d : Option Dimension) (b : Bool) (w : List ℕ) → is_empty_word w ≡ b → seen_other d w ≢ seen.Number
other_word (Some d) b w e = λ q. cc
other_word None true w e = λ q. let same : seen.Empty ≡ seen.Number = sym (ap (λ b. cond b seen.Empty seen.Other) e) ∙ q in cc
other_word None false w e = λ q. let same : seen.Other ≡ seen.Number = sym (ap (λ b. cond b seen.Empty seen.Other) e) ∙ q in cc

no_word : (o : Option KindWord) (w : List ℕ) → seen_word o w ≢ seen.Number
no_word (Some e) w = λ q. cc
no_word None w = other_word (dim_word w) (is_empty_word w) w refl

numbered : (l : Lexeme) → seen_of l ≡ seen.Number → (run : List ℕ) × (l ≡ Num run)
numbered (Num run) e = (run, refl)
numbered (Word w) e = absurd (no_word (kind_word w) w e)
numbered _ e = let never : ⊥ = cc in absurd never

module _ {N S B : Type 0} (read : List ℕ → Option N) (view : View N S) (maker : Maker N B) where
  never_moves : (o : Option (State × Action)) (run : List ℕ) → read run ≡ None → moved read o (said read (read run)) ≡ None
  never_moves (Some s) run e = ap (λ o. moved read (Some s) (said read o)) e
  never_moves None run e = refl

  unread_stuck : (m : Machine) (ps : List Spanned) → seen.Number ≡ sight ps → IsUnread read ps → IsStuck read m ps
  unread_stuck m [] e h = tt
  unread_stuck m (p ∷ ps) e h =
      let (run, is) = numbered p.lexeme (sym e) in
      let split : p ∷ ps ≡ record { lexeme = Num run; end = p.end } ∷ ps = ap (λ l. record { lexeme = l; end = p.end } ∷ ps) is in
      subst (λ l. move read (state_of m) l ≡ None) (sym is) (never_moves (step_at (state_of m).place m.depth (Num run)) run (h run p.end ps split))

  -- A number that isn't read stays.
  pub unread : (m : Machine) (s t : S) (b c : B) → seen.Number ≡ sight (view.remaining s) → is_over (state_of m) ≡ false
      → Stays view s t → ((k : view.Known) → view.keeps s k → IsUnread read (view.remaining s)) → maker.makes b [] c → Refuses read view maker m s b (record { source = t; machine = m; builder = c })
  unread m s t b c sees o stays never nothing = record {
    taken = [];
    events = [];
    split = sym stays.remaining;
    behind = stays.behind;
    ran = refl;
    makes = nothing;
    is_open = o;
    keeps = stays.keeps;
    stuck = λ j k. subst (IsStuck read m) (sym stays.remaining) (unread_stuck m (view.remaining s) sees (never j k));
  }

  pub over_number : (m : Machine) (a : Axis) → m.state ≡ next.Number a → is_over (state_of m) ≡ false
  over_number m a e = ap (λ s. over_at (place_of s m.part m.dim) m.depth) e ∙ open_for a
    where
      open_for : (a : Axis) → over_at (place_of (next.Number a) m.part m.dim) m.depth ≡ false
      open_for axis.X = refl
      open_for _ = refl
