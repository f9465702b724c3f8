-- One lexeme is taken, or none can be.
use Rattle.std.proofs.Common.{◌≡◌, ◌≢◌, ◌≤◌, length, arith, ℕ, zero, suc, List, [], ◌∷◌, ◌++◌, sym, refl, ap, ◌∙◌, subst, append-nil, Option, Some, None, Bool, true, false, cond}
use Rattle.wkt_num.specs.Bytes.{Lexeme, Open, Close, Comma, Word, Num}
use Rattle.wkt_access.specs.declared.dimensions.Dimension.{Dimension}
use Rattle.wkt_access.specs.declared.dimensions.Dimension.TheVariants.{XY}
use Rattle.wkt_read.specs.Grammar.{KindWord, kind_word, dim_word, is_empty_word}
use Rattle.wkt_read.specs.Spanned.{Spanned}
use Rattle.wkt_read.proofs.KindWords.{empty_is, empty_no_kind, empty_no_dim, dim_no_kind}
use Rattle.wkt_machine.specs.declared.step.Action.{Action}
use Rattle.wkt_machine.specs.declared.step.Action.TheVariants as act
use Rattle.wkt_machine.specs.Machine.{is_over, at, inside, outside, kind_step, dimension_step, comma_step, step_at, made, number_of, moved, and_then, move, run, Place, State}
use Rattle.wkt_machine.specs.Events.{Event}
use Rattle.wkt_machine.specs.Goes.{Stays, Skips, IsStuck, Goes, Refuses}
use Rattle.wkt_machine.specs.Machines.{state_of, is_single, IsSound}
use Rattle.wkt_machine.specs.Makers.{Maker}
use Rattle.wkt_machine.specs.Machine as place
use Rattle.wkt_machine.specs.Seen.{seen_at}
use Rattle.wkt_machine.specs.View.{seen_of, seen_word, seen_other, sight, View}
use Rattle.wkt_machine.specs.declared.machine.Machine.{Machine}
use Rattle.wkt_machine.specs.declared.machine.LexemeKind.{LexemeKind}
use Rattle.wkt_machine.specs.declared.machine.LexemeKind.TheVariants as seen
use Rattle.wkt_machine.specs.declared.part.Part.{Part}
use Rattle.wkt_machine.specs.declared.part.Part.TheVariants as part
use Rattle.wkt_machine.specs.declared.source.Progress.{Progress}

-- A word that is all that it can be.
abbrev Words : Option KindWord → Option Dimension → Bool → Type 0
Words (Some e) (Some d) b = ⊥
Words (Some e) None true = ⊥
Words (Some e) None false = Unit {0}
Words None (Some d) true = ⊥
Words None (Some d) false = Unit {0}
Words None None b = Unit {0}

words : (w : List ℕ) (o : Option KindWord) (d : Option Dimension) (b : Bool) → kind_word w ≡ o → dim_word w ≡ d → is_empty_word w ≡ b → Words o d b
words w (Some e) (Some d) b ek ed eb = let clash : ◌≡◌ {A = Option KindWord} None (Some e) = sym (dim_no_kind w d ed) ∙ ek in cc
words w (Some e) None true ek ed eb = let clash : ◌≡◌ {A = Option KindWord} None (Some e) = sym (empty_no_kind w (empty_is w eb)) ∙ ek in cc
words w (Some e) None false ek ed eb = tt
words w None (Some d) true ek ed eb = let clash : ◌≡◌ {A = Option Dimension} None (Some d) = sym (empty_no_dim w (empty_is w eb)) ∙ ed in cc
words w None (Some d) false ek ed eb = tt
words w None None b ek ed eb = tt

abbrev word_seen : Option KindWord → Option Dimension → Bool → LexemeKind
word_seen (Some e) d b = seen.Kind e.kind e.joined
word_seen None (Some d) b = seen.Dimension d
word_seen None None b = cond b seen.Empty seen.Other

abbrev word_step : Place → ℕ → Option KindWord → Option Dimension → Bool → Option (State × Action)
word_step place.Kind n o d b = kind_step o n
word_step (place.Alone p) n o (Some d) b = Some (at n (place.Opening p d), act.Header p d)
word_step (place.Alone p) n o None b = cond b (Some (outside p XY n, act.HeaderEmpty p)) None
word_step (place.Opening p d) n o e b = cond b (Some (outside p d n, act.Empty p)) None
word_step p n o d b = None

words_step : (p : Place) (n : ℕ) (o : Option KindWord) (d : Option Dimension) (b : Bool) → Words o d b → seen_at p n (word_seen o d b) ≡ word_step p n o d b
words_step place.Kind n (Some e) None false h = refl
words_step (place.Alone p) n (Some e) None false h = refl
words_step place.Geometry zero (Some e) None false h = refl
words_step _ n (Some e) None false h = refl
words_step place.Kind n None (Some d) false h = refl
words_step (place.Alone p) n None (Some d) false h = refl
words_step place.Geometry zero None (Some d) false h = refl
words_step _ n None (Some d) false h = refl
words_step place.Kind n None None true h = refl
words_step (place.Alone p) n None None true h = refl
words_step place.Geometry zero None None true h = refl
words_step _ n None None true h = refl
words_step place.Kind n None None false h = refl
words_step (place.Alone p) n None None false h = refl
words_step place.Geometry zero None None false h = refl
words_step _ n None None false h = refl
words_step p n (Some e) (Some d) b h = absurd h
words_step p n (Some e) None true h = absurd h
words_step p n None (Some d) true h = absurd h

word_sees : (w : List ℕ) (o : Option KindWord) (d : Option Dimension) (b : Bool) → kind_word w ≡ o → dim_word w ≡ d → is_empty_word w ≡ b → seen_of (Word w) ≡ word_seen o d b
word_sees w (Some e) d b ek ed eb = ap (λ o. seen_word o w) ek
word_sees w None (Some d) b ek ed eb = ap (λ o. seen_word o w) ek ∙ ap (λ d. seen_other d w) ed
word_sees w None None b ek ed eb = ap (λ o. seen_word o w) ek ∙ ap (λ d. seen_other d w) ed ∙ ap (λ b. cond b seen.Empty seen.Other) eb

word_steps : (p : Place) (n : ℕ) (w : List ℕ) → step_at p n (Word w) ≡ word_step p n (kind_word w) (dim_word w) (is_empty_word w)
word_steps place.Kind n w = refl
word_steps (place.Alone p) n w = go (dim_word w)
  where
    go : (o : Option Dimension) → dimension_step o p w n ≡ word_step (place.Alone p) n (kind_word w) o (is_empty_word w)
    go (Some d) = refl
    go None = refl
word_steps place.Geometry zero w = refl
word_steps place.Geometry (suc n) w = refl
word_steps _ n w = refl

-- The table over what is seen is the table over lexemes.
pub seen_is : (p : Place) (n : ℕ) (l : Lexeme) → seen_at p n (seen_of l) ≡ step_at p n l
seen_is p n (Word w) =
    ap (seen_at p n) (word_sees w (kind_word w) (dim_word w) (is_empty_word w) refl refl refl)
    ∙ words_step p n (kind_word w) (dim_word w) (is_empty_word w) (words w (kind_word w) (dim_word w) (is_empty_word w) refl refl refl)
    ∙ sym (word_steps p n w)
seen_is place.Kind n Open = refl
seen_is place.Geometry zero Open = refl
seen_is _ n Open = refl
seen_is place.Kind n Close = refl
seen_is place.Geometry zero Close = refl
seen_is _ n Close = refl
seen_is place.Kind n Comma = refl
seen_is place.Geometry zero Comma = refl
seen_is _ n Comma = refl
seen_is place.Kind n (Num w) = refl
seen_is place.Geometry zero (Num w) = refl
seen_is _ n (Num w) = refl

-- a comma of a part that may have more than one item
pub several : (p : Part) (d : Dimension) (n : ℕ) → is_single p ≡ false → comma_step p d n ≡ Some (inside p d n, act.Comma p)
several part.Point d n e = let never : ⊥ = cc in absurd never
several part.Member d n e = let never : ⊥ = cc in absurd never
several p d n e = refl

-- what is seen is a lexeme that is left
pub some_left : (ps : List Spanned) (k : LexemeKind) → k ≡ sight ps → (k ≡ seen.Other → ⊥) → 1 ≤ length ps
some_left [] k e never = absurd (never e)
some_left (p ∷ ps) k e never = omega arith

module _ {N S B : Type 0} (read : List ℕ → Option N) (view : View N S) (maker : Maker N B) where
  -- what isn't seen as a number has none
  pub no_number : (l : Lexeme) → seen_of l ≢ seen.Number → number_of read l ≡ Some None
  no_number (Num run) never = absurd (never refl)
  no_number _ never = refl

  pub from_goes : (m : Machine) (s t : S) (b : B) (to : Progress S B) → Stays view s t → Goes read view maker m t b to → Goes read view maker m s b to
  from_goes m s t b to stays h = record {
    given = h.given;
    last = h.last;
    events = h.events;
    split = sym stays.remaining ∙ h.split;
    place = h.place;
    ran = h.ran;
    makes = h.makes;
    sound = h.sound;
    keeps = λ j k. h.keeps j (stays.keeps j k);
  }

  pub from_refuses : (m : Machine) (s t : S) (b : B) (to : Progress S B) → Stays view s t → Refuses read view maker m t b to → Refuses read view maker m s b to
  from_refuses m s t b to stays h = record {
    taken = h.taken;
    events = h.events;
    split = sym stays.remaining ∙ h.split;
    behind = λ end k. h.behind end (stays.behind end k);
    ran = h.ran;
    makes = h.makes;
    is_open = h.is_open;
    keeps = λ j k. h.keeps j (stays.keeps j k);
    stuck = λ j k. h.stuck j (stays.keeps j k);
  }

  -- One lexeme is taken.
  pub goes_one : (m n : Machine) (s t : S) (b c : B) (l : Spanned) (es : List (Event N)) → view.remaining s ≡ l ∷ view.remaining t → view.place t l.end → ((k : view.Known) → view.keeps s k → view.keeps t k)
      → move read (state_of m) l.lexeme ≡ Some (state_of n, es) → maker.makes b es c → IsSound n → Goes read view maker m s b (record { source = t; machine = n; builder = c })
  goes_one m n s t b c l es split place keeps moves makes sound = record {
    given = [];
    last = l;
    events = es ++ [];
    split = split;
    place = place;
    ran = ap (λ o. and_then o (λ t. run read t [])) moves;
    makes = subst (λ es. maker.makes b es c) (sym (append-nil es)) makes;
    sound = sound;
    keeps = keeps;
  }

  -- A lexeme that is seen is taken.
  pub skipped : (m n : Machine) (s t : S) (b c : B) (a : Action) (k : LexemeKind) → k ≡ sight (view.remaining s) → k ≢ seen.Number → Skips view s t
      → seen_at (state_of m).place m.depth k ≡ Some (state_of n, a) → maker.makes b (made a None) c → IsSound n → Goes read view maker m s b (record { source = t; machine = n; builder = c })
  skipped m n s t b c a k is other skips steps makes sound =
      let sees : k ≡ seen_of skips.lexeme.lexeme = is ∙ ap sight skips.remaining in
      let step : step_at (state_of m).place m.depth skips.lexeme.lexeme ≡ Some (state_of n, a) = sym (seen_is (state_of m).place m.depth skips.lexeme.lexeme) ∙ ap (seen_at (state_of m).place m.depth) (sym sees) ∙ steps in
      let none : number_of read skips.lexeme.lexeme ≡ Some None = no_number skips.lexeme.lexeme (λ e. other (sees ∙ e)) in
      goes_one m n s t b c skips.lexeme (made a None) skips.remaining skips.place skips.keeps
      (ap (λ o. moved read o (number_of read skips.lexeme.lexeme)) step ∙ ap (λ x. moved read (Some (state_of n, a)) x) none) makes sound

  -- No lexeme is taken.
  stands : (m : Machine) (s : S) (b : B) → is_over (state_of m) ≡ false → ((k : view.Known) → view.keeps s k → IsStuck read m (view.remaining s)) → Refuses read view maker m s b (record { source = s; machine = m; builder = b })
  stands m s b o stuck = record {
    taken = [];
    events = [];
    split = refl;
    behind = λ end k. k;
    ran = refl;
    makes = maker.none b;
    is_open = o;
    keeps = λ j k. k;
    stuck = stuck;
  }

  unmoved : (m : Machine) (ps : List Spanned) → seen_at (state_of m).place m.depth (sight ps) ≡ None → IsStuck read m ps
  unmoved m [] e = tt
  unmoved m (p ∷ ps) e = ap (λ o. moved read o (number_of read p.lexeme)) (sym (seen_is (state_of m).place m.depth p.lexeme) ∙ e)

  -- A lexeme that is seen isn't taken.
  pub stands_at : (m : Machine) (s : S) (b : B) (k : LexemeKind) → k ≡ sight (view.remaining s) → is_over (state_of m) ≡ false → seen_at (state_of m).place m.depth k ≡ None → Refuses read view maker m s b (record { source = s; machine = m; builder = b })
  stands_at m s b k is o e = stands m s b o (λ j h. unmoved m (view.remaining s) (ap (seen_at (state_of m).place m.depth) (sym is) ∙ e))
