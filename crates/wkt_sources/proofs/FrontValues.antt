-- Where a drive over a text ends its front does, and which value it has.
use Rattle.std.proofs.Common.{◌≡◌, ℕ, List, [], ◌∷◌, ◌++◌, sym, refl, ap, ◌∙◌, subst, append_assoc, append-nil, Option, Some, None, false, true}
use Rattle.wkt_num.specs.Bytes.{Lexeme}
use Rattle.wkt_access.specs.Values.{Value}
use Rattle.wkt_read.specs.Begun.{NoneBegins}
use Rattle.wkt_read.specs.Front.{Front, HasNoFront}
use Rattle.wkt_read.specs.Spanned.{Spanned, lexemes_of, end_after, AreEnds, spanned}
use Rattle.wkt_read.proofs.Begun.{CutIn, Later, Earlier, cut_in}
use Rattle.wkt_read.proofs.OneForm.{taken_begin}
use Rattle.wkt_read.proofs.HeaderPlaces.{front-of-lexemes}
use Rattle.wkt_read.proofs.Splits.{split_one}
use Rattle.wkt_read.proofs.Placings.{spanned-split, spanned-ends}
use Rattle.wkt_machine.specs.Machine.{start, is_over, Move, at, move, run, State}
use Rattle.wkt_machine.specs.Machine as place
use Rattle.wkt_machine.specs.Events.{Event, events}
use Rattle.wkt_machine.specs.Goes.{GoesFrom, RefusesFrom, IsStuck}
use Rattle.wkt_machine.specs.Machines.{state_of}
use Rattle.wkt_machine.specs.Makers.{Maker}
use Rattle.wkt_machine.specs.View.{View}
use Rattle.wkt_machine.specs.declared.source.Progress.{Progress}
use Rattle.wkt_machine.proofs.Complete.{value_run}
use Rattle.wkt_machine.proofs.WholeRuns.{exact, goes_on, front_run, stuck, no_front}
use Rattle.wkt_sources.specs.Taken.{MachineRefuses, TakesValue}
use Rattle.wkt_machine.specs.declared.machine.Machine.{Machine}
use Rattle.wkt_access.specs.declared.dimensions.Dimension.TheVariants.{XY}
use Rattle.wkt_machine.specs.declared.part.Part.TheVariants as part
use Rattle.wkt_machine.specs.declared.machine.State.TheVariants as state

-- Where a drive over a text ends its front does, and what is read there is its value.

-- Where a drive over a text ends, its front does, or it has none.

lexemes_append : (xs ys : List Spanned) → lexemes_of (xs ++ ys) ≡ lexemes_of xs ++ lexemes_of ys
lexemes_append [] ys = refl
lexemes_append (x ∷ xs) ys = ap (λ l. x.lexeme ∷ l) (lexemes_append xs ys)

pub end_last : (at : ℕ) (given : List Spanned) (x : Spanned) → end_after at (given ++ (x ∷ [])) ≡ x.end
end_last at [] x = refl
end_last at (y ∷ given) x = end_last y.end given x

module _ {N : Type 0} (read : List ℕ → Option N) where
  -- no front where the machine stops at a lexeme
  stopped_none : (before rest : List Lexeme) (fault : Lexeme) (s : State) (es : List (Event N)) → run read start before ≡ Some (s, es) → is_over s ≡ false → move read s fault ≡ None → NoneBegins read (before ++ (fault ∷ rest))
  stopped_none before rest fault s es e o stops f later v split g = go (cut_in f later (before ++ (fault ∷ [])) rest (sym split ∙ sym (append_assoc before (fault ∷ []) rest)))
    where
      go : CutIn f later (before ++ (fault ∷ [])) rest → ⊥
      go (Later m e1 e2) = no_front read before fault s es e o stops f m v e1 g
      go (Earlier m e1 e2) =
          let whole : run read start ((before ++ (fault ∷ [])) ++ m) ≡ Some (at 0 place.Geometry, events v ++ []) = ap (run read start) (sym e1 ∙ sym (append-nil f)) ∙ (value_run read v f 0 g).on [] in
          let (q, r, first, later, cut) = front_run read (before ++ (fault ∷ [])) m start (at 0 place.Geometry, events v ++ []) whole in
          let clash : ◌≡◌ {A = Option (Move N)} None (Some q) = sym (stuck read before fault s es e o stops) ∙ first in cc

  module _ {S B : Type 0} (view : View N S) (maker : Maker N B) (text : List ℕ) (s : S) (b : B) (to : Progress S B) (begins : view.remaining s ≡ spanned text) where
    -- a front, and what was made of it
    pub front_made : (at : ℕ) → ((end : ℕ) → view.place to.source end → at ≡ end) → GoesFrom read view maker s b to → is_over (state_of to.machine) ≡ true → (v : Value N) × Front read text v at × maker.makes b (events v) to.builder
    front_made at ends (m, from, h) o =
        let taken : List Spanned = h.given ++ (h.last ∷ []) in
        let all : spanned text ≡ taken ++ view.remaining to.source = sym begins ∙ h.split ∙ sym (append_assoc h.given (h.last ∷ []) (view.remaining to.source)) in
        let ran : run read start (lexemes_of taken) ≡ Some (state_of to.machine, h.events) = ap (λ s. run read s (lexemes_of taken)) (sym from) ∙ h.ran in
        let (v, g, made_is) = exact read (lexemes_of taken) (state_of to.machine) h.events ran o in (
          v,
          subst (Front read text v) (end_last 0 h.given h.last ∙ sym (ends h.last.end h.place))
              (front-of-lexemes read text taken (view.remaining to.source) v (subst (AreEnds text) all (spanned-ends text)) g),
          subst (λ es. maker.makes b es to.builder) made_is h.makes,
        )

    none_in : NoneBegins read (lexemes_of (spanned text)) → HasNoFront read text
    none_in none v end front =
        let (more, is) = taken_begin text front.rest front.lexemes front.taken in
        none front.lexemes more v (split_one text _ _ (spanned-split text) is) front.reads

    pub no_front_there : (j : view.Known) → view.keeps s j → RefusesFrom read view maker s b to → HasNoFront read text
    no_front_there j keeps (m, from, h) = go (view.remaining to.source) refl
      where
        ran : run read start (lexemes_of h.taken) ≡ Some (state_of to.machine, h.events)
        ran = ap (λ s. run read s (lexemes_of h.taken)) (sym from) ∙ h.ran

        lexemes : lexemes_of (spanned text) ≡ lexemes_of h.taken ++ lexemes_of (view.remaining to.source)
        lexemes = ap lexemes_of (sym begins ∙ h.split) ∙ lexemes_append h.taken (view.remaining to.source)

        go : (remaining : List Spanned) → view.remaining to.source ≡ remaining → HasNoFront read text
        go [] e =
            let none = (goes_on read (lexemes_of h.taken) (state_of to.machine) h.events ran h.is_open).1 in
            none_in (subst (NoneBegins read) (sym (lexemes ∙ ap (λ ps. lexemes_of h.taken ++ lexemes_of ps) e ∙ append-nil (lexemes_of h.taken))) none)
        go (p ∷ ps) e =
            let stops : move read (state_of to.machine) p.lexeme ≡ None = subst (IsStuck read to.machine) e (h.stuck j keeps) in
            none_in (subst (NoneBegins read) (sym (lexemes ∙ ap (λ ps. lexemes_of h.taken ++ lexemes_of ps) e)) (stopped_none (lexemes_of h.taken) (lexemes_of ps) p.lexeme (state_of to.machine) h.events ran h.is_open stops))

-- What the machine took off a source.

module _ {N S B : Type 0} (read : List ℕ → Option N) (view : View N S) (maker : Maker N B) (s : S) (b : B) (to : Progress S B) where
  -- the front's value, whose events were made
  pub taken : GoesFrom read view maker s b to → is_over (state_of to.machine) ≡ true → (v : Value N) × TakesValue read view s v to.source × maker.makes b (events v) to.builder
  taken (m, from, h) o =
      let ls = lexemes_of (h.given ++ (h.last ∷ [])) in
      let ran : run read start ls ≡ Some (state_of to.machine, h.events) = ap (λ s. run read s ls) (sym from) ∙ h.ran in
      let (v, stands, made_is) = exact read ls (state_of to.machine) h.events ran o in (
        v,
        record { given = h.given; last = h.last; split = h.split; place = h.place; stands = stands; keeps = h.keeps },
        subst (λ es. maker.makes b es to.builder) made_is h.makes,
      )

  pub refused : RefusesFrom read view maker s b to → MachineRefuses read view s to.machine to.source
  refused (m, from, h) = record {
    taken = h.taken;
    events = h.events;
    split = h.split;
    behind = h.behind;
    ran = ap (λ s. run read s (lexemes_of h.taken)) (sym from) ∙ h.ran;
    is_open = h.is_open;
    keeps = h.keeps;
    stuck = h.stuck;
  }

-- What is read from the place where a text begins is its front, or it has none.

-- nothing is made
abbrev made_none : {N : Type 0} → Maker N (Unit {0})
made_none = record { makes = λ s es t. Unit {0}; reads = λ s run. None; fits = λ s n. Unit {0}; takes = λ s x. 0; same = λ s t es h. (refl, refl); none = λ s. tt; more = λ s t u es fs h k. tt; less = λ s m n order h. tt }

abbrev begin : Machine
begin = record { state = state.Kind; part = part.Point; dim = XY; depth = 0 }

module _ {N S : Type 0} (read : List ℕ → Option N) (view : View N S) (text : List ℕ) (s : S) (begins : view.remaining s ≡ spanned text) where
  -- the front that was taken
  pub front_whole : (v : Value N) (t : S) (h : TakesValue read view s v t) → Front read text v h.last.end
  front_whole v t h =
      let given : List Spanned = h.given ++ (h.last ∷ []) in
      let all : spanned text ≡ given ++ view.remaining t = sym begins ∙ h.split ∙ sym (append_assoc h.given (h.last ∷ []) (view.remaining t)) in
      subst (Front read text v) (end_last 0 h.given h.last)
      (front-of-lexemes read text given (view.remaining t) v (subst (AreEnds text) all (spanned-ends text)) h.stands)

  -- the same, by where the source is behind it
  pub front_taken : (v : Value N) (t : S) (at : ℕ) → ((end : ℕ) → view.place t end → at ≡ end) → TakesValue read view s v t → Front read text v at
  front_taken v t at ends h = subst (Front read text v) (sym (ends h.last.end h.place)) (front_whole v t h)

  -- no front where the machine stops
  pub no_front_refused : (j : view.Known) → view.keeps s j → (m : Machine) (t : S) → MachineRefuses read view s m t → HasNoFront read text
  no_front_refused j keeps m t h =
      let to : Progress S (Unit {0}) = record { source = t; machine = m; builder = tt } in
      no_front_there read view made_none text s tt to begins j keeps (
        begin,
        refl,
        record {
          taken = h.taken;
          events = h.events;
          split = h.split;
          behind = h.behind;
          ran = h.ran;
          makes = tt;
          is_open = h.is_open;
          keeps = h.keeps;
          stuck = h.stuck;
        },
      )
