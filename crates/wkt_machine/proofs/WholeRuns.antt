-- Whole runs: what they go over is in the grammar, where they stop no geometry is left, and they stop at one place.
use Rattle.std.proofs.Common.{◌≡◌, ℕ, zero, List, [], ◌∷◌, ◌++◌, length, length-append, sym, refl, ap, ◌∙◌, subst, append_assoc, append-nil, arith, Option, Some, None, Bool, true, false, ◌+◌, ◌≤◌, inl, inr, suc, cond}
use Rattle.std.proofs.lemmas.List.{append_cancel_left}
use Rattle.wkt_num.specs.Bytes.{Lexeme, Open, Close, Comma, Word, Num}
use Rattle.wkt_access.specs.Values.{Value}
use Rattle.wkt_read.specs.Grammar.{StandFor, KindWord, kind_word, dim_word, is_empty_word}
use Rattle.wkt_read.specs.Begun.{BegunGeometry, NoneBegins, IsDead, IsJustDead, opens, closes, StopsEarly}
use Rattle.wkt_machine.specs.Machine.{start, is_over, over_at, Move, at, after, and_then, step, number_of, said, moved, move, run, part_of, inside, outside, kind_step, joined_step, dimension_step, number_step, bare_step, comma_step, step_at, Place, State}
use Rattle.wkt_machine.specs.Events.{Event, events}
use Rattle.wkt_machine.specs.Machine as place
use Rattle.wkt_machine.specs.declared.step.Action.{Action}
use Rattle.wkt_machine.proofs.Complete.{after-nil, after-after, value_run}
use Rattle.wkt_machine.proofs.BegunIsWalked.{begun_on, at_begun}
use Rattle.wkt_machine.proofs.Places.{Progress, Keeps, IsRead, keeps}
use Rattle.wkt_read.specs.Refusal.{StopsBetween, HasMessage}
use Rattle.wkt_read.proofs.Begun.{cuts_geometry, one_fault}
use Rattle.wkt_read.specs.declared.messages.Message.{Message}
use Rattle.wkt_read.proofs.Refusals.{Leaves, nothing_left, message_leaves}
use Rattle.wkt_access.specs.declared.dimensions.Dimension.{Dimension}
use Rattle.wkt_access.specs.declared.dimensions.Dimension.TheVariants.{XY}
use Rattle.wkt_read.specs.Spanned.{Spanned, lexemes_of}
use Rattle.wkt_machine.specs.Goes.{Goes}
use Rattle.wkt_machine.specs.Machines.{state_of}
use Rattle.wkt_machine.specs.Makers.{Maker}
use Rattle.wkt_machine.specs.View.{View}
use Rattle.wkt_machine.specs.declared.machine.Machine.{Machine}
use Rattle.wkt_machine.specs.declared.source.Progress.{Progress as SourceAt}
use Rattle.wkt_machine.specs.declared.part.Part.{Part}
use Rattle.wkt_machine.specs.declared.part.Part.TheVariants as part

-- Whole runs: what they go over is in the grammar, and where they stop no geometry is left.

module _ {N : Type 0} (read : List ℕ → Option N) where
  -- what comes after, where something does
  after_some : (es : List (Event N)) (o : Option (Move N)) (m : Move N) → after es o ≡ Some m → (r : Move N) × (o ≡ Some r) × (m ≡ (r.0, es ++ r.1))
  after_some es None m e = let no : ⊥ = cc in absurd no
  after_some es (Some r) m e = (r, refl, let same : m ≡ (r.0, es ++ r.1) = cc in same)

  pub then_some : (o : Option (Move N)) (f : State → Option (Move N)) (m : Move N) → and_then o f ≡ Some m → (q : Move N) × (r : Move N) × (o ≡ Some q) × (f q.0 ≡ Some r) × (m ≡ (r.0, q.1 ++ r.1))
  then_some None f m e = let no : ⊥ = cc in absurd no
  then_some (Some q) f m e = let (r, is, split) = after_some q.1 (f q.0) m e in (q, r, refl, is, split)

  pub moved_some : (o : Option (State × Action)) (x : Option (Option N)) (m : Move N) → moved read o x ≡ Some m → (a : Action) × (y : Option N) × (o ≡ Some (m.0, a)) × (x ≡ Some y)
  moved_some (Some s) (Some x) m e = let same : s.0 ≡ m.0 = ap (λ (o : Option (Move N)). first_of o s.0) e in (s.1, x, ap (λ t. Some (t, s.1)) same, refl)
    where
      first_of : Option (Move N) → State → State
      first_of (Some m) t = m.0
      first_of None t = t
  moved_some (Some s) None m e = let no : ⊥ = cc in absurd no
  moved_some None x m e = let no : ⊥ = cc in absurd no

  read_number : (run : List ℕ) (o : Option N) (y : Option N) → read run ≡ o → said read o ≡ Some y → IsRead read (Num run)
  read_number run (Some x) y is e = (x, is)
  read_number run None y is e = let no : ⊥ = cc in absurd no

  is_read : (l : Lexeme) (y : Option N) → number_of read l ≡ Some y → IsRead read l
  is_read (Num run) y e = read_number run (read run) y refl e
  is_read l y e = tt

  -- the place after a run
  run_at : (ls pre : List Lexeme) (s : State) (m : Move N) → Progress read s.place s.depth pre → run read s ls ≡ Some m → Progress read m.0.place m.0.depth (pre ++ ls)
  run_at [] pre s m h e =
      let same : s ≡ m.0 = cc in
      subst (λ (t : State). Progress read t.place t.depth (pre ++ [])) same (subst (Progress read s.place s.depth) (sym (append-nil pre)) h)
  run_at (l ∷ ls) pre s m h e =
      let (q, r, moves, runs, split) = then_some (move read s l) (λ t. run read t ls) m e in
      let (a, y, steps, number) = moved_some (step s l) (number_of read l) q moves in
      let there = subst (λ o. Keeps read o (pre ++ (l ∷ []))) steps (keeps read s.place s.depth l pre (is_read l y number) h) in
      let end = run_at ls (pre ++ (l ∷ [])) q.0 r there runs in
      let same : r.0 ≡ m.0 = cc in
      subst (λ k. Progress read m.0.place m.0.depth k) (append_assoc pre (l ∷ []) ls) (subst (λ (t : State). Progress read t.place t.depth ((pre ++ (l ∷ [])) ++ ls)) same end)

  -- nothing moves where a geometry is over
  pub over_stops : (s : State) (l : Lexeme) → is_over s ≡ true → move read s l ≡ None
  over_stops s l o = at_place s.place s.depth l o
    where
      at_place : (p : Place) (n : ℕ) (l : Lexeme) → over_at p n ≡ true → move read (at n p) l ≡ None
      at_place place.Geometry zero Open e = refl
      at_place place.Geometry zero _ e = refl
      at_place p n l e = let no : ⊥ = cc in absurd no

  -- a front of a run is a run
  pub front_run : (a b : List Lexeme) (s : State) (m : Move N) → run read s (a ++ b) ≡ Some m → (q : Move N) × (r : Move N) × (run read s a ≡ Some q) × (run read q.0 b ≡ Some r) × (m ≡ (r.0, q.1 ++ r.1))
  front_run [] b s m e = ((s, []), m, refl, e, refl)
  front_run (l ∷ a) b s m e =
      let (q, r, moves, runs, split) = then_some (move read s l) (λ t. run read t (a ++ b)) m e in
      let (t, u, first, later, split2) = front_run a b q.0 r runs in (
        (t.0, q.1 ++ t.1),
        u,
        ap (λ o. and_then o (λ t. run read t a)) moves ∙ ap (after q.1) first,
        later,
        split ∙ ap (λ (r : Move N). (r.0, q.1 ++ r.1)) split2 ∙ ap (λ l. (u.0, l)) (sym (append_assoc q.1 t.1 u.1)),
      )

  -- what was made
  abbrev made_in : List (Event N) → Option (Move N) → List (Event N)
  made_in es (Some m) = m.1
  made_in es None = es

  -- what a run goes over from the start
  pub exact : (ls : List Lexeme) (s : State) (es : List (Event N)) → run read start ls ≡ Some (s, es) → is_over s ≡ true → (v : Value N) × StandFor read ls v × (es ≡ events v)
  exact ls s es e o = go s.place s.depth o (run_at ls [] start (s, es) refl e)
    where
      go : (p : Place) (n : ℕ) → over_at p n ≡ true → Progress read p n ls → (v : Value N) × StandFor read ls v × (es ≡ events v)
      go place.Geometry zero o (c, f, v, free, g, split) =
          let stands : StandFor read ls v = subst (λ l. StandFor read l v) (sym (split ∙ ap (λ l. l ++ f) free)) g in
          let whole : run read start ls ≡ Some (at 0 place.Geometry, events v ++ []) = ap (run read start) (sym (append-nil ls)) ∙ (value_run read v ls 0 stands).on [] in
          let made : es ≡ events v ++ [] = ap (made_in es) (sym e ∙ whole) in
          (v, stands, made ∙ append-nil (events v))
      go p n o h = let no : ⊥ = cc in absurd no

  -- no geometry is at the front where the machine isn't over
  none_begins : (ls : List Lexeme) (m : Move N) → run read start ls ≡ Some m → is_over m.0 ≡ false → NoneBegins read ls
  none_begins ls m e o f [] v split g =
      let whole : Some m ≡ Some (at 0 place.Geometry, events v ++ []) = sym e ∙ ap (run read start) split ∙ (value_run read v f 0 g).on [] in
      let same : m ≡ (at 0 place.Geometry, events v ++ []) = cc in
      let clash : false ≡ true = sym o ∙ ap (λ (m : Move N). is_over m.0) same in cc
  none_begins ls m e o f (l ∷ rest) v split g =
      let stuck : run read (at 0 place.Geometry) (l ∷ rest) ≡ None = ap (λ o. and_then o (λ t. run read t rest)) (over_stops (at 0 place.Geometry) l refl) in
      let clash : ◌≡◌ {A = Option (Move N)} (Some m) None = sym e ∙ ap (run read start) split ∙ (value_run read v f 0 g).on (l ∷ rest) ∙ ap (after (events v)) stuck in cc

  pub goes_on : (ls : List Lexeme) (s : State) (es : List (Event N)) → run read start ls ≡ Some (s, es) → is_over s ≡ false → BegunGeometry read ls × NoneBegins read ls
  goes_on ls s es e o = (at_begun read s.place s.depth ls o (run_at ls [] start (s, es) refl e), none_begins ls (s, es) e o)

  -- a run, and then another
  pub run_append : (a b : List Lexeme) (s : State) (m : Move N) → run read s a ≡ Some m → run read s (a ++ b) ≡ after m.1 (run read m.0 b)
  run_append [] b s m e =
      let same : (s, []) ≡ m = cc in
      subst (λ (m : Move N). run read s b ≡ after m.1 (run read m.0 b)) same (sym (after-nil (run read s b)))
  run_append (l ∷ a) b s m e =
      let (q, r, moves, runs, split) = then_some (move read s l) (λ t. run read t a) m e in
      ap (λ o. and_then o (λ t. run read t (a ++ b))) moves ∙ ap (after q.1) (run_append a b q.0 r runs) ∙ after-after q.1 r.1 (run read r.0 b)
      ∙ ap (λ (m : Move N). after m.1 (run read m.0 b)) (sym split)

  last_cut : (b a c : List Lexeme) (x y : Lexeme) → b ++ (x ∷ []) ≡ a ++ (y ∷ c) → (d : List Lexeme) × (b ≡ a ++ d)
  last_cut b [] c x y e = (b, refl)
  last_cut [] (z ∷ a) c x y e = absurd (omega (arith, ap length e, length-append a (y ∷ c)))
  last_cut (w ∷ b) (z ∷ a) c x y e =
      let same : w ≡ z = cc in
      let (d, e2) = last_cut b a c x y (cc) in
      (d, ap (λ l. w ∷ l) e2 ∙ ap (λ v. v ∷ (a ++ d)) same)

  -- before the end of a run that isn't over the machine isn't over
  front_begun : (a d : List Lexeme) (m : Move N) → run read start (a ++ d) ≡ Some m → is_over m.0 ≡ false → BegunGeometry read a
  front_begun a d m e o =
      let (q, r, first, later, split) = front_run a d start m e in
      at_begun read q.0.place q.0.depth a (never d q r later (ap (λ (m : Move N). is_over m.0) (sym split) ∙ o) (is_over q.0) refl) (run_at a [] start q refl first)
    where
      never : (d : List Lexeme) (q r : Move N) → run read q.0 d ≡ Some r → is_over r.0 ≡ false → (b : Bool) → is_over q.0 ≡ b → is_over q.0 ≡ false
      never d q r e o false is = is
      never [] q r e o true is =
          let same : q.0 ≡ r.0 = cc in
          let clash : false ≡ true = sym o ∙ ap is_over (sym same) ∙ is in cc
      never (l ∷ d) q r e o true is =
          let clash : ◌≡◌ {A = Option (Move N)} None (Some r) = ap (λ o. and_then o (λ t. run read t d)) (sym (over_stops q.0 l is)) ∙ e in cc

  module _ (before : List Lexeme) (fault : Lexeme) (s : State) (es : List (Event N)) (e : run read start before ≡ Some (s, es)) (o : is_over s ≡ false) (stops : move read s fault ≡ None) where
    pub stuck : run read start (before ++ (fault ∷ [])) ≡ None
    stuck = run_append before (fault ∷ []) start (s, es) e ∙ ap (λ o. after es (and_then o (λ t. run read t []))) stops

    pub no_front : NoneBegins read (before ++ (fault ∷ []))
    no_front f [] v split g =
        let clash : ◌≡◌ {A = Option (Move N)} None (Some (at 0 place.Geometry, events v ++ [])) = sym stuck ∙ ap (run read start) split ∙ (value_run read v f 0 g).on [] in cc
    no_front f (l ∷ rest) v split g = let (d, cut) = last_cut before f rest fault l split in none_begins before (s, es) e o f d v cut g

    pub refuses : IsJustDead read (before ++ (fault ∷ []))
    refuses = record {
      dead = record {
        none_begins = no_front;
        not_begun = λ h. let (m, is) = begun_on read 0 (before ++ (fault ∷ [])) h in let clash : ◌≡◌ {A = Option (Move N)} None (Some m) = sym stuck ∙ is in cc;
      };
      shortest = λ a more x split dead.
          let (d, cut) = last_cut before a more fault x split in
          dead.not_begun (front_begun a d (s, es) (ap (run read start) (sym cut) ∙ e) o);
    }

-- Lexemes are refused at one place.

module _ {N : Type 0} (read : List ℕ → Option N) where
  -- a beginning of what is begun is begun
  pub begun_front : (a b : List Lexeme) → BegunGeometry read (a ++ b) → BegunGeometry read a
  begun_front a b h =
      let (m, is) = begun_on read 0 (a ++ b) h in
      let (q, r, first, later, split) = front_run read a b start m is in
      go q first (is_over q.0) refl
    where
      go : (q : Move N) → run read start a ≡ Some q → (b : Bool) → is_over q.0 ≡ b → BegunGeometry read a
      go q first true o = let (v, g, made) = exact read a q.0 q.1 first o in cuts_geometry read v a a [] g (sym (append-nil a))
      go q first false o = (goes_on read a q.0 q.1 first o).0

  -- what is begun has no dead beginning
  pub none_dead : (b c : List Lexeme) (x : Lexeme) → BegunGeometry read (b ++ (x ∷ c)) → IsDead read (b ++ (x ∷ [])) → ⊥
  none_dead b c x begun dead = dead.not_begun (begun_front (b ++ (x ∷ [])) c (subst (BegunGeometry read) (sym (append_assoc b (x ∷ []) c)) begun))

  -- lexemes are refused at one place
  pub one_place : (b r b2 r2 : List Lexeme) → b ++ r ≡ b2 ++ r2 → StopsBetween read b r → StopsBetween read b2 r2 → b ≡ b2
  one_place b [] b2 [] e h k = sym (append-nil b) ∙ e ∙ append-nil b2
  one_place b (x ∷ c) b2 (y ∷ c2) e h k = one_fault read b c b2 c2 x y h k e
  one_place b [] b2 (y ∷ c2) e h k = absurd (none_dead b2 c2 y (subst (BegunGeometry read) (sym (append-nil b) ∙ e) h.0) k.dead)
  one_place b (x ∷ c) b2 [] e h k = absurd (none_dead b c x (subst (BegunGeometry read) (sym (append-nil b2) ∙ sym e) k.0) h.dead)

  pub one_left : (b r b2 r2 : List Lexeme) → b ++ r ≡ b2 ++ r2 → b ≡ b2 → r ≡ r2
  one_left b r b2 r2 e same = append_cancel_left b r r2 (e ∙ ap (λ l. l ++ r2) (sym same))

-- Where lexemes are refused, no more of them are taken than it takes to say so.

module _ {N : Type 0} (read : List ℕ → Option N) (ls : List Lexeme) (m : Message) (remaining : List Lexeme) (h : HasMessage read ls m remaining) where
  pub message_early : StopsEarly read ls remaining
  message_early = go h.there h.split h.stops (message_leaves read ls m remaining h)
    where
      go : (there : List Lexeme) → ls ≡ h.before ++ there → StopsBetween read h.before there → Leaves (1 + h.parens) there remaining → StopsEarly read ls remaining
      go [] split stops (given, e, le) =
          let none : remaining ≡ [] = nothing_left given remaining e in
          let begun : BegunGeometry read ls = subst (BegunGeometry read) (sym (split ∙ append-nil h.before)) stops.0 in record {
            taken = ls;
            split = sym (append-nil ls) ∙ ap (λ l. ls ++ l) (sym none);
            reached = inl none;
            few = λ b c x cut j. absurd (none_dead read b c x (subst (BegunGeometry read) cut begun) j.dead);
          }
      go (x ∷ r) split stops (given, e, le) = record {
        taken = h.before ++ given;
        split = split ∙ ap (λ l. h.before ++ l) e ∙ sym (append_assoc h.before given remaining);
        reached = inr (h.before, r, x, split, stops, omega (arith, length-append h.before given));
        few = λ b c y cut j.
            let same : h.before ≡ b = one_fault read h.before r b c x y stops j (sym split ∙ cut) in
            let count = h.counted in
            subst (λ l. length (h.before ++ given) + closes l ≤ length l + 1 + opens l) same (omega (arith, length-append h.before given, le, count));
      }

-- Each lexeme goes into one collection more at most.

-- a step goes into one collection more at most
abbrev Deep : ℕ → Option (State × Action) → Type 0
Deep n None = Unit {0}
Deep n (Some s) = s.0.depth ≤ suc n

inside_deep : (p : Part) (d : Dimension) (n : ℕ) → (inside p d n).depth ≤ suc n
inside_deep part.Point d n = omega arith
inside_deep p d n = omega arith

outside_deep : (p : Part) (d : Dimension) (n : ℕ) → (outside p d n).depth ≤ suc n
outside_deep part.Point d n = omega arith
outside_deep p d n = omega arith

joined_deep : (p : Part) (o : Option Dimension) (n : ℕ) → (joined_step p o n).0.depth ≤ suc n
joined_deep p (Some d) n = omega arith
joined_deep p None n = omega arith

kind_deep : (o : Option KindWord) (n : ℕ) → Deep n (kind_step o n)
kind_deep None n = tt
kind_deep (Some e) n = joined_deep (part_of e.kind) e.joined n

empty_deep : (b : Bool) (p : Part) (d : Dimension) (n : ℕ) (a : Action) → Deep n (cond b (Some (outside p d n, a)) None)
empty_deep true p d n a = outside_deep p d n
empty_deep false p d n a = tt

dimension_deep : (o : Option Dimension) (p : Part) (w : List ℕ) (n : ℕ) → Deep n (dimension_step o p w n)
dimension_deep (Some d) p w n = omega arith
dimension_deep None p w n = empty_deep (is_empty_word w) p XY n _

number_deep : (p : Part) (d : Dimension) (more n : ℕ) → (number_step p d more n).0.depth ≤ suc n
number_deep p d zero n = omega arith
number_deep p d (suc more) n = omega arith

bare_deep : (p : Part) (d : Dimension) (n : ℕ) → Deep n (bare_step p d n)
bare_deep part.Member d n = omega arith
bare_deep p d n = tt

comma_deep : (p : Part) (d : Dimension) (n : ℕ) → Deep n (comma_step p d n)
comma_deep part.Point d n = tt
comma_deep part.Member d n = tt
comma_deep p d n = omega arith

deep_at : (p : Place) (n : ℕ) (l : Lexeme) → Deep n (step_at p n l)
deep_at place.Kind n (Word w) = kind_deep (kind_word w) n
deep_at (place.Alone p) n (Word w) = dimension_deep (dim_word w) p w n
deep_at (place.Alone p) n Open = inside_deep p XY n
deep_at (place.Opening p d) n Open = inside_deep p d n
deep_at (place.Opening p d) n (Word w) = empty_deep (is_empty_word w) p d n _
deep_at (place.Opening p d) n (Num run) = bare_deep p d n
deep_at (place.Number p d more) n (Num run) = number_deep p d more n
deep_at (place.Item p d) n Comma = comma_deep p d n
deep_at (place.Item p d) n Close = outside_deep p d n
deep_at place.Geometry (suc n) Comma = omega arith
deep_at place.Geometry (suc n) Close = omega arith
deep_at p n l = tt

pub deeper : (s t : State) (a : Action) (l : Lexeme) → step s l ≡ Some (t, a) → t.depth ≤ suc s.depth
deeper s t a l e = subst (Deep s.depth) e (deep_at s.place s.depth l)

-- and so do several
pub deeper_by : {N : Type 0} (read : List ℕ → Option N) (ls : List Lexeme) (s : State) (m : Move N) → run read s ls ≡ Some m → m.0.depth ≤ s.depth + length ls
deeper_by read [] s m e =
    let same : s ≡ m.0 = cc in
    omega (arith, ap (λ (s : State). s.depth) same)
deeper_by read (l ∷ ls) s m e =
    let (q, r, moves, runs, split) = then_some read (move read s l) (λ t. run read t ls) m e in
    let (a, y, steps, number) = moved_some read (step s l) (number_of read l) q moves in
    let first = deeper s q.0 a l steps in
    let more = deeper_by read ls q.0 r runs in
    let same : r.0 ≡ m.0 = cc in
    omega (arith, first, more, ap (λ (s : State). s.depth) same)

many : (ps : List Spanned) → length (lexemes_of ps) ≡ length ps
many [] = refl
many (p ∷ ps) = ap suc (many ps)

-- There is as much room after a way as before.
pub goes_room : {N S B : Type 0} (read : List ℕ → Option N) (view : View N S) (maker : Maker N B) (m : Machine) (s : S) (b : B) (to : SourceAt S B) → Goes read view maker m s b to
    → to.machine.depth + length (view.remaining to.source) ≤ m.depth + length (view.remaining s)
goes_room read view maker m s b to h =
    let deep = deeper_by read (lexemes_of (h.given ++ (h.last ∷ []))) (state_of m) (state_of to.machine, h.events) h.ran in
    let count = many (h.given ++ (h.last ∷ [])) in
    let all = ap length h.split in
    omega (arith, deep, count, all, length-append h.given (h.last ∷ []), length-append h.given (h.last ∷ view.remaining to.source))

-- Less is left after a way.
pub goes_less : {N S B : Type 0} (read : List ℕ → Option N) (view : View N S) (maker : Maker N B) (m : Machine) (s : S) (b : B) (to : SourceAt S B) → Goes read view maker m s b to
    → suc (length (view.remaining to.source)) ≤ length (view.remaining s)
goes_less read view maker m s b to h = omega (arith, ap length h.split, length-append h.given (h.last ∷ view.remaining to.source))
