-- Ways: one after another, those that may be none, those behind a look, and those between the states of one part.
use Rattle.std.proofs.Common.{◌≡◌, ℕ, List, [], ◌∷◌, ◌++◌, sym, refl, ap, ◌∙◌, subst, append_assoc, Option, Some, None, Bool, true, false}
use Rattle.std.specs.Prelude.{Result, Ok, Err, IfErr, IfNone}
use Rattle.std.specs.Bool.{OnTrue, OnFalse}
use Rattle.wkt_read.specs.Spanned.{Spanned, lexemes_of, end_after}
use Rattle.wkt_machine.specs.Events.{Event}
use Rattle.wkt_machine.specs.Goes.{Goes, GoesFrom, Refuses, RefusesFrom, Leads, reached, standing}
use Rattle.wkt_machine.specs.Machine.{after, run, State}
use Rattle.wkt_machine.specs.Machines.{state_of}
use Rattle.wkt_machine.specs.Makers.{Maker}
use Rattle.wkt_machine.specs.View.{View}
use Rattle.wkt_machine.specs.declared.machine.Machine.{Machine}
use Rattle.wkt_machine.specs.declared.source.Progress.{Progress}
use Rattle.wkt_machine.proofs.WholeRuns.{run_append}
use Rattle.wkt_machine.specs.declared.machine.State.{State as Next}

-- What is left as it was is made of no event.
pub nothing_made : {N B : Type 0} (maker : Maker N B) (b c : B) (o : Option ℕ) → IfNone o (c ≡ b) → IfNone o (maker.makes b [] c)
nothing_made maker b c None h = subst (maker.makes b []) (sym h) (maker.none b)
nothing_made maker b c (Some end) h = tt

-- A way after another.

pub lexemes_append : (xs ys : List Spanned) → lexemes_of (xs ++ ys) ≡ lexemes_of xs ++ lexemes_of ys
lexemes_append [] ys = refl
lexemes_append (x ∷ xs) ys = ap (λ l. x.lexeme ∷ l) (lexemes_append xs ys)

pub end_append : (at : ℕ) (xs ys : List Spanned) → end_after at (xs ++ ys) ≡ end_after (end_after at xs) ys
end_append at [] ys = refl
end_append at (x ∷ xs) ys = end_append x.end xs ys

pub end_last : (at : ℕ) (xs : List Spanned) (x : Spanned) → end_after at (xs ++ (x ∷ [])) ≡ x.end
end_last at [] x = refl
end_last at (y ∷ xs) x = end_last y.end xs x

module _ {N S B : Type 0} (read : List ℕ → Option N) (view : View N S) (maker : Maker N B) where
  pub runs : (xs ys : List Spanned) (s t u : State) (es fs : List (Event N)) → run read s (lexemes_of xs) ≡ Some (t, es) → run read t (lexemes_of ys) ≡ Some (u, fs) → run read s (lexemes_of (xs ++ ys)) ≡ Some (u, es ++ fs)
  runs xs ys s t u es fs h k = ap (run read s) (lexemes_append xs ys) ∙ run_append read (lexemes_of xs) (lexemes_of ys) s (t, es) h ∙ ap (after es) k

  pub goes_on_to : (m : Machine) (s : S) (b : B) (a c : Progress S B) → Goes read view maker m s b a → Goes read view maker a.machine a.source a.builder c → Goes read view maker m s b c
  goes_on_to m s b a c h k = record {
    given = (h.given ++ (h.last ∷ [])) ++ k.given;
    last = k.last;
    events = h.events ++ k.events;
    split = h.split ∙ ap (λ l. h.given ++ (h.last ∷ l)) k.split ∙ sym (append_assoc h.given (h.last ∷ []) (k.given ++ (k.last ∷ view.remaining c.source))) ∙ sym (append_assoc (h.given ++ (h.last ∷ [])) k.given (k.last ∷ view.remaining c.source));
    place = k.place;
    ran = ap (λ l. run read (state_of m) (lexemes_of l)) (append_assoc (h.given ++ (h.last ∷ [])) k.given (k.last ∷ []))
        ∙ runs (h.given ++ (h.last ∷ [])) (k.given ++ (k.last ∷ [])) (state_of m) (state_of a.machine) (state_of c.machine) h.events k.events h.ran k.ran;
    makes = maker.more b a.builder c.builder h.events k.events h.makes k.makes;
    sound = k.sound;
    keeps = λ j l. k.keeps j (h.keeps j l);
  }

  pub refuses_after : (m : Machine) (s : S) (b : B) (a c : Progress S B) → Goes read view maker m s b a → Refuses read view maker a.machine a.source a.builder c → Refuses read view maker m s b c
  refuses_after m s b a c h k = record {
    taken = (h.given ++ (h.last ∷ [])) ++ k.taken;
    events = h.events ++ k.events;
    split = h.split ∙ ap (λ l. h.given ++ (h.last ∷ l)) k.split ∙ sym (append_assoc h.given (h.last ∷ []) (k.taken ++ view.remaining c.source)) ∙ sym (append_assoc (h.given ++ (h.last ∷ [])) k.taken (view.remaining c.source));
    behind = λ end at.
        subst (view.behind c.source) (ap (λ n. end_after n k.taken) (sym (end_last end h.given h.last)) ∙ sym (end_append end (h.given ++ (h.last ∷ [])) k.taken))
        (k.behind h.last.end (view.here a.source h.last.end h.place));
    ran = runs (h.given ++ (h.last ∷ [])) k.taken (state_of m) (state_of a.machine) (state_of c.machine) h.events k.events h.ran k.ran;
    makes = maker.more b a.builder c.builder h.events k.events h.makes k.makes;
    is_open = k.is_open;
    keeps = λ j l. k.keeps j (h.keeps j l);
    stuck = λ j l. k.stuck j (h.keeps j l);
  }

-- Each way's numbers are read as what is made before it says, which is as the way before reads them.

module _ {N S B : Type 0} (view : View N S) (maker : Maker N B) where
  -- numbers are read as before
  read_so : (b c : B) (es : List (Event N)) (P : (List ℕ → Option N) → Type 0) → maker.makes b es c → P (maker.reads c) → P (maker.reads b)
  read_so b c es P makes h = subst P (maker.same b c es makes).0 h

  abbrev Goes_from : Machine → S → B → Progress S B → Type 0
  Goes_from m s b to = Goes (maker.reads b) view maker m s b to

  abbrev Refuses_from : Machine → S → B → Progress S B → Type 0
  Refuses_from m s b to = Refuses (maker.reads b) view maker m s b to

  pub goes_then : (m : Machine) (s : S) (b : B) (a c : Progress S B) → Goes_from m s b a → Goes_from a.machine a.source a.builder c → Goes_from m s b c
  goes_then m s b a c h k = goes_on_to (maker.reads b) view maker m s b a c h
      (read_so b a.builder h.events (λ read. Goes read view maker a.machine a.source a.builder c) h.makes k)

  pub refuses_then : (m : Machine) (s : S) (b : B) (a c : Progress S B) → Goes_from m s b a → Refuses_from a.machine a.source a.builder c → Refuses_from m s b c
  refuses_then m s b a c h k = refuses_after (maker.reads b) view maker m s b a c h
      (read_so b a.builder h.events (λ read. Refuses read view maker a.machine a.source a.builder c) h.makes k)

  pub from_start : (s : S) (b : B) (a c : Progress S B) → GoesFrom (maker.reads b) view maker s b a → Goes_from a.machine a.source a.builder c → GoesFrom (maker.reads b) view maker s b c
  from_start s b a c (m, is, h) k = (m, is, goes_then m s b a c h k)

  pub refused_from : (s : S) (b : B) (a c : Progress S B) → GoesFrom (maker.reads b) view maker s b a → Refuses_from a.machine a.source a.builder c → RefusesFrom (maker.reads b) view maker s b c
  refused_from s b a c (m, is, h) k = (m, is, refuses_then m s b a c h k)

  pub refused_if : (s : S) (b : B) (a : Progress S B) (r : Result (Progress S B) (Progress S B)) → GoesFrom (maker.reads b) view maker s b a → IfErr r (Refuses_from a.machine a.source a.builder) → IfErr r (RefusesFrom (maker.reads b) view maker s b)
  refused_if s b a (Ok c) h k = tt
  refused_if s b a (Err c) h k = refused_from s b a c h k

-- A way that may be none, and another after it.

module _ {N S B : Type 0} (read : List ℕ → Option N) (view : View N S) (maker : Maker N B) where
  pub leads_none : (m : Machine) (s : S) (b : B) → Leads read view maker m s b m s b
  leads_none m s b = record {
    taken = [];
    events = [];
    split = refl;
    behind = λ end k. k;
    ran = refl;
    makes = maker.none b;
    keeps = λ j k. k;
  }

  pub goes_leads : (m : Machine) (s : S) (b : B) (to : Progress S B) → Goes read view maker m s b to → Leads read view maker m s b to.machine to.source to.builder
  goes_leads m s b to h = record {
    taken = h.given ++ (h.last ∷ []);
    events = h.events;
    split = h.split ∙ sym (append_assoc h.given (h.last ∷ []) (view.remaining to.source));
    behind = λ end k. subst (view.behind to.source) (sym (end_last end h.given h.last)) (view.here to.source h.last.end h.place);
    ran = h.ran;
    makes = h.makes;
    keeps = h.keeps;
  }

module _ {N S B : Type 0} (view : View N S) (maker : Maker N B) where
  pub leads_goes : (m : Machine) (s : S) (b : B) (n : Machine) (t : S) (c : B) (to : Progress S B) → Leads (maker.reads b) view maker m s b n t c → Goes_from view maker n t c to → Goes_from view maker m s b to
  leads_goes m s b n t c to l g =
      let h = read_so view maker b c l.events (λ read. Goes read view maker n t c to) l.makes g in
      record {
        given = l.taken ++ h.given;
        last = h.last;
        events = l.events ++ h.events;
        split = l.split ∙ ap (λ ps. l.taken ++ ps) h.split ∙ sym (append_assoc l.taken h.given (h.last ∷ view.remaining to.source));
        place = h.place;
        ran = ap (λ ps. run (maker.reads b) (state_of m) (lexemes_of ps)) (append_assoc l.taken h.given (h.last ∷ []))
            ∙ runs (maker.reads b) view maker l.taken (h.given ++ (h.last ∷ [])) (state_of m) (state_of n) (state_of to.machine) l.events h.events l.ran h.ran;
        makes = maker.more b c to.builder l.events h.events l.makes h.makes;
        sound = h.sound;
        keeps = λ j k. h.keeps j (l.keeps j k);
      }

  pub leads_refuses : (m : Machine) (s : S) (b : B) (n : Machine) (t : S) (c : B) (to : Progress S B) → Leads (maker.reads b) view maker m s b n t c → Refuses_from view maker n t c to → Refuses_from view maker m s b to
  leads_refuses m s b n t c to l g =
      let h = read_so view maker b c l.events (λ read. Refuses read view maker n t c to) l.makes g in
      record {
        taken = l.taken ++ h.taken;
        events = l.events ++ h.events;
        split = l.split ∙ ap (λ ps. l.taken ++ ps) h.split ∙ sym (append_assoc l.taken h.taken (view.remaining to.source));
        behind = λ end k. subst (view.behind to.source) (sym (end_append end l.taken h.taken)) (h.behind (end_after end l.taken) (l.behind end k));
        ran = runs (maker.reads b) view maker l.taken h.taken (state_of m) (state_of n) (state_of to.machine) l.events h.events l.ran h.ran;
        makes = maker.more b c to.builder l.events h.events l.makes h.makes;
        is_open = h.is_open;
        keeps = λ j k. h.keeps j (l.keeps j k);
        stuck = λ j k. h.stuck j (l.keeps j k);
      }

-- Ways between the states of one part.

pub on_true : {P Q : Type 0} (b : Bool) → (P → Q) → OnTrue b P → OnTrue b Q
on_true true f h = f h
on_true false f h = tt

pub on_false : {P Q : Type 0} (b : Bool) → (P → Q) → OnFalse b P → OnFalse b Q
on_false true f h = tt
on_false false f h = f h

module _ {N S B : Type 0} (view : View N S) (maker : Maker N B) (m : Machine) where
  abbrev pub Way : Next → S → B → Next → S → B → Type 0
  Way p s b q t c = Goes_from view maker (standing m p) s b (reached m q t c)

  abbrev pub Stop : Next → S → B → Next → S → B → Type 0
  Stop p s b q t c = Refuses_from view maker (standing m p) s b (reached m q t c)

  pub way_on : (p q r : Next) (s t u : S) (b c d : B) → Way p s b q t c → Way q t c r u d → Way p s b r u d
  way_on p q r s t u b c d h k = goes_then view maker (standing m p) s b (reached m q t c) (reached m r u d) h k

  pub way_stops : (p q r : Next) (s t u : S) (b c d : B) → Way p s b q t c → Stop q t c r u d → Stop p s b r u d
  way_stops p q r s t u b c d h k = refuses_then view maker (standing m p) s b (reached m q t c) (reached m r u d) h k

  same : (p : Next) → m.state ≡ p → standing m p ≡ m
  same p e = ap (λ (s : Next). standing m s) (sym e)

  pub way_from : (p : Next) (s : S) (b : B) (to : Progress S B) → m.state ≡ p → Goes_from view maker (standing m p) s b to → Goes_from view maker m s b to
  way_from p s b to e h = subst (λ x. Goes_from view maker x s b to) (same p e) h

  pub stop_from : (p : Next) (s : S) (b : B) (to : Progress S B) → m.state ≡ p → Refuses_from view maker (standing m p) s b to → Refuses_from view maker m s b to
  stop_from p s b to e h = subst (λ x. Refuses_from view maker x s b to) (same p e) h
