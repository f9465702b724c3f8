-- How a machine goes over what a source gives, over lexemes or over none, and where it stops in a text that has no geometry
-- at its front.
use Rattle.std.specs.Prelude.{◌≡◌, ℕ, List, [], ◌∷◌, ◌++◌, Option, Some, None, false, ◌≤◌, length}
use Rattle.wkt_read.specs.Spanned.{Spanned, lexemes_of, end_after, spanned}
use Rattle.wkt_machine.specs.Machine.{start, is_over, run, move}
use Rattle.wkt_machine.specs.Events.{Event}
use Rattle.wkt_machine.specs.Machines.{state_of, IsSound}
use Rattle.wkt_machine.specs.Makers.{Maker}
use Rattle.wkt_machine.specs.View.{View, IsBetween}
use Rattle.wkt_machine.specs.declared.machine.Machine.{Machine}
use Rattle.wkt_machine.specs.declared.part.Axis.{Axis}
use Rattle.wkt_machine.specs.declared.source.Progress.{Progress}
use Rattle.wkt_num.specs.Bytes as lex
use Rattle.wkt_machine.specs.declared.part.Axis.TheVariants as axis
use Rattle.wkt_machine.specs.declared.part.Part.TheVariants as part
use Rattle.wkt_machine.specs.declared.machine.State.{State as Next}
use Rattle.wkt_events.specs.Remaining.{remaining_spanned}

-- How a machine goes over what a source gives.

-- The source is where it was, but for what was looked at.
pub record Stays {N S : Type 0} (view : View N S) (s t : S) : Type 0 where
  pub remaining : view.remaining t ≡ view.remaining s
  pub behind : (end : ℕ) → view.behind s end → view.behind t end
  pub keeps : (k : view.Known) → view.keeps s k → view.keeps t k

-- A lexeme is taken.
pub record Skips {N S : Type 0} (view : View N S) (s t : S) : Type 0 where
  pub lexeme : Spanned
  pub remaining : view.remaining s ≡ lexeme ∷ view.remaining t
  pub place : view.place t lexeme.end
  pub keeps : (k : view.Known) → view.keeps s k → view.keeps t k

-- A machine doesn't move with the lexeme that comes next, or none does.
abbrev pub IsStuck : {N : Type 0} → (List ℕ → Option N) → Machine → List Spanned → Type 0
IsStuck read m [] = Unit {0}
IsStuck read m (p ∷ ps) = move read (state_of m) p.lexeme ≡ None

-- The lexeme that comes next is no number that is read.
abbrev pub IsUnread : {N : Type 0} → (List ℕ → Option N) → List Spanned → Type 0
IsUnread read ps = (run : List ℕ) (end : ℕ) (more : List Spanned) → ps ≡ record { lexeme = lex.Num run; end = end } ∷ more → read run ≡ None

module _ {N S B : Type 0} (read : List ℕ → Option N) (view : View N S) (maker : Maker N B) where
  -- A number is taken, and made.
  pub record MakesOneNumber (s : S) (b : B) (axis : Axis) (t : S) (c : B) : Type 0 where
    pub run : List ℕ
    pub number : N
    pub end : ℕ
    pub remaining : view.remaining s ≡ record { lexeme = lex.Num run; end = end } ∷ view.remaining t
    pub place : view.place t end
    pub keeps : (k : view.Known) → view.keeps s k → view.keeps t k
    pub reads : read run ≡ Some number
    pub makes : maker.makes b (Event.Number axis number ∷ []) c

  -- The first number of a point without parentheses is taken, and made in a parenthesis that is opened.
  pub record MakesBare (s : S) (b : B) (t : S) (c : B) : Type 0 where
    pub opened : B
    pub opens : maker.makes b (Event.Open part.Member ∷ []) opened
    pub number : MakesOneNumber s opened axis.X t c

  -- Some lexemes are taken, the machine goes over them, and what they say is made.
  pub record Goes (m : Machine) (s : S) (b : B) (to : Progress S B) : Type 0 where
    pub given : List Spanned
    pub last : Spanned
    pub events : List (Event N)
    pub split : view.remaining s ≡ given ++ (last ∷ view.remaining to.source)
    pub place : view.place to.source last.end
    pub ran : run read (state_of m) (lexemes_of (given ++ (last ∷ []))) ≡ Some (state_of to.machine, events)
    pub makes : maker.makes b events to.builder
    pub sound : IsSound to.machine
    pub keeps : (k : view.Known) → view.keeps s k → view.keeps to.source k

  -- The machine goes over some lexemes, or none, up to one with which it doesn't move, or that lacks. What they say is made, and no more.
  pub record Refuses (m : Machine) (s : S) (b : B) (to : Progress S B) : Type 0 where
    pub taken : List Spanned
    pub events : List (Event N)
    pub split : view.remaining s ≡ taken ++ view.remaining to.source
    pub behind : (end : ℕ) → view.behind s end → view.behind to.source (end_after end taken)
    pub ran : run read (state_of m) (lexemes_of taken) ≡ Some (state_of to.machine, events)
    pub makes : maker.makes b events to.builder
    pub is_open : is_over (state_of to.machine) ≡ false
    pub keeps : (k : view.Known) → view.keeps s k → view.keeps to.source k
    pub stuck : (k : view.Known) → view.keeps s k → IsStuck read to.machine (view.remaining to.source)

  -- How the machine goes over what a source gives from where a text begins.
  abbrev pub GoesFrom : S → B → Progress S B → Type 0
  GoesFrom s b to = (m : Machine) × (state_of m ≡ start) × Goes m s b to

  abbrev pub RefusesFrom : S → B → Progress S B → Type 0
  RefusesFrom s b to = (m : Machine) × (state_of m ≡ start) × Refuses m s b to

-- How a machine goes over lexemes of a source, or over none. Only private contracts and proofs cite these words.

-- The machine in another state of the same part.
abbrev pub standing : Machine → Next → Machine
standing m s = record { state = s; part = m.part; dim = m.dim; depth = m.depth }

-- A source and what was made, with such a machine.
abbrev pub reached : {S B : Type 0} → Machine → Next → S → B → Progress S B
reached m s source builder = record { source = source; machine = standing m s; builder = builder }

pub record Leads {N S B : Type 0} (read : List ℕ → Option N) (view : View N S) (maker : Maker N B) (m : Machine) (s : S) (b : B) (n : Machine) (t : S) (c : B) : Type 0 where
  pub taken : List Spanned
  pub events : List (Event N)
  pub split : view.remaining s ≡ taken ++ view.remaining t
  pub behind : (end : ℕ) → view.behind s end → view.behind t (end_after end taken)
  pub ran : run read (state_of m) (lexemes_of taken) ≡ Some (state_of n, events)
  pub makes : maker.makes b events c
  pub keeps : (k : view.Known) → view.keeps s k → view.keeps t k

-- Where the machine stops in a text that has no geometry at its front.

-- The machine goes over the text's first lexemes, and isn't over. Behind the last of them stands white space alone up to `to`; with the lexeme that comes next it doesn't move, or none does.
pub record StopsAt {N : Type 0} (read : List ℕ → Option N) (text : List ℕ) (m : Machine) (to : ℕ) : Type 0 where
  pub taken : List Spanned
  pub events : List (Event N)
  pub split : spanned text ≡ taken ++ remaining_spanned false text to
  pub between : IsBetween false text (end_after 0 taken) to
  pub inside : to ≤ length text
  pub ran : run read start (lexemes_of taken) ≡ Some (state_of m, events)
  pub is_open : is_over (state_of m) ≡ false
  pub stuck : IsStuck read m (remaining_spanned false text to)
