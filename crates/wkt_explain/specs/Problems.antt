-- White space, whether a text is accepted, what follows its geometry, and what is reported of a text in which the machine
-- stops.
use Rattle.std.specs.Prelude.{◌≡◌, ℕ, ◌≤◌, List, ◌++◌, length, drop, ◌<◌, ◌⊎◌, Option, Bool, true, [], ◌∷◌, false}
use Rattle.wkt_num.specs.Bytes.{White, AllWhite}
use Rattle.wkt_read.specs.Lexemes.{StartsOther}
use Rattle.wkt_read.specs.Front.{HasNoFront}
use Rattle.wkt_read.specs.Refusal.{IsRefusedWith}
use Rattle.wkt_read.specs.Explained.{EndsFront, IsRefusedAt, IsPart}
use Rattle.wkt_read.specs.Table.{IsReportedAt}
use Rattle.wkt_explain.specs.declared.explanation.Refusal.{Refusal}
use Rattle.wkt_explain.specs.declared.whole.Problem.{Problem}
use Rattle.wkt_explain.specs.declared.whole.Problem.TheVariants.{Refused, Rest}
use Rattle.wkt_read.specs.Spanned.{Spanned}
use Rattle.wkt_events.specs.Remaining.{remaining, remaining_spanned}
use Rattle.wkt_machine.specs.View.{IsBetween, IsDark}
use Rattle.wkt_machine.specs.Refusing.{expected_at, refused}
use Rattle.wkt_machine.specs.Machines.{state_of}
use Rattle.wkt_machine.specs.Goes.{StopsAt}
use Rattle.wkt_machine.specs.declared.machine.Machine.{Machine}

-- White space, whether a text is accepted, and what follows its geometry.

-- White space between lexemes, and behind them.

-- From one place to another the text has white space alone, and at the second none.
pub record IsPastWhite (text : List ℕ) (from to : ℕ) : Type 0 where
  pub gap : List ℕ
  pub within : to ≤ length text
  pub split : drop from text ≡ gap ++ drop to text
  pub white : AllWhite gap
  pub stops : StartsOther White (drop to text)

-- Whether a text is accepted, and what follows its geometry.

module _ {N : Type 0} (read : List ℕ → Option N) where
  -- The text begins with a geometry, which ends there; where whole texts are asked for, white space alone follows it.
  pub record IsAccepted (whole : Bool) (text : List ℕ) (end : ℕ) : Type 0 where
    pub front : EndsFront read text end
    pub blank : whole ≡ true → AllWhite (drop end text)

  -- The text begins with a geometry, behind which more than white space follows, from this byte on.
  pub record HasRestFrom (text : List ℕ) (at : ℕ) : Type 0 where
    pub end : ℕ
    pub front : EndsFront read text end
    pub past : IsPastWhite text end at
    pub more : at < length text

  -- The text begins with no geometry: where it is refused, what could come next, and with which message.
  pub record IsRefusalOf (text : List ℕ) (r : Refusal) : Type 0 where
    pub none : HasNoFront read text
    pub place : IsRefusedAt read text r.start r.end r.expected
    pub part : IsPart text r.start r.end
    pub message : IsRefusedWith read text r.message
    pub table : IsReportedAt read text r.start r.end r.expected r.message

  -- Why a text isn't accepted.
  abbrev pub IsProblem : Bool → List ℕ → Problem → Type 0
  IsProblem whole text (Refused r) = IsRefusalOf text r
  IsProblem whole text (Rest at) = (whole ≡ true) × HasRestFrom text at

-- The bytes are the text, or the text, a NUL and more.
abbrev pub IsPaddedFor : List ℕ → List ℕ → Type 0
IsPaddedFor text walked = (walked ≡ text) ⊎ ((more : List ℕ) × (walked ≡ text ++ (0 ∷ more)))

-- What is reported of a text in which the machine stops. Only private contracts cite these words.

-- The first of the lexemes ends there; or there is none, and nothing has an end.
abbrev pub EndsFirst : List Spanned → ℕ → ℕ → Type 0
EndsFirst [] start end = end ≡ start
EndsFirst (p ∷ ps) start end = end ≡ p.end

-- The lexeme that stands at `start` ends there.
abbrev pub EndsLexeme : List ℕ → ℕ → ℕ → Type 0
EndsLexeme text start end = EndsFirst (remaining_spanned false text start) start end

-- The refusal tells of the lexeme that comes next, and of the machine's place.
pub record IsTold {N : Type 0} (read : List ℕ → Option N) (text : List ℕ) (m : Machine) (at : ℕ) (r : Refusal) : Type 0 where
  pub between : IsBetween false text at r.start
  pub inside : r.start ≤ length text
  pub dark : IsDark false text r.start
  pub ends : EndsLexeme text r.start r.end
  pub expected : r.expected ≡ expected_at (state_of m).place m.depth
  pub message : r.message ≡ (refused read (state_of m) (remaining false text at)).0

-- The machine stops where it begins, and the refusal tells of that.
abbrev pub IsToldFirst : {N : Type 0} → (List ℕ → Option N) → List ℕ → Refusal → Type 0
IsToldFirst read text r = (m : Machine) × StopsAt read text m 0 × IsTold read text m 0 r
