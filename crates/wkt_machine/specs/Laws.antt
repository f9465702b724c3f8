-- What the machine does with the lexemes of a geometry.
use Rattle.std.specs.Prelude.{◌≡◌, ℕ, List, [], ◌∷◌, ◌++◌, Option, Some, None, true, false}
use Rattle.wkt_num.specs.Bytes.{Lexeme}
use Rattle.wkt_access.specs.Values.{Value}
use Rattle.wkt_read.specs.Grammar.{StandFor}
use Rattle.wkt_read.specs.Begun.{BegunGeometry, NoneBegins, IsJustDead}
use Rattle.wkt_read.specs.Explained.{IsExpectedAfter}
use Rattle.wkt_machine.specs.Machine as place
use Rattle.wkt_machine.specs.Machine.{State, start, is_over, at, after, move, run}
use Rattle.wkt_machine.specs.Events.{Event, events}
use Rattle.wkt_machine.specs.Refusing.{expected_at}

module _ {N : Type 0} (read : List ℕ → Option N) where
  -- The lexemes that stand for a value lead from the place of a geometry to behind it, whatever follows, and make its events.
  abbrev pub Completes : Type 0
  Completes =
      (v : Value N) (ls rest : List Lexeme) (n : ℕ)
      → StandFor read ls v → run read (at n place.Kind) (ls ++ rest) ≡ after (events v) (run read (at n place.Geometry) rest)

  -- Lexemes over which the machine goes until it is over stand for a value, and make its events.
  abbrev pub MachineIsExact : Type 0
  MachineIsExact =
      (ls : List Lexeme) (s : State) (es : List (Event N))
      → run read start ls ≡ Some (s, es) → is_over s ≡ true → (v : Value N) × StandFor read ls v × (es ≡ events v)

  -- Lexemes over which the machine goes, and isn't over, are a beginning of a geometry, and none is at their front.
  abbrev pub MachineGoesOn : Type 0
  MachineGoesOn =
      (ls : List Lexeme) (s : State) (es : List (Event N))
      → run read start ls ≡ Some (s, es) → is_over s ≡ false → BegunGeometry read ls × NoneBegins read ls

  -- The lexeme with which the machine doesn't move is the first with which the lexemes are dead.
  abbrev pub Refuses : Type 0
  Refuses =
      (before : List Lexeme) (fault : Lexeme) (s : State) (es : List (Event N))
      → run read start before ≡ Some (s, es) → is_over s ≡ false → move read s fault ≡ None → IsJustDead read (before ++ (fault ∷ []))

  -- What is expected at the machine's place is exactly each lexeme with which the lexemes before it aren't dead.
  abbrev pub Expects : Type 0
  Expects =
      (before : List Lexeme) (s : State) (es : List (Event N))
      → run read start before ≡ Some (s, es) → is_over s ≡ false → IsExpectedAfter read before (expected_at s.place s.depth)
