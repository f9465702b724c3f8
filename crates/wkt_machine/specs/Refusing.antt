-- What could stand at a place, with which message lexemes are refused there, and which of them are left.
use Rattle.std.specs.Prelude.{ℕ, zero, suc, ◌==◌, if◌then◌else◌, ◌+◌, List, [], ◌∷◌, Option, Some, Bool, true, false}
use Rattle.wkt_access.specs.declared.dimensions.Dimension.{Dimension}
use Rattle.wkt_access.specs.declared.dimensions.Dimension.TheVariants.{XY, XYZ, XYM, XYZM}
use Rattle.wkt_read.specs.declared.expected.Expected.{Expected}
use Rattle.wkt_machine.specs.Machine.{numbers_after, Place, State}
use Rattle.wkt_machine.specs.declared.part.Part.{Part}
use Rattle.wkt_machine.specs.Machine as place
use Rattle.wkt_read.specs.declared.expected.Expected.TheVariants as expected
use Rattle.wkt_machine.specs.declared.part.Part.TheVariants as part
use Rattle.wkt_num.specs.Bytes.{Lexeme, Num}
use Rattle.wkt_read.specs.declared.messages.Message.{Message}
use Rattle.wkt_read.specs.Table.{at_place, left_at, stays, closings}

-- What could stand at a place.

-- the last number of a coordinate
abbrev pub last_number : Dimension → Expected
last_number XY = expected.Y
last_number XYZ = expected.Z
last_number XYM = expected.M
last_number XYZM = expected.M

-- the number of a coordinate that has so many more after it
abbrev pub number_expected : Dimension → ℕ → Expected
number_expected d more =
    if more == 0 then last_number d
    else if more == numbers_after d then expected.X
    else if suc more == numbers_after d then expected.Y
    else expected.Z

-- where a part opens
abbrev pub opening_expected : Part → Expected
opening_expected part.Member = expected.Point
opening_expected p = expected.Opening

-- after an item of a part
abbrev pub item_expected : Part → Expected
item_expected part.Point = expected.Closing
item_expected part.Member = expected.Closing
item_expected p = expected.More

-- what could stand at a place
abbrev pub expected_at : Place → ℕ → Expected
expected_at place.Kind zero = expected.Kind
expected_at place.Kind (suc n) = expected.Member
expected_at (place.Alone p) n = expected.Dimension
expected_at (place.Opening p d) n = opening_expected p
expected_at (place.Number p d more) n = number_expected d more
expected_at (place.Item p d) n = item_expected p
expected_at place.Geometry n = expected.More

-- With which message lexemes are refused at a place, and which of them are left.

-- how many parentheses are open around a part, but those of collections
abbrev pub outer_parens : Part → ℕ
outer_parens part.Member = 1
outer_parens part.Ring = 1
outer_parens part.Line = 1
outer_parens part.Area = 1
outer_parens part.AreaRing = 2
outer_parens p = 0

-- and at a place
abbrev pub open_parens : Place → ℕ
open_parens (place.Opening p d) = outer_parens p
open_parens (place.Number p d more) = outer_parens p + 1
open_parens (place.Item p d) = outer_parens p + 1
open_parens p = 0

-- whether a number may stand at a place
abbrev pub takes_number : Place → Bool
takes_number (place.Number p d more) = true
takes_number (place.Opening part.Member d) = true
takes_number p = false

-- whether a number comes next
abbrev pub is_number : Option Lexeme → Bool
is_number (Some (Num run)) = true
is_number o = false

module _ {N : Type 0} (read : List ℕ → Option N) where
  -- whether the first of the lexemes isn't taken where it is refused, if there is one
  abbrev pub stays_first : Expected → List Lexeme → Bool
  stays_first e [] = true
  stays_first e (x ∷ r) = stays read e x

  -- the message of the place, and what is left for the places where the open parentheses close
  abbrev pub blamed : Expected → List Lexeme → Message × List Lexeme
  blamed e ls = (at_place read e ls, left_at read e ls)

  -- the message behind these places, and what is left
  abbrev pub refused : State → List Lexeme → Message × List Lexeme
  refused s ls = closings read (open_parens s.place + s.depth) (at_place read (expected_at s.place s.depth) ls) (left_at read (expected_at s.place s.depth) ls)
