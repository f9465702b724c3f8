-- What lacks where a room of the caller's is too small.
use Rattle.std.specs.Prelude.{◌<◌, ◌+◌, ◌-◌, ◌*◌, ◌/◌, ◌⊎◌, ℕ, ℤ, List, Option, Bool, true, length, take, drop}
use Rattle.wkt_lines.specs.Output.{IsOutput}
use Rattle.wkt_calls.specs.Arrays.{HasNoPlaceFor}
use Rattle.wkt_calls.specs.Calls.{IsFirstLine}

-- The arrays of the text's front don't fit into so many places for numbers and for words. Of the words the rings get a quarter of the text's length and two more, and the polygons the rest.
abbrev pub LackRooms : ℕ → List ℕ → ℕ → ℕ → Type 0
LackRooms places text numbers words =
    (words < length text / 4 + 2) ⊎ HasNoPlaceFor places text numbers (length text / 4 + 2) (words - (length text / 4 + 2))

-- How many bytes a text builder needs for the text of arrays: a number's text has no more than its places and 21, and a number takes two more, a ring and a polygon seven each, and the text builder 74.
abbrev pub text_room : ℕ → List ℤ → List ℕ → List ℕ → ℕ
text_room places numbers rings polygons = length numbers * (places + 23) + 7 * length rings + 7 * length polygons + 74

module _ {N : Type 0} (read : List ℕ → Option N) (num : N → List ℕ) where
  -- The answers to some lines at the front, and what the next answer takes at most, don't fit into so many bytes.
  pub record LackRoom (input : List ℕ) (room : ℕ) : Type 0 where
    pub taken : ℕ
    pub answers : List ℕ
    pub are : IsOutput read num (take taken input) answers
    pub next : ℕ
    pub line : IsFirstLine true (drop taken input) next
    pub small : room < length answers + (2 * next + 65)

  -- They don't for a line somewhere in the input.
  pub record LacksLineRoom (last : Bool) (input : List ℕ) (room : ℕ) : Type 0 where
    pub before : ℕ
    pub size : ℕ
    pub line : IsFirstLine last (drop before input) size
    pub lack : LackRoom (take size (drop before input)) room
