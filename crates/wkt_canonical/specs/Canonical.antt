-- The canonical text of what a text begins with, and numbers whose text is much longer than what they are read from.
use Rattle.std.specs.Prelude.{◌≡◌, ◌≢◌, ℕ, ◌*◌, ◌≤◌, List, [], length, Option, Some, ◌++◌, take, ◌+◌, ◌<◌, ◌⊎◌, None, Result, Ok, Err, Bool, IsUtf8}
use Rattle.wkt_read.specs.Lexemes.{without_plus}
use Rattle.wkt_access.specs.Values.{Value}
use Rattle.wkt_access.specs.Shapes.{shape_of}
use Rattle.wkt_access.specs.Texts.{shape_text}
use Rattle.wkt_read.specs.Front.{Front, HasNoFront}
use Rattle.wkt_events.specs.Remaining.{line_of}
use Rattle.wkt_canonical.specs.declared.canonical.NoRoom.{NoRoom}
use Rattle.wkt_canonical.specs.declared.canonical.TextWritten.{TextWritten}
pub use Rattle.wkt_read.specs.Explained.{EndsFront}

-- Numbers whose text is much longer than what they are read from.

-- Some number's text is at least twice as long as a run that is read as the number.
pub record HasLongText {N : Type 0} (read : List ℕ → Option N) (num : N → List ℕ) : Type 0 where
  pub run : List ℕ
  pub number : N
  pub some : run ≢ []
  pub reads : read (without_plus run) ≡ Some number
  pub long : 2 * length run ≤ length (num number)

-- The canonical text of what a text begins with.

module _ {N : Type 0} (read : List ℕ → Option N) (num : N → List ℕ) where
  -- The text has a front that ends at `end`, and the other text is the canonical one of the front's value.
  pub record IsCanonicalTo (text canonical : List ℕ) (end : ℕ) : Type 0 where
    pub value : Value N
    pub front : Front read text value end
    pub is : canonical ≡ shape_text num (shape_of value)

  -- The text has a front, and the other text is the canonical one of the front's value.
  abbrev pub IsCanonical : List ℕ → List ℕ → Type 0
  IsCanonical text canonical = (end : ℕ) × IsCanonicalTo text canonical end

  -- The text has a front that ends at `end`, and up to `n` stands what stood up to `len` and then the canonical text of its value, which is UTF-8.
  pub record HasWritten (text : List ℕ) (len : ℕ) (old new : List ℕ) (end n : ℕ) : Type 0 where
    pub value : Value N
    pub front : Front read text value end
    pub written : take n new ≡ take len old ++ shape_text num (shape_of value)
    pub utf8 : IsUtf8 (shape_text num (shape_of value))

  -- That, or the text has no front; or a number's text was too long.
  abbrev pub WritesCanonical : List ℕ → ℕ → List ℕ → List ℕ → Result (Option (ℕ × ℕ)) NoRoom → Type 0
  WritesCanonical text len old new (Ok (Some p)) = HasWritten text len old new p.0 p.1
  WritesCanonical text len old new (Ok None) = HasNoFront read text
  WritesCanonical text len old new (Err e) = HasLongText read num

  -- The canonical text stands at the front of a buffer; or the text has no front; or the buffer was too short, or a number's text too long.
  abbrev pub WritesInto : List ℕ → List ℕ → List ℕ → Result (Option TextWritten) NoRoom → Type 0
  WritesInto text old new (Ok (Some w)) = IsCanonicalTo text (take w.len new) w.end × (w.len ≤ length new) × IsUtf8 (take w.len new)
  WritesInto text old new (Ok None) = HasNoFront read text
  WritesInto text old new (Err e) = (length old < 2 * length text + 65) ⊎ HasLongText read num

  -- As `WritesCanonical`, of the first line of bytes, if they end at a line feed: it has no front where it is UTF-8.
  abbrev pub WritesFront : Bool → List ℕ → ℕ → List ℕ → List ℕ → Result (Option (ℕ × ℕ)) NoRoom → Type 0
  WritesFront feed text len old new (Ok (Some p)) = HasWritten (line_of feed text) len old new p.0 p.1
  WritesFront feed text len old new (Ok None) = IsUtf8 (line_of feed text) → HasNoFront read (line_of feed text)
  WritesFront feed text len old new (Err e) = HasLongText read num

-- What was written ends so far before the end of the room.
abbrev pub LeavesRoom : List ℕ → Result (Option (ℕ × ℕ)) NoRoom → Type 0
LeavesRoom out (Ok (Some p)) = p.1 + 64 ≤ length out
LeavesRoom out (Ok None) = Unit {0}
LeavesRoom out (Err e) = Unit {0}
