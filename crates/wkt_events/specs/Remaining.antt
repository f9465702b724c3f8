-- The lexemes that are left in a text from a place of its bytes, a number at such a place, and the bytes of a window, as
-- bits.
use Rattle.std.specs.Prelude.{◌≡◌, ◌≢◌, ℕ, ◌≤◌, ◌<◌, List, [], ◌∷◌, ◌==◌, if◌then◌else◌, Bool, true, false, drop, length, get_or, slice_range, IsUtf8, Option, Some, None, IfSome, IfNone, IsTrue, map, nat_lt}
use Rattle.std.specs.Simd.Lanes.{chunk, mask_l}
use lib.Dec.{leb}
use Rattle.wkt_num.specs.Bytes.{Lexeme, Open, Close, Comma, Word, Num, Class, Nul, Run, AllRun, class_of}
use Rattle.wkt_read.specs.Spanned.{Spanned, lexemes_of, spanned_from}
use Rattle.wkt_read.specs.Lexemes.{starts_number, without_plus}

-- The lexemes that are left in a text from a place of its bytes. A text ends at its first NUL or with its last byte; where `feed` is true, at its first LF too, which else is white space.

-- what stands before the first line feed
abbrev pub before_feed : List ℕ → List ℕ
before_feed [] = []
before_feed (b ∷ bs) = if b == 10 then [] else b ∷ before_feed bs

-- the bytes in which a text's lexemes are
abbrev pub line_of : Bool → List ℕ → List ℕ
line_of false bytes = bytes
line_of true bytes = before_feed bytes

-- The place is in the text's line, which is UTF-8.
abbrev pub Legible : Bool → List ℕ → ℕ → Type 0
Legible feed text at = IsUtf8 (line_of feed text) × (at ≤ length (line_of feed text))

-- what a byte is in a text: a line feed that ends it is as a NUL
unfoldable pub class_in : Bool → ℕ → Class
class_in false b = class_of b
class_in true b = if b == 10 then Nul else class_of b

-- the lexemes that are left in a text from this place, each with its end in the text
unfoldable pub remaining_spanned : Bool → List ℕ → ℕ → List Spanned
remaining_spanned feed text at = spanned_from at (line_of feed (drop at text))

-- the lexemes that are left in a text from this place
unfoldable pub remaining : Bool → List ℕ → ℕ → List Lexeme
remaining feed text at = lexemes_of (remaining_spanned feed text at)

-- The run that goes on at `from`, or that is none there, ends at `end`.
pub record IsRunEnd (text : List ℕ) (from end : ℕ) : Type 0 where
  pub order : from ≤ end
  pub inside : end ≤ length text
  pub run : AllRun (slice_range text from end)
  pub stops : class_of (get_or text end 0) ≢ Run

-- This lexeme comes next, and ends at `to`.
pub record TakesOne (feed : Bool) (text : List ℕ) (at : ℕ) (lexeme : Lexeme) (to : ℕ) : Type 0 where
  pub grows : at < to
  pub inside : to ≤ length text
  pub next : remaining_spanned feed text at ≡ record { lexeme = lexeme; end = to } ∷ remaining_spanned feed text to

-- a parenthesis or a comma
abbrev pub IsMark : Lexeme → Type 0
IsMark Open = Unit {0}
IsMark Close = Unit {0}
IsMark Comma = Unit {0}
IsMark (Word run) = ⊥
IsMark (Num run) = ⊥

-- A number at a place of a text.

-- The run from `at` to `end` is a number's, which is read as x.
pub record IsNumberAt {T : Type 0} (read : List ℕ → Option T) (text : List ℕ) (at end : ℕ) (x : T) : Type 0 where
  pub order : at < end
  pub ends : IsRunEnd text at end
  pub begins : IsTrue (starts_number (get_or text at 0))
  pub reads : read (without_plus (slice_range text at end)) ≡ Some x

-- A number ends at `end`.
abbrev pub EndsNumber : {T : Type 0} → (List ℕ → Option T) → List ℕ → ℕ → ℕ → Type 0
EndsNumber {T} read text at end = (x : T) × IsNumberAt read text at end x

-- A run ends at `end`, or none begins at `at`, and it is no number that is read, if the run is UTF-8.
pub record NoNumber {T : Type 0} (read : List ℕ → Option T) (text : List ℕ) (at : ℕ) : Type 0 where
  pub end : ℕ
  pub ends : IsRunEnd text at end
  pub none : at < end → IsTrue (starts_number (get_or text at 0)) → IsUtf8 (without_plus (slice_range text at end)) → read (without_plus (slice_range text at end)) ≡ None

-- The number at this place and its end, or none.
pub record ReadsNumber {T : Type 0} (read : List ℕ → Option T) (text : List ℕ) (at : ℕ) (answer : Option (T × ℕ)) : Type 0 where
  pub some : IfSome answer (λ p. IsNumberAt read text at p.1 p.0)
  pub none : IfNone answer (NoNumber read text at)

-- The end of the number at this place, or none.
pub record FindsNumber {T : Type 0} (read : List ℕ → Option T) (text : List ℕ) (at : ℕ) (answer : Option ℕ) : Type 0 where
  pub some : IfSome answer (EndsNumber read text at)
  pub none : IfNone answer (NoNumber read text at)

-- The plus before a number.

-- How many of a number's bytes stand before its text: the one plus, or none.
abbrev pub plus_len : ℕ → ℕ
plus_len b = if b == 43 then 1 else 0

-- The low and the high bytes of a window, as bits. Only private contracts cite them.

-- of the 32 bytes from a place on those that are no more than a comma, as bits
unfoldable pub low_mask : List ℕ → ℕ → ℕ
low_mask text from = mask_l (map (λ b. leb b 44) (chunk from 32 text))

-- of these bytes those that aren't ASCII, as bits
unfoldable pub high_mask : List ℕ → ℕ → ℕ
high_mask text from = mask_l (map (λ b. nat_lt 127 b) (chunk from 32 text))
