-- How far a text was taken, the classes of bytes as the code names them, what the scanner knows at a place, and how the
-- fields of the streams of lexemes are seen. Private contracts and models cite these words.
use Rattle.std.specs.Prelude.{ℕ, ◌-◌, length, ◌≡◌, ◌≢◌, ◌+◌, ◌≤◌, ◌<◌, ◌++◌, [], List, drop, slice_range}
use Rattle.std.specs.Str.{IsCharBoundary}
use Rattle.wkt_read.specs.declared.tokenizer.cursor.Cursor.{Cursor}
use Rattle.wkt_num.specs.Bytes.{Class, White, Mark}
use Rattle.wkt_num.specs.Bytes as lex
use Rattle.wkt_read.specs.Spanned.{Spanned, marks, front, spanned_from, Standing}
use Rattle.wkt_read.specs.declared.tokenizer.scan.ByteClass as code
use Rattle.wkt_read.specs.declared.tokenizer.scan.ByteClass.TheVariants.{Run}
use Rattle.wkt_read.specs.declared.tokenizer.scan.ByteClass.TheVariants as class
use Rattle.wkt_read.specs.declared.tokenizer.tokens.Tokens.TheInside.{Inside}

-- How far a text was taken. Private contracts and the model of `Tokens` cite these words.

-- how many bytes of its text were taken
abbrev pub taken_in : Cursor → ℕ
taken_in c = c.taken

-- The classes of bytes as the code names them, and what the scanner knows at a place of a text. Private contracts and the model of `Tokens` cite these words.

-- the class that the code's word means
abbrev pub meant : code.ByteClass → Class
meant class.Nul = lex.Nul
meant class.White = White
meant class.Open = Mark lex.Open
meant class.Close = Mark lex.Close
meant class.Comma = Mark lex.Comma
meant class.Run = lex.Run

-- the lexemes at a place of a text, after a byte of this class
abbrev pub coming_at : List ℕ → Class → ℕ → List Spanned
coming_at text ahead at = marks ahead at (spanned_from at (drop at text))

-- The bytes from `from` to `at` are in the run that begins at `from`.
pub record IsRunSoFar (text : List ℕ) (from at : ℕ) : Type 0 where
  pub order : from ≤ at
  pub run : (front from (drop from text)).0 ≡ slice_range text from at ++ (front at (drop at text)).0
  pub later : (front from (drop from text)).1 ≡ (front at (drop at text)).1

-- The run that begins at `from` ends at `end`; the byte after it, of this class, was taken too.
pub record EndsRun (text : List ℕ) (from end at : ℕ) (ahead : code.ByteClass) : Type 0 where
  pub order : from ≤ end
  pub taken : end ≤ at
  pub near : at ≤ end + 1
  pub run : (front from (drop from text)).0 ≡ slice_range text from end
  pub later : (front from (drop from text)).1 ≡ coming_at text (meant ahead) at
  pub until : IsCharBoundary text end
  pub boundary : IsCharBoundary text at

-- The byte at `at` was taken, and each run that came to there goes on.
pub record RunGoesOn (text : List ℕ) (at after : ℕ) : Type 0 where
  pub inside : at < length text
  pub next : after ≡ at + 1
  pub run : (from : ℕ) → IsRunSoFar text from at → IsRunSoFar text from after

-- Each run that came to `at` ends at `end`; the byte after it, if there is one, is of this class and was taken.
pub record RunEnds (text : List ℕ) (at end after : ℕ) (ahead : code.ByteClass) : Type 0 where
  pub grows : at ≤ after
  pub on : at ≤ end
  pub run : (from : ℕ) → IsRunSoFar text from at → EndsRun text from end after ahead
  pub other : ahead ≢ class.Run

-- Of the lexemes `left`, the first begins with a byte of this class, the last that was taken.
abbrev pub FoundClass : List Spanned → List ℕ → code.ByteClass → ℕ → Type 0
FoundClass remaining text class.Nul at = (remaining ≡ []) × IsCharBoundary text at
FoundClass remaining text class.White at = (remaining ≡ coming_at text White at) × IsCharBoundary text at
FoundClass remaining text class.Open at = (remaining ≡ coming_at text (meant class.Open) at) × IsCharBoundary text at
FoundClass remaining text class.Close at = (remaining ≡ coming_at text (meant class.Close) at) × IsCharBoundary text at
FoundClass remaining text class.Comma at = (remaining ≡ coming_at text (meant class.Comma) at) × IsCharBoundary text at
FoundClass remaining text class.Run at = (from : ℕ) × (from + 1 ≡ at) × (remaining ≡ spanned_from from (drop from text)) × IsRunSoFar text from at × IsCharBoundary text from

-- How the fields of the streams of lexemes are seen. Only their models cite these words.

-- where a stream stands whose cursor took so much, and whose last byte was of this class
abbrev pub stands : {T : Type 0} → Inside T → Standing
stands s = record { remaining = coming_at s.bytes.text.now (meant s.ahead) (taken_in s.bytes); end = s.end; taken = taken_in s.bytes }

-- A character begins where the cursor is, and the byte before it, if it is kept, is no part of a run.
pub record IsBetweenRuns {T : Type 0} (s : Inside T) : Type 0 where
  pub boundary : IsCharBoundary s.bytes.text.now (taken_in s.bytes)
  pub no_run : s.ahead ≢ Run
