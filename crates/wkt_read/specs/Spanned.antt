-- The lexemes of a text, each with its end, as a function of its bytes, and what a contract sees of a stream of them.
use Rattle.std.specs.Prelude.{◌≡◌, ℕ, suc, ◌+◌, List, [], ◌∷◌, ◌++◌, length, ◌≤◌, Option, Some, None}
use Rattle.wkt_num.specs.Bytes.{Lexeme, Class, Nul, White, Mark, Run, class_of}
use Rattle.wkt_read.specs.Lexemes.{lexeme_of, Takes}

-- The lexemes of a text, each with its end, as a function of its bytes.

-- A lexeme, and how many bytes of the text there are up to and with it.
pub record Spanned : Type 0 where
  pub lexeme : Lexeme
  pub end : ℕ

-- the lexemes without their ends
abbrev pub lexemes_of : List Spanned → List Lexeme
lexemes_of [] = []
lexemes_of (x ∷ xs) = x.lexeme ∷ lexemes_of xs

-- where the last of the lexemes ends; before the first it is `at`
abbrev pub end_after : ℕ → List Spanned → ℕ
end_after at [] = at
end_after at (x ∷ xs) = end_after x.end xs

-- Where each of the lexemes ends in the text: after each beginning of them, the rest of the text begins at the end of its last.
abbrev pub AreEnds : List ℕ → List Spanned → Type 0
AreEnds text ps =
    (given later : List Spanned) → ps ≡ given ++ later
    → (rest : List ℕ) × Takes text (lexemes_of given) rest × (length rest + end_after 0 given ≡ length text)

-- What stands after a byte of this class, with it where it is a mark: nothing comes after a NUL.
abbrev pub marks : Class → ℕ → List Spanned → List Spanned
marks Nul end later = []
marks White end later = later
marks (Mark l) end later = record { lexeme = l; end = end } ∷ later
marks Run end later = later

-- a run of which `at` bytes stand before it, and the lexemes after it
abbrev pub after_run : ℕ → List ℕ → List Spanned → List Spanned
after_run at [] later = later
after_run at (b ∷ run) later = record { lexeme = lexeme_of (b ∷ run); end = at + length (b ∷ run) } ∷ later

-- a byte of this class before a run and the lexemes after it
abbrev pub joined : Class → ℕ → ℕ → List ℕ → List Spanned → List ℕ × List Spanned
joined Run b at run later = (b ∷ run, later)
joined Nul b at run later = ([], marks Nul (suc at) (after_run (suc at) run later))
joined White b at run later = ([], marks White (suc at) (after_run (suc at) run later))
joined (Mark l) b at run later = ([], marks (Mark l) (suc at) (after_run (suc at) run later))

-- the run with which the bytes begin, where `at` bytes stand before them, and the lexemes after it
unfoldable pub front : ℕ → List ℕ → List ℕ × List Spanned
front at [] = ([], [])
front at (b ∷ bytes) = joined (class_of b) b at (front (suc at) bytes).0 (front (suc at) bytes).1

-- the lexemes of bytes before which `at` others stand
unfoldable pub spanned_from : ℕ → List ℕ → List Spanned
spanned_from at bytes = after_run at (front at bytes).0 (front at bytes).1

-- the lexemes of a text
abbrev pub spanned : List ℕ → List Spanned
spanned text = spanned_from 0 text

-- What a contract sees of a stream of lexemes.

-- Where a stream stands: the lexemes that are left, where the last one that it gave ends, and how many bytes were taken.
pub record Standing : Type 0 where
  pub remaining : List Spanned
  pub end : ℕ
  pub taken : ℕ

-- One step of a stream: the first of the lexemes, after which at most one byte was taken; or none, where none is left.
abbrev pub StepsFrom : Standing → Option Lexeme → Standing → Type 0
StepsFrom s None t = (s.remaining ≡ []) × (t.remaining ≡ []) × (t.end ≡ s.end) × (s.taken ≤ t.taken)
StepsFrom s (Some l) t =
    (s.remaining ≡ record { lexeme = l; end = t.end } ∷ t.remaining) × (t.end ≤ t.taken) × (t.taken ≤ t.end + 1) × (s.taken ≤ t.taken)
