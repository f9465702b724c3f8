-- What is known of a source of lexemes, lexemes as far as the machine looks at them, and places in bytes.
use Rattle.std.proofs.Common.{arith}
use Rattle.std.specs.Prelude.{ℕ, List, [], ◌∷◌, Option, Some, None, if◌then◌else◌, ◌≡◌, ◌≢◌, ◌≤◌, ◌<◌, get_or, Bool, refl}
use Rattle.std.proofs.Math.Nat.{le_refl}
use Rattle.wkt_num.specs.Bytes.{Lexeme, Mark, White}
use Rattle.wkt_num.specs.Bytes as lex
use Rattle.wkt_access.specs.declared.dimensions.Dimension.{Dimension}
use Rattle.wkt_read.specs.Grammar.{KindWord, kind_word, dim_word, is_empty_word}
use Rattle.wkt_read.specs.Spanned.{Spanned}
use Rattle.wkt_machine.specs.declared.machine.LexemeKind.{LexemeKind}
use Rattle.wkt_machine.specs.declared.machine.LexemeKind.TheVariants as seen
use Rattle.wkt_events.specs.Remaining.{class_in, remaining_spanned}

-- What is known of a source of lexemes, and lexemes as far as the machine looks at them.

-- Lexemes as far as the machine looks at them.

-- a word that is no kind word
abbrev pub seen_other : Option Dimension → List ℕ → LexemeKind
seen_other (Some d) w = seen.Dimension d
seen_other None w = if is_empty_word w then seen.Empty else seen.Other

-- a word
abbrev pub seen_word : Option KindWord → List ℕ → LexemeKind
seen_word (Some e) w = seen.Kind e.kind e.joined
seen_word None w = seen_other (dim_word w) w

-- a lexeme
abbrev pub seen_of : Lexeme → LexemeKind
seen_of lex.Open = seen.Open
seen_of lex.Close = seen.Close
seen_of lex.Comma = seen.Comma
seen_of (lex.Word w) = seen_word (kind_word w) w
seen_of (lex.Num run) = seen.Number

-- the lexeme that comes next, or that none does
abbrev pub sight : List Spanned → LexemeKind
sight [] = seen.Other
sight (p ∷ ps) = seen_of p.lexeme

-- What is known of a source of lexemes.

pub record View (N S : Type 0) : Type 1 where
  -- The lexemes that are left, each with its end.
  pub remaining : S → List Spanned
  -- The source stands right behind a lexeme that ends there, and nothing was looked at since.
  pub place : S → ℕ → Type 0
  -- The lexeme before ends there, or none was taken, and the text begins there.
  pub behind : S → ℕ → Type 0
  -- Then that lexeme is the one before.
  pub here : (s : S) (end : ℕ) → place s end → behind s end
  -- What stays so as lexemes are taken, for anything of this type: that so many bytes were passed, or that this is the text, and a number that is left is one too.
  pub Known : Type 0
  pub keeps : S → Known → Type 0
  -- Numbers are given by value, and not as bytes.
  pub by_value : Type 0
  -- What a number run is read as then.
  pub number : List ℕ → Option N
  -- The lexeme that comes next was looked at.
  pub looked : S → Type 0

-- Places in bytes.

-- No white space comes next.
abbrev pub IsDark : Bool → List ℕ → ℕ → Type 0
IsDark feed text at = class_in feed (get_or text at 0) ≢ White

-- Nor does a mark.
abbrev pub IsUnmarked : Bool → List ℕ → ℕ → Type 0
IsUnmarked feed text at = (l : Lexeme) → class_in feed (get_or text at 0) ≢ Mark l

-- White space alone stands between two places.
pub record IsBetween (feed : Bool) (text : List ℕ) (from to : ℕ) : Type 0 where
  pub order : from ≤ to
  pub same : remaining_spanned feed text from ≡ remaining_spanned feed text to
  pub white : (k : ℕ) → from ≤ k → k < to → class_in feed (get_or text k 0) ≡ White

-- Nothing stands between a place and itself.
pub between_none : (feed : Bool) (text : List ℕ) (at : ℕ) → IsBetween feed text at at
between_none feed text at = record { order = le_refl at; same = refl; white = λ k low high. absurd (omega (arith, low, high)) }
