-- What a text is read as in the dialects, and where its lexemes stand in the text as it was given.
use Rattle.std.specs.Prelude.{◌≡◌, ◌⊎◌, ◌≤◌, ℕ, suc, ℤ, List, [], ◌∷◌, ◌++◌, length, drop, Option, ◌==◌, if◌then◌else◌, nat_le, false}
use Rattle.wkt_num.specs.Bytes.{Lexeme}
use Rattle.wkt_num.specs.Bytes as lex
use Rattle.wkt_num.specs.Decimal.{read_decimal}
use Rattle.wkt_read.specs.Explained.{HasFront}
use Rattle.wkt_read.specs.Front.{HasNoFront}
use Rattle.wkt_read.specs.Lexemes.{IsEnd}
use Rattle.wkt_read.specs.Spanned.{Spanned, lexemes_of, end_after, spanned}
use Rattle.wkt_machine.specs.View.{IsBetween, IsDark}
use Rattle.wkt_dialects.specs.declared.dialects.Dialects.{Dialects}
use Rattle.wkt_dialects.specs.declared.spot.Spot.TheVariants as spot
use Rattle.wkt_dialects.specs.Exponents.{read_exponents}
use Rattle.wkt_dialects.specs.Dialects.{IsRest, read_as}

-- What a number is read as, by decimals of so many places: without a dialect, and in these.
abbrev pub read_plain : ℕ → List ℕ → Option ℤ
read_plain places = read_decimal 127 36 places

abbrev pub read_in : Dialects → ℕ → List ℕ → Option ℤ
read_in d places run = if d.exponents then read_exponents 127 36 places run else read_plain places run

-- The lexemes of a text without its SRID, as they are read, each with its end.
abbrev pub lexemes_as : Dialects → List ℕ → List Spanned
lexemes_as d rest = read_as d 0 spot.Elsewhere (spanned rest)

-- A lexeme is read as another: as itself, and a number as one that is read without dialects as it is in them.
abbrev pub IsAs : Dialects → Lexeme → Lexeme → Type 0
IsAs d (lex.Num run) (lex.Num other) = (places : ℕ) → read_plain places other ≡ read_in d places run
IsAs d l m = l ≡ m

abbrev pub AreAs : Dialects → List Lexeme → List Lexeme → Type 0
AreAs d [] [] = Unit {0}
AreAs d (l ∷ ls) (m ∷ ms) = IsAs d l m × AreAs d ls ms
AreAs d ls ms = ⊥

-- The first NUL and what stands behind it.
abbrev pub from_nul : List ℕ → List ℕ
from_nul [] = []
from_nul (b ∷ bs) = if b == 0 then b ∷ bs else from_nul bs

-- The other text has the lexemes that this one has in the dialects, and the same stands behind a NUL.
pub record IsRestAs (d : Dialects) (rest other : List ℕ) : Type 0 where
  pub lexemes : AreAs d (lexemes_of (lexemes_as d rest)) (lexemes_of (spanned other))
  pub nul : from_nul other ≡ from_nul rest

-- A text, without its SRID, is read as it stands where it begins with a geometry, and else as a text of those lexemes.
pub record IsReadAs (d : Dialects) (places : ℕ) (text other : List ℕ) : Type 0 where
  pub rest : List ℕ
  pub split_off : IsRest d text rest
  pub is : (HasFront (read_plain places) rest × (other ≡ rest)) ⊎ (HasNoFront (read_plain places) rest × IsRestAs d rest other)

-- How many lexemes end at this byte or before it, as far as one that doesn't.
abbrev pub ended_before : ℕ → List Spanned → ℕ
ended_before upto [] = 0
ended_before upto (p ∷ ps) = if nat_le p.end upto then suc (ended_before upto ps) else 0

-- Of a text without its SRID so many lexemes end at byte `behind`; the bytes of the next one are those from `start` to `end`, or none follows, and both are where the text ends.
pub record IsPlace (d : Dialects) (rest : List ℕ) (count behind start end : ℕ) : Type 0 where
  pub before : List Spanned
  pub later : List Spanned
  pub many : length before ≡ count
  pub reads : lexemes_as d rest ≡ before ++ later
  pub ends : end_after 0 before ≡ behind
  pub inside : (start ≤ length rest) × (end ≤ length rest)
  pub between : IsBetween false rest behind start
  pub dark : IsDark false rest start
  pub next : ((later ≡ []) × (end ≡ start) × IsEnd (drop start rest)) ⊎ ((p : Spanned) × (ps : List Spanned) × (later ≡ p ∷ ps) × (p.end ≡ end))
