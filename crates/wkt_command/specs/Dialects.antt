-- What becomes of a text in dialects, by places of the text as it was given.
use Rattle.std.specs.Prelude.{◌≡◌, ◌⊎◌, ◌≤◌, ◌+◌, ℕ, List, Bool, Option, Some, None, length, drop, min}
use Rattle.wkt_num.specs.Decimal.{decimal_text, read_decimal}
use Rattle.wkt_read.specs.Spanned.{spanned}
use Rattle.wkt_dialects.specs.Dialects.{IsRest}
use Rattle.wkt_dialects.specs.Reading.{IsReadAs, IsRestAs, IsPlace, ended_before}
use Rattle.wkt_dialects.specs.declared.dialects.Dialects.{Dialects}
use Rattle.wkt_command.specs.Verdict.{IsVerdict}
use Rattle.wkt_command.specs.declared.verdict.Verdict.{Verdict}
use Rattle.wkt_command.specs.declared.verdict.Verdict.TheVariants.{Read, Refused, Rest}

-- The text that a text is read as: without dialects itself.
abbrev pub IsTextIn : Option Dialects → ℕ → List ℕ → List ℕ → Type 0
IsTextIn None places text other = other ≡ text
IsTextIn (Some d) places text other = IsReadAs d (min places 36) text other

-- The text is read as it stands from a byte on, and so are its places.
pub record IsPlacedAsItStands (text other : List ℕ) (at stop start end : ℕ) : Type 0 where
  pub from : ℕ
  pub inside : from ≤ length text
  pub same : other ≡ drop from text
  pub start_is : start ≡ from + at
  pub end_is : end ≡ from + stop

-- What stands from a byte on is read as another text, and the place is where its next lexeme stands.
pub record IsPlacedIn (d : Dialects) (text other : List ℕ) (at start end : ℕ) : Type 0 where
  pub from : ℕ
  pub inside : from ≤ length text
  pub split_off : IsRest d text (drop from text)
  pub read : IsRestAs d (drop from text) other
  pub behind : ℕ
  pub next : ℕ
  pub over : ℕ
  pub place : IsPlace d (drop from text) (ended_before at (spanned other)) behind next over
  pub start_is : start ≡ from + next
  pub end_is : end ≡ from + over

-- A place of the text that is read, in the text as it was given.
abbrev pub IsPlaced : Option Dialects → List ℕ → List ℕ → ℕ → ℕ → ℕ → ℕ → Type 0
IsPlaced None text other at stop start end = IsPlacedAsItStands text other at stop start end
IsPlaced (Some d) text other at stop start end = IsPlacedAsItStands text other at stop start end ⊎ IsPlacedIn d text other at start end

-- The verdict on the text that is read, by places of the text as it was given.
abbrev pub IsPlacedVerdict : Option Dialects → List ℕ → List ℕ → Verdict → Verdict → Type 0
IsPlacedVerdict d text other (Read len) (Read n) = n ≡ len
IsPlacedVerdict d text other (Refused w) (Refused r) = (r.why ≡ w.why) × (r.text.now ≡ text) × IsPlaced d text other w.why.start w.why.end r.start r.end
IsPlacedVerdict d text other (Rest at) (Rest start) = (end : ℕ) × IsPlaced d text other at at start end
IsPlacedVerdict d text other v w = ⊥

-- What becomes of the text that a text is read as, by places of the text as it was given.
pub record IsVerdictIn (d : Option Dialects) (places : ℕ) (front : Bool) (text room : List ℕ) (verdict : Verdict) : Type 0 where
  pub other : List ℕ
  pub read_as : IsTextIn d places text other
  pub of_other : Verdict
  pub is : IsVerdict (read_decimal 127 36 (min places 36)) (decimal_text (min places 36)) front other room of_other
  pub placed : IsPlacedVerdict d text other of_other verdict
