-- The laws of the dialects.
use Rattle.std.specs.Prelude.{◌≡◌, ℕ, ℤ, List}
use Rattle.wkt_access.specs.Values.{Value}
use Rattle.wkt_read.specs.Explained.{HasFront}
use Rattle.wkt_read.specs.Front.{Front}
use Rattle.wkt_dialects.specs.declared.dialects.Dialects.{Dialects}
use Rattle.wkt_dialects.specs.Dialects.{HasSrid}
use Rattle.wkt_dialects.specs.Reading.{read_plain, IsReadAs}

-- A text that begins with a geometry without dialects is read as itself in each: so it has the same value and end.
abbrev pub DialectsKeep : Type 0
DialectsKeep = (d : Dialects) (places : ℕ) (text other : List ℕ) → HasFront (read_plain places) text → IsReadAs d places text other → other ≡ text

-- All that a text is read as has the same value.
abbrev pub OneValueAs : Type 0
OneValueAs =
    (d : Dialects) (places : ℕ) (text one other : List ℕ) (v : Value ℤ) (end : ℕ)
    → IsReadAs d places text one → IsReadAs d places text other → Front (read_plain places) one v end → (at : ℕ) × Front (read_plain places) other v at

-- A text has one SRID at most.
abbrev pub OneSrid : Type 0
OneSrid = (text rest other : List ℕ) (m n : ℕ) → HasSrid text m rest → HasSrid text n other → (m ≡ n) × (rest ≡ other)
