-- A column of texts at once: all their bytes in a row, and where each text begins in them, with the end of the last.
use Rattle.std.specs.Prelude.{◌≡◌, ◌<◌, ◌≤◌, ◌+◌, ◌-◌, ◌*◌, ◌/◌, ◌%◌, ◌^◌, ◌⊎◌, ℕ, List, [], Option, Bool, true, false, length, nat_eq, if◌then◌else◌}
use Rattle.std.specs.List.{slice_index, slice_range}
use Rattle.wkt_calls.specs.Answer.{read_at, print_at, places_in, asks_whole, EndsAsAsked, IsCanonicalOf, RefusesText, HasMore, HasNoPlaces}

-- How many texts these offsets are of.
abbrev pub row_count : List ℕ → ℕ
row_count offsets = length offsets - 1

-- The bytes, or the numbers, of a row.
abbrev pub row : {A : Type 0} → List A → List ℕ → ℕ → List A
row items offsets i = slice_range items (slice_index offsets i) (slice_index offsets (i + 1))

-- There is an offset, none is less than the one before it, and the last is not past the items.
pub record AreOffsets {A : Type 0} (items : List A) (offsets : List ℕ) : Type 0 where
  pub some : 1 ≤ length offsets
  pub ascend : (i : ℕ) → i < row_count offsets → slice_index offsets i ≤ slice_index offsets (i + 1)
  pub end : slice_index offsets (row_count offsets) ≤ length items

-- These are so many lists, one after the other, and where each begins, from 0 on, with the end of the last.
pub record AreJoined {A : Type 0} (rows : ℕ) (items : List A) (ends : List ℕ) : Type 0 where
  pub are_offsets : AreOffsets items ends
  pub size : length ends ≡ rows + 1
  pub first : slice_index ends 0 ≡ 0
  pub last : slice_index ends rows ≡ length items

-- So many texts joined, with their statuses, each of which is as it has to be.
pub record AreRows (IsRow : ℕ → List ℕ → ℕ → Type 0) (rows : ℕ) (bytes ends statuses : List ℕ) : Type 0 where
  pub joined : AreJoined rows bytes ends
  pub statuses_size : length statuses ≡ rows
  pub answers : (i : ℕ) → i < rows → IsRow i (row bytes ends i) (slice_index statuses i)

-- The bit of that index, where each byte's lowest comes first.
abbrev pub bit_at : List ℕ → ℕ → ℕ
bit_at bits i = slice_index bits (i / 8) / 2 ^ (i % 8) % 2

-- Whether a row is null: its bit is 0. With no bits at all no row is null.
abbrev pub is_null : List ℕ → ℕ → Bool
is_null valid i = if nat_eq (length valid) 0 then false else nat_eq (bit_at valid i) 0

-- There are no bits at all, or as many as rows.
abbrev pub HasBits : List ℕ → ℕ → Type 0
HasBits valid rows = (length valid ≡ 0) ⊎ (rows ≤ 8 * length valid)

-- Texts with the bits of their rows, and buffers of an offset each, with one for the end, and of a status each.
pub record IsColumn (texts offsets valid out_offsets statuses : List ℕ) : Type 0 where
  pub texts_are : AreOffsets texts offsets
  pub bits : HasBits valid (row_count offsets)
  pub offsets_fit : length out_offsets ≡ length offsets
  pub statuses_fit : length statuses ≡ row_count offsets

module _ {N : Type 0} (whole : Bool) (read : List ℕ → Option N) (num : N → List ℕ) where
  -- A text is answered with 0 and its canonical text.
  pub record HasAnswer (text answer : List ℕ) : Type 0 where
    pub end : ℕ
    pub canonical : IsCanonicalOf read num text answer end
    pub as_asked : EndsAsAsked whole text end

  -- Why a text has none: it is refused, or there is more in it than is asked for.
  abbrev pub HasNoAnswer : List ℕ → ℕ → Type 0
  HasNoAnswer text status = RefusesText read text status ⊎ ((status ≡ 30) × ((end : ℕ) × HasMore read whole text end))

  -- A text is answered with 0 and its canonical text, or with no byte and why it has none.
  abbrev pub IsTextAnswer : List ℕ → List ℕ → ℕ → Type 0
  IsTextAnswer text answer status = ((status ≡ 0) × HasAnswer text answer) ⊎ ((answer ≡ []) × HasNoAnswer text status)

  -- A null row is answered with 28 and no byte.
  abbrev pub IsRowAnswer : Bool → List ℕ → List ℕ → ℕ → Type 0
  IsRowAnswer null text answer status =
      ((null ≡ true) × ((status ≡ 28) × (answer ≡ []))) ⊎ ((null ≡ false) × IsTextAnswer text answer status)

  -- The answers to so many first rows of a column: row i of the one is the answer to row i of the other.
  abbrev pub AreRowAnswers : List ℕ → List ℕ → List ℕ → ℕ → List ℕ → List ℕ → List ℕ → Type 0
  AreRowAnswers texts offsets valid rows bytes ends statuses =
      AreRows (λ i answer status. IsRowAnswer (is_null valid i) (row texts offsets i) answer status) rows bytes ends statuses

-- The answers to all rows of a column, as asked for: with decimals of so many places, and whole texts or not.
abbrev pub AreColumnAnswers : ℕ → List ℕ → List ℕ → List ℕ → List ℕ → List ℕ → List ℕ → Type 0
AreColumnAnswers options texts offsets valid bytes ends statuses =
    AreRowAnswers (asks_whole options) (read_at (places_in options)) (print_at (places_in options)) texts offsets valid (row_count offsets) bytes ends statuses

-- Why a column has no answers: there are no numbers of so many places, memory ran out, or the sizes or offsets are of no column.
abbrev pub IsNoColumn : ℕ → List ℕ → List ℕ → List ℕ → List ℕ → List ℕ → ℕ → Type 0
IsNoColumn options texts offsets valid out_offsets statuses status =
    HasNoPlaces (places_in options) status ⊎ ((status ≡ 22) ⊎ ((status ≡ 27) × (IsColumn texts offsets valid out_offsets statuses → ⊥)))
