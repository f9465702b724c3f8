-- The answers to a column as they grow: texts, arrays, and texts of arrays; and what a caller is answered who gave arrays.
-- Only private contracts cite these words.
use Rattle.std.specs.Prelude.{◌≡◌, ◌++◌, List, [], ◌∷◌, length, take, ℕ, Option, Bool, ℤ, ◌≢◌, ◌⊎◌, ◌≤◌, ◌<◌}
use Rattle.wkt_calls.specs.declared.list.RoomList.{RoomList}
use Rattle.wkt_calls.specs.declared.joined.Joined.{Joined}
use Rattle.wkt_calls.specs.Column.{AreRows, IsRowAnswer, AreRowAnswers}
use Rattle.wkt_calls.specs.declared.column.Rows.{Rows}
use Rattle.wkt_calls.specs.ColumnArrays.{RowArrays, ColumnArrays, IsRowArrays, AreRowArrays, as_column, IsRowText, AreRowTexts, IsTextOf, IsNoTextAt}
use Rattle.wkt_calls.specs.Rooms.{text_room}
use Rattle.wkt_calls.specs.declared.column_arrays.ArrayRows.{ArrayRows}
use Rattle.wkt_calls.specs.declared.column_texts.GivenRows.{GivenRows}
use Rattle.wkt_calls.specs.Answer.{IsHandedOut, HasNoRoom}

-- The answers to a column as they grow: texts, arrays, and texts of arrays. Only private contracts cite these words.

-- The items of a list in a room.
abbrev pub items_of : {T : Type 0} → RoomList T → List T
items_of l = take l.len l.room.now

-- Lists joined in a row as they grow. Only private contracts cite these words.

-- Nothing but the first offset.
pub record HoldsNoList {T : Type 0} (j : Joined T) : Type 0 where
  pub no_items : items_of j.items ≡ []
  pub zero : items_of j.ends ≡ 0 ∷ []

-- A list was added.
pub record AddsList {T : Type 0} (list : List T) (a b : Joined T) : Type 0 where
  pub items_are : items_of b.items ≡ items_of a.items ++ list
  pub ends_are : items_of b.ends ≡ items_of a.ends ++ length (items_of b.items) ∷ []

-- The answers to a column as they grow. Only private contracts cite these words.

-- No row.
pub record HoldsNoRow (r : Rows) : Type 0 where
  pub no_texts : HoldsNoList r.texts
  pub no_statuses : items_of r.statuses ≡ []

-- A row of this text and this status was added.
pub record AddsRow (text : List ℕ) (status : ℕ) (a b : Rows) : Type 0 where
  pub text_added : AddsList text a.texts b.texts
  pub status_added : items_of b.statuses ≡ items_of a.statuses ++ status ∷ []

-- A row was added that is as it has to be.
pub record AddsAnswerRow (IsAnswer : List ℕ → ℕ → Type 0) (a b : Rows) : Type 0 where
  pub text : List ℕ
  pub status : ℕ
  pub is : IsAnswer text status
  pub added : AddsRow text status a b

-- So many first rows, each of which is as it has to be.
abbrev pub HoldsRows : (ℕ → List ℕ → ℕ → Type 0) → ℕ → Rows → Type 0
HoldsRows IsRow rows r = AreRows IsRow rows (items_of r.texts.items) (items_of r.texts.ends) (items_of r.statuses)

module _ {N : Type 0} (whole : Bool) (read : List ℕ → Option N) (num : N → List ℕ) where
  -- The answer to a row was added.
  abbrev pub AddsTextAnswer : Bool → List ℕ → Rows → Rows → Type 0
  AddsTextAnswer null text a b = AddsAnswerRow (λ answer status. IsRowAnswer whole read num null text answer status) a b

  -- These are the answers to so many first rows.
  abbrev pub HoldsAnswers : List ℕ → List ℕ → List ℕ → ℕ → Rows → Type 0
  HoldsAnswers texts offsets valid rows r = AreRowAnswers whole read num texts offsets valid rows (items_of r.texts.items) (items_of r.texts.ends) (items_of r.statuses)

-- The arrays of a column as they grow. Only private contracts cite these words.

-- All that they hold.
abbrev pub held_arrays : ArrayRows → ColumnArrays
held_arrays r = record {
  kinds = items_of r.kinds;
  dimensions = items_of r.dimensions;
  numbers = items_of r.numbers.items;
  number_ends = items_of r.numbers.ends;
  rings = items_of r.rings.items;
  ring_ends = items_of r.rings.ends;
  polygons = items_of r.polygons.items;
  polygon_ends = items_of r.polygons.ends;
}

-- No row.
pub record HoldsNoArrays (r : ArrayRows) : Type 0 where
  pub no_numbers : HoldsNoList r.numbers
  pub no_rings : HoldsNoList r.rings
  pub no_polygons : HoldsNoList r.polygons
  pub no_kinds : items_of r.kinds ≡ []
  pub no_dimensions : items_of r.dimensions ≡ []
  pub no_statuses : items_of r.statuses ≡ []

-- A row of these arrays and this status was added.
pub record AddsArrays (row : RowArrays) (status : ℕ) (a b : ArrayRows) : Type 0 where
  pub numbers_added : AddsList row.numbers a.numbers b.numbers
  pub rings_added : AddsList row.rings a.rings b.rings
  pub polygons_added : AddsList row.polygons a.polygons b.polygons
  pub kind_added : items_of b.kinds ≡ items_of a.kinds ++ row.kind ∷ []
  pub dimension_added : items_of b.dimensions ≡ items_of a.dimensions ++ row.dimension ∷ []
  pub status_added : items_of b.statuses ≡ items_of a.statuses ++ status ∷ []

-- The parts of a row as one.
abbrev pub row_of : ℕ → ℕ → List ℤ → List ℕ → List ℕ → RowArrays
row_of k d ns rs ps = record { kind = k; dimension = d; numbers = ns; rings = rs; polygons = ps }

-- The arrays of a row were added.
pub record AddsRowArrays (places : ℕ) (whole null : Bool) (text : List ℕ) (a b : ArrayRows) : Type 0 where
  pub row : RowArrays
  pub status : ℕ
  pub is : IsRowArrays places whole null text row status
  pub added : AddsArrays row status a b

-- These are the arrays of so many first rows.
abbrev pub HoldsArrays : ℕ → Bool → List ℕ → List ℕ → List ℕ → ℕ → ArrayRows → Type 0
HoldsArrays places whole texts offsets valid rows r = AreRowArrays places whole texts offsets valid rows (held_arrays r) (items_of r.statuses)

-- The texts of a column of arrays as they grow. Only private contracts cite these words.

-- The arrays of the caller's.
abbrev pub given_arrays : GivenRows → ColumnArrays
given_arrays g =
    as_column g.kinds.now g.dimensions.now g.numbers.now g.number_offsets.now g.rings.now g.ring_offsets.now g.polygons.now g.polygon_offsets.now

-- The text of a row was added.
abbrev pub AddsArraysText : ℕ → Bool → RowArrays → Rows → Rows → Type 0
AddsArraysText places null row a b = AddsAnswerRow (λ answer status. IsRowText places null row answer status) a b

-- These are the texts of so many first rows.
abbrev pub HoldsTexts : ℕ → ColumnArrays → List ℕ → ℕ → Rows → Type 0
HoldsTexts places arrays valid rows r = AreRowTexts places arrays valid rows (items_of r.texts.items) (items_of r.texts.ends) (items_of r.statuses)

-- What a caller is answered who gave arrays. Only private contracts cite these words.

-- Memory ran out, or what was asked for isn't there.
abbrev pub IsRefused : Type 0 → ℕ → Type 0
IsRefused There status = (status ≡ 22) ⊎ ((status ≡ 26) × (There → ⊥))

-- The text of the arrays was handed out, or there was no room for it; else the buffer is as it was, and the status says why.
pub record CopiesOutText (places kind dimension : ℕ) (numbers : List ℤ) (rings polygons : List ℕ) (room : ℕ) (old new : List ℕ) (needed_old needed_new status : ℕ) : Type 0 where
  pub written : status ≡ 0 → (answer : List ℕ) × IsTextOf places kind dimension numbers rings polygons answer × IsHandedOut answer needed_new old new
  pub small : status ≡ 21 → (answer : List ℕ) × IsTextOf places kind dimension numbers rings polygons answer × HasNoRoom answer needed_new old
  pub memory : status ≡ 22 → room < text_room places numbers rings polygons
  pub others : 1 ≤ status → status ≢ 21 → IsNoTextAt places kind dimension numbers rings polygons status
  pub kept : 1 ≤ status → new ≡ old
  pub needed_kept : 1 ≤ status → status ≢ 21 → needed_new ≡ needed_old
