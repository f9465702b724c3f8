-- The texts of flat arrays, the arrays of a column of texts, and the texts of a column of arrays.
use Rattle.std.specs.Prelude.{◌≡◌, ◌⊎◌, ℕ, ℤ, List, length, ◌<◌, ◌≢◌, ◌+◌, [], Bool, true, false}
use Rattle.std.specs.List.{All, slice_index}
use Rattle.wkt_num.specs.Whole.{IsSigned}
use Rattle.wkt_num.specs.Decimal.{IsUnits}
use Rattle.wkt_access.specs.Values.{Value}
use Rattle.wkt_access.specs.WellFormed.{IsWellFormed}
use Rattle.wkt_access.specs.Shapes.{shape_of, canon}
use Rattle.wkt_access.specs.Texts.{shape_text}
use Rattle.wkt_read.specs.Front.{Front}
use Rattle.wkt_calls.specs.Answer.{read_at, print_at, HasNoPlaces, places_in, asks_whole, EndsAsAsked, IsMore, with_front}
use Rattle.wkt_calls.specs.Arrays.{AreArrays, AreOf, IsNotFlat}
use Rattle.wkt_calls.specs.Column.{row_count, row, is_null, AreOffsets, AreJoined, AreRows, HasBits, IsColumn}
use Rattle.wkt_calls.specs.declared.sizes.WktColumnSizes.{WktColumnSizes}

-- The texts of flat arrays.

-- The text is that of the value of these arrays, each of whose coordinates has as many numbers as the dimension says, and reads back as its canonical value.
pub record IsTextOf (places kind dimension : ℕ) (numbers : List ℤ) (rings polygons text : List ℕ) : Type 0 where
  pub value : Value ℤ
  pub fits : IsWellFormed (IsUnits places) value
  pub arrays : AreArrays value kind dimension numbers rings polygons
  pub is : text ≡ shape_text (print_at places) (shape_of value)
  pub reads : Front (read_at places) text (canon (shape_of value)) (length text)

-- These are the arrays of some geometry, each of whose coordinates has as many numbers as its dimension says, and the numbers are of 64 bits, as those of a call are.
abbrev pub AreOfSome : ℕ → ℕ → ℕ → List ℤ → List ℕ → List ℕ → Type 0
AreOfSome places kind dimension numbers rings polygons =
    (value : Value ℤ) × IsWellFormed (IsUnits places) value × AreArrays value kind dimension numbers rings polygons × All (IsSigned 63) numbers

-- Why arrays have no text: there are no numbers of so many places, memory ran out, or they are the arrays of no geometry.
abbrev pub IsNoTextAt : ℕ → ℕ → ℕ → List ℤ → List ℕ → List ℕ → ℕ → Type 0
IsNoTextAt places kind dimension numbers rings polygons status =
    HasNoPlaces places status ⊎ ((status ≡ 22) ⊎ ((status ≡ 26) × (AreOfSome places kind dimension numbers rings polygons → ⊥)))

-- The arrays of a column of texts, and the texts of a column of arrays.

-- The arrays of a row.
pub record RowArrays : Type 0 where
  pub kind : ℕ
  pub dimension : ℕ
  pub numbers : List ℤ
  pub rings : List ℕ
  pub polygons : List ℕ

-- The arrays of all rows: the kinds, the dimensions, and the numbers, offsets of rings and offsets of polygons, one row's after the other's, with where each row's begin, and the end of the last.
pub record ColumnArrays : Type 0 where
  pub kinds : List ℕ
  pub dimensions : List ℕ
  pub numbers : List ℤ
  pub number_ends : List ℕ
  pub rings : List ℕ
  pub ring_ends : List ℕ
  pub polygons : List ℕ
  pub polygon_ends : List ℕ

-- Those that a caller's lists are.
abbrev pub as_column : List ℕ → List ℕ → List ℤ → List ℕ → List ℕ → List ℕ → List ℕ → List ℕ → ColumnArrays
as_column ks ds ns ns' rs rs' ps ps' = record {
  kinds = ks;
  dimensions = ds;
  numbers = ns;
  number_ends = ns';
  rings = rs;
  ring_ends = rs';
  polygons = ps;
  polygon_ends = ps';
}

-- The arrays of the row of that index.
abbrev pub row_arrays : ColumnArrays → ℕ → RowArrays
row_arrays a i = record {
  kind = slice_index a.kinds i;
  dimension = slice_index a.dimensions i;
  numbers = row a.numbers a.number_ends i;
  rings = row a.rings a.ring_ends i;
  polygons = row a.polygons a.polygon_ends i;
}

-- A row without arrays: there is nothing, and 0 for the kind and the dimension.
pub record HasNothing (r : RowArrays) : Type 0 where
  pub no_kind : r.kind ≡ 0
  pub no_dimension : r.dimension ≡ 0
  pub no_numbers : r.numbers ≡ []
  pub no_rings : r.rings ≡ []
  pub no_polygons : r.polygons ≡ []

-- A text is answered with 0 and with its arrays.
pub record HasRowArrays (places : ℕ) (whole : Bool) (text : List ℕ) (r : RowArrays) : Type 0 where
  pub end : ℕ
  pub arrays : AreOf places text end r.kind r.dimension r.numbers r.rings r.polygons
  pub as_asked : EndsAsAsked whole text end

-- A text has arrays, and more than white space behind the geometry, where whole texts are asked for.
pub record HasMoreArrays (places : ℕ) (whole : Bool) (text : List ℕ) : Type 0 where
  pub end : ℕ
  pub row : RowArrays
  pub arrays : AreOf places text end row.kind row.dimension row.numbers row.rings row.polygons
  pub more : IsMore whole text end

-- Why a text has none: as it has none alone, or there is more in it than is asked for.
abbrev pub HasNoRowArrays : ℕ → Bool → List ℕ → ℕ → Type 0
HasNoRowArrays places whole text status = IsNotFlat places text status ⊎ ((status ≡ 30) × HasMoreArrays places whole text)

-- A text is answered with 0 and with its arrays, or with nothing and why it has none.
abbrev pub IsTextArrays : ℕ → Bool → List ℕ → RowArrays → ℕ → Type 0
IsTextArrays places whole text r status = ((status ≡ 0) × HasRowArrays places whole text r) ⊎ (HasNothing r × HasNoRowArrays places whole text status)

-- A null row is answered with 28 and nothing.
abbrev pub IsRowArrays : ℕ → Bool → Bool → List ℕ → RowArrays → ℕ → Type 0
IsRowArrays places whole null text r status =
    ((null ≡ true) × ((status ≡ 28) × HasNothing r)) ⊎ ((null ≡ false) × IsTextArrays places whole text r status)

-- The arrays of so many first rows of a column, with their statuses: row i of the one are the arrays of row i of the other.
pub record AreRowArrays (places : ℕ) (whole : Bool) (texts offsets valid : List ℕ) (rows : ℕ) (a : ColumnArrays) (statuses : List ℕ) : Type 0 where
  pub kinds_size : length a.kinds ≡ rows
  pub dimensions_size : length a.dimensions ≡ rows
  pub numbers_joined : AreJoined rows a.numbers a.number_ends
  pub rings_joined : AreJoined rows a.rings a.ring_ends
  pub polygons_joined : AreJoined rows a.polygons a.polygon_ends
  pub statuses_size : length statuses ≡ rows
  pub answers : (i : ℕ) → i < rows → IsRowArrays places whole (is_null valid i) (row texts offsets i) (row_arrays a i) (slice_index statuses i)

-- The arrays of all rows, as asked for: with decimals of so many places, and whole texts or not.
abbrev pub AreColumnArrays : ℕ → List ℕ → List ℕ → List ℕ → ColumnArrays → List ℕ → Type 0
AreColumnArrays options texts offsets valid a statuses =
    AreRowArrays (places_in options) (asks_whole options) texts offsets valid (row_count offsets) a statuses

-- The sizes that a call returns.
pub record AreColumnSizes (a : ColumnArrays) (s : WktColumnSizes) : Type 0 where
  pub numbers : s.numbers ≡ length a.numbers
  pub rings : s.rings ≡ length a.rings
  pub polygons : s.polygons ≡ length a.polygons

-- Numbers and offsets of rings and polygons stand at the fronts of their buffers; the others are filled.
pub record FillColumn (a : ColumnArrays) (s : WktColumnSizes) (numbers : List ℤ) (rings polygons : List ℕ) (new : ColumnArrays) : Type 0 where
  pub sizes : AreColumnSizes a s
  pub kinds : new.kinds ≡ a.kinds
  pub dimensions : new.dimensions ≡ a.dimensions
  pub numbers_in : new.numbers ≡ with_front a.numbers numbers
  pub number_ends : new.number_ends ≡ a.number_ends
  pub rings_in : new.rings ≡ with_front a.rings rings
  pub ring_ends : new.ring_ends ≡ a.ring_ends
  pub polygons_in : new.polygons ≡ with_front a.polygons polygons
  pub polygon_ends : new.polygon_ends ≡ a.polygon_ends

-- The arrays of all texts of a column stand in the buffers.
abbrev pub AreFilled : ℕ → List ℕ → List ℕ → List ℕ → List ℕ → WktColumnSizes → List ℤ → List ℕ → List ℕ → ColumnArrays → Type 0
AreFilled options texts offsets valid statuses sizes numbers rings polygons new =
    (arrays : ColumnArrays) × AreColumnArrays options texts offsets valid arrays statuses × FillColumn arrays sizes numbers rings polygons new

-- One of the three buffers has no room; the sizes are returned.
pub record LackRoom (a : ColumnArrays) (s : WktColumnSizes) (old : ColumnArrays) : Type 0 where
  pub sizes : AreColumnSizes a s
  pub small : (length old.numbers < length a.numbers) ⊎ ((length old.rings < length a.rings) ⊎ (length old.polygons < length a.polygons))

-- Texts with the bits of their rows, and buffers of an offset each, with one for the end, and of a kind, a dimension and a status each.
pub record IsTextColumn (texts offsets valid : List ℕ) (b : ColumnArrays) (statuses : List ℕ) : Type 0 where
  pub column : IsColumn texts offsets valid b.number_ends statuses
  pub ring_ends_fit : length b.ring_ends ≡ length offsets
  pub polygon_ends_fit : length b.polygon_ends ≡ length offsets
  pub kinds_fit : length b.kinds ≡ row_count offsets
  pub dimensions_fit : length b.dimensions ≡ row_count offsets

-- Why a column has no arrays: there are no numbers of so many places, memory ran out, or the sizes or offsets are of no column.
abbrev pub HasNoArrays : ℕ → List ℕ → List ℕ → List ℕ → ColumnArrays → List ℕ → ℕ → Type 0
HasNoArrays options texts offsets valid b statuses status =
    HasNoPlaces (places_in options) status ⊎ ((status ≡ 22) ⊎ ((status ≡ 27) × (IsTextColumn texts offsets valid b statuses → ⊥)))

-- Arrays are answered with 0 and the text of their geometry, or with no byte and why they have none; a null row with 28 and no byte.
abbrev pub IsRowText : ℕ → Bool → RowArrays → List ℕ → ℕ → Type 0
IsRowText places null r answer status =
    ((null ≡ true) × ((status ≡ 28) × (answer ≡ [])))
    ⊎ ((null ≡ false) × (((status ≡ 0) × IsTextOf places r.kind r.dimension r.numbers r.rings r.polygons answer)
    ⊎ ((answer ≡ []) × ((status ≢ 22) × IsNoTextAt places r.kind r.dimension r.numbers r.rings r.polygons status))))

-- The texts of so many first rows: row i of the one is the text of row i of the other.
abbrev pub AreRowTexts : ℕ → ColumnArrays → List ℕ → ℕ → List ℕ → List ℕ → List ℕ → Type 0
AreRowTexts places a valid rows bytes ends statuses =
    AreRows (λ i answer status. IsRowText places (is_null valid i) (row_arrays a i) answer status) rows bytes ends statuses

-- The texts of all rows: row i of the one is the text of row i of the other.
abbrev pub AreColumnTexts : ℕ → ColumnArrays → List ℕ → List ℕ → List ℕ → List ℕ → Type 0
AreColumnTexts places a valid bytes ends statuses = AreRowTexts places a valid (length a.kinds) bytes ends statuses

-- These are offsets into the items for so many rows.
pub record HasOffsets {A : Type 0} (items : List A) (offsets : List ℕ) (rows : ℕ) : Type 0 where
  pub are : AreOffsets items offsets
  pub fit : length offsets ≡ rows + 1

-- A kind, a dimension and an offset of each sort for each row, with one for the end, and the bits of the rows.
pub record AreArrayColumn (a : ColumnArrays) (valid : List ℕ) : Type 0 where
  pub dimensions_fit : length a.dimensions ≡ length a.kinds
  pub numbers_are : HasOffsets a.numbers a.number_ends (length a.kinds)
  pub rings_are : HasOffsets a.rings a.ring_ends (length a.kinds)
  pub polygons_are : HasOffsets a.polygons a.polygon_ends (length a.kinds)
  pub bits : HasBits valid (length a.kinds)

-- Such arrays, with buffers of an offset each, with one for the end, and of a status each.
pub record IsArrayColumn (a : ColumnArrays) (valid out_offsets statuses : List ℕ) : Type 0 where
  pub arrays : AreArrayColumn a valid
  pub offsets_fit : length out_offsets ≡ length a.kinds + 1
  pub statuses_fit : length statuses ≡ length a.kinds

-- Why a column of arrays has no texts: there are no numbers of so many places, memory ran out, or the sizes or offsets are of no column.
abbrev pub HasNoTexts : ℕ → ColumnArrays → List ℕ → List ℕ → List ℕ → ℕ → Type 0
HasNoTexts places a valid out_offsets statuses status =
    HasNoPlaces places status ⊎ ((status ≡ 22) ⊎ ((status ≡ 27) × (IsArrayColumn a valid out_offsets statuses → ⊥)))
