-- A value as flat arrays, handed to the buffers of the caller.
use Rattle.std.specs.Prelude.{◌≡◌, ◌⊎◌, ℕ, ℤ, List, Some, None, IsUtf8, Bool, [], ◌∷◌, ◌<◌, length, ◌≢◌, ◌≤◌}
use Rattle.wkt_num.specs.Decimal.{IsUnits}
use Rattle.wkt_access.specs.Values.{Value}
use Rattle.wkt_access.specs.WellFormed.{IsWellFormed}
use Rattle.wkt_read.specs.Front.{Front}
use Rattle.wkt_read.specs.Header.{kind_of, dim_of}
use Rattle.wkt_calls.specs.Answer.{read_at, kind_number, dimension_number, HasNoPlaces, RefusesText, IsMore, with_front, places_in, asks_whole, EndsAsAsked}
use Rattle.wkt_sources.specs.declared.points.FastPoint.{FastPoint}
use Rattle.wkt_fill.specs.Filled.{view}
use Rattle.wkt_calls.specs.declared.flat.Flat.{Flat}
use Rattle.wkt_calls.specs.declared.sizes.WktSizes.{WktSizes}
use Rattle.wkt_fill.specs.declared.array_builder.Room.{Room}
pub use Rattle.wkt_fill.specs.Arrays.{parts_of, joined, offsets, numbers_in, HasLarge, HasLargeNumber, LackPlaces}

-- A value as flat arrays.

-- The arrays of a value: its kind, its dimension, all its numbers in order, where each ring begins among the coordinates, and where each polygon begins among the rings, with the end of the last.
pub record AreArrays {N : Type 0} (value : Value N) (kind dimension : ℕ) (numbers : List N) (rings polygons : List ℕ) : Type 0 where
  pub parts : List (List (List (List N)))
  pub flat : parts_of value ≡ Some parts
  pub kind_is : kind ≡ kind_number (kind_of value)
  pub dimension_is : dimension ≡ dimension_number (dim_of value)
  pub numbers_are : numbers ≡ numbers_in (joined parts)
  pub rings_are : rings ≡ offsets 0 (joined parts)
  pub polygons_are : polygons ≡ offsets 0 parts

-- The arrays are those of the value of the text's front, which ends here; each coordinate has as many numbers as the dimension says, and each is a value.
pub record AreOf (places : ℕ) (text : List ℕ) (end kind dimension : ℕ) (numbers : List ℤ) (rings polygons : List ℕ) : Type 0 where
  pub utf8 : IsUtf8 text
  pub value : Value ℤ
  pub front : Front (read_at places) text value end
  pub fits : IsWellFormed (IsUnits places) value
  pub arrays : AreArrays value kind dimension numbers rings polygons

-- The front is a collection, or a number of it has more units than 64 bits hold.
pub record IsNoArrays (places : ℕ) (text : List ℕ) (status : ℕ) : Type 0 where
  pub utf8 : IsUtf8 text
  pub value : Value ℤ
  pub end : ℕ
  pub front : Front (read_at places) text value end
  pub why : ((status ≡ 24) × (parts_of value ≡ None)) ⊎ ((status ≡ 25) × HasLargeNumber value)

-- The arrays of the front don't fit into so many places for numbers, rings and polygons.
pub record HasNoPlaceFor (places : ℕ) (text : List ℕ) (numbers rings polygons : ℕ) : Type 0 where
  pub utf8 : IsUtf8 text
  pub value : Value ℤ
  pub end : ℕ
  pub front : Front (read_at places) text value end
  pub lack : LackPlaces numbers rings polygons value

-- Why a text has no arrays: there are no numbers of so many places, its front is a collection, a number has more units than 64 bits hold, or the text is refused.
abbrev pub IsNotFlat : ℕ → List ℕ → ℕ → Type 0
IsNotFlat places text status = HasNoPlaces places status ⊎ (IsNoArrays places text status ⊎ RefusesText (read_at places) text status)

-- Why there are no arrays in a room: that is too small for them, or there are none.
abbrev pub IsNotFlatIn : ℕ → List ℕ → Room → ℕ → Type 0
IsNotFlatIn places text r status =
    ((status ≡ 22) × HasNoPlaceFor places text (length r.numbers.now) (length r.rings.now) (length r.polygons.now)) ⊎ IsNotFlat places text status

-- What is known of flat arrays.

-- They are those of the text's front.
abbrev pub IsFlat : ℕ → List ℕ → Flat → Type 0
IsFlat places text f = AreOf places text f.end f.kind f.dimension (view f.arrays).flat.numbers (view f.arrays).flat.rings (view f.arrays).flat.polygons

-- They are those of a point of two numbers, which is the text's front.
abbrev pub IsFlatPoint : ℕ → List ℕ → FastPoint → Type 0
IsFlatPoint places text p = AreOf places text p.end 0 0 (p.x ∷ p.y ∷ []) (0 ∷ 1 ∷ []) (0 ∷ 1 ∷ [])

-- Arrays handed to the caller's buffers.

-- The arrays of the text's front, and the sizes that are returned.
pub record AreReported (places : ℕ) (text : List ℕ) (s : WktSizes) : Type 0 where
  pub ns : List ℤ
  pub rs : List ℕ
  pub ps : List ℕ
  pub arrays : AreOf places text s.end s.kind s.dimension ns rs ps
  pub numbers : s.numbers ≡ length ns
  pub rings : s.rings ≡ length rs
  pub polygons : s.polygons ≡ length ps

-- Whole texts are asked for, and more than white space follows the front, which has these arrays.
pub record HasMoreAt (places : ℕ) (whole : Bool) (text : List ℕ) (s : WktSizes) : Type 0 where
  pub reported : AreReported places text s
  pub more : IsMore whole text s.end

-- They stand at the fronts of the buffers.
pub record AreHandedOut (places : ℕ) (text : List ℕ) (s : WktSizes) (numbers numbers' : List ℤ) (rings rings' polygons polygons' : List ℕ) : Type 0 where
  pub reported : AreReported places text s
  pub numbers_in : numbers' ≡ with_front reported.ns numbers
  pub rings_in : rings' ≡ with_front reported.rs rings
  pub polygons_in : polygons' ≡ with_front reported.ps polygons

-- A buffer has no room for its array.
pub record HaveNoRoom (places : ℕ) (text : List ℕ) (s : WktSizes) (numbers : List ℤ) (rings polygons : List ℕ) : Type 0 where
  pub reported : AreReported places text s
  pub small : (length numbers < length reported.ns) ⊎ ((length rings < length reported.rs) ⊎ (length polygons < length reported.ps))

-- What a call for the arrays of a text returns.

-- By its status, what a call says of a text, and what is in the buffers then. `Full` holds where room was lacking.
pub record AnswersArrays (options : ℕ) (text : List ℕ) (Full : Type 0) (status : ℕ) (sizes sizes' : WktSizes) (numbers numbers' : List ℤ) (rings rings' polygons polygons' : List ℕ) : Type 0 where
  pub filled : status ≡ 0 → AreHandedOut (places_in options) text sizes' numbers numbers' rings rings' polygons polygons'
  pub small : status ≡ 21 → HaveNoRoom (places_in options) text sizes' numbers rings polygons
  pub as_asked : (status ≡ 0) ⊎ (status ≡ 21) → EndsAsAsked (asks_whole options) text sizes'.end
  pub more : status ≡ 30 → HasMoreAt (places_in options) (asks_whole options) text sizes'
  pub memory : status ≡ 22 → Full
  pub others : 1 ≤ status → status ≢ 21 → status ≢ 22 → status ≢ 30 → IsNotFlat (places_in options) text status
  pub kept : 1 ≤ status → (numbers' ≡ numbers) × (rings' ≡ rings) × (polygons' ≡ polygons)
  pub sizes_kept : 1 ≤ status → status ≢ 21 → status ≢ 30 → sizes' ≡ sizes
