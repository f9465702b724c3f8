-- A value as flat arrays; arrays that are given, what a builder is told of them, and the parts of a geometry between their
-- offsets.
use Rattle.std.specs.Prelude.{◌≡◌, ◌+◌, ◌⊎◌, ℕ, ℤ, List, [], ◌∷◌, map, flat_map, length, Option, Some, None, option_to_list, zero, suc, ◌-◌, ◌*◌, ◌≤◌, ◌<◌, take, drop}
use Rattle.std.specs.List.{Contains, slice_index}
use Rattle.wkt_num.specs.Whole.{IsSigned}
use Rattle.wkt_access.specs.Values.{Value, size}
use Rattle.wkt_access.specs.WellFormed.{IsWellFormed}
use Rattle.wkt_num.specs.Decimal.{IsUnits}
use Rattle.wkt_read.specs.Header.{kind_of, dim_of}
use Rattle.wkt_machine.specs.Events.{Event}
use Rattle.wkt_machine.specs.Makers.{Maker}
use Rattle.wkt_machine.specs.Room.{header_cost, Leaves}
use Rattle.wkt_fill.specs.declared.given.Given.{Given}
use Rattle.wkt_types.specs.declared.geometry_type.GeometryType.{GeometryType}
use Rattle.wkt_types.specs.declared.geometry_type.GeometryType.TheVariants as kind

-- A value as flat arrays; arrays that are given, and what a builder is told of them.

-- A value as flat arrays.

-- A value as polygons of rings of coordinates: a point is a ring of one coordinate or none, a line string a ring, and a multipoint a ring for each member; each but a multipolygon is one polygon. Collections are none.
abbrev pub parts_of : {N : Type 0} → Value N → Option (List (List (List (List N))))
parts_of (Value.point d c) = Some ((option_to_list c ∷ []) ∷ [])
parts_of (Value.line_string d cs) = Some ((cs ∷ []) ∷ [])
parts_of (Value.polygon d rings) = Some (rings ∷ [])
parts_of (Value.multi_point d ps) = Some (map option_to_list ps ∷ [])
parts_of (Value.multi_line_string d ls) = Some (ls ∷ [])
parts_of (Value.multi_polygon d ps) = Some ps
parts_of (Value.collection d vs) = None

-- Lists joined in order.
abbrev pub joined : {A : Type 0} → List (List A) → List A
joined xss = flat_map (λ xs. xs) xss

-- The running totals of the lengths, from n on.
abbrev pub offsets : {A : Type 0} → ℕ → List (List A) → List ℕ
offsets n [] = n ∷ []
offsets n (xs ∷ xss) = n ∷ offsets (n + length xs) xss

-- All numbers of some rings, in order.
abbrev pub numbers_in : {N : Type 0} → List (List (List N)) → List N
numbers_in rings = flat_map joined rings

-- One of these numbers has more units than 64 bits hold, one of them for the sign.
pub record HasLarge (numbers : List ℤ) : Type 0 where
  pub number : ℤ
  pub held : Contains numbers number
  pub large : IsSigned 63 number → ⊥

-- So has one of all the numbers of this value.
abbrev pub HasLargeNumber : Value ℤ → Type 0
HasLargeNumber value = (parts : List (List (List (List ℤ)))) × (parts_of value ≡ Some parts) × HasLarge (numbers_in (joined parts))

-- The arrays of a value don't fit into so many places for numbers, rings and polygons; each of the last two takes one for any value.
abbrev pub LackPlaces : ℕ → ℕ → ℕ → Value ℤ → Type 0
LackPlaces numbers rings polygons value =
    (rings ≡ 0) ⊎ ((polygons ≡ 0) ⊎ ((parts : List (List (List (List ℤ)))) × (parts_of value ≡ Some parts)
    × ((numbers < length (numbers_in (joined parts))) ⊎ ((rings < length (offsets 0 (joined parts))) ⊎ (polygons < length (offsets 0 parts))))))

-- Why a value has no arrays in so many places: they don't fit, it is a collection, or a number is too large.
abbrev pub IsUnheld : ℕ → ℕ → ℕ → Value ℤ → ℕ → Type 0
IsUnheld numbers rings polygons value status =
    ((status ≡ 22) × LackPlaces numbers rings polygons value) ⊎ (((status ≡ 24) × (parts_of value ≡ None)) ⊎ ((status ≡ 25) × HasLargeNumber value))

-- Flat arrays that are given, and what a builder is told of them.

-- The arrays are those of the value, each of whose coordinates has as many numbers as its dimension says: its kind, its dimension, all its numbers in order, where each ring begins among the coordinates, and where each polygon begins among the rings, with the end of the last.
pub record IsGiven (places : ℕ) (g : Given) (value : Value ℤ) : Type 0 where
  pub fits : IsWellFormed (IsUnits places) value
  pub parts : List (List (List (List ℤ)))
  pub flat : parts_of value ≡ Some parts
  pub kind_is : g.kind ≡ kind_of value
  pub dimension_is : g.dimension ≡ dim_of value
  pub numbers_are : g.numbers.now ≡ numbers_in (joined parts)
  pub rings_are : g.rings.now ≡ offsets 0 (joined parts)
  pub polygons_are : g.polygons.now ≡ offsets 0 parts

-- They are those of some value.
abbrev pub AreGiven : ℕ → Given → Type 0
AreGiven places g = (value : Value ℤ) × IsGiven places g value

module _ {N : Type 0} (takes : N → ℕ) where
  -- How much room an event takes, by how much each number takes.
  abbrev pub event_cost : Event N → ℕ
  event_cost (Event.Header p d) = header_cost p
  event_cost (Event.Open p) = 1
  event_cost (Event.Comma p) = 1
  event_cost (Event.Close p) = 1
  event_cost (Event.Empty p) = 6
  event_cost (Event.Number a x) = takes x

  abbrev pub events_cost : List (Event N) → ℕ
  events_cost [] = 0
  events_cost (e ∷ es) = event_cost e + events_cost es

module _ {N B : Type 0} (maker : Maker N B) where
  -- The events were told, and no more room was taken than they take.
  pub record Tells (b : B) (es : List (Event N)) (c : B) : Type 0 where
    pub makes : maker.makes b es c
    pub leaves : Leaves maker b (events_cost (maker.takes b) es) c

-- The parts of a geometry between the offsets of flat arrays. Only private contracts cite these words.

-- So many items, from an index on.
abbrev pub from_on : {A : Type 0} → (ℕ → A) → ℕ → ℕ → List A
from_on item i zero = []
from_on item i (suc n) = item i ∷ from_on item (i + 1) n

-- The items from one index up to another.
abbrev pub up_to : {A : Type 0} → (ℕ → A) → ℕ → ℕ → List A
up_to item from to = from_on item from (to - from)

-- What stands between the offsets of that index and the next.
abbrev pub between : {A : Type 0} → (ℕ → A) → List ℕ → ℕ → List A
between item offs i = up_to item (slice_index offs i) (slice_index offs (i + 1))

-- The coordinate, the ring and the polygon of that index.
abbrev pub coordinate_at : Given → ℕ → List ℤ
coordinate_at g i = take (size g.dimension) (drop (i * size g.dimension) g.numbers.now)

abbrev pub ring_at : Given → ℕ → List (List ℤ)
ring_at g i = between (coordinate_at g) g.rings.now i

abbrev pub polygon_at : Given → ℕ → List (List (List ℤ))
polygon_at g i = between (ring_at g) g.polygons.now i

abbrev pub polygons_in : Given → List (List (List (List ℤ)))
polygons_in g = up_to (polygon_at g) 0 (length g.polygons.now - 1)

-- None is less than the one before it.
abbrev pub Ascend : List ℕ → Type 0
Ascend offs = (i : ℕ) → i + 1 < length offs → slice_index offs i ≤ slice_index offs (i + 1)

-- Each ring has one coordinate at most.
abbrev pub AreRingsOfOne : List ℕ → Type 0
AreRingsOfOne offs = (i : ℕ) → i + 1 < length offs → slice_index offs (i + 1) ≤ slice_index offs i + 1

-- Offsets begin with 0, none is less than the one before it, and the last is `end`.
pub record AreOffsetsTo (offs : List ℕ) (end : ℕ) : Type 0 where
  pub some : 1 ≤ length offs
  pub first : slice_index offs 0 ≡ 0
  pub ascend : Ascend offs
  pub last : slice_index offs (length offs - 1) ≡ end

-- Numbers and offsets of rings and polygons fit each other.
pub record AreWhole (g : Given) : Type 0 where
  pub coordinates : ℕ
  pub numbers : length g.numbers.now ≡ coordinates * size g.dimension
  pub rings : AreOffsetsTo g.rings.now coordinates
  pub polygons : AreOffsetsTo g.polygons.now (length g.rings.now - 1)

-- A geometry of the kind has so many polygons and such rings.
abbrev pub HasPartsOf : GeometryType → Given → Type 0
HasPartsOf kind.Point g = (length g.polygons.now ≡ 2) × (length g.rings.now ≡ 2) × AreRingsOfOne g.rings.now
HasPartsOf kind.LineString g = (length g.polygons.now ≡ 2) × (length g.rings.now ≡ 2)
HasPartsOf kind.Polygon g = length g.polygons.now ≡ 2
HasPartsOf kind.MultiLineString g = length g.polygons.now ≡ 2
HasPartsOf kind.MultiPoint g = (length g.polygons.now ≡ 2) × AreRingsOfOne g.rings.now
HasPartsOf kind.MultiPolygon g = Unit {0}
HasPartsOf kind.GeometryCollection g = ⊥

abbrev pub HasParts : Given → Type 0
HasParts g = HasPartsOf g.kind g
