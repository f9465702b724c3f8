-- A value of any kind as a list of events and a list of numbers, and what a writer makes of the machine's events.
use Rattle.std.proofs.Common.{refl, ◌∙◌, ap, subst, sym}
use Rattle.std.specs.Prelude.{ℕ, ℤ, ◌+◌, ◌-◌, ◌*◌, ◌^◌, ◌≤◌, ◌≡◌, ◌↔◌, Bool, true, false, if◌then◌else◌, List, [], ◌∷◌, ◌++◌, length, drop, map, flat_map, option_to_list, Option, Some, None, IsUtf8}
use Rattle.wkt_num.specs.Decimal.{read_decimal, IsUnits}
use Rattle.wkt_num.specs.DigitParts.{upper_half, lower_half}
use Rattle.wkt_access.specs.Values.{Value, Values}
use Rattle.wkt_access.specs.WellFormed.{IsWellFormed}
use Rattle.wkt_access.specs.declared.dimensions.Dimension.{Dimension}
use Rattle.wkt_types.specs.declared.geometry_type.GeometryType.{GeometryType}
use Rattle.wkt_read.specs.Front.{Front, HasNoFront}
use Rattle.wkt_machine.specs.Events.{Event}
use Rattle.wkt_machine.specs.Makers.{Maker}
use Rattle.wkt_machine.specs.declared.part.Axis.{Axis}
use Rattle.wkt_machine.specs.declared.part.Part.{Part}
use Rattle.wkt_fill.specs.Arrays.{joined, numbers_in}
use Rattle.wkt_fill.specs.Filled.{counted, kind_of_part}
use Rattle.wkt_fill.specs.declared.units.WktUnits.{WktUnits}
use Rattle.wkt_fill.specs.declared.event_writer.EventWriter.{EventWriter}
use Rattle.wkt_fill.specs.declared.event_writer.EventRoom.{EventRoom}
use Rattle.wkt_fill.specs.declared.front_events.EventCounts.{EventCounts}
use Rattle.wkt_access.specs.declared.dimensions.Dimension.TheVariants as dim
use Rattle.wkt_types.specs.declared.geometry_type.GeometryType.TheVariants as kind
use Rattle.wkt_machine.specs.declared.part.Part.TheVariants as part

-- A value as a list of events and a list of numbers.

abbrev pub kind_index : GeometryType → ℕ
kind_index kind.Point = 0
kind_index kind.LineString = 1
kind_index kind.Polygon = 2
kind_index kind.MultiPoint = 3
kind_index kind.MultiLineString = 4
kind_index kind.MultiPolygon = 5
kind_index kind.GeometryCollection = 6

abbrev pub dimension_index : Dimension → ℕ
dimension_index dim.XY = 0
dimension_index dim.XYZ = 1
dimension_index dim.XYM = 2
dimension_index dim.XYZM = 3

-- The event with which a geometry begins: it says its kind and its dimension.
abbrev pub begins : GeometryType → Dimension → ℕ
begins k d = 2 ^ 63 + 4 * kind_index k + dimension_index d

-- The event with which it ends.
abbrev pub ends : ℕ
ends = 2 ^ 64 - 1

-- What is between them.
abbrev pub whole : GeometryType → Dimension → List ℕ → List ℕ
whole k d es = begins k d ∷ (es ++ ends ∷ [])

abbrev mutual
  -- The events of a value: that it begins; how many coordinates each of its points, line strings and rings has, the polygons of a multipolygon as polygons, and the members of a collection as they are; and that it ends.
  pub event_list : {N : Type 0} → Value N → List ℕ
  event_list (Value.point d c) = whole kind.Point d (length (option_to_list c) ∷ [])
  event_list (Value.line_string d cs) = whole kind.LineString d (length cs ∷ [])
  event_list (Value.polygon d rs) = whole kind.Polygon d (map length rs)
  event_list (Value.multi_point d ms) = whole kind.MultiPoint d (map (λ m. length (option_to_list m)) ms)
  event_list (Value.multi_line_string d ls) = whole kind.MultiLineString d (map length ls)
  event_list (Value.multi_polygon d ps) = whole kind.MultiPolygon d (flat_map (λ rs. whole kind.Polygon d (map length rs)) ps)
  event_list (Value.collection d vs) = whole kind.GeometryCollection d (event_lists vs)

  pub event_lists : {N : Type 0} → Values N → List ℕ
  event_lists Values.no_values = []
  event_lists (Values.more_values v vs) = event_list v ++ event_lists vs

abbrev mutual
  -- All its numbers in order.
  pub number_list : {N : Type 0} → Value N → List N
  number_list (Value.point d c) = joined (option_to_list c)
  number_list (Value.line_string d cs) = joined cs
  number_list (Value.polygon d rs) = numbers_in rs
  number_list (Value.multi_point d ms) = flat_map (λ m. joined (option_to_list m)) ms
  number_list (Value.multi_line_string d ls) = numbers_in ls
  number_list (Value.multi_polygon d ps) = flat_map numbers_in ps
  number_list (Value.collection d vs) = number_lists vs

  pub number_lists : {N : Type 0} → Values N → List N
  number_lists Values.no_values = []
  number_lists (Values.more_values v vs) = number_list v ++ number_lists vs

-- A number in its two halves.
abbrev pub halves : ℤ → WktUnits
halves u = record { low = lower_half u; high = upper_half u }

-- What a writer makes of the machine's events.

-- The lists so far, how many coordinates came since the last list of them ended, and the dimension of the last header.
pub record Told : Type 0 where
  pub list : List ℕ
  pub numbers : List ℤ
  pub coordinates : ℕ
  pub dimension : Dimension

-- Nothing yet.
abbrev pub untold : Told
untold = record { list = []; numbers = []; coordinates = 0; dimension = dim.XY }

abbrev pub add : ℕ → Told → Told
add e w = record { list = w.list ++ (e ∷ []); numbers = w.numbers; coordinates = w.coordinates; dimension = w.dimension }

-- A list of coordinates ends.
abbrev pub end_list : Told → Told
end_list w = record { list = w.list ++ (w.coordinates ∷ []); numbers = w.numbers; coordinates = 0; dimension = w.dimension }

abbrev pub is_area : Part → Bool
is_area part.Area = true
is_area p = false

-- A polygon of a multipolygon begins as a geometry does.
abbrev pub begin_part : Part → Told → Told
begin_part p w = if is_area p then add (begins kind.Polygon w.dimension) w else w

-- A point and a line string end with their coordinates.
abbrev pub end_line : Told → Told
end_line w = add ends (end_list w)

abbrev pub is_line : Part → Bool
is_line part.Point = true
is_line part.LineString = true
is_line p = false

-- So do the points, lines and rings in a geometry, which have no end of their own.
abbrev pub is_inner : Part → Bool
is_inner part.Member = true
is_inner part.Bare = true
is_inner part.Ring = true
is_inner part.Line = true
is_inner part.AreaRing = true
is_inner p = false

abbrev pub end_part : Part → Told → Told
end_part p w = if is_line p then end_line w else (if is_inner p then end_list w else add ends w)

-- The first number of a coordinate begins it.
abbrev pub push : Axis → ℤ → Told → Told
push a x w = record { list = w.list; numbers = w.numbers ++ (x ∷ []); coordinates = counted a w.coordinates; dimension = w.dimension }

abbrev pub begin : Part → Dimension → Told → Told
begin p d w = record { list = w.list ++ (begins (kind_of_part p) d ∷ []); numbers = w.numbers; coordinates = w.coordinates; dimension = d }

abbrev pub tell : Event ℤ → Told → Told
tell (Event.Header p d) w = begin p d w
tell (Event.Open p) w = begin_part p w
tell (Event.Comma p) w = w
tell (Event.Close p) w = end_part p w
tell (Event.Empty p) w = end_part p (begin_part p w)
tell (Event.Number a x) w = push a x w

abbrev pub tell_all : List (Event ℤ) → Told → Told
tell_all [] w = w
tell_all (e ∷ es) w = tell_all es (tell e w)

-- What is in the rooms.

-- A list stands at the front of a room, behind it what was there before, and so many is its length. Where the room is too short, its length is all that is known.
pub record IsAtFront {A : Type 0} (old : List A) (list : List A) (now : List A) (count : ℕ) : Type 0 where
  pub long : length now ≡ length old
  pub counted : count ≡ length list
  pub front : length list ≤ length old → now ≡ list ++ drop (length list) old

-- There are so few of both that they can be counted.
pub record AreFew (w : Told) : Type 0 where
  pub events : length w.list ≤ 2 ^ 64 - 1
  pub numbers : length w.numbers ≤ 2 ^ 64 - 1

pub record HoldsTold (events : List ℕ) (numbers : List WktUnits) (t : EventWriter) (w : Told) : Type 0 where
  pub list : IsAtFront events w.list t.events.now t.event_count
  pub units : IsAtFront numbers (map halves w.numbers) t.numbers.now t.number_count
  pub coordinates : t.coordinates ≡ w.coordinates
  pub fewer : w.coordinates ≤ length w.numbers
  pub dimension : t.dimension ≡ w.dimension

-- In rooms that held these, the writer holds that.
abbrev pub Holds : List ℕ → List WktUnits → EventWriter → Told → Type 0
Holds events numbers t w = AreFew w → HoldsTold events numbers t w

-- What the writer holds has changed so, in the same rooms.
pub record Becomes (f : Told → Told) (s t : EventWriter) : Type 0 where
  pub places : t.places ≡ s.places
  pub events_origin : t.events.ghost_name ≡ s.events.ghost_name
  pub numbers_origin : t.numbers.ghost_name ≡ s.numbers.ghost_name
  pub holds : (events : List ℕ) (numbers : List WktUnits) (w : Told) → Holds events numbers s w → Holds events numbers t (f w)

pub tell-append : (es fs : List (Event ℤ)) (w : Told) → tell_all (es ++ fs) w ≡ tell_all fs (tell_all es w)
tell-append [] fs w = refl
tell-append (e ∷ es) fs w = tell-append es fs (tell e w)

pub becomes_none : (s : EventWriter) → Becomes (tell_all []) s s
becomes_none s = record { places = refl; events_origin = refl; numbers_origin = refl; holds = λ events numbers w h. h }

pub becomes_more : (s t u : EventWriter) (es fs : List (Event ℤ)) → Becomes (tell_all es) s t → Becomes (tell_all fs) t u → Becomes (tell_all (es ++ fs)) s u
becomes_more s t u es fs h k = record {
  places = k.places ∙ h.places;
  events_origin = k.events_origin ∙ h.events_origin;
  numbers_origin = k.numbers_origin ∙ h.numbers_origin;
  holds = λ events numbers w b. subst (Holds events numbers u) (sym (tell-append es fs w)) (k.holds events numbers (tell_all es w) (h.holds events numbers w b));
}

pub becomes_then : (f g : Told → Told) (s t u : EventWriter) → Becomes f s t → Becomes g t u → Becomes (λ w. g (f w)) s u
becomes_then f g s t u h k = record {
  places = k.places ∙ h.places;
  events_origin = k.events_origin ∙ h.events_origin;
  numbers_origin = k.numbers_origin ∙ h.numbers_origin;
  holds = λ events numbers w b. k.holds events numbers (f w) (h.holds events numbers w b);
}

-- What is made is the two lists.
abbrev pub writer_maker : Maker ℤ EventWriter
writer_maker = record {
  makes = λ s es t. Becomes (tell_all es) s t;
  reads = λ s. read_decimal 127 36 s.places;
  fits = λ s n. Unit {0};
  takes = λ s x. 0;
  none = becomes_none;
  more = becomes_more;
  same = λ s t es h. (ap (read_decimal 127 36) h.places, refl);
  less = λ s m n order h. tt;
}

-- The lists of a text's front.

-- Both lists stand at the fronts of their rooms.
pub record HasLists (old new : EventRoom) (events : List ℕ) (numbers : List ℤ) (c : EventCounts) : Type 0 where
  pub list : IsAtFront old.events.now events new.events.now c.events
  pub units : IsAtFront old.numbers.now (map halves numbers) new.numbers.now c.numbers

-- The bytes have a front that ends there, and are UTF-8 if and only if those behind it are; each of its coordinates has as many numbers as its dimension says; and both lists of its value are in the rooms, where they can be counted.
pub record WritesFront (places : ℕ) (text : List ℕ) (old new : EventRoom) (c : EventCounts) : Type 0 where
  pub value : Value ℤ
  pub front : Front (read_decimal 127 36 places) text value c.end
  pub within : c.end ≤ length text
  pub utf8 : IsUtf8 text ↔ IsUtf8 (drop c.end text)
  pub fits : IsWellFormed (IsUnits places) value
  pub lists : length (event_list value) ≤ 2 ^ 64 - 1 → length (number_list value) ≤ 2 ^ 64 - 1 → HasLists old new (event_list value) (number_list value) c

abbrev pub WritesFrontIfAny : ℕ → List ℕ → EventRoom → EventRoom → Option EventCounts → Type 0
WritesFrontIfAny places text old new (Some c) = WritesFront places text old new c
WritesFrontIfAny places text old new None = IsUtf8 text → HasNoFront (read_decimal 127 36 places) text
