-- What events write, and those of a value.
use Rattle.std.specs.Prelude.{ℕ, ◌+◌, List, [], ◌∷◌, ◌++◌, length, take, codes, get_or, Bool, true, false, ◌&&◌, ◌==◌, nat_le, ◌≡◌}
use Rattle.wkt_access.specs.Texts.{suffix, shape_text}
use Rattle.wkt_machine.specs.Events.{Event, events}
use Rattle.wkt_machine.specs.declared.part.Axis.{Axis}
use Rattle.wkt_machine.specs.declared.part.Part.{Part}
use Rattle.wkt_machine.specs.declared.part.Axis.TheVariants as axis
use Rattle.wkt_machine.specs.declared.part.Part.TheVariants as part
use Rattle.wkt_access.specs.Shapes.{shape_of}
use Rattle.wkt_access.specs.Values.{Value}
use Rattle.wkt_access.specs.WellFormed.{IsWellFormed}

-- What events write.

-- What is written, and where in it the parenthesis of the last polygon stands.
pub record EventsWritten : Type 0 where
  pub bytes : List ℕ
  pub polygon : ℕ

-- The word of a whole geometry.
abbrev pub kind_text : Part → List ℕ
kind_text part.Point = codes "POINT"
kind_text part.LineString = codes "LINESTRING"
kind_text part.Polygon = codes "POLYGON"
kind_text part.MultiPoint = codes "MULTIPOINT"
kind_text part.MultiLineString = codes "MULTILINESTRING"
kind_text part.MultiPolygon = codes "MULTIPOLYGON"
kind_text part.Collection = codes "GEOMETRYCOLLECTION"
kind_text p = []

-- A part that is EMPTY: behind a header a space stands before it.
abbrev pub empty_text : Part → List ℕ
empty_text part.Member = codes "EMPTY"
empty_text part.Bare = codes "EMPTY"
empty_text part.Ring = codes "EMPTY"
empty_text part.Line = codes "EMPTY"
empty_text part.Area = codes "EMPTY"
empty_text part.AreaRing = codes "EMPTY"
empty_text p = codes " EMPTY"

-- What stands before a number of a coordinate.
abbrev pub separator : Axis → List ℕ
separator axis.X = []
separator a = codes " "

-- whether the part is a polygon
abbrev pub is_polygon : Part → Bool
is_polygon part.Polygon = true
is_polygon part.Area = true
is_polygon p = false

-- more bytes
abbrev pub added : List ℕ → EventsWritten → EventsWritten
added bs w = record { bytes = w.bytes ++ bs; polygon = w.polygon }

-- whether the first ring of the last polygon is EMPTY: any other begins with a parenthesis
abbrev pub is_hollow : EventsWritten → Bool
is_hollow w = nat_le (w.polygon + 6) (length w.bytes) && get_or w.bytes (w.polygon + 1) 0 == 69

-- the parenthesis of a part, whose place is kept if it is a polygon
abbrev pub opened : Bool → EventsWritten → EventsWritten
opened true w = record { bytes = w.bytes ++ codes "("; polygon = length w.bytes }
opened false w = added (codes "(") w

-- A polygon whose first ring is EMPTY is EMPTY itself: what was written of it is taken back.
abbrev pub polygon_closed : Bool → Part → EventsWritten → EventsWritten
polygon_closed true p w = record { bytes = take w.polygon w.bytes ++ empty_text p; polygon = w.polygon }
polygon_closed false p w = added (codes ")") w

-- the parenthesis that closes a part
abbrev pub closed : Bool → Part → EventsWritten → EventsWritten
closed true p w = polygon_closed (is_hollow w) p w
closed false p w = added (codes ")") w

module _ {N : Type 0} (num : N → List ℕ) where
  -- what is written after an event
  abbrev pub write : Event N → EventsWritten → EventsWritten
  write (Event.Header p d) w = added (kind_text p ++ suffix d) w
  write (Event.Open p) w = opened (is_polygon p) w
  write (Event.Comma p) w = added (codes ",") w
  write (Event.Close p) w = closed (is_polygon p) p w
  write (Event.Empty p) w = added (empty_text p) w
  write (Event.Number a x) w = added (separator a ++ num x) w

  -- and after events, one after another
  abbrev pub write_all : List (Event N) → EventsWritten → EventsWritten
  write_all [] w = w
  write_all (e ∷ es) w = write_all es (write e w)

-- What the events of a value write.

-- The events of a value whose coordinates fit their headers add its canonical text.
abbrev pub WritesTexts : {N : Type 0} → (is_value : N → Type 0) → (num : N → List ℕ) → Type 0
WritesTexts {N} is_value num =
    (v : Value N) (w : EventsWritten) → IsWellFormed is_value v → (write_all num (events v) w).bytes ≡ w.bytes ++ shape_text num (shape_of v)
