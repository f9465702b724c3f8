-- What a value is made of, as events in the order in which its text has them.
use Rattle.std.specs.Prelude.{ℕ, zero, suc, List, [], ◌∷◌, ◌++◌, length, option_to_list, Option}
use Rattle.wkt_access.specs.declared.dimensions.Dimension.{Dimension}
use Rattle.wkt_access.specs.declared.dimensions.Dimension.TheVariants.{XY, XYZ, XYM, XYZM}
use Rattle.wkt_access.specs.Values.{Value, Values}
use Rattle.wkt_machine.specs.declared.part.Part.{Part}
use Rattle.wkt_machine.specs.declared.part.Part.TheVariants as part
use Rattle.wkt_machine.specs.declared.part.Axis.{Axis}
use Rattle.wkt_machine.specs.declared.part.Axis.TheVariants as axis

-- A header, by the part that stands behind it; the parentheses and commas of a part, or a part that is EMPTY; a number of a coordinate.
pub data Event (N : Type 0) : Type 0 where
  Header : Part → Dimension → Event N
  Open : Part → Event N
  Comma : Part → Event N
  Close : Part → Event N
  Empty : Part → Event N
  Number : Axis → N → Event N

-- The number of a coordinate that has so many more after it.
abbrev pub axis_of : Dimension → (more : ℕ) → Axis
axis_of XY zero = axis.Y
axis_of XY more = axis.X
axis_of XYZ zero = axis.Z
axis_of XYZ (suc zero) = axis.Y
axis_of XYZ more = axis.X
axis_of XYM zero = axis.M
axis_of XYM (suc zero) = axis.Y
axis_of XYM more = axis.X
axis_of XYZM zero = axis.M
axis_of XYZM (suc zero) = axis.Z
axis_of XYZM (suc (suc zero)) = axis.Y
axis_of XYZM more = axis.X

-- The numbers of a coordinate.
abbrev pub numbers : {N : Type 0} → Dimension → List N → List (Event N)
numbers d [] = []
numbers d (x ∷ xs) = Event.Number (axis_of d (length xs)) x ∷ numbers d xs

-- Further items of a part, each after a comma, and the parenthesis that closes it.
abbrev pub further : {N A : Type 0} → Part → (A → List (Event N)) → List A → List (Event N)
further p item [] = Event.Close p ∷ []
further p item (x ∷ xs) = Event.Comma p ∷ (item x ++ further p item xs)

-- A part with its items: it is EMPTY where it has none.
abbrev pub listed : {N A : Type 0} → Part → (A → List (Event N)) → List A → List (Event N)
listed p item [] = Event.Empty p ∷ []
listed p item (x ∷ xs) = Event.Open p ∷ (item x ++ further p item xs)

-- A part with its one item, if there is one.
abbrev pub perhaps : {N A : Type 0} → Part → (A → List (Event N)) → Option A → List (Event N)
perhaps p item x = listed p item (option_to_list x)

abbrev mutual
  -- A value as events. A point of a multipoint has its parentheses, as they may be left out in a text.
  pub events : {N : Type 0} → Value N → List (Event N)
  events (Value.point d c) = Event.Header part.Point d ∷ perhaps part.Point (numbers d) c
  events (Value.line_string d cs) = Event.Header part.LineString d ∷ listed part.LineString (numbers d) cs
  events (Value.polygon d rs) = Event.Header part.Polygon d ∷ listed part.Polygon (listed part.Ring (numbers d)) rs
  events (Value.multi_point d ms) = Event.Header part.MultiPoint d ∷ listed part.MultiPoint (perhaps part.Member (numbers d)) ms
  events (Value.multi_line_string d ls) = Event.Header part.MultiLineString d ∷ listed part.MultiLineString (listed part.Line (numbers d)) ls
  events (Value.multi_polygon d ps) = Event.Header part.MultiPolygon d ∷ listed part.MultiPolygon (listed part.Area (listed part.AreaRing (numbers d))) ps
  events (Value.collection d vs) = Event.Header part.Collection d ∷ geometries vs

  -- The members of a collection.
  pub geometries : {N : Type 0} → Values N → List (Event N)
  geometries Values.no_values = Event.Empty part.Collection ∷ []
  geometries (Values.more_values v vs) = Event.Open part.Collection ∷ (events v ++ members vs)

  -- Further members, each after a comma, and the parenthesis that closes the collection.
  pub members : {N : Type 0} → Values N → List (Event N)
  members Values.no_values = Event.Close part.Collection ∷ []
  members (Values.more_values v vs) = Event.Comma part.Collection ∷ (events v ++ members vs)
