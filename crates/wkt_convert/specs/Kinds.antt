-- A geometry of any kind as a flat value, and a flat value of one kind asked of it.
use Rattle.std.specs.Prelude.{◌≡◌, ℕ, List, codes, Bool, Result, Option, Some, None}
use Rattle.wkt_types.specs.Outcome.{Outcome, Answers, value, refused, empty_point, mismatched}
use Rattle.wkt_types.specs.Tree.{Tree}
use Rattle.wkt_types.specs.declared.convert.ConvertError.{ConvertError}
use Rattle.wkt_flat.specs.Tree.{Flat, flat_tree, flat_trees}
use Rattle.wkt_flat.specs.declared.coord.Coord.{Coord}
use Rattle.wkt_convert.specs.Flatten.{flat, flat_collection}
use Rattle.wkt_convert.specs.declared.flattened.Found.{Found}
use Rattle.wkt_convert.specs.declared.flattened.Flattened.{Flattened}
use Rattle.wkt_convert.specs.declared.flattened.Flattened.TheVariants.{Collection, RefusedCollection, Other, RefusedMultiPoint}
use Rattle.wkt_convert.specs.declared.flattened.Found.TheVariants as found
use Rattle.wkt_flat.specs.Equal.{coord_eq}
use Rattle.wkt_flat.specs.Rings.{Corners, Rings}
use Rattle.wkt_flat.specs.declared.line.Line.{Line}
use Rattle.wkt_flat.specs.declared.point.Point.{Point}
use Rattle.wkt_flat.specs.declared.triangle.Triangle.{Triangle}

-- What a geometry of any kind is as a flat value: what it answers as a geometry of any kind, and as a collection.

-- the plain name of a kind
abbrev pub found_name : Found → List ℕ
found_name found.Point = codes "Point"
found_name found.LineString = codes "LineString"
found_name found.Polygon = codes "Polygon"
found_name found.MultiPoint = codes "MultiPoint"
found_name found.MultiLineString = codes "MultiLineString"
found_name found.MultiPolygon = codes "MultiPolygon"

-- The flat value of a tree, or why it has none.
abbrev pub IsFlattened : {T : Type 0} → (Coord T → Coord T → Bool) → Tree T → Flattened T → Type 0
IsFlattened E t (Collection c) = (flat E t ≡ value (Flat.collection (flat_trees c))) × (flat_collection E t ≡ value (flat_trees c))
IsFlattened E t RefusedCollection = (flat E t ≡ refused empty_point) × (flat_collection E t ≡ refused empty_point)
IsFlattened E t (Other g kind) = (flat E t ≡ value (flat_tree g)) × (flat_collection E t ≡ refused (mismatched (codes "GeometryCollection") (found_name kind)))
IsFlattened E t RefusedMultiPoint = (flat E t ≡ refused empty_point) × (flat_collection E t ≡ refused (mismatched (codes "GeometryCollection") (codes "MultiPoint")))

-- Whatever tree it is the flat value of, the answer is that tree's outcome.
abbrev pub AnswersAny : {T X R : Type 0} → (Coord T → Coord T → Bool) → Flattened T → (R → X) → (Tree T → Outcome X) → Result R ConvertError → Type 0
AnswersAny {T} E f see turn r = (t : Tree T) → IsFlattened E t f → Answers see (turn t) r

-- A flat value of one kind asked of a geometry of any.

-- The plain name of a flat kind.
abbrev pub flat_name : {T : Type 0} → Flat T → List ℕ
flat_name (Flat.point p) = codes "Point"
flat_name (Flat.line l) = codes "Line"
flat_name (Flat.line_string l) = codes "LineString"
flat_name (Flat.polygon y) = codes "Polygon"
flat_name (Flat.multi_point m) = codes "MultiPoint"
flat_name (Flat.multi_line_string m) = codes "MultiLineString"
flat_name (Flat.multi_polygon m) = codes "MultiPolygon"
flat_name (Flat.collection ts) = codes "GeometryCollection"
flat_name (Flat.rect r) = codes "Rect"
flat_name (Flat.triangle t) = codes "Triangle"

-- What is asked for, or else a mismatch of names.
abbrev pub asked : {X : Type 0} → List ℕ → List ℕ → Option X → Outcome X
asked expected found (Some x) = value x
asked expected found None = refused (mismatched expected found)

-- A flat kind: its plain name, and the content of a value of that kind.
pub record FlatKind (T X : Type 0) : Type 0 where
  pub name : List ℕ
  pub content : Flat T → Option X

-- The content of a flat value that is of the kind asked for; an error of the conversion comes first.
abbrev pub only : {T X : Type 0} → FlatKind T X → Outcome (Flat T) → Outcome X
only kind (value t) = asked kind.name (flat_name t) (kind.content t)
only kind (refused k) = refused k

-- The content of the flat value of a tree, if it is of the kind asked for.
abbrev pub only_flat : {T X : Type 0} → FlatKind T X → (T → T → Bool) → Tree T → Outcome X
only_flat kind E t = only kind (flat (coord_eq E) t)

-- A flat value is answered as one kind: with its content, or refused by name.
abbrev pub IsOfKind : {T X : Type 0} → FlatKind T X → Flat T → Result X ConvertError → Type 0
IsOfKind kind t r = Answers (λ x. x) (only kind (value t)) r

-- The content of each kind, if the value is of that kind.
abbrev pub point_in : {T : Type 0} → Flat T → Option (Point T)
point_in (Flat.point p) = Some p
point_in _ = None

abbrev pub line_in : {T : Type 0} → Flat T → Option (Line T)
line_in (Flat.line l) = Some l
line_in _ = None

abbrev pub line_string_in : {T : Type 0} → Flat T → Option (List (Coord T))
line_string_in (Flat.line_string l) = Some l
line_string_in _ = None

abbrev pub rings_in : {T : Type 0} → Flat T → Option (Rings (Coord T))
rings_in (Flat.polygon y) = Some y
rings_in _ = None

abbrev pub points_in : {T : Type 0} → Flat T → Option (List (Point T))
points_in (Flat.multi_point m) = Some m
points_in _ = None

abbrev pub line_strings_in : {T : Type 0} → Flat T → Option (List (List (Coord T)))
line_strings_in (Flat.multi_line_string m) = Some m
line_strings_in _ = None

abbrev pub polygons_in : {T : Type 0} → Flat T → Option (List (Rings (Coord T)))
polygons_in (Flat.multi_polygon m) = Some m
polygons_in _ = None

abbrev pub corners_in : {T : Type 0} → Flat T → Option (Corners T)
corners_in (Flat.rect r) = Some r
corners_in _ = None

abbrev pub triangle_in : {T : Type 0} → Flat T → Option (Triangle T)
triangle_in (Flat.triangle t) = Some t
triangle_in _ = None

-- The kinds.
abbrev pub point_kind : {T : Type 0} → FlatKind T (Point T)
point_kind = record { name = codes "Point"; content = point_in }

abbrev pub line_kind : {T : Type 0} → FlatKind T (Line T)
line_kind = record { name = codes "Line"; content = line_in }

abbrev pub line_string_kind : {T : Type 0} → FlatKind T (List (Coord T))
line_string_kind = record { name = codes "LineString"; content = line_string_in }

abbrev pub polygon_kind : {T : Type 0} → FlatKind T (Rings (Coord T))
polygon_kind = record { name = codes "Polygon"; content = rings_in }

abbrev pub multi_point_kind : {T : Type 0} → FlatKind T (List (Point T))
multi_point_kind = record { name = codes "MultiPoint"; content = points_in }

abbrev pub multi_line_string_kind : {T : Type 0} → FlatKind T (List (List (Coord T)))
multi_line_string_kind = record { name = codes "MultiLineString"; content = line_strings_in }

abbrev pub multi_polygon_kind : {T : Type 0} → FlatKind T (List (Rings (Coord T)))
multi_polygon_kind = record { name = codes "MultiPolygon"; content = polygons_in }

abbrev pub rect_kind : {T : Type 0} → FlatKind T (Corners T)
rect_kind = record { name = codes "Rect"; content = corners_in }

abbrev pub triangle_kind : {T : Type 0} → FlatKind T (Triangle T)
triangle_kind = record { name = codes "Triangle"; content = triangle_in }
