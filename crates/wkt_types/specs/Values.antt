-- The value of what a `Wkt` holds, and which `Wkt` a value is read as.
use Rattle.std.specs.Prelude.{◌≡◌, List, map, Option, Some, None, option_map}
use Rattle.std.specs.List.{AllByRecursion}
use Rattle.wkt_access.specs.declared.dimensions.Dimension.{Dimension}
use Rattle.wkt_access.specs.Values.{Value, Values}
use Rattle.wkt_access.specs.Shapes.{Shape, shape_of}
use Rattle.wkt_types.specs.Held.{Held, HeldPoint, numbers_of, coord_dim}
use Rattle.wkt_types.specs.Tree.{Tree, Trees, point, line_string, polygon, multi_point, multi_line_string, multi_polygon, collection, no_trees, more_trees}
use Rattle.wkt_types.specs.declared.coord.Coord.{Coord}

-- The numbers of a point, of a line, and of a polygon; the members' own dimensions aren't looked at.
abbrev pub point_numbers : {T : Type 0} → HeldPoint (Coord T) → Option (List T)
point_numbers p = option_map numbers_of p.coord

abbrev pub line_string_numbers : {T : Type 0} → Held (Coord T) → List (List T)
line_string_numbers l = map numbers_of l.parts

abbrev pub polygon_numbers : {T : Type 0} → Held (Held (Coord T)) → List (List (List T))
polygon_numbers y = map line_string_numbers y.parts

-- The value of a tree: its kind, its header's dimension and its numbers.
abbrev mutual
  pub value_of : {T : Type 0} → Tree T → Value T
  value_of (point p) = Value.point p.dim (point_numbers p)
  value_of (line_string l) = Value.line_string l.dim (line_string_numbers l)
  value_of (polygon y) = Value.polygon y.dim (polygon_numbers y)
  value_of (multi_point m) = Value.multi_point m.dim (map point_numbers m.parts)
  value_of (multi_line_string m) = Value.multi_line_string m.dim (map line_string_numbers m.parts)
  value_of (multi_polygon m) = Value.multi_polygon m.dim (map polygon_numbers m.parts)
  value_of (collection ts d) = Value.collection d (values_of ts)

  pub values_of : {T : Type 0} → Trees T → Values T
  values_of no_trees = Values.no_values
  values_of (more_trees t ts) = Values.more_values (value_of t) (values_of ts)

-- The shape of a tree, as the access calls give it: that of its value.
abbrev pub tree_shape : {T : Type 0} → Tree T → Shape T
tree_shape t = shape_of (value_of t)

-- A coordinate has this dimension.
abbrev pub HasDim : {T : Type 0} → Dimension → Coord T → Type 0
HasDim d c = coord_dim c ≡ d

-- A coordinate, if there is one, has this dimension.
abbrev pub HasDimIfAny : {T : Type 0} → Dimension → Option (Coord T) → Type 0
HasDimIfAny d None = Unit {0}
HasDimIfAny d (Some c) = HasDim d c

-- A point, a line and a polygon carry this dimension, and so do all their parts.
abbrev pub IsPointIn : {T : Type 0} → Dimension → HeldPoint (Coord T) → Type 0
IsPointIn d p = (p.dim ≡ d) × HasDimIfAny d p.coord

abbrev pub IsLineStringIn : {T : Type 0} → Dimension → Held (Coord T) → Type 0
IsLineStringIn d l = (l.dim ≡ d) × AllByRecursion (HasDim d) l.parts

abbrev pub IsPolygonIn : {T : Type 0} → Dimension → Held (Held (Coord T)) → Type 0
IsPolygonIn d y = (y.dim ≡ d) × AllByRecursion (IsLineStringIn d) y.parts

-- All parts carry the header's dimension, but the members of a collection each its own.
abbrev mutual
  pub IsUniform : {T : Type 0} → Tree T → Type 0
  IsUniform (point p) = IsPointIn p.dim p
  IsUniform (line_string l) = IsLineStringIn l.dim l
  IsUniform (polygon y) = IsPolygonIn y.dim y
  IsUniform (multi_point m) = AllByRecursion (IsPointIn m.dim) m.parts
  IsUniform (multi_line_string m) = AllByRecursion (IsLineStringIn m.dim) m.parts
  IsUniform (multi_polygon m) = AllByRecursion (IsPolygonIn m.dim) m.parts
  IsUniform (collection ts d) = AreUniform ts

  pub AreUniform : {T : Type 0} → Trees T → Type 0
  AreUniform no_trees = Unit {0}
  AreUniform (more_trees t ts) = IsUniform t × AreUniform ts

-- The tree that a value is read as: it has the value, and all parts carry the header's dimension.
pub record IsWktOf {T : Type 0} (v : Value T) (t : Tree T) : Type 0 where
  pub value : value_of t ≡ v
  pub uniform : IsUniform t
