-- The tree that a geometry is made canonical to.
use Rattle.std.specs.Prelude.{◌≡◌, ◌↔◌, List, [], ◌∷◌, map, Option, None, option_map, slice_get}
use Rattle.wkt_access.specs.declared.dimensions.Dimension.{Dimension}
use Rattle.wkt_access.specs.declared.dimensions.Dimension.TheVariants.{XY, XYZ, XYM, XYZM}
use Rattle.wkt_access.specs.Shapes.{canon}
use Rattle.wkt_types.specs.Held.{numbers_of, Held, HeldPoint}
use Rattle.wkt_types.specs.Tree.{Tree, Trees, point, line_string, polygon, multi_point, multi_line_string, multi_polygon, collection, no_trees, more_trees}
use Rattle.wkt_types.specs.Values.{tree_shape}
use Rattle.wkt_types.specs.declared.coord.Coord.{Coord}

-- The number after x and y, if there is one, and the number after that.
abbrev pub third_number : {T : Type 0} → Coord T → Option T
third_number c = slice_get (numbers_of c) 2

abbrev pub fourth_number : {T : Type 0} → Coord T → Option T
fourth_number c = slice_get (numbers_of c) 3

-- A coordinate under a header: as many of its first numbers as the header has, under the header's letters.
abbrev pub coord_under : {T : Type 0} → Dimension → Coord T → Coord T
coord_under XY c = record { x = c.x; y = c.y; z = None; m = None }
coord_under XYZ c = record { x = c.x; y = c.y; z = third_number c; m = None }
coord_under XYM c = record { x = c.x; y = c.y; z = None; m = third_number c }
coord_under XYZM c = record { x = c.x; y = c.y; z = third_number c; m = fourth_number c }

-- A point under a header, whose dimension it then has.
abbrev pub point_under : {T : Type 0} → Dimension → HeldPoint (Coord T) → HeldPoint (Coord T)
point_under d p = record { coord = option_map (coord_under d) p.coord; dim = d }

-- Parts in order, each under the header, whose dimension all then have.
abbrev pub parts_under : {X : Type 0} → (Dimension → X → X) → Dimension → Held X → Held X
parts_under f d h = record { parts = map (f d) h.parts; dim = d }

-- A line string under a header.
abbrev pub line_under : {T : Type 0} → Dimension → Held (Coord T) → Held (Coord T)
line_under = parts_under coord_under

-- The rings where the exterior has a coordinate, and none where it is lacking or empty.
abbrev pub rings_if : {A : Type 0} → List A → List (Held A) → List (Held A)
rings_if [] rings = []
rings_if (c ∷ cs) rings = rings

abbrev pub rings_written : {A : Type 0} → List (Held A) → List (Held A)
rings_written [] = []
rings_written (r ∷ rs) = rings_if r.parts (r ∷ rs)

-- A polygon under a header: its rings that are written.
abbrev pub polygon_under : {T : Type 0} → Dimension → Held (Held (Coord T)) → Held (Held (Coord T))
polygon_under d y = record { parts = map (line_under d) (rings_written y.parts); dim = d }

abbrev mutual
  -- Each part under its header; a member of a collection has a header of its own.
  pub canonical : {T : Type 0} → Tree T → Tree T
  canonical (point p) = point (point_under p.dim p)
  canonical (line_string l) = line_string (line_under l.dim l)
  canonical (polygon y) = polygon (polygon_under y.dim y)
  canonical (multi_point m) = multi_point (parts_under point_under m.dim m)
  canonical (multi_line_string m) = multi_line_string (parts_under line_under m.dim m)
  canonical (multi_polygon m) = multi_polygon (parts_under polygon_under m.dim m)
  canonical (collection ts d) = collection (canonicals ts) d

  -- The members of a collection, each made canonical.
  pub canonicals : {T : Type 0} → Trees T → Trees T
  canonicals no_trees = no_trees
  canonicals (more_trees t ts) = more_trees (canonical t) (canonicals ts)

-- Two geometries are made one tree exactly if their canonical values are equal.
abbrev pub CanonicalIsOne : Type 0 → Type 0
CanonicalIsOne T = (s t : Tree T) → (canonical s ≡ canonical t) ↔ (canon (tree_shape s) ≡ canon (tree_shape t))
