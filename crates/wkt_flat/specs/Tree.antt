-- What a flat geometry holds, closed rings as a fact of all of it, and how many geometries there are to drop.
use Rattle.std.specs.Prelude.{List, [], ◌∷◌, map, ℕ, ◌+◌, ◌≡◌, ◌++◌}
use Rattle.std.specs.List.{AllByRecursion}
use Rattle.wkt_flat.specs.Rings.{Corners, Rings, AreClosed}
use Rattle.wkt_flat.specs.declared.coord.Coord.{Coord}
use Rattle.wkt_flat.specs.declared.point.Point.{Point}
use Rattle.wkt_flat.specs.declared.line.Line.{Line}
use Rattle.wkt_flat.specs.declared.triangle.Triangle.{Triangle}
use Rattle.wkt_flat.specs.declared.geometry.GeometryCollection.{GeometryCollection, fold-GeometryCollection}
use Rattle.wkt_flat.specs.declared.geometry.Geometry.{Geometry, fold-Geometry}
use Rattle.wkt_flat.specs.declared.geometry.Geometry.TheOpen.{Geometry-F, GeometryCollection-F}

-- What a flat geometry holds.

-- A flat geometry of one of the ten kinds.
mutual
  pub data Flat (T : Type 0) : Type 0 where
    point : Point T → Flat T
    line : Line T → Flat T
    line_string : List (Coord T) → Flat T
    polygon : Rings (Coord T) → Flat T
    multi_point : List (Point T) → Flat T
    multi_line_string : List (List (Coord T)) → Flat T
    multi_polygon : List (Rings (Coord T)) → Flat T
    collection : Flats T → Flat T
    rect : Corners T → Flat T
    triangle : Triangle T → Flat T

  pub data Flats (T : Type 0) : Type 0 where
    no_flats : Flats T
    more_flats : Flat T → Flats T → Flats T

-- A list of geometries as the members of a collection.
abbrev pub flats_of : {T : Type 0} → List (Flat T) → Flats T
flats_of [] = no_flats
flats_of (t ∷ ts) = more_flats t (flats_of ts)

-- One level of a geometry, each of whose members was seen as its tree.
abbrev pub geometry_step : {T : Type 0} → Geometry-F T (Flat T) (Flats T) → Flat T
geometry_step (Geometry-F.Point p) = point p
geometry_step (Geometry-F.Line l) = line l
geometry_step (Geometry-F.LineString l) = line_string l
geometry_step (Geometry-F.Polygon y) = polygon y
geometry_step (Geometry-F.MultiPoint m) = multi_point m
geometry_step (Geometry-F.MultiLineString m) = multi_line_string m
geometry_step (Geometry-F.MultiPolygon m) = multi_polygon m
geometry_step (Geometry-F.GeometryCollection c) = collection c
geometry_step (Geometry-F.Rect r) = rect r
geometry_step (Geometry-F.Triangle t) = triangle t

-- One level of a collection, each of whose members was seen as its flat tree.
abbrev pub flats_step : {T : Type 0} → GeometryCollection-F T (Flat T) (Flats T) → Flats T
flats_step c = flats_of c.0.items

-- What a geometry holds.
abbrev pub flat_tree : {T : Type 0} → Geometry T → Flat T
flat_tree {T} = fold-Geometry T (Flat T) (Flats T) geometry_step flats_step

-- What a collection holds.
abbrev pub flat_trees : {T : Type 0} → GeometryCollection T → Flats T
flat_trees {T} = fold-GeometryCollection T (Flat T) (Flats T) geometry_step flats_step

-- What the members of a list hold.
abbrev pub flat_members : {T : Type 0} → List (Geometry T) → Flats T
flat_members gs = flats_of (map flat_tree gs)

-- Closed rings as a fact of a whole flat geometry.

-- Each ring of each polygon is empty or closed, at any depth of collections.
abbrev mutual
  pub HasClosedRings : {T : Type 0} → Flat T → Type 0
  HasClosedRings (point p) = Unit {0}
  HasClosedRings (line l) = Unit {0}
  HasClosedRings (line_string cs) = Unit {0}
  HasClosedRings (polygon y) = AreClosed y.exterior y.interiors
  HasClosedRings (multi_point m) = Unit {0}
  HasClosedRings (multi_line_string m) = Unit {0}
  HasClosedRings (multi_polygon ys) = AllByRecursion (λ y. AreClosed y.exterior y.interiors) ys
  HasClosedRings (collection ts) = HaveClosedRings ts
  HasClosedRings (rect r) = Unit {0}
  HasClosedRings (triangle t) = Unit {0}

  -- Each member of a collection has closed rings alone.
  pub HaveClosedRings : {T : Type 0} → Flats T → Type 0
  HaveClosedRings no_flats = Unit {0}
  HaveClosedRings (more_flats t ts) = HasClosedRings t × HaveClosedRings ts

-- How many geometries there are to drop, and a list that grows. Only private contracts cite these words.

-- How many geometries there are to drop. Only private contracts cite these words.

-- How many geometries a list has, with those inside its members.
abbrev pub total : {A : Type 0} → (A → ℕ) → List A → ℕ
total inside [] = 0
total inside (x ∷ xs) = 1 + inside x + total inside xs

-- How many geometries are in a geometry: in a collection its members, with what is in them.
abbrev mutual
  pub flat_inside : {T : Type 0} → Flat T → ℕ
  flat_inside (collection ts) = flats_weight ts
  flat_inside _ = 0

  -- The members of a collection together.
  pub flats_weight : {T : Type 0} → Flats T → ℕ
  flats_weight no_flats = 0
  flats_weight (more_flats t ts) = 1 + flat_inside t + flats_weight ts

-- The geometry, with those in it.
abbrev pub flat_weight : {T : Type 0} → Flat T → ℕ
flat_weight t = 1 + flat_inside t

abbrev pub inside : {T : Type 0} → Geometry T → ℕ
inside g = flat_inside (flat_tree g)

-- How many geometries a geometry is, with those in it.
abbrev pub weight : {T : Type 0} → Geometry T → ℕ
weight g = flat_weight (flat_tree g)

-- How many those of a list are.
abbrev pub weights : {T : Type 0} → List (Geometry T) → ℕ
weights gs = flats_weight (flat_members gs)

-- A list that grows. Only private contracts cite these words.

-- The new list has one more member at its end, of which the fact holds.
pub record IsOneMore {A : Type 0} (P : A → Type 0) (old new : List A) : Type 0 where
  pub member : A
  pub is : P member
  pub grown : new ≡ old ++ member ∷ []
