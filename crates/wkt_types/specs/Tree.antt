-- What a `Wkt` holds: its kind, its dimension and its parts; and how many geometries there are to drop.
use Rattle.std.specs.Prelude.{List, [], ◌∷◌, map, Option, Some, None, ℕ, ◌+◌}
use Rattle.wkt_access.specs.declared.dimensions.Dimension.{Dimension}
use Rattle.wkt_types.specs.Held.{Held, HeldPoint}
use Rattle.wkt_types.specs.declared.coord.Coord.{Coord}
use Rattle.wkt_types.specs.declared.geometry.GeometryCollection.{GeometryCollection, fold-GeometryCollection}
use Rattle.wkt_types.specs.declared.geometry.Wkt.{Wkt, fold-Wkt}
use Rattle.wkt_types.specs.declared.geometry.Wkt.TheOpen.{Wkt-F, GeometryCollection-F}

-- What a `Wkt` holds: its kind, its dimension and its parts.

-- A geometry of one of the seven kinds.
mutual
  pub data Tree (T : Type 0) : Type 0 where
    point : HeldPoint (Coord T) → Tree T
    line_string : Held (Coord T) → Tree T
    polygon : Held (Held (Coord T)) → Tree T
    multi_point : Held (HeldPoint (Coord T)) → Tree T
    multi_line_string : Held (Held (Coord T)) → Tree T
    multi_polygon : Held (Held (Held (Coord T))) → Tree T
    collection : Trees T → Dimension → Tree T

  pub data Trees (T : Type 0) : Type 0 where
    no_trees : Trees T
    more_trees : Tree T → Trees T → Trees T

-- A list of geometries as the members of a collection.
abbrev pub trees_of : {T : Type 0} → List (Tree T) → Trees T
trees_of [] = no_trees
trees_of (t ∷ ts) = more_trees t (trees_of ts)

-- One level of a `Wkt`, each of whose members was seen as its tree.
abbrev pub wkt_step : {T : Type 0} → Wkt-F T (Tree T) (Tree T) → Tree T
wkt_step (Wkt-F.Point p) = point p
wkt_step (Wkt-F.LineString l) = line_string l
wkt_step (Wkt-F.Polygon l) = polygon l
wkt_step (Wkt-F.MultiPoint l) = multi_point l
wkt_step (Wkt-F.MultiLineString l) = multi_line_string l
wkt_step (Wkt-F.MultiPolygon l) = multi_polygon l
wkt_step (Wkt-F.GeometryCollection c) = c

-- One level of a collection, each of whose members was seen as its tree.
abbrev pub collection_step : {T : Type 0} → GeometryCollection-F T (Tree T) (Tree T) → Tree T
collection_step c = collection (trees_of c.geometries.items) c.dim

-- What a `Wkt` holds.
abbrev pub tree : {T : Type 0} → Wkt T → Tree T
tree {T} = fold-Wkt T (Tree T) (Tree T) wkt_step collection_step

-- What a `GeometryCollection` holds.
abbrev pub collection_tree : {T : Type 0} → GeometryCollection T → Tree T
collection_tree {T} = fold-GeometryCollection T (Tree T) (Tree T) wkt_step collection_step

-- What the members of a list hold.
abbrev pub members : {T : Type 0} → List (Wkt T) → Trees T
members ws = trees_of (map tree ws)

-- The dimension of the header.
abbrev pub tree_dim : {T : Type 0} → Tree T → Dimension
tree_dim (point p) = p.dim
tree_dim (line_string l) = l.dim
tree_dim (polygon l) = l.dim
tree_dim (multi_point l) = l.dim
tree_dim (multi_line_string l) = l.dim
tree_dim (multi_polygon l) = l.dim
tree_dim (collection ts d) = d

-- The collection of a list, with the first member's dimension; none of an empty one.
abbrev pub collected : {T : Type 0} → List (Tree T) → Option (Tree T)
collected [] = None
collected (t ∷ ts) = Some (collection (trees_of (t ∷ ts)) (tree_dim t))

-- How many geometries there are to drop. Only private contracts cite these words.

-- How many geometries are in a geometry: in a collection its members, with what is in them.
abbrev mutual
  pub tree_inside : {T : Type 0} → Tree T → ℕ
  tree_inside (collection ts d) = trees_weight ts
  tree_inside _ = 0

  -- The members of a collection together.
  pub trees_weight : {T : Type 0} → Trees T → ℕ
  trees_weight no_trees = 0
  trees_weight (more_trees t ts) = 1 + tree_inside t + trees_weight ts

-- The geometry, with those in it.
abbrev pub tree_weight : {T : Type 0} → Tree T → ℕ
tree_weight t = 1 + tree_inside t

abbrev pub inside : {T : Type 0} → Wkt T → ℕ
inside w = tree_inside (tree w)

-- How many geometries a `Wkt` is, with those in it.
abbrev pub weight : {T : Type 0} → Wkt T → ℕ
weight w = tree_weight (tree w)

-- How many those of a list are.
abbrev pub weights : {T : Type 0} → List (Wkt T) → ℕ
weights ws = trees_weight (members ws)
