-- The flat value of what a `Wkt` holds, or the error by name: z, m and dimensions are dropped, the order is kept, and rings
-- are closed. Outcomes of parts put together, and a geometry as it is looked at, in either direction.
use Rattle.std.specs.Prelude.{List, [], ◌∷◌, map, Bool, Option, Some, None, ℕ, codes, ◌≡◌, Result, Ok, Err}
use Rattle.wkt_types.specs.Outcome.{Outcome, value, refused, mismatched, xy, xy_point, point_or_fault, Answers}
use Rattle.wkt_types.specs.Held.{Held, HeldPoint}
use Rattle.wkt_types.specs.Tree.{Tree, Trees, tree, members}
use Rattle.wkt_types.specs.declared.coord.Coord.{Coord}
use Rattle.wkt_flat.specs.Rings.{Rings, closed_rings, one_ring}
use Rattle.wkt_flat.specs.Tree.{Flat, Flats, flat_tree, flat_members}
use Rattle.wkt_flat.specs.declared.coord.Coord as flat_coord
use Rattle.wkt_flat.specs.declared.point.Point as flat_point
use Rattle.wkt_access.specs.declared.dimensions.Dimension.{Dimension}
use Rattle.wkt_types.specs.declared.convert.ConvertError.{ConvertError}
use Rattle.wkt_types.specs.declared.geometry.Wkt.{Wkt}
use Rattle.wkt_flat.specs.declared.geometry.Geometry.{Geometry}
use Rattle.wkt_convert.specs.Back.{back}
use Rattle.wkt_convert.specs.declared.parts.Piece.{Piece}
use Rattle.wkt_convert.specs.declared.parts.Piece.TheVariants.{Whole, Members}

-- Outcomes of parts put together.

-- The image of the value, or the same error.
abbrev pub outcome_map : {X Y : Type 0} → (X → Y) → Outcome X → Outcome Y
outcome_map f (value x) = value (f x)
outcome_map f (refused k) = refused k

-- Both values, or the first error of two.
abbrev pub outcome_both : {X Y Z : Type 0} → (X → Y → Z) → Outcome X → Outcome Y → Outcome Z
outcome_both f (value x) o = outcome_map (f x) o
outcome_both f (refused k) o = refused k

-- All values of a list, or its first error.
abbrev pub outcomes : {A X : Type 0} → (A → Outcome X) → List A → Outcome (List X)
outcomes f [] = value []
outcomes f (x ∷ xs) = outcome_both (λ y ys. y ∷ ys) (f x) (outcomes f xs)

-- The flat value of what a `Wkt` holds, or the error by name: z, m and dimensions are dropped, the order is kept, and rings are closed.

-- The coordinates of a line string.
abbrev pub sequence : {T : Type 0} → Held (Coord T) → List (flat_coord.Coord T)
sequence l = map xy l.parts

-- The first ring is the exterior, and the rest are interiors; of no rings the exterior is empty.
abbrev pub first_outside : {C : Type 0} → (C → C → Bool) → List (List C) → Rings C
first_outside E [] = one_ring []
first_outside E (r ∷ rs) = closed_rings E r rs

-- The closed rings of a polygon.
abbrev pub rings : {T : Type 0} → (flat_coord.Coord T → flat_coord.Coord T → Bool) → Held (Held (Coord T)) → Rings (flat_coord.Coord T)
rings E y = first_outside E (map sequence y.parts)

-- The points of a multipoint, or the error of its first empty member.
abbrev pub points : {T : Type 0} → List (HeldPoint (Coord T)) → Outcome (List (flat_point.Point T))
points ps = outcomes (λ p. point_or_fault p.coord) ps

-- A point; an empty one is an empty multipoint.
abbrev pub point_or_none : {T : Type 0} → Option (Coord T) → Flat T
point_or_none None = Flat.multi_point []
point_or_none (Some c) = Flat.point (xy_point c)

-- The flat value of each kind.
abbrev mutual
  pub flat : {T : Type 0} → (flat_coord.Coord T → flat_coord.Coord T → Bool) → Tree T → Outcome (Flat T)
  flat E (Tree.point p) = value (point_or_none p.coord)
  flat E (Tree.line_string l) = value (Flat.line_string (sequence l))
  flat E (Tree.polygon y) = value (Flat.polygon (rings E y))
  flat E (Tree.multi_point m) = outcome_map Flat.multi_point (points m.parts)
  flat E (Tree.multi_line_string m) = value (Flat.multi_line_string (map sequence m.parts))
  flat E (Tree.multi_polygon m) = value (Flat.multi_polygon (map (rings E) m.parts))
  flat E (Tree.collection ts d) = outcome_map Flat.collection (flat_all E ts)

  -- The members of a collection, or the first error.
  pub flat_all : {T : Type 0} → (flat_coord.Coord T → flat_coord.Coord T → Bool) → Trees T → Outcome (Flats T)
  flat_all E Trees.no_trees = value Flats.no_flats
  flat_all E (Trees.more_trees t ts) = outcome_both Flats.more_flats (flat E t) (flat_all E ts)

-- The members of a tree that is a collection.
abbrev pub trees_in : {T : Type 0} → Tree T → Trees T
trees_in (Tree.collection ts d) = ts
trees_in _ = Trees.no_trees

-- The plain name of a kind of `Wkt`.
abbrev pub tree_name : {T : Type 0} → Tree T → List ℕ
tree_name (Tree.point p) = codes "Point"
tree_name (Tree.line_string l) = codes "LineString"
tree_name (Tree.polygon y) = codes "Polygon"
tree_name (Tree.multi_point m) = codes "MultiPoint"
tree_name (Tree.multi_line_string m) = codes "MultiLineString"
tree_name (Tree.multi_polygon m) = codes "MultiPolygon"
tree_name (Tree.collection ts d) = codes "GeometryCollection"

-- The flat collection of a tree that is one; of any other the mismatch of names, at once.
abbrev pub flat_collection : {T : Type 0} → (flat_coord.Coord T → flat_coord.Coord T → Bool) → Tree T → Outcome (Flats T)
flat_collection E (Tree.collection ts d) = flat_all E ts
flat_collection E t = refused (mismatched (codes "GeometryCollection") (tree_name t))

-- A geometry as it is looked at, in either direction. Only private contracts cite these words.

-- The flat value of the tree, the members of the collection that it is, or its error; or memory was lacking.
abbrev pub IsPiece : {T : Type 0} → (flat_coord.Coord T → flat_coord.Coord T → Bool) → Tree T → Result (Piece (Wkt T) (Geometry T)) ConvertError → Type 0
IsPiece E t (Ok (Whole g)) = flat E t ≡ value (flat_tree g)
IsPiece E t (Ok (Members ws)) = (d : Dimension) × (t ≡ Tree.collection (members ws.now) d)
IsPiece E t (Err e) = Answers flat_tree (flat E t) (Err e)

-- The `Wkt` of the flat value, or the members of the collection that it is.
abbrev pub IsPieceBack : {T : Type 0} → Flat T → Piece (Geometry T) (Wkt T) → Type 0
IsPieceBack t (Whole w) = tree w ≡ back t
IsPieceBack t (Members gs) = t ≡ Flat.collection (flat_members gs.now)
