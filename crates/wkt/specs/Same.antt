-- Geometries that have texts to compare, and tests of what is written of two: only private contracts cite the tests.
use Rattle.std.specs.Prelude.{◌≡◌, None, Bool, true, false, ◌&&◌, List, [], ◌∷◌}
use Rattle.std.specs.Cmp.Lexicographic.{pointwise}
use Rattle.wkt_access.specs.Faults.{fault}
use Rattle.wkt_access.specs.WellFormed.{IsLawful}
use Rattle.wkt_access.specs.Shapes.{Shape}
use Rattle.wkt_access.specs.declared.dimensions.Dimension.{Dimension}
use Rattle.wkt_access.specs.declared.dimensions.Dimension.TheVariants.{XY, XYZ, XYM, XYZM}
use Rattle.wkt_types.specs.Held.{Held, HeldPoint}
use Rattle.wkt_types.specs.Canonical.{third_number, fourth_number}
use Rattle.wkt_types.specs.Equal.{option_eq, dim_eq}
use Rattle.wkt_types.specs.Tree.{Tree, Trees, point, line_string, polygon, multi_point, multi_line_string, multi_polygon, collection, no_trees, more_trees}
use Rattle.wkt_types.specs.declared.coord.Coord.{Coord}

-- Geometries that have texts to compare.

-- A shape is written where it has no error, and each of its numbers is a value of the number type.
abbrev pub IsWritable : {N : Type 0} → (N → Type 0) → Shape N → Type 0
IsWritable is_value s = (fault s ≡ None) × IsLawful is_value s

-- Tests of what is written of two geometries: only private contracts cite them.

-- Nothing where the first list is empty.
abbrev pub unless_empty : {A X : Type 0} → List A → List X → List X
unless_empty [] xs = []
unless_empty (c ∷ cs) xs = xs

-- The rings that are written: none where the exterior is lacking or empty.
abbrev pub written_rings : {A : Type 0} → List (Held A) → List (Held A)
written_rings [] = []
written_rings (r ∷ rs) = unless_empty r.parts (r ∷ rs)

module _ {T : Type 0} (E : T → T → Bool) where
  -- Two coordinates are written alike under a header of this dimension, which says how many of their numbers count.
  abbrev pub coord_alike : Dimension → Coord T → Coord T → Bool
  coord_alike XY a b = E a.x b.x && E a.y b.y
  coord_alike XYZ a b = E a.x b.x && (E a.y b.y && option_eq E (third_number a) (third_number b))
  coord_alike XYM a b = E a.x b.x && (E a.y b.y && option_eq E (third_number a) (third_number b))
  coord_alike XYZM a b = E a.x b.x && (E a.y b.y && (option_eq E (third_number a) (third_number b) && option_eq E (fourth_number a) (fourth_number b)))

  -- Two points, lines or polygons are written alike under such a header; their own dimensions aren't looked at.
  abbrev pub point_alike : Dimension → HeldPoint (Coord T) → HeldPoint (Coord T) → Bool
  point_alike d a b = option_eq (coord_alike d) a.coord b.coord

  abbrev pub line_alike : Dimension → Held (Coord T) → Held (Coord T) → Bool
  line_alike d a b = pointwise (coord_alike d) a.parts b.parts

  abbrev pub polygon_alike : Dimension → Held (Held (Coord T)) → Held (Held (Coord T)) → Bool
  polygon_alike d a b = pointwise (line_alike d) (written_rings a.parts) (written_rings b.parts)

  abbrev mutual
    -- Two geometries are written alike.
    pub tree_alike : Tree T → Tree T → Bool
    tree_alike (point a) (point b) = dim_eq a.dim b.dim && point_alike a.dim a b
    tree_alike (line_string a) (line_string b) = dim_eq a.dim b.dim && line_alike a.dim a b
    tree_alike (polygon a) (polygon b) = dim_eq a.dim b.dim && polygon_alike a.dim a b
    tree_alike (multi_point a) (multi_point b) = dim_eq a.dim b.dim && pointwise (point_alike a.dim) a.parts b.parts
    tree_alike (multi_line_string a) (multi_line_string b) = dim_eq a.dim b.dim && pointwise (line_alike a.dim) a.parts b.parts
    tree_alike (multi_polygon a) (multi_polygon b) = dim_eq a.dim b.dim && pointwise (polygon_alike a.dim) a.parts b.parts
    tree_alike (collection a d) (collection b e) = dim_eq d e && trees_alike a b
    tree_alike _ _ = false

    -- The members of two collections are written alike.
    pub trees_alike : Trees T → Trees T → Bool
    trees_alike no_trees no_trees = true
    trees_alike (more_trees a as') (more_trees b bs) = tree_alike a b && trees_alike as' bs
    trees_alike _ _ = false
