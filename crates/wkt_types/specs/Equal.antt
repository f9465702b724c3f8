-- When two values hold the same, tests that are true of equal values alone, and when two trees are the same.
use Rattle.std.proofs.Common.{ap}
use Rattle.std.specs.Prelude.{◌≡◌, refl, Bool, true, false, ◌&&◌, Option, Some, None}
use Rattle.std.specs.Cmp.Lexicographic.{pointwise}
use Rattle.wkt_access.specs.declared.dimensions.Dimension.{Dimension}
use Rattle.wkt_access.specs.declared.dimensions.Dimension.TheVariants.{XY, XYZ, XYM, XYZM}
use Rattle.wkt_flat.specs.Equal.{IsExact, both_exact, pointwise_exact, both, and_true}
use Rattle.wkt_types.specs.Held.{Held, HeldPoint}
use Rattle.wkt_types.specs.declared.coord.Coord.{Coord}
use Rattle.wkt_types.specs.Tree.{Tree, Trees, point, line_string, polygon, multi_point, multi_line_string, multi_polygon, collection, no_trees, more_trees}

-- Tests of what the types hold that are true of equal values alone.

-- Two options hold the same, or nothing both.
abbrev pub option_eq : {K : Type 0} → (K → K → Bool) → Option K → Option K → Bool
option_eq E None None = true
option_eq E None (Some y) = false
option_eq E (Some x) None = false
option_eq E (Some x) (Some y) = E x y

option_only : {K : Type 0} {E : K → K → Bool} → IsExact E → (x y : Option K) → option_eq E x y ≡ true → x ≡ y
option_only e None None h = refl
option_only e None (Some y) h = cc
option_only e (Some x) None h = cc
option_only e (Some x) (Some y) h = ap (λ z. Some z) (e.only x y h)

option_each : {K : Type 0} {E : K → K → Bool} → IsExact E → (x : Option K) → option_eq E x x ≡ true
option_each e None = refl
option_each e (Some x) = e.each x

pub option_exact : {K : Type 0} {E : K → K → Bool} → IsExact E → IsExact (option_eq E)
option_exact e = record { only = option_only e; each = option_each e }

-- Two dimensions are the same.
abbrev pub dim_eq : Dimension → Dimension → Bool
dim_eq XY XY = true
dim_eq XYZ XYZ = true
dim_eq XYM XYM = true
dim_eq XYZM XYZM = true
dim_eq _ _ = false

dim_only : (x y : Dimension) → dim_eq x y ≡ true → x ≡ y
dim_only XY XY h = refl
dim_only XYZ XYZ h = refl
dim_only XYM XYM h = refl
dim_only XYZM XYZM h = refl
dim_only _ _ h = cc

dim_each : (x : Dimension) → dim_eq x x ≡ true
dim_each XY = refl
dim_each _ = refl

pub dim_exact : IsExact dim_eq
dim_exact = record { only = dim_only; each = dim_each }

-- Two lists of parts are the same, and so are the dimensions.
abbrev pub held_eq : {X : Type 0} → (X → X → Bool) → Held X → Held X → Bool
held_eq E a b = pointwise E a.parts b.parts && dim_eq a.dim b.dim

pub held_exact : {X : Type 0} {E : X → X → Bool} → IsExact E → IsExact (held_eq E)
held_exact {X} e = both_exact {X = Held X} (λ h. h.parts) (λ h. h.dim) (λ xs d. record { parts = xs; dim = d }) (λ h. refl) (pointwise_exact e) dim_exact

-- Two points are the same, and so are the dimensions.
abbrev pub held_point_eq : {C : Type 0} → (C → C → Bool) → HeldPoint C → HeldPoint C → Bool
held_point_eq E a b = option_eq E a.coord b.coord && dim_eq a.dim b.dim

pub held_point_exact : {C : Type 0} {E : C → C → Bool} → IsExact E → IsExact (held_point_eq E)
held_point_exact {C} e = both_exact {X = HeldPoint C} (λ p. p.coord) (λ p. p.dim) (λ c d. record { coord = c; dim = d }) (λ p. refl) (option_exact e) dim_exact

-- When two values hold the same.

-- Two coordinates are the same by a test of their numbers.
abbrev pub wkt_coord_eq : {T : Type 0} → (T → T → Bool) → Coord T → Coord T → Bool
wkt_coord_eq E a b = E a.x b.x && (E a.y b.y && (option_eq E a.z b.z && option_eq E a.m b.m))

pub wkt_coord_exact : {T : Type 0} {E : T → T → Bool} → IsExact E → IsExact (wkt_coord_eq E)
wkt_coord_exact {T} e =
    let o = option_exact e in
    let zm = both_exact {X = Option T × Option T} (λ p. p.0) (λ p. p.1) (λ z m. (z, m)) (λ p. refl) o o in
    let yzm = both_exact {X = T × (Option T × Option T)} (λ p. p.0) (λ p. p.1) (λ y p. (y, p)) (λ p. refl) e zm in
    both_exact {X = Coord T} (λ c. c.x) (λ c. (c.y, (c.z, c.m))) (λ x p. record { x = x; y = p.0; z = p.1.0; m = p.1.1 }) (λ c. refl) e yzm

-- Two points, lines or polygons are the same by a test of their numbers.
abbrev pub wkt_point_eq : {T : Type 0} → (T → T → Bool) → HeldPoint (Coord T) → HeldPoint (Coord T) → Bool
wkt_point_eq E = held_point_eq (wkt_coord_eq E)

abbrev pub wkt_line_string_eq : {T : Type 0} → (T → T → Bool) → Held (Coord T) → Held (Coord T) → Bool
wkt_line_string_eq E = held_eq (wkt_coord_eq E)

abbrev pub polygon_eq : {T : Type 0} → (T → T → Bool) → Held (Held (Coord T)) → Held (Held (Coord T)) → Bool
polygon_eq E = held_eq (wkt_line_string_eq E)

pub wkt_point_exact : {T : Type 0} {E : T → T → Bool} → IsExact E → IsExact (wkt_point_eq E)
wkt_point_exact e = held_point_exact (wkt_coord_exact e)

pub wkt_line_string_exact : {T : Type 0} {E : T → T → Bool} → IsExact E → IsExact (wkt_line_string_eq E)
wkt_line_string_exact e = held_exact (wkt_coord_exact e)

pub polygon_exact : {T : Type 0} {E : T → T → Bool} → IsExact E → IsExact (polygon_eq E)
polygon_exact e = held_exact (wkt_line_string_exact e)

-- When two trees are the same.

-- Two trees are the same by a test of their numbers.
abbrev mutual
  pub tree_eq : {T : Type 0} → (T → T → Bool) → Tree T → Tree T → Bool
  tree_eq E (point a) (point b) = wkt_point_eq E a b
  tree_eq E (line_string a) (line_string b) = wkt_line_string_eq E a b
  tree_eq E (polygon a) (polygon b) = polygon_eq E a b
  tree_eq E (multi_point a) (multi_point b) = held_eq (wkt_point_eq E) a b
  tree_eq E (multi_line_string a) (multi_line_string b) = held_eq (wkt_line_string_eq E) a b
  tree_eq E (multi_polygon a) (multi_polygon b) = held_eq (polygon_eq E) a b
  tree_eq E (collection a d) (collection b e) = trees_eq E a b && dim_eq d e
  tree_eq E _ _ = false

  pub trees_eq : {T : Type 0} → (T → T → Bool) → Trees T → Trees T → Bool
  trees_eq E no_trees no_trees = true
  trees_eq E (more_trees a as') (more_trees b bs) = tree_eq E a b && trees_eq E as' bs
  trees_eq E _ _ = false

module _ {T : Type 0} {E : T → T → Bool} (e : IsExact E) where
  mutual
    tree_only : (x y : Tree T) → tree_eq E x y ≡ true → x ≡ y
    tree_only (point a) (point b) h = ap (λ z. point z) ((wkt_point_exact e).only a b h)
    tree_only (line_string a) (line_string b) h = ap (λ z. line_string z) ((wkt_line_string_exact e).only a b h)
    tree_only (polygon a) (polygon b) h = ap (λ z. polygon z) ((polygon_exact e).only a b h)
    tree_only (multi_point a) (multi_point b) h = ap (λ z. multi_point z) ((held_exact (wkt_point_exact e)).only a b h)
    tree_only (multi_line_string a) (multi_line_string b) h = ap (λ z. multi_line_string z) ((held_exact (wkt_line_string_exact e)).only a b h)
    tree_only (multi_polygon a) (multi_polygon b) h = ap (λ z. multi_polygon z) ((held_exact (polygon_exact e)).only a b h)
    tree_only (collection a d) (collection b f) h =
        let p = both (trees_eq E a b) (dim_eq d f) h in
        let x = trees_only a b p.0 in
        let y = dim_exact.only d f p.1 in
        cc
    tree_only _ _ h = cc

    trees_only : (x y : Trees T) → trees_eq E x y ≡ true → x ≡ y
    trees_only no_trees no_trees h = refl
    trees_only (more_trees a as') (more_trees b bs) h =
        let p = both (tree_eq E a b) (trees_eq E as' bs) h in
        let x = tree_only a b p.0 in
        let y = trees_only as' bs p.1 in
        cc
    trees_only _ _ h = cc

  mutual
    tree_each : (x : Tree T) → tree_eq E x x ≡ true
    tree_each (point a) = (wkt_point_exact e).each a
    tree_each (line_string a) = (wkt_line_string_exact e).each a
    tree_each (polygon a) = (polygon_exact e).each a
    tree_each (multi_point a) = (held_exact (wkt_point_exact e)).each a
    tree_each (multi_line_string a) = (held_exact (wkt_line_string_exact e)).each a
    tree_each (multi_polygon a) = (held_exact (polygon_exact e)).each a
    tree_each (collection a d) = and_true (trees_each a) (dim_exact.each d)

    trees_each : (x : Trees T) → trees_eq E x x ≡ true
    trees_each no_trees = refl
    trees_each (more_trees a as') = and_true (tree_each a) (trees_each as')

  pub tree_exact : IsExact (tree_eq E)
  tree_exact = record { only = tree_only; each = tree_each }
