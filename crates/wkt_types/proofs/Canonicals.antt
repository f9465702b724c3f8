-- The value of a tree that was made canonical, and that it has one such tree.
use Rattle.std.proofs.Common.{◌≡◌, ℕ, refl, ap, ap₂, sym, subst, ◌∙◌, List, [], ◌∷◌, ◌++◌, map, take, length, Option, Some, None, arith, ◌↔◌}
use Rattle.std.specs.Prelude.{option_map, option_to_list}
use Rattle.std.specs.List.{AllByRecursion}
use Rattle.wkt_access.specs.declared.dimensions.Dimension.{Dimension}
use Rattle.wkt_access.specs.declared.dimensions.Dimension.TheVariants.{XY, XYZ, XYM, XYZM}
use Rattle.wkt_access.specs.Faults.{fault}
use Rattle.wkt_access.specs.Values.{Value, Values, size}
use Rattle.wkt_access.specs.Shapes.{canon, canons, shapes_of, rings_of, polygon_of, header_of, dimension}
use Rattle.wkt_access.specs.WellFormed.{CoordFits, LineStringFits, PolygonFits, PointFits, IsWellFormed, AreWellFormed}
use Rattle.wkt_access.proofs.Canonical.{header_back}
use Rattle.wkt_write.specs.Pieces.{KnownCoord, KnownCoords, KnownPoint, KnownPolygon, Known, AllKnown}
use Rattle.wkt_write.proofs.Writable.{known_well_formed}
use Rattle.wkt_types.specs.Held.{Held, HeldPoint, numbers_of, coord_dim}
use Rattle.wkt_types.specs.Tree.{Tree, Trees, point, line_string, polygon, multi_point, multi_line_string, multi_polygon, collection, no_trees, more_trees}
use Rattle.wkt_types.specs.Values.{value_of, values_of, point_numbers, line_string_numbers, polygon_numbers, tree_shape, HasDim, HasDimIfAny, IsPointIn, IsLineStringIn, IsPolygonIn, IsUniform, AreUniform, IsWktOf}
use Rattle.wkt_types.specs.Canonical.{coord_under, point_under, line_under, rings_written, polygon_under, canonical, canonicals}
use Rattle.wkt_types.specs.declared.coord.Coord.{Coord}

images : {A B : Type 0} (f : A → A) (g : A → B) (h : B → B) → ((x : A) → g (f x) ≡ h (g x)) → (xs : List A) → map g (map f xs) ≡ map h (map g xs)
images f g h e [] = refl
images f g h e (x ∷ xs) = ap₂ (λ y ys. y ∷ ys) (e x) (images f g h e xs)

module _ {T : Type 0} (x y : T) where
  abbrev coord_of : Option T → Option T → Coord T
  coord_of z m = record { x = x; y = y; z = z; m = m }

  cut_by : (d : Dimension) (z m : Option T) → numbers_of (coord_under d (coord_of z m)) ≡ take (size d) (numbers_of (coord_of z m))
  cut_by XY z m = refl
  cut_by _ None None = refl
  cut_by _ None (Some v) = refl
  cut_by _ (Some w) None = refl
  cut_by _ (Some w) (Some v) = refl

  dim_by_count : (d : Dimension) (z m : Option T) → length (numbers_of (coord_under d (coord_of z m))) ≡ size d → coord_dim (coord_under d (coord_of z m)) ≡ d
  dim_by_count XY z m h = refl
  dim_by_count XYZM None (Some v) h = absurd (omega (arith, h))
  dim_by_count XYZM (Some w) None h = absurd (omega (arith, h))
  dim_by_count _ None None h = absurd (omega (arith, h))
  dim_by_count _ None (Some v) h = refl
  dim_by_count _ (Some w) None h = refl
  dim_by_count _ (Some w) (Some v) h = refl

-- the value of each part
module _ {T : Type 0} (d : Dimension) where
  coord_cut : (c : Coord T) → numbers_of (coord_under d c) ≡ take (size d) (numbers_of c)
  coord_cut c = cut_by c.x c.y d c.z c.m

  line_cut : (l : Held (Coord T)) → line_string_numbers (line_under d l) ≡ map (take (size d)) (line_string_numbers l)
  line_cut l = images (coord_under d) numbers_of (take (size d)) coord_cut l.parts

  lines_cut : (ls : List (Held (Coord T))) → map line_string_numbers (map (line_under d) ls) ≡ map (map (take (size d))) (map line_string_numbers ls)
  lines_cut ls = images (line_under d) line_string_numbers (map (take (size d))) line_cut ls

  maybe_cut : (c : Option (Coord T)) → option_map numbers_of (option_map (coord_under d) c) ≡ option_map (take (size d)) (option_map numbers_of c)
  maybe_cut None = refl
  maybe_cut (Some c) = ap (λ l. Some l) (coord_cut c)

  point_cut : (p : HeldPoint (Coord T)) → point_numbers (point_under d p) ≡ option_map (take (size d)) (point_numbers p)
  point_cut p = maybe_cut p.coord

  rings_after : (cs : List (Coord T)) (e : Dimension) (rs : List (Held (Coord T))) →
      map line_string_numbers (map (line_under d) (rings_written (record { parts = cs; dim = e } ∷ rs)))
      ≡ map (map (take (size d))) (rings_of (polygon_of (map line_string_numbers (record { parts = cs; dim = e } ∷ rs))))
  rings_after [] e rs = refl
  rings_after (c ∷ cs) e rs = lines_cut (record { parts = c ∷ cs; dim = e } ∷ rs)

  rings_cut : (rs : List (Held (Coord T))) →
      map line_string_numbers (map (line_under d) (rings_written rs)) ≡ map (map (take (size d))) (rings_of (polygon_of (map line_string_numbers rs)))
  rings_cut [] = refl
  rings_cut (r ∷ rs) = rings_after r.parts r.dim rs

  polygons_cut : (ys : List (Held (Held (Coord T)))) →
      map polygon_numbers (map (polygon_under d) ys) ≡ map (λ p. map (map (take (size d))) (rings_of p)) (map polygon_of (map polygon_numbers ys))
  polygons_cut [] = refl
  polygons_cut (y ∷ ys) = ap₂ (λ a as'. a ∷ as') (rings_cut y.parts) (polygons_cut ys)

-- under the dimension of its header
under_header : {V : Type 0} (make : Dimension → V) (d : Dimension) → make d ≡ make (dimension (header_of d))
under_header make d = ap make (sym (header_back d))

mutual
  pub canonical_value : {T : Type 0} (t : Tree T) → value_of (canonical t) ≡ canon (tree_shape t)
  canonical_value (point p) =
      ap (Value.point p.dim) (point_cut p.dim p) ∙ under_header (λ b. Value.point b (option_map (take (size b)) (point_numbers p))) p.dim
  canonical_value (line_string l) =
      ap (Value.line_string l.dim) (line_cut l.dim l) ∙ under_header (λ b. Value.line_string b (map (take (size b)) (line_string_numbers l))) l.dim
  canonical_value (polygon y) =
      ap (Value.polygon y.dim) (rings_cut y.dim y.parts)
      ∙ under_header (λ b. Value.polygon b (map (map (take (size b))) (rings_of (polygon_of (polygon_numbers y))))) y.dim
  canonical_value (multi_point m) =
      ap (Value.multi_point m.dim) (images (point_under m.dim) point_numbers (option_map (take (size m.dim))) (point_cut m.dim) m.parts)
      ∙ under_header (λ b. Value.multi_point b (map (option_map (take (size b))) (map point_numbers m.parts))) m.dim
  canonical_value (multi_line_string m) =
      ap (Value.multi_line_string m.dim) (lines_cut m.dim m.parts)
      ∙ under_header (λ b. Value.multi_line_string b (map (map (take (size b))) (map line_string_numbers m.parts))) m.dim
  canonical_value (multi_polygon m) =
      ap (Value.multi_polygon m.dim) (polygons_cut m.dim m.parts)
      ∙ under_header (λ b. Value.multi_polygon b (map (λ p. map (map (take (size b))) (rings_of p)) (map polygon_of (map polygon_numbers m.parts)))) m.dim
  canonical_value (collection ts d) = ap₂ Value.collection (sym (header_back d)) (canonicals_value ts)

  canonicals_value : {T : Type 0} (ts : Trees T) → values_of (canonicals ts) ≡ canons (shapes_of (values_of ts))
  canonicals_value no_trees = refl
  canonicals_value (more_trees t ts) = ap₂ Values.more_values (canonical_value t) (canonicals_value ts)

-- parts that are well-formed carry the header's dimension
all_in : {A B : Type 0} (f : A → A) (g : A → B) (F : B → Type 0) (I : A → Type 0) → ((x : A) → F (g (f x)) → I (f x)) → (xs : List A) →
    AllByRecursion F (map g (map f xs)) → AllByRecursion I (map f xs)
all_in f g F I one [] h = tt
all_in f g F I one (x ∷ xs) h = (one x h.0, all_in f g F I one xs h.1)

module _ {T : Type 0} (P : T → Type 0) where
  module _ (d : Dimension) where
    coord_in : (c : Coord T) → CoordFits P d (numbers_of (coord_under d c)) → HasDim d (coord_under d c)
    coord_in c h = dim_by_count c.x c.y d c.z c.m h.1

    line_in : (l : Held (Coord T)) → LineStringFits P d (line_string_numbers (line_under d l)) → IsLineStringIn d (line_under d l)
    line_in l h = (refl, all_in (coord_under d) numbers_of (CoordFits P d) (HasDim d) coord_in l.parts h)

    lines_in : (ls : List (Held (Coord T))) → PolygonFits P d (map line_string_numbers (map (line_under d) ls)) → AllByRecursion (IsLineStringIn d) (map (line_under d) ls)
    lines_in ls h = all_in (line_under d) line_string_numbers (LineStringFits P d) (IsLineStringIn d) line_in ls h

    polygon_in : (y : Held (Held (Coord T))) → PolygonFits P d (polygon_numbers (polygon_under d y)) → IsPolygonIn d (polygon_under d y)
    polygon_in y h = (refl, lines_in (rings_written y.parts) h)

    maybe_in : (c : Option (Coord T)) → PointFits P d (option_map numbers_of (option_map (coord_under d) c)) → HasDimIfAny d (option_map (coord_under d) c)
    maybe_in None h = tt
    maybe_in (Some c) h = coord_in c h

  mutual
    uniform : (t : Tree T) → IsWellFormed P (value_of (canonical t)) → IsUniform (canonical t)
    uniform (point p) h = (refl, maybe_in p.dim p.coord h)
    uniform (line_string l) h = line_in l.dim l h
    uniform (polygon y) h = polygon_in y.dim y h
    uniform (multi_point m) h =
        all_in (point_under m.dim) point_numbers (PointFits P m.dim) (IsPointIn m.dim) (λ p k. (refl, maybe_in m.dim p.coord k)) m.parts h
    uniform (multi_line_string m) h = lines_in m.dim m.parts h
    uniform (multi_polygon m) h = all_in (polygon_under m.dim) polygon_numbers (PolygonFits P m.dim) (IsPolygonIn m.dim) (polygon_in m.dim) m.parts h
    uniform (collection ts d) h = all_uniform ts h

    all_uniform : (ts : Trees T) → AreWellFormed P (values_of (canonicals ts)) → AreUniform (canonicals ts)
    all_uniform no_trees h = tt
    all_uniform (more_trees t ts) h = (uniform t h.0, all_uniform ts h.1)

-- nothing is asked of a number
abbrev Any : {T : Type 0} → T → Type 0
Any n = Unit {0}

every : {A : Type 0} (P : A → Type 0) → ((x : A) → P x) → (xs : List A) → AllByRecursion P xs
every P f [] = tt
every P f (x ∷ xs) = (f x, every P f xs)

module _ {N : Type 0} (k : ℕ) where
  any_coord : (c : List N) → KnownCoord Any k c
  any_coord c = every Any (λ n. tt) (take k c)

  any_coords : (cs : List (List N)) → KnownCoords Any k cs
  any_coords cs = every (KnownCoord Any k) any_coord cs

  any_lines : (ls : List (List (List N))) → AllByRecursion (KnownCoords Any k) ls
  any_lines ls = every (KnownCoords Any k) any_coords ls

mutual
  any_known : {T : Type 0} (t : Tree T) → Known Any (tree_shape t)
  any_known (point p) = any_coords (size (dimension (header_of p.dim))) (option_to_list (point_numbers p))
  any_known (line_string l) = any_coords (size (dimension (header_of l.dim))) (line_string_numbers l)
  any_known (polygon y) = any_lines (size (dimension (header_of y.dim))) (rings_of (polygon_of (polygon_numbers y)))
  any_known (multi_point m) =
      every (KnownPoint Any (size (dimension (header_of m.dim)))) (λ p. any_coords (size (dimension (header_of m.dim))) (option_to_list p)) (map point_numbers m.parts)
  any_known (multi_line_string m) = any_lines (size (dimension (header_of m.dim))) (map line_string_numbers m.parts)
  any_known (multi_polygon m) =
      every (KnownPolygon Any (size (dimension (header_of m.dim)))) (λ p. any_lines (size (dimension (header_of m.dim))) (rings_of p)) (map polygon_of (map polygon_numbers m.parts))
  any_known (collection ts d) = all_known ts

  all_known : {T : Type 0} (ts : Trees T) → AllKnown Any (shapes_of (values_of ts))
  all_known no_trees = tt
  all_known (more_trees t ts) = (any_known t, all_known ts)

-- `into_canonical` makes the geometry that the text of the canonical value is read as
pub canonical_is_read : {T : Type 0} (t : Tree T) → fault (tree_shape t) ≡ None → IsWktOf (canon (tree_shape t)) (canonical t)
canonical_is_read t h =
    let fits = known_well_formed Any (tree_shape t) h (any_known t) in
    record { value = canonical_value t; uniform = uniform Any t (subst (IsWellFormed Any) (sym (canonical_value t)) fits) }

-- images that look the same are the same
images_one : {A B C : Type 0} (f : A → B) (g : B → C) → ((x y : A) → g (f x) ≡ g (f y) → f x ≡ f y) → (xs ys : List A) → map g (map f xs) ≡ map g (map f ys) → map f xs ≡ map f ys
images_one f g one [] [] e = refl
images_one f g one [] (y ∷ ys) e = cc
images_one f g one (x ∷ xs) [] e = cc
images_one f g one (x ∷ xs) (y ∷ ys) e =
    let first : g (f x) ≡ g (f y) = cc in
    let rest : map g (map f xs) ≡ map g (map f ys) = cc in
    ap₂ (λ a as'. a ∷ as') (one x y first) (images_one f g one xs ys rest)

module _ {T : Type 0} where
  abbrev of_numbers : T → T → Option T → Option T → Coord T
  of_numbers x y z m = record { x = x; y = y; z = z; m = m }

  listed : (o p : Option T) → option_to_list o ++ [] ≡ option_to_list p ++ [] → o ≡ p
  listed None None e = refl
  listed None (Some q) e = cc
  listed (Some o) None e = cc
  listed (Some o) (Some q) e = cc

  listed_last : (o p : Option T) → option_to_list o ≡ option_to_list p → o ≡ p
  listed_last None None e = refl
  listed_last None (Some q) e = cc
  listed_last (Some o) None e = cc
  listed_last (Some o) (Some q) e = cc

  both_by : (x y x' y' : T) (z m w n : Option T) → numbers_of (coord_under XYZM (of_numbers x y z m)) ≡ numbers_of (coord_under XYZM (of_numbers x' y' w n)) →
      coord_under XYZM (of_numbers x y z m) ≡ coord_under XYZM (of_numbers x' y' w n)
  both_by x y x' y' None None None None e = cc
  both_by x y x' y' None None None (Some n) e = cc
  both_by x y x' y' None None (Some w) None e = cc
  both_by x y x' y' None None (Some w) (Some n) e = cc
  both_by x y x' y' None (Some m) None None e = cc
  both_by x y x' y' None (Some m) None (Some n) e = cc
  both_by x y x' y' None (Some m) (Some w) None e = cc
  both_by x y x' y' None (Some m) (Some w) (Some n) e = cc
  both_by x y x' y' (Some z) None None None e = cc
  both_by x y x' y' (Some z) None None (Some n) e = cc
  both_by x y x' y' (Some z) None (Some w) None e = cc
  both_by x y x' y' (Some z) None (Some w) (Some n) e = cc
  both_by x y x' y' (Some z) (Some m) None None e = cc
  both_by x y x' y' (Some z) (Some m) None (Some n) e = cc
  both_by x y x' y' (Some z) (Some m) (Some w) None e = cc
  both_by x y x' y' (Some z) (Some m) (Some w) (Some n) e = cc

  coord_one : (d : Dimension) (a b : Coord T) → numbers_of (coord_under d a) ≡ numbers_of (coord_under d b) → coord_under d a ≡ coord_under d b
  coord_one XY a b e =
      let x : a.x ≡ b.x = cc in
      let y : a.y ≡ b.y = cc in
      ap₂ (λ v w. of_numbers v w None None) x y
  coord_one XYZ a b e =
      let x : a.x ≡ b.x = cc in
      let y : a.y ≡ b.y = cc in
      let z = listed (coord_under XYZ a).z (coord_under XYZ b).z cc in
      ap₂ (λ v w. of_numbers v w (coord_under XYZ a).z None) x y ∙ ap (λ o. of_numbers b.x b.y o None) z
  coord_one XYM a b e =
      let x : a.x ≡ b.x = cc in
      let y : a.y ≡ b.y = cc in
      let m = listed_last (coord_under XYM a).m (coord_under XYM b).m cc in
      ap₂ (λ v w. of_numbers v w None (coord_under XYM a).m) x y ∙ ap (λ o. of_numbers b.x b.y None o) m
  coord_one XYZM a b e = both_by a.x a.y b.x b.y a.z a.m b.z b.m e

  maybe_one : (d : Dimension) (a b : Option (Coord T)) → option_map numbers_of (option_map (coord_under d) a) ≡ option_map numbers_of (option_map (coord_under d) b) →
      option_map (coord_under d) a ≡ option_map (coord_under d) b
  maybe_one d None None e = refl
  maybe_one d None (Some b) e = cc
  maybe_one d (Some a) None e = cc
  maybe_one d (Some a) (Some b) e =
      let same : numbers_of (coord_under d a) ≡ numbers_of (coord_under d b) = cc in
      ap (λ c. Some c) (coord_one d a b same)

  point_one : (d : Dimension) (a b : HeldPoint (Coord T)) → point_numbers (point_under d a) ≡ point_numbers (point_under d b) → point_under d a ≡ point_under d b
  point_one d a b e =
      let make : Option (Coord T) → HeldPoint (Coord T) = λ c. record { coord = c; dim = d } in
      ap make (maybe_one d a.coord b.coord e)

  line_one : (d : Dimension) (a b : Held (Coord T)) → line_string_numbers (line_under d a) ≡ line_string_numbers (line_under d b) → line_under d a ≡ line_under d b
  line_one d a b e =
      let make : List (Coord T) → Held (Coord T) = λ c. record { parts = c; dim = d } in
      ap make (images_one (coord_under d) numbers_of (coord_one d) a.parts b.parts e)

  polygon_one : (d : Dimension) (a b : Held (Held (Coord T))) → polygon_numbers (polygon_under d a) ≡ polygon_numbers (polygon_under d b) → polygon_under d a ≡ polygon_under d b
  polygon_one d a b e =
      let make : List (Held (Coord T)) → Held (Held (Coord T)) = λ c. record { parts = c; dim = d } in
      ap make (images_one (line_under d) line_string_numbers (line_one d) (rings_written a.parts) (rings_written b.parts) e)

-- parts in order, under one dimension
held_one : {X V : Type 0} (f : Dimension → X → X) (g : X → V) → ((d : Dimension) (a b : X) → g (f d a) ≡ g (f d b) → f d a ≡ f d b) →
    (d : Dimension) (a b : Held X) → map g (map (f d) a.parts) ≡ map g (map (f d) b.parts) → map (f d) a.parts ≡ map (f d) b.parts
held_one f g one d a b e = images_one (f d) g (one d) a.parts b.parts e

-- one dimension, and then the same parts
whole_one : {X Y V W : Type 0} (f : Dimension → X → Y) (g : Y → V) → ((d : Dimension) (a b : X) → g (f d a) ≡ g (f d b) → f d a ≡ f d b) →
    (make : Dimension → Y → W) (d c : Dimension) (a b : X) → d ≡ c → g (f d a) ≡ g (f c b) → make d (f d a) ≡ make c (f c b)
whole_one f g one make d c a b p e =
    ap (make d) (one d a b (e ∙ ap (λ k. g (f k b)) (sym p))) ∙ ap (λ k. make k (f k b)) p

abbrev whole : {X : Type 0} → Dimension → List X → Held X
whole d xs = record { parts = xs; dim = d }

module _ {T : Type 0} where
  mutual
    value_one : (s t : Tree T) → value_of (canonical s) ≡ value_of (canonical t) → canonical s ≡ canonical t
    value_one (point a) (point b) e =
        let d : a.dim ≡ b.dim = cc in let q : point_numbers (point_under a.dim a) ≡ point_numbers (point_under b.dim b) = cc in
        whole_one point_under point_numbers point_one (λ _ p. point p) a.dim b.dim a b d q
    value_one (line_string a) (line_string b) e =
        let d : a.dim ≡ b.dim = cc in let q : line_string_numbers (line_under a.dim a) ≡ line_string_numbers (line_under b.dim b) = cc in
        whole_one line_under line_string_numbers line_one (λ _ l. line_string l) a.dim b.dim a b d q
    value_one (polygon a) (polygon b) e =
        let d : a.dim ≡ b.dim = cc in let q : polygon_numbers (polygon_under a.dim a) ≡ polygon_numbers (polygon_under b.dim b) = cc in
        whole_one polygon_under polygon_numbers polygon_one (λ _ y. polygon y) a.dim b.dim a b d q
    value_one (multi_point a) (multi_point b) e =
        let d : a.dim ≡ b.dim = cc in let q : map point_numbers (map (point_under a.dim) a.parts) ≡ map point_numbers (map (point_under b.dim) b.parts) = cc in
        whole_one (λ k (m : Held (HeldPoint (Coord T))). map (point_under k) m.parts) (map point_numbers) (held_one point_under point_numbers point_one) (λ k ps. multi_point (whole k ps)) a.dim b.dim a b d q
    value_one (multi_line_string a) (multi_line_string b) e =
        let d : a.dim ≡ b.dim = cc in let q : map line_string_numbers (map (line_under a.dim) a.parts) ≡ map line_string_numbers (map (line_under b.dim) b.parts) = cc in
        whole_one (λ k (m : Held (Held (Coord T))). map (line_under k) m.parts) (map line_string_numbers) (held_one line_under line_string_numbers line_one) (λ k ls. multi_line_string (whole k ls)) a.dim b.dim a b d q
    value_one (multi_polygon a) (multi_polygon b) e =
        let d : a.dim ≡ b.dim = cc in let q : map polygon_numbers (map (polygon_under a.dim) a.parts) ≡ map polygon_numbers (map (polygon_under b.dim) b.parts) = cc in
        whole_one (λ k (m : Held (Held (Held (Coord T)))). map (polygon_under k) m.parts) (map polygon_numbers) (held_one polygon_under polygon_numbers polygon_one) (λ k ys. multi_polygon (whole k ys)) a.dim b.dim a b d q
    value_one (collection a d) (collection b c) e =
        let k : d ≡ c = cc in let q : values_of (canonicals a) ≡ values_of (canonicals b) = cc in
        ap₂ (λ ts n. collection ts n) (values_one a b q) k
    value_one _ _ e = cc

    values_one : (s t : Trees T) → values_of (canonicals s) ≡ values_of (canonicals t) → canonicals s ≡ canonicals t
    values_one no_trees no_trees e = refl
    values_one (more_trees s ss) (more_trees t ts) e =
        let first : value_of (canonical s) ≡ value_of (canonical t) = cc in
        let rest : values_of (canonicals ss) ≡ values_of (canonicals ts) = cc in
        ap₂ more_trees (value_one s t first) (values_one ss ts rest)
    values_one _ _ e = cc

-- two geometries are made the same tree exactly if their canonical values are equal
pub canonical_one : {T : Type 0} (s t : Tree T) → (canonical s ≡ canonical t) ↔ (canon (tree_shape s) ≡ canon (tree_shape t))
canonical_one s t =
    (λ e. sym (canonical_value s) ∙ (ap value_of e ∙ canonical_value t), λ e. value_one s t (canonical_value s ∙ (e ∙ sym (canonical_value t))))
