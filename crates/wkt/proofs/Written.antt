-- What is written of a geometry, part by part, which the tests of two geometries decide exactly.
use Rattle.std.proofs.Common.{◌≡◌, ℕ, ◌+◌, ◌<◌, ◌≤◌, ◌-◌, refl, ap, sym, ◌∙◌, List, [], ◌∷◌, drop, length, get_or, Bool, true, false, ◌&&◌, nat_eq, add-one, arith, eq-eqb, length-drop, zero, suc, max, ap₂, subst, ◌++◌, map, take, Option, Some, None, option_map, slice_get, ◌↔◌, IsTrue}
use Rattle.std.specs.Prelude.{option_to_list}
use Rattle.std.proofs.lemmas.Bool.Decides.{nat_tests}
use Rattle.std.proofs.Math.Seq.{drop-cons}
use Rattle.std.proofs.lemmas.List.{drop_all}
use Rattle.std.specs.Cmp.Lexicographic.{pointwise}
use Rattle.std.proofs.lemmas.Simd.{map-map}
use Rattle.std.proofs.Math.Bool.{and-true}
use Rattle.wkt_types.specs.Tree.{tree, members, Tree, Trees, point, line_string, polygon, multi_point, multi_line_string, multi_polygon, collection, no_trees, more_trees}
use Rattle.wkt_types.specs.declared.geometry.Wkt.{Wkt}
use Rattle.wkt.specs.Same.{tree_alike, trees_alike, written_rings, coord_alike, point_alike, line_alike, polygon_alike}
use Rattle.wkt_access.specs.declared.dimensions.Dimension.{Dimension}
use Rattle.wkt_access.specs.declared.dimensions.Dimension.TheVariants.{XY, XYZ, XYM, XYZM}
use Rattle.wkt_access.specs.Values.{Value, Values, size}
use Rattle.wkt_access.specs.Shapes.{canon, canons, shapes_of, rings_of, polygon_of}
use Rattle.wkt_access.proofs.Canonical.{header_back}
use Rattle.wkt_flat.specs.Equal.{IsExact, both, and_true, pointwise_exact}
use Rattle.wkt_types.specs.Held.{Held, HeldPoint, numbers_of}
use Rattle.wkt_types.specs.Equal.{option_eq, dim_eq, dim_exact}
use Rattle.wkt_types.specs.Values.{point_numbers, line_string_numbers, polygon_numbers, tree_shape, values_of}
use Rattle.wkt_types.specs.declared.coord.Coord.{Coord}

-- Two lists compared part by part.

differ : (n m : ℕ) → n < m → nat_eq n m ≡ false
differ n m h = grind (arith, nat_tests)

module _ {X : Type 0} (E : X → X → Bool) (as' bs : List X) (i : ℕ) where
  -- what of the lists is still to compare
  abbrev pub left : Bool
  left = pointwise E (drop i as') (drop i bs)

  part_step : (x y : X) → i < length as' → x ≡ get_or as' i x → i < length bs → y ≡ get_or bs i y →
      left ≡ (E x y && pointwise E (drop (i + 1) as') (drop (i + 1) bs))
  part_step x y h e lt f = rw (drop-cons as' i x h, drop-cons bs i y lt, ← e, ← f, add-one) refl

  -- the next parts decide
  pub parts_differ : (x y : X) → i < length as' → x ≡ get_or as' i x → i < length bs → y ≡ get_or bs i y → E x y ≡ false → left ≡ false
  parts_differ x y h e lt f differs = part_step x y h e lt f ∙ ap (λ b. b && pointwise E (drop (i + 1) as') (drop (i + 1) bs)) differs

  -- or they are passed over
  pub parts_agree : (x y : X) → i < length as' → x ≡ get_or as' i x → i < length bs → y ≡ get_or bs i y → E x y ≡ true →
      left ≡ pointwise E (drop (i + 1) as') (drop (i + 1) bs)
  parts_agree x y h e lt f agrees = part_step x y h e lt f ∙ ap (λ b. b && pointwise E (drop (i + 1) as') (drop (i + 1) bs)) agrees

none_short : {X : Type 0} (E : X → X → Bool) (n m : ℕ) (ws : List X) → length ws ≡ m - n → n ≤ m → nat_eq n m ≡ pointwise E [] ws
none_short E n m [] h k = eq-eqb n m (omega (arith, h))
none_short E n m (w ∷ ws) h k = differ n m (omega (arith, h))

pub parts_end : {X : Type 0} (E : X → X → Bool) (as' bs : List X) (i : ℕ) →
    length as' ≤ i → i ≤ length as' → i ≤ length bs → nat_eq (length as') (length bs) ≡ left E as' bs i
parts_end E as' bs i h k l =
    rw (drop_all i as' h)
    (none_short E (length as') (length bs) (drop i bs) (length-drop i bs ∙ ap (λ n. length bs - n) (omega arith)) (omega arith))

-- the members of two collections, part by part
pub members_alike : {T : Type 0} (E : T → T → Bool) (as' bs : List (Wkt T)) →
    trees_alike E (members as') (members bs) ≡ pointwise (λ a b. tree_alike E (tree a) (tree b)) as' bs
members_alike E [] [] = refl
members_alike E [] (b ∷ bs) = refl
members_alike E (a ∷ as') [] = refl
members_alike E (a ∷ as') (b ∷ bs) = ap (λ t. tree_alike E (tree a) (tree b) && t) (members_alike E as' bs)

-- How deep collections are nested: a member is less deep than its collection.

abbrev mutual
  pub depth : {T : Type 0} → Tree T → ℕ
  depth (Tree.point p) = 0
  depth (Tree.line_string l) = 0
  depth (Tree.polygon y) = 0
  depth (Tree.multi_point m) = 0
  depth (Tree.multi_line_string m) = 0
  depth (Tree.multi_polygon m) = 0
  depth (Tree.collection ts d) = suc (deepest ts)

  pub deepest : {T : Type 0} → Trees T → ℕ
  deepest Trees.no_trees = 0
  deepest (Trees.more_trees t ts) = max (depth t) (deepest ts)

pub below_deepest : {T : Type 0} (ws : List (Wkt T)) (i : ℕ) (w : Wkt T) → i < length ws → w ≡ get_or ws i w → depth (tree w) ≤ deepest (members ws)
below_deepest [] i w lt e = absurd (omega arith)
below_deepest (x ∷ ws) zero w lt e = let d : depth (tree x) ≡ depth (tree w) = ap (λ z. depth (tree z)) (sym e) in omega (arith, d)
below_deepest (x ∷ ws) (suc i) w lt e = omega (arith, below_deepest ws i w (omega arith) e)

-- What is written of a geometry, which the tests of two geometries decide exactly.

-- a test that is true exactly where two values look the same
pub record IsTestOf {X V : Type 0} (f : X → V) (E : X → X → Bool) : Type 0 where
  pub only : (x y : X) → E x y ≡ true → f x ≡ f y
  pub each : (x y : X) → f x ≡ f y → E x y ≡ true

lists_only : {X V : Type 0} {f : X → V} {E : X → X → Bool} → IsTestOf f E → (x y : List X) → pointwise E x y ≡ true → map f x ≡ map f y
lists_only e [] [] h = refl
lists_only e [] (y ∷ ys) h = cc
lists_only e (x ∷ xs) [] h = cc
lists_only {f = f} {E = E} e (x ∷ xs) (y ∷ ys) h =
    let p = both (E x y) (pointwise E xs ys) h in
    ap₂ (λ v vs. v ∷ vs) (e.only x y p.0) (lists_only e xs ys p.1)

lists_each : {X V : Type 0} {f : X → V} {E : X → X → Bool} → IsTestOf f E → (x y : List X) → map f x ≡ map f y → pointwise E x y ≡ true
lists_each e [] [] h = refl
lists_each e [] (y ∷ ys) h = cc
lists_each e (x ∷ xs) [] h = cc
lists_each {f = f} {E = E} e (x ∷ xs) (y ∷ ys) h =
    let first : f x ≡ f y = cc in
    let rest : map f xs ≡ map f ys = cc in
    and_true (e.each x y first) (lists_each e xs ys rest)

option_only : {X V : Type 0} {f : X → V} {E : X → X → Bool} → IsTestOf f E → (x y : Option X) → option_eq E x y ≡ true → option_map f x ≡ option_map f y
option_only e None None h = refl
option_only e None (Some y) h = cc
option_only e (Some x) None h = cc
option_only e (Some x) (Some y) h = ap (λ v. Some v) (e.only x y h)

option_each : {X V : Type 0} {f : X → V} {E : X → X → Bool} → IsTestOf f E → (x y : Option X) → option_map f x ≡ option_map f y → option_eq E x y ≡ true
option_each e None None h = refl
option_each e None (Some y) h = cc
option_each e (Some x) None h = cc
option_each {f = f} e (Some x) (Some y) h = let p : f x ≡ f y = cc in e.each x y p

-- the test of one more number, and of two
one_more : {T : Type 0} (E : T → T → Bool) (r s : List T) → option_eq E (slice_get r 0) (slice_get s 0) ≡ pointwise E (take 1 r) (take 1 s)
one_more E [] [] = refl
one_more E [] (q ∷ s) = refl
one_more E (p ∷ r) [] = refl
one_more E (p ∷ r) (q ∷ s) = sym (and-true (E p q))

two_more : {T : Type 0} (E : T → T → Bool) (r s : List T) →
    (option_eq E (slice_get r 0) (slice_get s 0) && option_eq E (slice_get r 1) (slice_get s 1)) ≡ pointwise E (take 2 r) (take 2 s)
two_more E [] [] = refl
two_more E [] (q ∷ s) = refl
two_more E (p ∷ r) [] = refl
two_more E (p ∷ r) (q ∷ s) = ap (λ t. E p q && t) (one_more E r s)

-- the numbers after x and y
abbrev after_y : {T : Type 0} → Coord T → List T
after_y c = option_to_list c.z ++ option_to_list c.m

coord_is : {T : Type 0} (E : T → T → Bool) (d : Dimension) (a b : Coord T) → coord_alike E d a b ≡ pointwise E (take (size d) (numbers_of a)) (take (size d) (numbers_of b))
coord_is E XY a b = ap (λ t. E a.x b.x && t) (sym (and-true (E a.y b.y)))
coord_is E XYZ a b = ap (λ t. E a.x b.x && (E a.y b.y && t)) (one_more E (after_y a) (after_y b))
coord_is E XYM a b = ap (λ t. E a.x b.x && (E a.y b.y && t)) (one_more E (after_y a) (after_y b))
coord_is E XYZM a b = ap (λ t. E a.x b.x && (E a.y b.y && t)) (two_more E (after_y a) (after_y b))

-- what is written of each part under a header
abbrev coord_cut : {T : Type 0} → Dimension → Coord T → List T
coord_cut d c = take (size d) (numbers_of c)

abbrev point_cut : {T : Type 0} → Dimension → HeldPoint (Coord T) → Option (List T)
point_cut d p = option_map (coord_cut d) p.coord

abbrev line_cut : {T : Type 0} → Dimension → Held (Coord T) → List (List T)
line_cut d l = map (coord_cut d) l.parts

abbrev polygon_cut : {T : Type 0} → Dimension → Held (Held (Coord T)) → List (List (List T))
polygon_cut d y = map (line_cut d) (written_rings y.parts)

module _ {T : Type 0} {E : T → T → Bool} (e : IsExact E) (d : Dimension) where
  coord_test : IsTestOf (coord_cut d) (coord_alike E d)
  coord_test = record {
    only = λ a b h. (pointwise_exact e).only _ _ (sym (coord_is E d a b) ∙ h);
    each = λ a b p. coord_is E d a b ∙ subst (λ z. pointwise E (coord_cut d a) z ≡ true) p ((pointwise_exact e).each (coord_cut d a));
  }

  point_test : IsTestOf (point_cut d) (point_alike E d)
  point_test = record { only = λ a b h. option_only coord_test a.coord b.coord h; each = λ a b p. option_each coord_test a.coord b.coord p }

  line_test : IsTestOf (line_cut d) (line_alike E d)
  line_test = record { only = λ a b h. lists_only coord_test a.parts b.parts h; each = λ a b p. lists_each coord_test a.parts b.parts p }

  polygon_test : IsTestOf (polygon_cut d) (polygon_alike E d)
  polygon_test = record {
    only = λ a b h. lists_only line_test (written_rings a.parts) (written_rings b.parts) h;
    each = λ a b p. lists_each line_test (written_rings a.parts) (written_rings b.parts) p;
  }

-- a kind with its dimension
module _ {X V : Type 0} (f : Dimension → X → V) (E : Dimension → X → X → Bool) (e : (d : Dimension) → IsTestOf (f d) (E d)) where
  kind_only : {W : Type 0} (make : Dimension → V → W) (d c : Dimension) (a b : X) → (dim_eq d c && E d a b) ≡ true → make d (f d a) ≡ make c (f c b)
  kind_only make d c a b h =
      let p = both (dim_eq d c) (E d a b) h in
      ap (λ v. make d v) ((e d).only a b p.1) ∙ ap (λ k. make k (f k b)) (dim_exact.only d c p.0)

  kind_each : (d c : Dimension) (a b : X) → d ≡ c → f d a ≡ f c b → (dim_eq d c && E d a b) ≡ true
  kind_each d c a b p q =
      and_true (subst (λ k. dim_eq d k ≡ true) p (dim_exact.each d)) ((e d).each a b (q ∙ ap (λ k. f k b) (sym p)))

-- what is written of a geometry
abbrev mutual
  pub written : {T : Type 0} → Tree T → Value T
  written (point p) = Value.point p.dim (point_cut p.dim p)
  written (line_string l) = Value.line_string l.dim (line_cut l.dim l)
  written (polygon y) = Value.polygon y.dim (polygon_cut y.dim y)
  written (multi_point m) = Value.multi_point m.dim (map (point_cut m.dim) m.parts)
  written (multi_line_string m) = Value.multi_line_string m.dim (map (line_cut m.dim) m.parts)
  written (multi_polygon m) = Value.multi_polygon m.dim (map (polygon_cut m.dim) m.parts)
  written (collection ts d) = Value.collection d (writtens ts)

  pub writtens : {T : Type 0} → Trees T → Values T
  writtens no_trees = Values.no_values
  writtens (more_trees t ts) = Values.more_values (written t) (writtens ts)

module _ {T : Type 0} {E : T → T → Bool} (e : IsExact E) where
  points : (d : Dimension) → IsTestOf (λ (m : Held (HeldPoint (Coord T))). map (point_cut d) m.parts) (λ a b. pointwise (point_alike E d) a.parts b.parts)
  points d = record { only = λ a b h. lists_only (point_test e d) a.parts b.parts h; each = λ a b p. lists_each (point_test e d) a.parts b.parts p }

  lines : (d : Dimension) → IsTestOf (λ (m : Held (Held (Coord T))). map (line_cut d) m.parts) (λ a b. pointwise (line_alike E d) a.parts b.parts)
  lines d = record { only = λ a b h. lists_only (line_test e d) a.parts b.parts h; each = λ a b p. lists_each (line_test e d) a.parts b.parts p }

  polygons : (d : Dimension) → IsTestOf (λ (m : Held (Held (Held (Coord T)))). map (polygon_cut d) m.parts) (λ a b. pointwise (polygon_alike E d) a.parts b.parts)
  polygons d = record { only = λ a b h. lists_only (polygon_test e d) a.parts b.parts h; each = λ a b p. lists_each (polygon_test e d) a.parts b.parts p }

  mutual
    tree_only : (x y : Tree T) → tree_alike E x y ≡ true → written x ≡ written y
    tree_only (point a) (point b) h = kind_only point_cut (point_alike E) (point_test e) Value.point a.dim b.dim a b h
    tree_only (line_string a) (line_string b) h = kind_only line_cut (line_alike E) (line_test e) Value.line_string a.dim b.dim a b h
    tree_only (polygon a) (polygon b) h = kind_only polygon_cut (polygon_alike E) (polygon_test e) Value.polygon a.dim b.dim a b h
    tree_only (multi_point a) (multi_point b) h = kind_only _ _ points Value.multi_point a.dim b.dim a b h
    tree_only (multi_line_string a) (multi_line_string b) h = kind_only _ _ lines Value.multi_line_string a.dim b.dim a b h
    tree_only (multi_polygon a) (multi_polygon b) h = kind_only _ _ polygons Value.multi_polygon a.dim b.dim a b h
    tree_only (collection a d) (collection b c) h =
        let p = both (dim_eq d c) (trees_alike E a b) h in
        ap₂ Value.collection (dim_exact.only d c p.0) (trees_only a b p.1)
    tree_only _ _ h = cc

    trees_only : (x y : Trees T) → trees_alike E x y ≡ true → writtens x ≡ writtens y
    trees_only no_trees no_trees h = refl
    trees_only (more_trees a as') (more_trees b bs) h =
        let p = both (tree_alike E a b) (trees_alike E as' bs) h in
        ap₂ Values.more_values (tree_only a b p.0) (trees_only as' bs p.1)
    trees_only _ _ h = cc

  mutual
    tree_each : (x y : Tree T) → written x ≡ written y → tree_alike E x y ≡ true
    tree_each (point a) (point b) p =
        let d : a.dim ≡ b.dim = cc in let q : point_cut a.dim a ≡ point_cut b.dim b = cc in
        kind_each point_cut (point_alike E) (point_test e) a.dim b.dim a b d q
    tree_each (line_string a) (line_string b) p =
        let d : a.dim ≡ b.dim = cc in let q : line_cut a.dim a ≡ line_cut b.dim b = cc in
        kind_each line_cut (line_alike E) (line_test e) a.dim b.dim a b d q
    tree_each (polygon a) (polygon b) p =
        let d : a.dim ≡ b.dim = cc in let q : polygon_cut a.dim a ≡ polygon_cut b.dim b = cc in
        kind_each polygon_cut (polygon_alike E) (polygon_test e) a.dim b.dim a b d q
    tree_each (multi_point a) (multi_point b) p =
        let d : a.dim ≡ b.dim = cc in let q : map (point_cut a.dim) a.parts ≡ map (point_cut b.dim) b.parts = cc in
        kind_each _ _ points a.dim b.dim a b d q
    tree_each (multi_line_string a) (multi_line_string b) p =
        let d : a.dim ≡ b.dim = cc in let q : map (line_cut a.dim) a.parts ≡ map (line_cut b.dim) b.parts = cc in
        kind_each _ _ lines a.dim b.dim a b d q
    tree_each (multi_polygon a) (multi_polygon b) p =
        let d : a.dim ≡ b.dim = cc in let q : map (polygon_cut a.dim) a.parts ≡ map (polygon_cut b.dim) b.parts = cc in
        kind_each _ _ polygons a.dim b.dim a b d q
    tree_each (collection a d) (collection b c) p =
        let k : d ≡ c = cc in let q : writtens a ≡ writtens b = cc in
        and_true (subst (λ k. dim_eq d k ≡ true) k (dim_exact.each d)) (trees_each a b q)
    tree_each _ _ p = cc

    trees_each : (x y : Trees T) → writtens x ≡ writtens y → trees_alike E x y ≡ true
    trees_each no_trees no_trees p = refl
    trees_each (more_trees a as') (more_trees b bs) p =
        let first : written a ≡ written b = cc in let rest : writtens as' ≡ writtens bs = cc in
        and_true (tree_each a b first) (trees_each as' bs rest)
    trees_each _ _ p = cc

lines_are : {T : Type 0} (k : Dimension) (rs : List (Held (Coord T))) → map (map (take (size k))) (map line_string_numbers rs) ≡ map (line_cut k) rs
lines_are k [] = refl
lines_are k (r ∷ rs) = ap₂ (λ l ls. l ∷ ls) (map-map (take (size k)) numbers_of r.parts) (lines_are k rs)

-- an exterior that is empty, and one that isn't
rings_after : {T : Type 0} (k : Dimension) (cs : List (Coord T)) (d : Dimension) (rs : List (Held (Coord T))) →
    map (map (take (size k))) (rings_of (polygon_of (map numbers_of cs ∷ map line_string_numbers rs)))
    ≡ map (line_cut k) (written_rings (record { parts = cs; dim = d } ∷ rs))
rings_after k [] d rs = refl
rings_after k (c ∷ cs) d rs = lines_are k (record { parts = c ∷ cs; dim = d } ∷ rs)

rings_are : {T : Type 0} (k : Dimension) (rs : List (Held (Coord T))) →
    map (map (take (size k))) (rings_of (polygon_of (map line_string_numbers rs))) ≡ map (line_cut k) (written_rings rs)
rings_are k [] = refl
rings_are k (r ∷ rs) = rings_after k r.parts r.dim rs

polygons_are : {T : Type 0} (k : Dimension) (ys : List (Held (Held (Coord T)))) →
    map (λ p. map (map (take (size k))) (rings_of p)) (map polygon_of (map polygon_numbers ys)) ≡ map (polygon_cut k) ys
polygons_are k [] = refl
polygons_are k (y ∷ ys) = ap₂ (λ p ps. p ∷ ps) (rings_are k y.parts) (polygons_are k ys)

point_is : {T : Type 0} (k : Dimension) (c : Option (Coord T)) → option_map (take (size k)) (option_map numbers_of c) ≡ option_map (coord_cut k) c
point_is k None = refl
point_is k (Some c) = refl

points_are : {T : Type 0} (k : Dimension) (ps : List (HeldPoint (Coord T))) → map (option_map (take (size k))) (map point_numbers ps) ≡ map (point_cut k) ps
points_are k [] = refl
points_are k (p ∷ ps) = ap₂ (λ v vs. v ∷ vs) (point_is k p.coord) (points_are k ps)

-- the canonical value of a geometry is what is written of it
mutual
  pub canon_is : {T : Type 0} (t : Tree T) → canon (tree_shape t) ≡ written t
  canon_is (point p) = ap (λ b. Value.point b (option_map (take (size b)) (point_numbers p))) (header_back p.dim) ∙ ap (Value.point p.dim) (point_is p.dim p.coord)
  canon_is (line_string l) = ap (λ b. Value.line_string b (map (take (size b)) (line_string_numbers l))) (header_back l.dim) ∙ ap (Value.line_string l.dim) (map-map (take (size l.dim)) numbers_of l.parts)
  canon_is (polygon y) = ap (λ b. Value.polygon b (map (map (take (size b))) (rings_of (polygon_of (polygon_numbers y))))) (header_back y.dim) ∙ ap (Value.polygon y.dim) (rings_are y.dim y.parts)
  canon_is (multi_point m) = ap (λ b. Value.multi_point b (map (option_map (take (size b))) (map point_numbers m.parts))) (header_back m.dim) ∙ ap (Value.multi_point m.dim) (points_are m.dim m.parts)
  canon_is (multi_line_string m) = ap (λ b. Value.multi_line_string b (map (map (take (size b))) (map line_string_numbers m.parts))) (header_back m.dim) ∙ ap (Value.multi_line_string m.dim) (lines_are m.dim m.parts)
  canon_is (multi_polygon m) = ap (λ b. Value.multi_polygon b (map (λ p. map (map (take (size b))) (rings_of p)) (map polygon_of (map polygon_numbers m.parts)))) (header_back m.dim) ∙ ap (Value.multi_polygon m.dim) (polygons_are m.dim m.parts)
  canon_is (collection ts d) = ap₂ Value.collection (header_back d) (canons_are ts)

  canons_are : {T : Type 0} (ts : Trees T) → canons (shapes_of (values_of ts)) ≡ writtens ts
  canons_are no_trees = refl
  canons_are (more_trees t ts) = ap₂ Values.more_values (canon_is t) (canons_are ts)

pub reported_alike : {T : Type 0} {E : T → T → Bool} → IsExact E → (s t : Tree T) (b : Bool) → b ≡ tree_alike E s t →
    IsTrue b ↔ (canon (tree_shape s) ≡ canon (tree_shape t))
reported_alike e s t b h =
    (λ y. canon_is s ∙ (tree_only e s t (sym h ∙ y) ∙ sym (canon_is t)), λ p. h ∙ tree_each e s t (sym (canon_is s) ∙ (p ∙ canon_is t)))
