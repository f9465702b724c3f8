-- The tree of a `Wkt`, kind by kind, and lists of its members: made, replaced, kept and weighed.
use Rattle.std.proofs.Common.{◌≡◌, refl, ap, sym, ◌∙◌, List, [], ◌∷◌, Bool, Some, slice_get, map, ◌<◌, ◌+◌, arith, ℕ, suc, length, get_or, add-one, zero, ◌≤◌, ◌++◌, length-append, slice_set, take, drop, drop_of_length-le, append-nil, ◌==◌, true, false, not, None, Option}
use Rattle.std.proofs.lemmas.List.{length-map, map-set, take-append-drop, take_all}
use Rattle.std.proofs.Math.Dec.{eqb-suc-zero}
use Rattle.std.specs.Iterator.Runs.{Run, WholeRun}
use Rattle.wkt_access.specs.declared.dimensions.Dimension.{Dimension}
use Rattle.wkt_flat.proofs.TreeLemmas.{IsItemwise, get_map, got}
use Rattle.wkt_types.specs.Equal.{tree_eq, trees_eq}
use Rattle.wkt_types.specs.Tree.{collected, tree_dim, multi_line_string, collection, Tree, tree, members, collection_tree, wkt_step, collection_step, trees_of, more_trees, tree_weight, tree_inside, inside, weight, weights, trees_weight}
use Rattle.wkt_types.specs.Held.{Held, HeldPoint, held, first_dim, IsMadeOf, numbers_of}
use Rattle.wkt_types.specs.declared.coord.Coord.{Coord}
use Rattle.wkt_types.specs.declared.geometry.GeometryCollection.{GeometryCollection}
use Rattle.wkt_types.specs.declared.geometry.Wkt.{Wkt}
use Rattle.wkt_types.specs.declared.geometry.Wkt.TheViews as views
use Rattle.wkt_types.specs.declared.geometry.Wkt.TheVariants as variants
use Rattle.wkt_types.specs.declared.geometry.Wkt.TheFolds as folds
use Rattle.wkt_types.specs.declared.geometry.Wkt.TheOpen as opens
use Rattle.wkt_access.specs.Shapes.{Shape, Shapes, header_of, shapes_of, polygon_of}
use Rattle.wkt_access.specs.Parts.{collection_of, gathered, members_of}
use Rattle.wkt_access.proofs.Collections.{whole}
use Rattle.wkt_types.specs.Values.{values_of, tree_shape, point_numbers, line_string_numbers, polygon_numbers}
use Rattle.wkt_flat.specs.Tree.{total}
use Rattle.wkt_types.specs.Canonical.{canonical, canonicals, rings_if, rings_written}

-- The tree of a `Wkt`, kind by kind.

pub tree-collection : {T : Type 0} (c : GeometryCollection T) → tree (views.GeometryCollection c) ≡ collection_tree c
tree-collection {T} c =
    ap tree (sym (variants.rolls-GeometryCollection c))
    ∙ folds.fold-roll-Wkt T (Tree T) (Tree T) wkt_step collection_step (opens.Wkt-F.GeometryCollection c)

pub tree-multi_line_string : {T : Type 0} (x : Held (Held (Coord T))) → tree (variants.MultiLineString x) ≡ multi_line_string x
tree-multi_line_string {T} x =
    ap tree (sym (variants.rolls-MultiLineString x))
    ∙ folds.fold-roll-Wkt T (Tree T) (Tree T) wkt_step collection_step (opens.Wkt-F.MultiLineString x)

pub collected_some : {T : Type 0} (ws : List (Wkt T)) (w : Wkt T) (d : Dimension) → slice_get ws 0 ≡ Some w → d ≡ tree_dim (tree w) →
    Some (collection (members ws) d) ≡ collected (map tree ws)
collected_some [] w d h k = cc
collected_some (v ∷ vs) w d h k =
    let e : v ≡ w = cc in
    let f : d ≡ tree_dim (tree v) = rw e k in
    ap (λ x. Some (collection (members (v ∷ vs)) x)) f

pub tree-members : {T : Type 0} (c : GeometryCollection T) → collection_tree c ≡ collection (members c.geometries.items) c.dim
tree-members {T} c = folds.fold-roll-GeometryCollection T (Tree T) (Tree T) wkt_step collection_step (record { geometries = c.geometries; dim = c.dim })

-- Two lists of geometries are compared member by member.
pub itemwise : {T : Type 0} (E : T → T → Bool) →
    IsItemwise (λ as' bs. trees_eq E (members as') (members bs)) (λ a b. tree_eq E (tree a) (tree b))
itemwise E = record { none = refl; shorter = λ y ys. refl; more = λ x y xs ys. refl }

-- The shape of a collection, by its members.

abbrev pub member_shape : {T : Type 0} → Wkt T → Shape T
member_shape w = tree_shape (tree w)

gathered_members : {T : Type 0} (ws : List (Wkt T)) → shapes_of (values_of (members ws)) ≡ gathered (map member_shape ws)
gathered_members [] = refl
gathered_members (w ∷ ws) = ap (λ ss. Shapes.more_shapes (member_shape w) ss) (gathered_members ws)

module _ {T : Type 0} (c : GeometryCollection T) (ws : List (Wkt T)) (d : Dimension) (h : collection_tree c ≡ collection (members ws) d) where
  pub collection_is : tree_shape (collection_tree c) ≡ collection_of (header_of d) (map member_shape ws)
  collection_is = ap tree_shape h ∙ ap (λ ss. Shape.collection (header_of d) ss) (gathered_members ws)

  -- a geometry that is this collection
  pub geometry_is : (w : Wkt T) → w ≡ views.GeometryCollection c → member_shape w ≡ collection_of (header_of d) (map member_shape ws)
  geometry_is w k = ap (λ v. member_shape v) k ∙ (ap tree_shape (tree-collection c) ∙ collection_is)

-- its header and its members determine a collection
pub reported_whole : {T : Type 0} (c : GeometryCollection T) → collection_of (header_of (tree_dim (collection_tree c))) (members_of (tree_shape (collection_tree c))) ≡ tree_shape (collection_tree c)
reported_whole c =
    let h = tree-members c in
    ap (λ t. collection_of (header_of (tree_dim t)) (members_of (tree_shape (collection_tree c)))) h
    ∙ whole member_shape _ _ _ (collection_is c c.geometries.items c.dim h)

-- What a collection weighs, and what is inside it, by its members.

pub opened : {T : Type 0} (w : Wkt T) (c : GeometryCollection T) (ws : List (Wkt T)) (d : Dimension) →
    w ≡ views.GeometryCollection c → collection_tree c ≡ collection (members ws) d → weight w ≡ 1 + weights ws
opened w c ws d is holds = ap (λ w. weight w) is ∙ (ap tree_weight (tree-collection c) ∙ ap tree_weight holds)

pub at_least_one : {T : Type 0} (w : Wkt T) → 0 < weight w
at_least_one w = omega arith

-- The total of a list is what its members weigh as those of a collection.
totalled : {T : Type 0} (ws : List (Wkt T)) → total inside ws ≡ weights ws
totalled [] = refl
totalled (w ∷ ws) = ap (λ n. 1 + inside w + n) (totalled ws)

pub inside_opened : {T : Type 0} (w : Wkt T) (c : GeometryCollection T) (ws : List (Wkt T)) (d : Dimension) →
    w ≡ views.GeometryCollection c → collection_tree c ≡ collection (members ws) d → inside w ≡ total inside ws
inside_opened w c ws d is holds = ap (λ w. inside w) is ∙ (ap tree_inside (tree-collection c) ∙ (ap tree_inside holds ∙ sym (totalled ws)))

-- A member of a list, seen as its numbers.

-- a part that stands in a list, as it is seen
pub part_is : {X Y : Type 0} (f : X → Y) (xs ys : List X) (i : ℕ) (x : X) → i < length (map f xs) → ys ≡ xs → x ≡ get_or ys i x → slice_get (map f xs) i ≡ Some (f x)
part_is f xs ys i x h same e = let n = length-map xs f in get_map f xs i x (got xs i x (omega (arith, n, h)) (e ∙ ap (λ l. get_or l i x) same))

pub coord_is : {T : Type 0} (xs ys : List (Coord T)) (i : ℕ) (x : Coord T) → i < length (map numbers_of xs) → ys ≡ xs → x ≡ get_or ys i x → slice_get (map numbers_of xs) i ≡ Some (numbers_of x)
coord_is xs ys i x h same e = part_is numbers_of xs ys i x h same e

pub point_is : {T : Type 0} (xs ys : List (HeldPoint (Coord T))) (i : ℕ) (x : HeldPoint (Coord T)) → i < length (map point_numbers xs) → ys ≡ xs → x ≡ get_or ys i x → slice_get (map point_numbers xs) i ≡ Some (point_numbers x)
point_is xs ys i x h same e = part_is point_numbers xs ys i x h same e

interior_at : {T : Type 0} (rs : List (Held (Coord T))) (i : ℕ) (r : Held (Coord T)) → i < length (polygon_of (map line_string_numbers rs)).interiors → r ≡ get_or rs (suc i) r → slice_get (polygon_of (map line_string_numbers rs)).interiors i ≡ Some (line_string_numbers r)
interior_at [] i r h e = absurd (omega arith)
interior_at (x ∷ rs) i r h e = let n = length-map rs line_string_numbers in get_map line_string_numbers rs i r (got rs i r (omega (arith, n)) e)

pub interior_is : {T : Type 0} (rs : List (Held (Coord T))) (i : ℕ) (r : Held (Coord T)) → i < length (polygon_of (map line_string_numbers rs)).interiors → r ≡ get_or rs (i + 1) r → slice_get (polygon_of (map line_string_numbers rs)).interiors i ≡ Some (line_string_numbers r)
interior_is rs i r h e = interior_at rs i r h (rw add-one at e)

pub polygon_is : {T : Type 0} (ys : List (Held (Held (Coord T)))) (i : ℕ) (y : Held (Held (Coord T))) → i < length (map polygon_of (map polygon_numbers ys)) → y ≡ get_or ys i y → slice_get (map polygon_of (map polygon_numbers ys)) i ≡ Some (polygon_of (polygon_numbers y))
polygon_is ys i y h e =
    let n = length-map (map polygon_numbers ys) polygon_of in
    let m = length-map ys polygon_numbers in
    get_map polygon_of (map polygon_numbers ys) i (polygon_numbers y) (get_map polygon_numbers ys i y (got ys i y (omega (arith, n, m)) e))

-- Lists whose items are replaced one by one, each by its image.

module _ {X : Type 0} (f : X → X) where
  -- the first i items are replaced
  abbrev pub replaced : ℕ → List X → List X
  replaced i xs = map f (take i xs) ++ drop i xs

  next : (xs : List X) (i : ℕ) (x y : X) → i < length xs → x ≡ get_or (replaced i xs) i x → y ≡ f x →
      slice_set (replaced i xs) i y ≡ replaced (suc i) xs
  next [] i x y h e k = absurd (omega arith)
  next (w ∷ xs) zero x y h e k = ap (λ z. z ∷ xs) (k ∙ ap f e)
  next (w ∷ xs) (suc i) x y h e k = ap (λ zs. f w ∷ zs) (next xs i x y (omega arith) e k)

  -- one more is
  pub replaced_next : (xs ys : List X) (i : ℕ) (x y : X) → i < length xs → ys ≡ replaced i xs → x ≡ get_or ys i x → y ≡ f x →
      slice_set ys i y ≡ replaced (i + 1) xs
  replaced_next xs ys i x y h e g k =
      ap (λ l. slice_set l i y) e ∙ (next xs i x y h (g ∙ ap (λ l. get_or l i x) e) k ∙ ap (λ n. replaced n xs) (sym (add-one i)))

  at_next : (xs : List X) (i : ℕ) (x : X) → i < length xs → x ≡ get_or (replaced i xs) i x → x ≡ get_or xs i x
  at_next [] i x h e = absurd (omega arith)
  at_next (w ∷ xs) zero x h e = e
  at_next (w ∷ xs) (suc i) x h e = at_next xs i x (omega arith) e

  -- the next item isn't replaced yet
  pub still_there : (xs ys : List X) (i : ℕ) (x : X) → i < length xs → ys ≡ replaced i xs → x ≡ get_or ys i x → x ≡ get_or xs i x
  still_there xs ys i x h e g = at_next xs i x h (g ∙ ap (λ l. get_or l i x) e)

  pub length_same : (xs : List X) (i : ℕ) → length (replaced i xs) ≡ length xs
  length_same xs i = omega (arith, length-append (map f (take i xs)) (drop i xs), length-map (take i xs) f, ap length (take-append-drop i xs), length-append (take i xs) (drop i xs))

  -- all are
  pub all_replaced : (xs : List X) (i : ℕ) → length xs ≤ i → replaced i xs ≡ map f xs
  all_replaced xs i h =
      ap (λ ys. map f ys ++ drop i xs) (take_all i xs h) ∙ (ap (λ ys. map f xs ++ ys) (drop_of_length-le xs {i = i} h) ∙ append-nil (map f xs))

set_twice : {X : Type 0} (xs : List X) (i : ℕ) (a b : X) → slice_set (slice_set xs i a) i b ≡ slice_set xs i b
set_twice [] i a b = refl
set_twice (x ∷ xs) zero a b = refl
set_twice (x ∷ xs) (suc i) a b = ap (λ zs. x ∷ zs) (set_twice xs i a b)

-- an item was taken off, and another put in its place
pub put_back : {T : Type 0} (ws : List (Wkt T)) (i : ℕ) (nothing w : Wkt T) →
    map tree (slice_set (slice_set ws i nothing) i w) ≡ slice_set (map tree ws) i (tree w)
put_back ws i nothing w = ap (λ l. map tree l) (set_twice ws i nothing w) ∙ map-set tree ws i w

at_map : {X Y : Type 0} (f : X → Y) (xs : List X) (i : ℕ) (x : X) → x ≡ get_or xs i x → f x ≡ get_or (map f xs) i (f x)
at_map f [] i x e = refl
at_map f (y ∷ xs) zero x e = ap f e
at_map f (y ∷ xs) (suc i) x e = at_map f xs i x e

pub tree_at : {T : Type 0} (ws : List (Wkt T)) (i : ℕ) (w : Wkt T) → w ≡ get_or ws i w → tree w ≡ get_or (map tree ws) i (tree w)
tree_at ws i w e = at_map tree ws i w e

within : {T : Type 0} (ts : List (Tree T)) (i : ℕ) (t : Tree T) → i < length ts → t ≡ get_or ts i t → tree_weight t ≤ trees_weight (trees_of ts)
within [] i t h e = absurd (omega arith)
within (s ∷ ts) zero t h e = let k : tree_weight t ≡ tree_weight s = ap (λ z. tree_weight z) e in omega (arith, k)
within (s ∷ ts) (suc i) t h e = let k : tree_weight t ≤ trees_weight (trees_of ts) = within ts i t (omega arith) e in omega (arith, k)

-- a member that waits weighs no more than all of them did
pub waiting_within : {T : Type 0} (all now : List (Wkt T)) (i : ℕ) (w : Wkt T) → i < length all →
    map tree now ≡ replaced canonical i (map tree all) → w ≡ get_or now i w → weight w ≤ weights all
waiting_within all now i w h e g =
    let n = length-map all tree in
    within (map tree all) i (tree w) (omega (arith, n)) (still_there canonical (map tree all) (map tree now) i (tree w) (omega (arith, n)) e (tree_at now i w g))

-- the members of a collection, each made canonical
pub members_canonical : {T : Type 0} (ts : List (Tree T)) → trees_of (map canonical ts) ≡ canonicals (trees_of ts)
members_canonical [] = refl
members_canonical (t ∷ ts) = ap (λ s. more_trees (canonical t) s) (members_canonical ts)

-- The rings of a polygon that are kept, by a test of its exterior.

abbrev pub kept : {R : Type 0} → Bool → List R → List R
kept true rings = rings
kept false rings = []

by_parts : {A : Type 0} (cs : List A) (rings : List (Held A)) → kept (not (length cs == 0)) rings ≡ rings_if cs rings
by_parts [] rings = refl
by_parts (c ∷ cs) rings = ap (λ b. kept (not b) rings) (eqb-suc-zero (length cs))

-- the exterior was found, and tested
pub kept_some : {A : Type 0} (rings : List (Held A)) (r : Held A) (written : Bool) →
    Some r ≡ slice_get rings 0 → written ≡ not (length r.parts == 0) → kept written rings ≡ rings_written rings
kept_some [] r written h e = cc
kept_some (s ∷ rings) r written h e =
    let same : r ≡ s = cc in
    ap (λ b. kept b (s ∷ rings)) (e ∙ ap (λ t. not (length t.parts == 0)) same) ∙ by_parts s.parts (s ∷ rings)

-- there was none
pub kept_none : {A : Type 0} (rings : List (Held A)) (written : Bool) → None ≡ slice_get rings 0 → written ≡ false → kept written rings ≡ rings_written rings
kept_none [] written h e = ap (λ b. kept b []) e
kept_none (s ∷ rings) written h e = cc

-- What is made of all items of an iterator, with the dimension of the first.

pub first_none : {X : Type 0} (xs : List X) → None ≡ slice_get xs 0 → xs ≡ []
first_none [] h = refl
first_none (x ∷ xs) h = cc

first_dim_some : {X : Type 0} (f : X → Dimension) (xs : List X) (x : X) → Some x ≡ slice_get xs 0 → Some (f x) ≡ first_dim f xs
first_dim_some f [] x h = cc
first_dim_some f (y ∷ ys) x h = let e : y ≡ x = cc in rw e refl

-- `all` are the items that were collected, and `seen` is the list whose first item was looked at.
module _ {S X : Type 0} {steps : S → Option X → S → Type 0} {s : S} {R : Run steps → Type 0} (f : X → Dimension) (all seen : List X) where
  pub made_none : WholeRun steps s (λ p. (all ≡ p.items) × R p) → seen ≡ all → None ≡ slice_get seen 0 →
      WholeRun steps s (λ p. IsMadeOf f p.items None)
  made_none h is none = (h.0, h.1, h.2, sym h.3.0 ∙ (sym is ∙ first_none seen none))

  pub made_some : WholeRun steps s (λ p. (all ≡ p.items) × R p) → seen ≡ all → (x : X) (d : Dimension) → Some x ≡ slice_get seen 0 → d ≡ f x →
      WholeRun steps s (λ p. IsMadeOf f p.items (Some (held all d)))
  made_some h is x d first dim =
      (h.0, h.1, h.2, (h.3.0, ap (λ d. Some d) dim ∙ first_dim_some f (h.0).items x (first ∙ ap (λ xs. slice_get xs 0) (is ∙ h.3.0))))
