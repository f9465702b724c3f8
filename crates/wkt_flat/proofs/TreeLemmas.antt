-- The tree of a geometry, kind by kind; lists of members, compared, copied, closed and weighed; the last of a ring; and no
-- flat value has an error.
use Rattle.std.proofs.Common.{◌≡◌, ℕ, ◌<◌, ◌≤◌, ◌+◌, ◌-◌, ap, sym, ◌∙◌, List, [], ◌∷◌, drop, length, get_or, Bool, true, false, ◌&&◌, nat_eq, add-one, arith, eq-eqb, length-drop, refl, map, zero, suc, take, subst, ◌++◌, slice_set, Result, Ok, Err, ◌↔◌, IsTrue, ap₂, Some, slice_get, if◌then◌else◌, sub-one, Option, None}
use Rattle.std.specs.Prelude.{OnOk}
use Rattle.std.proofs.lemmas.Bool.Decides.{nat_tests}
use Rattle.std.proofs.Math.Seq.{drop-cons}
use Rattle.std.proofs.lemmas.List.{drop_all, map-append, append_assoc, map_more, append-nil}
use Rattle.std.specs.List.{AllByRecursion}
use Rattle.std.specs.Result.{IsOk}
use Rattle.std.specs.Cmp.Lexicographic.{pointwise}
use Rattle.std.specs.Option.{option_or}
use Rattle.wkt_flat.specs.Equal.{flat_eq, flats_eq, IsExact, exactly, exact_by, pointwise_exact, coord_eq, coord_exact, point_eq, point_exact, rings_eq, rings_exact}
use Rattle.wkt_flat.specs.Tree.{point, line, line_string, polygon, multi_point, multi_line_string, multi_polygon, collection, rect, triangle, Flat, Flats, flat_tree, flat_trees, flat_members, geometry_step, flats_step, HasClosedRings, HaveClosedRings, total, flat_inside, inside, flats_weight, weight, weights, IsOneMore, no_flats, more_flats}
use Rattle.wkt_flat.specs.Rings.{Corners, Rings, close, last_from, IsClosed}
use Rattle.wkt_flat.specs.declared.coord.Coord.{Coord}
use Rattle.wkt_flat.specs.declared.point.Point.{Point}
use Rattle.wkt_flat.specs.declared.line.Line.{Line}
use Rattle.wkt_flat.specs.declared.triangle.Triangle.{Triangle}
use Rattle.wkt_flat.specs.declared.geometry.GeometryCollection.{GeometryCollection}
use Rattle.wkt_access.specs.declared.dimensions.Dimensions.TheVariants.{Xy}
use Rattle.wkt_access.specs.Shapes.{Shape, Shapes}
use Rattle.wkt_access.specs.Parts.{collection_of, gathered, each, members_of}
use Rattle.wkt_flat.specs.Shape.{flat_shape, flat_shapes, flat_numbers, flat_point_numbers, sequence_numbers, rings_shape}
use Rattle.wkt_flat.specs.declared.geometry.Geometry.{Geometry}
use Rattle.wkt_flat.specs.declared.geometry.Geometry.TheViews as views
use Rattle.wkt_flat.specs.declared.geometry.Geometry.TheVariants as variants
use Rattle.wkt_flat.specs.declared.geometry.Geometry.TheFolds as folds
use Rattle.wkt_flat.specs.declared.geometry.Geometry.TheOpen as opens
use Rattle.wkt_access.specs.declared.error.Error.{Error}
use Rattle.wkt_access.specs.Faults.{fault, faults, first_fault, coordinate_fault, coordinates_fault, point_fault, polygon_fault}

-- The tree of a geometry, kind by kind, and lists of members, compared, copied, closed and weighed.

-- Two lists compared item by item, by a loop over the first.

-- The test of two lists is that of their items in order.
pub record IsItemwise {A : Type 0} (all : List A → List A → Bool) (one : A → A → Bool) : Type 0 where
  pub none : all [] [] ≡ true
  pub shorter : (y : A) (ys : List A) → all [] (y ∷ ys) ≡ false
  pub more : (x y : A) (xs ys : List A) → all (x ∷ xs) (y ∷ ys) ≡ (one x y && all xs ys)

differ : (n m : ℕ) → n < m → nat_eq n m ≡ false
differ n m h = grind (arith, nat_tests)

-- Two lists are alike before a place: what is left decides the test.
pub record AreAlikeTo {A : Type 0} (all : List A → List A → Bool) (as' bs : List A) (i : ℕ) : Type 0 where
  pub within : i ≤ length bs
  pub left : all as' bs ≡ all (drop i as') (drop i bs)

module _ {A : Type 0} {all : List A → List A → Bool} {one : A → A → Bool} (itemwise : IsItemwise all one) {as' bs : List A} {i : ℕ} (before : AreAlikeTo all as' bs i) where
  step : (x y : A) {r b : Bool} → i < length as' → x ≡ get_or as' i x → i < length bs → y ≡ get_or bs i y → r ≡ one x y → r ≡ b →
      all as' bs ≡ (b && all (drop (i + 1) as') (drop (i + 1) bs))
  step x y h e lt f tested is =
      let left = λ (k : ℕ). all (drop k as') (drop k bs) in
      let next : left i ≡ (one x y && left (i + 1)) = rw (drop-cons as' i x h, drop-cons bs i y lt, ← e, ← f, add-one) (itemwise.more x y _ _) in
      before.left ∙ (next ∙ ap (λ t. t && left (i + 1)) (sym tested ∙ is))

  -- the items at the place differ
  pub stopped : (x y : A) {r : Bool} → i < length as' → x ≡ get_or as' i x → i < length bs → y ≡ get_or bs i y → r ≡ one x y → r ≡ false →
      false ≡ all as' bs
  stopped x y h e lt f tested is = sym (step x y h e lt f tested is)

  -- they are the same
  pub went_on : (x y : A) {r : Bool} → i < length as' → x ≡ get_or as' i x → i < length bs → y ≡ get_or bs i y → r ≡ one x y → r ≡ true →
      AreAlikeTo all as' bs (i + 1)
  went_on x y h e lt f tested is = record { within = omega arith; left = step x y h e lt f tested is }

  rest : (n m : ℕ) (ys : List A) → length ys ≡ m - n → n ≤ m → nat_eq n m ≡ all [] ys
  rest n m [] h k = eq-eqb n m (omega (arith, h)) ∙ sym itemwise.none
  rest n m (y ∷ ys) h k = differ n m (omega (arith, h)) ∙ sym (itemwise.shorter y ys)

  -- the first list has ended
  pub ended : length as' ≤ i → i ≤ length as' → nat_eq (length as') (length bs) ≡ all as' bs
  ended h k =
      rw (drop_all i as' h)
      (rest (length as') (length bs) (drop i bs) (length-drop i bs ∙ ap (λ n. length bs - n) (omega arith)) (omega (arith, before.within)))
      ∙ sym before.left

-- The tree of a geometry, kind by kind.

pub flat-point : {T : Type 0} (p : Point T) → flat_tree (variants.Point p) ≡ point p
flat-point {T} p = ap flat_tree (sym (variants.rolls-Point p)) ∙ folds.fold-roll-Geometry T (Flat T) (Flats T) geometry_step flats_step (opens.Geometry-F.Point p)

pub flat-polygon : {T : Type 0} (y : Rings (Coord T)) → flat_tree (variants.Polygon y) ≡ polygon y
flat-polygon {T} y = ap flat_tree (sym (variants.rolls-Polygon y)) ∙ folds.fold-roll-Geometry T (Flat T) (Flats T) geometry_step flats_step (opens.Geometry-F.Polygon y)

pub flat-multi_point : {T : Type 0} (m : List (Point T)) → flat_tree (variants.MultiPoint m) ≡ multi_point m
flat-multi_point {T} m = ap flat_tree (sym (variants.rolls-MultiPoint m)) ∙ folds.fold-roll-Geometry T (Flat T) (Flats T) geometry_step flats_step (opens.Geometry-F.MultiPoint m)

pub flat-collection : {T : Type 0} (c : GeometryCollection T) → flat_tree (views.GeometryCollection c) ≡ collection (flat_trees c)
flat-collection {T} c =
    ap flat_tree (sym (variants.rolls-GeometryCollection c))
    ∙ folds.fold-roll-Geometry T (Flat T) (Flats T) geometry_step flats_step (opens.Geometry-F.GeometryCollection c)

-- Two lists of geometries are compared member by member.
pub itemwise : {T : Type 0} (E : T → T → Bool) →
    IsItemwise (λ as' bs. flats_eq E (flat_members as') (flat_members bs)) (λ a b. flat_eq E (flat_tree a) (flat_tree b))
itemwise E = record { none = refl; shorter = λ y ys. refl; more = λ x y xs ys. refl }

pub flat-members : {T : Type 0} (c : GeometryCollection T) → flat_trees c ≡ flat_members c.0.items
flat-members {T} c = folds.fold-roll-GeometryCollection T (Flat T) (Flats T) geometry_step flats_step (record { 0 = c.0 })

-- The shape of a collection, by its members.

abbrev pub member_shape : {T : Type 0} → Geometry T → Shape T
member_shape g = flat_shape (flat_tree g)

gathered_members : {T : Type 0} (gs : List (Geometry T)) → flat_shapes (flat_members gs) ≡ gathered (map member_shape gs)
gathered_members [] = refl
gathered_members (g ∷ gs) = ap (λ ss. Shapes.more_shapes (member_shape g) ss) (gathered_members gs)

module _ {T : Type 0} (c : GeometryCollection T) (gs : List (Geometry T)) (h : flat_trees c ≡ flat_members gs) where
  pub collection_is : flat_shape (collection (flat_trees c)) ≡ collection_of Xy (map member_shape gs)
  collection_is = ap (λ ts. flat_shape (collection ts)) h ∙ ap (λ ss. Shape.collection Xy ss) (gathered_members gs)

  -- a geometry that is this collection
  pub geometry_is : (w : Geometry T) → w ≡ views.GeometryCollection c → member_shape w ≡ collection_of Xy (map member_shape gs)
  geometry_is w k = ap (λ g. member_shape g) k ∙ (ap flat_shape (flat-collection c) ∙ collection_is)

-- The members' shapes are as many as the members, and stand at their places.

pub members_length : {T : Type 0} (gs : List (Geometry T)) → length (each (flat_shapes (flat_members gs))) ≡ length gs
members_length [] = refl
members_length (g ∷ gs) = ap suc (members_length gs)

pub member_got : {T : Type 0} (gs : List (Geometry T)) (i : ℕ) (x : Geometry T) → i < length gs → x ≡ get_or gs i x → slice_get (each (flat_shapes (flat_members gs))) i ≡ Some (member_shape x)
member_got [] i x h e = absurd (omega arith)
member_got (g ∷ gs) zero x h e = ap (λ y. Some (member_shape y)) (sym e)
member_got (g ∷ gs) (suc i) x h e = member_got gs i x (omega arith) e

pub collection_members : {T : Type 0} (c : GeometryCollection T) → members_of (member_shape (views.GeometryCollection c)) ≡ each (flat_shapes (flat_trees c))
collection_members c = ap (λ t. members_of (flat_shape t)) (flat-collection c)

-- Facts of each item of a list, gathered one by one.

module _ {X : Type 0} (P : X → Type 0) where
  next : (xs : List X) (i : ℕ) (x : X) → i < length xs → x ≡ get_or xs i x → AllByRecursion P (take i xs) → P x → AllByRecursion P (take (suc i) xs)
  next [] i x h e all p = absurd (omega arith)
  next (y ∷ ys) zero x h e all p = (subst P e p, tt)
  next (y ∷ ys) (suc i) x h e all p = (all.0, next ys i x (omega arith) e all.1 p)

  pub all-next : (xs : List X) (i : ℕ) (x : X) → i < length xs → x ≡ get_or xs i x → AllByRecursion P (take i xs) → P x → AllByRecursion P (take (i + 1) xs)
  all-next xs i x h e all p = rw add-one (next xs i x h e all p)

have : {T : Type 0} (gs : List (Geometry T)) → AllByRecursion (λ g. HasClosedRings (flat_tree g)) gs → HaveClosedRings (flat_members gs)
have [] h = tt
have (g ∷ gs) h = (h.0, have gs h.1)

pub collection-closed : {T : Type 0} (c : GeometryCollection T) → (gs : List (Geometry T)) → c.0.items ≡ gs →
    AllByRecursion (λ g. HasClosedRings (flat_tree g)) gs → HaveClosedRings (flat_trees c)
collection-closed {T} c gs is h = subst (λ (ts : Flats T). HaveClosedRings ts) (sym (flat-members c ∙ ap flat_members is)) (have gs h)

-- A geometry whose tree is this one.
pub closed-as : {T : Type 0} (g h : Geometry T) {t : Flat T} → g ≡ h → flat_tree h ≡ t → HasClosedRings t → HasClosedRings (flat_tree g)
closed-as {T} g h same is closed = subst (λ (t : Flat T). HasClosedRings t) (sym (ap flat_tree same ∙ is)) closed

-- How the weight of a list changes as its geometries are dropped.

pub at_least_one : {T : Type 0} (g : Geometry T) → 0 < weight g
at_least_one g = omega arith

-- The total of a list is what its members weigh as those of a collection.
totalled : {T : Type 0} (gs : List (Geometry T)) → total inside gs ≡ weights gs
totalled [] = refl
totalled (g ∷ gs) = ap (λ n. 1 + inside g + n) (totalled gs)

pub opened : {T : Type 0} (g : Geometry T) (c : GeometryCollection T) (gs : List (Geometry T)) →
    g ≡ views.GeometryCollection c → flat_trees c ≡ flat_members gs → inside g ≡ total inside gs
opened g c gs is holds = ap (λ g. inside g) is ∙ (ap flat_inside (flat-collection c) ∙ (ap flats_weight holds ∙ sym (totalled gs)))

pub held_inside : {T : Type 0} (c : GeometryCollection T) (gs : List (Geometry T)) → flat_trees c ≡ flat_members gs →
    inside (views.GeometryCollection c) ≡ total inside gs
held_inside c gs holds = opened _ c gs refl holds

module _ {A : Type 0} (inside : A → ℕ) where
  pub popped : (xs : List A) (x : A) → total inside (xs ++ x ∷ []) ≡ total inside xs + (1 + inside x)
  popped [] x = omega arith
  popped (y ∷ ys) x = let e : total inside (ys ++ x ∷ []) ≡ total inside ys + (1 + inside x) = popped ys x in omega (arith, e)

  pub exchanged : (xs : List A) (first other : A) → 0 < length xs → first ≡ get_or xs 0 first →
      total inside (slice_set xs 0 other) + inside first ≡ total inside xs + inside other
  exchanged [] first other some is = absurd (omega arith)
  exchanged (x ∷ xs) first other some is = let e : inside first ≡ inside x = ap inside is in omega (arith, e)

  pub first_within : (xs : List A) (first : A) → 0 < length xs → first ≡ get_or xs 0 first → inside first < total inside xs
  first_within [] first some is = absurd (omega arith)
  first_within (x ∷ xs) first some is = let e : inside first ≡ inside x = ap inside is in omega (arith, e)

-- A list that grows by a copy of a collection, whose members were copied before.

-- `see` is what a geometry holds, and `whole` the collection of what its members hold.
module _ {A B E : Type 0} (see : A → B) (whole : List B → B) where
  pub copied-in : (r filled : Result (Unit {0}) E) (olds news start copies all : List A) (made w : B) →
      OnOk r (IsOk filled) → start ≡ [] → OnOk filled (map see copies ≡ map see start ++ map see all) →
      made ≡ whole (map see copies) → w ≡ whole (map see all) →
      OnOk r (IsOneMore (λ x. see x ≡ made) olds news) → OnOk r (map see news ≡ map see olds ++ w ∷ [])
  copied-in (Ok u) (Ok v) olds news start copies all made w o empty same is was more =
      let each = same ∙ ap (λ l. map see l ++ map see all) empty in
      ap (map see) more.grown
      ∙ (map-append see olds (more.member ∷ []) ∙ ap (λ t. map see olds ++ t ∷ []) (more.is ∙ (is ∙ (ap whole each ∙ sym was))))
  copied-in (Ok u) (Err e) olds news start copies all made w o empty same is was more = cc
  copied-in (Err e) filled olds news start copies all made w o empty same is was more = tt

-- What follows from the answer of an exact test.

pub reported : {K : Type 0} {E : K → K → Bool} → IsExact E → (x y : K) (b : Bool) → b ≡ E x y → IsTrue b ↔ (x ≡ y)
reported e x y b h = let p = exactly e x y in ((λ t. p.0 (sym h ∙ t)), (λ q. h ∙ p.1 q))

-- the same of each kind that has lists, by the law of a number type
module _ {T : Type 0} {S : T → T → Bool} (same : (x y : T) → (S x y ≡ true) ↔ (x ≡ y)) where
  pub coords_reported : (x y : List (Coord T)) (b : Bool) → b ≡ pointwise (coord_eq S) x y → IsTrue b ↔ (x ≡ y)
  coords_reported x y b h = reported (pointwise_exact (coord_exact (exact_by same))) x y b h

  pub points_reported : (x y : List (Point T)) (b : Bool) → b ≡ pointwise (point_eq S) x y → IsTrue b ↔ (x ≡ y)
  points_reported x y b h = reported (pointwise_exact (point_exact (exact_by same))) x y b h

  pub polygons_reported : (x y : List (Rings (Coord T))) (b : Bool) → b ≡ pointwise (rings_eq (coord_eq S)) x y → IsTrue b ↔ (x ≡ y)
  polygons_reported x y b h = reported (pointwise_exact (rings_exact (coord_exact (exact_by same)))) x y b h

-- A member of a list, seen through a function; and a list that grows by what each member of another becomes.

pub get_map : {X Y : Type 0} (f : X → Y) (xs : List X) (i : ℕ) (x : X) → slice_get xs i ≡ Some x → slice_get (map f xs) i ≡ Some (f x)
get_map f [] i x h = cc
get_map f (y ∷ ys) zero x h = let e : y ≡ x = cc in ap (λ z. Some (f z)) e
get_map f (y ∷ ys) (suc i) x h = get_map f ys i x h

pub got : {X : Type 0} (xs : List X) (i : ℕ) (x : X) → i < length xs → x ≡ get_or xs i x → slice_get xs i ≡ Some x
got [] i x h e = absurd (omega arith)
got (y ∷ ys) zero x h e = ap (λ z. Some z) (sym e)
got (y ∷ ys) (suc i) x h e = got ys i x (omega arith) e

module _ {X Y : Type 0} (f : X → Y) where
  -- behind a list, what each of the first members of another becomes, with one more
  pub grown_after : (first : List Y) (xs : List X) (i : ℕ) (x : X) (all new : List Y) (y : Y) → i < length xs → x ≡ get_or xs i x →
      all ≡ first ++ map f (take i xs) → y ≡ f x → new ≡ all ++ y ∷ [] → new ≡ first ++ map f (take (i + 1) xs)
  grown_after first xs i x all new y lt e h k n =
      n
      ∙ (ap₂ (λ l z. l ++ z ∷ []) h (k ∙ ap f e)
      ∙ (append_assoc first (map f (take i xs)) (f (get_or xs i x) ∷ []) ∙ ap (λ l. first ++ l) (sym (map_more f xs i x lt))))

  pub grown : (xs : List X) (i : ℕ) (x : X) (all new : List Y) (y : Y) → i < length xs → x ≡ get_or xs i x →
      all ≡ map f (take i xs) → y ≡ f x → new ≡ all ++ y ∷ [] → new ≡ map f (take (i + 1) xs)
  grown xs i x all new y lt e h k n = grown_after [] xs i x all new y lt e h k n

-- The last of a ring; and no flat value has an error.

-- The last of a ring.

pub last_is : {C : Type 0} (c : C) (cs : List C) (x : C) → slice_get (c ∷ cs) (length cs) ≡ Some x → last_from c cs ≡ x
last_is c [] x h = cc
last_is c (d ∷ cs) x h = last_is d cs x h

pub close_at : {C : Type 0} (E : C → C → Bool) (ring : List C) (first last : C) (b : Bool) →
    slice_get ring 0 ≡ Some first → slice_get ring (length ring - 1) ≡ Some last → E last first ≡ b →
    close E ring ≡ ring ++ (if b then [] else first ∷ [])
close_at E [] first last b h k e = cc
close_at E (c ∷ cs) first last b h k e =
    let f : c ≡ first = cc in
    let l : last_from c cs ≡ last = last_is c cs last (rw sub-one at k) in
    rw (l, f, e) refl

-- the same of coordinates
pub ends_alike : {T : Type 0} (E : T → T → Bool) (ring : List (Coord T)) (first last : Coord T) →
    Some first ≡ slice_get ring 0 → Some last ≡ slice_get ring (length ring - 1) → true ≡ coord_eq E last first → close (coord_eq E) ring ≡ ring ++ []
ends_alike E ring first last h k e = close_at (coord_eq E) ring first last true (sym h) (sym k) (sym e)

pub end_missing : {T : Type 0} (E : T → T → Bool) (ring : List (Coord T)) (first last : Coord T) →
    Some first ≡ slice_get ring 0 → Some last ≡ slice_get ring (length ring - 1) → false ≡ coord_eq E last first → close (coord_eq E) ring ≡ ring ++ first ∷ []
end_missing E ring first last h k e = close_at (coord_eq E) ring first last false (sym h) (sym k) (sym e)

pub last-append : {C : Type 0} (c : C) (cs : List C) (x : C) → last_from c (cs ++ x ∷ []) ≡ x
last-append c [] x = refl
last-append c (d ∷ cs) x = last-append d cs x

closed_by : {C : Type 0} (E : C → C → Bool) (e : IsExact E) (c : C) (cs : List C) (b : Bool) → E (last_from c cs) c ≡ b →
    IsClosed (c ∷ cs ++ (if b then [] else c ∷ []))
closed_by E e c cs true h = ap (λ xs. last_from c xs) (append-nil cs) ∙ e.only (last_from c cs) c h
closed_by E e c cs false h = last-append c cs c

pub close_closed : {C : Type 0} (E : C → C → Bool) (e : IsExact E) (ring : List C) → IsClosed (close E ring)
close_closed E e [] = tt
close_closed E e (c ∷ cs) = closed_by E e c cs (E (last_from c cs) c) refl

pub all_closed : {C : Type 0} (E : C → C → Bool) (e : IsExact E) (rings : List (List C)) → AllByRecursion IsClosed (map (close E) rings)
all_closed E e [] = tt
all_closed E e (r ∷ rs) = (close_closed E e r, all_closed E e rs)

-- No flat value has an error.

clear : {A B : Type 0} (f : B → Option Error) (g : A → B) → ((x : A) → f (g x) ≡ None) → (xs : List A) → first_fault f (map g xs) ≡ None
clear f g one [] = refl
clear f g one (x ∷ xs) = ap (λ o. option_or o (first_fault f (map g xs))) (one x) ∙ clear f g one xs

pub sequence_clear : {T : Type 0} (cs : List (Coord T)) → coordinates_fault 2 (sequence_numbers cs) ≡ None
sequence_clear cs = clear (coordinate_fault 2) flat_numbers (λ c. refl) cs

rings_clear : {T : Type 0} (e : List (Coord T)) (is : List (List (Coord T))) → polygon_fault 2 (rings_shape (record { exterior = e; interiors = is })) ≡ None
rings_clear [] is = refl
rings_clear (c ∷ cs) is = clear (coordinates_fault 2) sequence_numbers sequence_clear ((c ∷ cs) ∷ is)

mutual
  pub writable : {T : Type 0} (t : Flat T) → fault (flat_shape t) ≡ None
  writable (point p) = refl
  writable (line l) = refl
  writable (line_string cs) = sequence_clear cs
  writable (polygon y) = rings_clear y.exterior y.interiors
  writable (multi_point ps) = clear (point_fault 2) (λ p. Some (flat_point_numbers p)) (λ p. refl) ps
  writable (multi_line_string ls) = clear (coordinates_fault 2) sequence_numbers sequence_clear ls
  writable (multi_polygon ys) = clear (polygon_fault 2) rings_shape (λ y. rings_clear y.exterior y.interiors) ys
  writable (collection ts) = all_writable ts
  writable (rect r) = refl
  writable (triangle t) = refl

  all_writable : {T : Type 0} (ts : Flats T) → faults (flat_shapes ts) ≡ None
  all_writable no_flats = refl
  all_writable (more_flats t ts) = ap (λ o. option_or o (faults (flat_shapes ts))) (writable t) ∙ all_writable ts
