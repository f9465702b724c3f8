-- What the events of a value do to the arrays: these are its arrays.
use Rattle.std.proofs.Common.{◌≡◌, ◌+◌, ℕ, List, [], ◌∷◌, ◌++◌, length, sym, ap, ◌∙◌, append_assoc, arith, ℤ, refl, Option, subst, Some, None, false, if◌then◌else◌, ◌⊎◌, inl, inr, true}
use Rattle.std.specs.Prelude.{option_to_list, map}
use Rattle.std.specs.List.{sum_by, AllByRecursion}
use Rattle.std.proofs.lemmas.Grind.{flat_map-append}
use Rattle.std.proofs.lemmas.List.{append-nil, length-append}
use Rattle.std.proofs.lemmas.List.Concat.{length-flat_map}
use Rattle.std.proofs.lemmas.List.Sums.{sum_by_push, sum_by-cons}
use Rattle.wkt_fill.specs.Arrays.{joined, offsets, numbers_in, parts_of}
use Rattle.wkt_access.specs.declared.dimensions.Dimension.{Dimension}
use Rattle.wkt_types.specs.declared.geometry_type.GeometryType.{GeometryType}
use Rattle.wkt_machine.specs.declared.part.Part.{Part}
use Rattle.wkt_machine.specs.Events.{Event, axis_of, numbers, further, listed, perhaps, geometries, events}
use Rattle.wkt_fill.specs.Filled.{FlatArrays, Headed, ended, put, on, steps, is_collection, push, end_ring, end_polygon, end_part, nothing, kind_of_part, step, arrays_of, steps-append}
use Rattle.wkt_access.specs.declared.dimensions.Dimension.TheVariants.{XY, XYZ, XYM, XYZM}
use Rattle.wkt_access.specs.Values.{size, Value}
use Rattle.wkt_access.specs.WellFormed.{CoordFits, LineStringFits, PolygonFits, PointFits, IsWellFormed}
use Rattle.wkt_machine.specs.declared.part.Axis.{Axis}
use Rattle.wkt_machine.specs.declared.part.Axis.TheVariants as axis
use Rattle.wkt_machine.specs.declared.part.Part.TheVariants as part
use Rattle.wkt_read.specs.Header.{kind_of, dim_of}
use Rattle.wkt_types.specs.declared.geometry_type.GeometryType.TheVariants as kind

-- One ring more, or one polygon.

-- the offset after one list more
pub offsets-push : {A : Type 0} (n m : ℕ) (xss : List (List A)) (xs : List A) → m ≡ n + sum_by length xss + length xs → offsets n (xss ++ xs ∷ []) ≡ offsets n xss ++ m ∷ []
offsets-push n m [] xs e = ap (λ k. n ∷ k ∷ []) {x = n + length xs} {y = m} (omega (arith, e))
offsets-push n m (y ∷ ys) xs e = ap (λ ks. n ∷ ks) (offsets-push (n + length y) m ys xs (omega (arith, e, sum_by-cons length y ys)))

pub joined-push : {A : Type 0} (xss : List (List A)) (xs : List A) → joined (xss ++ xs ∷ []) ≡ joined xss ++ xs
joined-push xss xs = flat_map-append (λ ys. ys) xss (xs ∷ []) ∙ ap (λ ys. joined xss ++ ys) (append-nil xs)

pub numbers-push : {N : Type 0} (rings : List (List (List N))) (ring : List (List N)) → numbers_in (rings ++ ring ∷ []) ≡ numbers_in rings ++ joined ring
numbers-push rings ring = flat_map-append joined rings (ring ∷ []) ∙ ap (λ ys. numbers_in rings ++ ys) (append-nil (joined ring))

pub joined-length : {A : Type 0} (xss : List (List A)) → length (joined xss) ≡ sum_by length xss
joined-length xss = length-flat_map (λ xs. xs) xss

-- the same, where the list before is some whole polygons' rings and some after
module _ {N : Type 0} (ps : List (List (List (List N)))) (last : List (List (List N))) (ring : List (List N)) where
  regroup : joined ps ++ (last ++ ring ∷ []) ≡ (joined ps ++ last) ++ ring ∷ []
  regroup = sym (append_assoc (joined ps) last (ring ∷ []))

  pub ring-numbers : (old new : List N) → old ≡ numbers_in (joined ps ++ last) → new ≡ old ++ joined ring → new ≡ numbers_in (joined ps ++ (last ++ ring ∷ []))
  ring-numbers old new h e = e ∙ ap (λ xs. xs ++ joined ring) h ∙ sym (numbers-push (joined ps ++ last) ring) ∙ ap numbers_in (sym regroup)

  pub ring-offsets : (old new : List ℕ) (m n : ℕ) → old ≡ offsets 0 (joined ps ++ last) → n ≡ sum_by length (joined ps ++ last) → m ≡ n + length ring → new ≡ old ++ m ∷ [] → new ≡ offsets 0 (joined ps ++ (last ++ ring ∷ []))
  ring-offsets old new m n h c e k =
      k ∙ ap (λ xs. xs ++ m ∷ []) h
      ∙ sym (offsets-push 0 m (joined ps ++ last) ring (omega (arith, c, e)))
      ∙ ap (offsets 0) (sym regroup)

  pub ring-count : (m n : ℕ) → n ≡ sum_by length (joined ps ++ last) → m ≡ n + length ring → m ≡ sum_by length (joined ps ++ (last ++ ring ∷ []))
  ring-count m n c e = e ∙ ap (λ k. k + length ring) c ∙ sym (sum_by_push length (joined ps ++ last) ring) ∙ ap (sum_by length) (sym regroup)

  pub ring-rings : (m n : ℕ) → n ≡ length (joined ps ++ last) → m ≡ n + 1 → m ≡ length (joined ps ++ (last ++ ring ∷ []))
  ring-rings m n c e = e ∙ ap (λ k. k + 1) c ∙ sym (length-append (joined ps ++ last) (ring ∷ [])) ∙ ap length (sym regroup)

-- the rings after the whole polygons as one polygon more
module _ {N : Type 0} (ps : List (List (List (List N)))) (last : List (List (List N))) where
  pub closed-rings : joined ps ++ last ≡ joined (ps ++ last ∷ []) ++ []
  closed-rings = sym (append-nil (joined (ps ++ last ∷ [])) ∙ joined-push ps last)

  pub closed-offsets : (old new : List ℕ) (m : ℕ) → old ≡ offsets 0 ps → m ≡ length (joined ps ++ last) → new ≡ old ++ m ∷ [] → new ≡ offsets 0 (ps ++ last ∷ [])
  closed-offsets old new m h c k =
      k ∙ ap (λ xs. xs ++ m ∷ []) h
      ∙ sym (offsets-push 0 m ps last (omega (arith, c, length-append (joined ps) last, joined-length ps)))

-- What the events of the parts of a value do to the arrays.

-- Items one after another.
abbrev pub each : {A : Type 0} → (A → FlatArrays → FlatArrays) → List A → FlatArrays → FlatArrays
each g [] a = a
each g (x ∷ xs) a = each g xs (g x a)

-- The numbers of a coordinate.
abbrev pub put_all : GeometryType → Dimension → List ℤ → FlatArrays → FlatArrays
put_all k d [] a = a
put_all k d (x ∷ xs) a = put_all k d xs (put k (axis_of d (length xs)) x a)

-- A part of coordinates, and one of such parts.
abbrev pub put_line : GeometryType → Part → Dimension → List (List ℤ) → FlatArrays → FlatArrays
put_line k p d cs a = ended k p (each (put_all k d) cs a)

abbrev pub put_point : GeometryType → Part → Dimension → Option (List ℤ) → FlatArrays → FlatArrays
put_point k p d c a = put_line k p d (option_to_list c) a

abbrev pub put_lines : GeometryType → Part → Part → Dimension → List (List (List ℤ)) → FlatArrays → FlatArrays
put_lines k p q d ls a = ended k p (each (put_line k q d) ls a)

-- Of each kind of geometry the events of a part do this.
abbrev pub Does : {A : Type 0} → (A → List (Event ℤ)) → (GeometryType → A → FlatArrays → FlatArrays) → Type 0
Does {A} f g = (x : A) (w : Headed) → steps (f x) w ≡ on (λ k. g k x) w

module _ {A : Type 0} (p : Part) (f : A → List (Event ℤ)) (g : GeometryType → A → FlatArrays → FlatArrays) (h : Does f g) where
  further-does : (xs : List A) (w : Headed) → steps (further p f xs) w ≡ on (λ k a. ended k p (each (g k) xs a)) w
  further-does [] w = refl
  further-does (x ∷ xs) w = steps-append (f x) (further p f xs) w ∙ ap (steps (further p f xs)) (h x w) ∙ further-does xs (on (λ k. g k x) w)

  pub listed-does : (xs : List A) (w : Headed) → steps (listed p f xs) w ≡ on (λ k a. ended k p (each (g k) xs a)) w
  listed-does [] w = refl
  listed-does (x ∷ xs) w = steps-append (f x) (further p f xs) w ∙ ap (steps (further p f xs)) (h x w) ∙ further-does xs (on (λ k. g k x) w)

module _ (d : Dimension) where
  pub numbers-do : Does (numbers d) (λ k. put_all k d)
  numbers-do [] w = refl
  numbers-do (x ∷ xs) w = numbers-do xs (on (λ k. put k (axis_of d (length xs)) x) w)

  pub line-does : (p : Part) → Does (listed p (numbers d)) (λ k. put_line k p d)
  line-does p cs w = listed-does p (numbers d) (λ k. put_all k d) numbers-do cs w

  pub point-does : (p : Part) → Does (perhaps p (numbers d)) (λ k. put_point k p d)
  point-does p c w = line-does p (option_to_list c) w

  pub lines-do : (p q : Part) → Does (listed p (listed q (numbers d))) (λ k. put_lines k p q d)
  lines-do p q ls w = listed-does p (listed q (numbers d)) (λ k. put_line k q d) (line-does q) ls w

-- Arrays that hold polygons, rings of the next one, and coordinates of the next ring.

pub record Holds (a : FlatArrays) (ps : List (List (List (List ℤ)))) (last : List (List (List ℤ))) (cs : List (List ℤ)) : Type 0 where
  pub numbers : a.numbers ≡ numbers_in (joined ps ++ last) ++ joined cs
  pub rings : a.rings ≡ offsets 0 (joined ps ++ last)
  pub polygons : a.polygons ≡ offsets 0 ps
  pub coordinates : a.coordinates ≡ sum_by length (joined ps ++ last) + length cs
  pub ring_count : a.ring_count ≡ length (joined ps ++ last)

abbrev added : ℕ → List ℤ → FlatArrays → FlatArrays
added n c a = record { numbers = a.numbers ++ c; rings = a.rings; polygons = a.polygons; coordinates = n; ring_count = a.ring_count }

-- one coordinate more
coordinate-more : (a : FlatArrays) (ps : List (List (List (List ℤ)))) (last : List (List (List ℤ))) (cs : List (List ℤ)) (c : List ℤ) → Holds a ps last cs → Holds (added (a.coordinates + 1) c a) ps last (cs ++ c ∷ [])
coordinate-more a ps last cs c h = record {
  numbers = ap (λ ns. ns ++ c) h.numbers ∙ append_assoc (numbers_in (joined ps ++ last)) (joined cs) c ∙ ap (λ ns. numbers_in (joined ps ++ last) ++ ns) (sym (joined-push cs c));
  rings = h.rings;
  polygons = h.polygons;
  coordinates = let e = h.coordinates in omega (arith, e, length-append cs (c ∷ []));
  ring_count = h.ring_count;
}

-- the ring ends
pub ring-more : (a : FlatArrays) (ps : List (List (List (List ℤ)))) (last : List (List (List ℤ))) (cs : List (List ℤ)) → Holds a ps last cs → Holds (end_ring a) ps (last ++ cs ∷ []) []
ring-more a ps last cs h =
    let e = h.coordinates in
    record {
      numbers = ring-numbers ps last cs (numbers_in (joined ps ++ last)) a.numbers refl h.numbers ∙ sym (append-nil (numbers_in (joined ps ++ (last ++ cs ∷ []))));
      rings = ring-offsets ps last cs a.rings (a.rings ++ (a.coordinates ∷ [])) a.coordinates (sum_by length (joined ps ++ last)) h.rings refl e refl;
      polygons = h.polygons;
      coordinates = let all = ring-count ps last cs a.coordinates (sum_by length (joined ps ++ last)) refl e in omega (arith, all);
      ring_count = ring-rings ps last cs (a.ring_count + 1) a.ring_count h.ring_count refl;
    }

-- the polygon ends
pub polygon-more : (a : FlatArrays) (ps : List (List (List (List ℤ)))) (last : List (List (List ℤ))) → Holds a ps last [] → Holds (end_polygon a) (ps ++ last ∷ []) [] []
polygon-more a ps last h = record {
  numbers = h.numbers ∙ ap (λ rs. numbers_in rs ++ []) (closed-rings ps last);
  rings = h.rings ∙ ap (offsets 0) (closed-rings ps last);
  polygons = closed-offsets ps last a.polygons (a.polygons ++ (a.ring_count ∷ [])) a.ring_count h.polygons h.ring_count refl;
  coordinates = h.coordinates ∙ ap (λ rs. sum_by length rs + 0) (closed-rings ps last);
  ring_count = h.ring_count ∙ ap length (closed-rings ps last);
}

module _ (k : GeometryType) (flat : is_collection k ≡ false) where
  put-is : (a : Axis) (x : ℤ) (f : FlatArrays) → put k a x f ≡ push a x f
  put-is a x f = ap (λ b. if b then f else push a x f) flat

  pub ended-is : (p : Part) (a : FlatArrays) → ended k p a ≡ end_part p a
  ended-is p a = ap (λ b. if b then a else end_part p a) flat

  two-are : (x y : ℤ) (a : FlatArrays) → put_all k XY (x ∷ y ∷ []) a ≡ added (a.coordinates + 1) (x ∷ y ∷ []) a
  two-are x y a =
      ap (put k axis.Y y) (put-is axis.X x a)
      ∙ put-is axis.Y y (push axis.X x a)
      ∙ ap (λ ns. record { numbers = ns; rings = a.rings; polygons = a.polygons; coordinates = a.coordinates + 1; ring_count = a.ring_count }) (append_assoc a.numbers (x ∷ []) (y ∷ []))

  -- one number more, which is not the first
  later : (x : Axis) (z : ℤ) (c : List ℤ) (n : ℕ) (a : FlatArrays) → push x z (added n c a) ≡ added n (c ++ (z ∷ [])) a → (b : FlatArrays) → b ≡ added n c a → put k x z b ≡ added n (c ++ (z ∷ [])) a
  later x z c n a e b h = ap (put k x z) h ∙ put-is x z (added n c a) ∙ e

  more : (z : ℤ) (c : List ℤ) (n : ℕ) (a : FlatArrays) → added n (z ∷ []) (added n c a) ≡ added n (c ++ (z ∷ [])) a
  more z c n a = ap (λ ns. record { numbers = ns; rings = a.rings; polygons = a.polygons; coordinates = n; ring_count = a.ring_count }) (append_assoc a.numbers c (z ∷ []))

  third : (x : Axis) (p q z : ℤ) (a : FlatArrays) → ((b : FlatArrays) → push x z b ≡ added b.coordinates (z ∷ []) b) → put k x z (put k axis.Y q (put k axis.X p a)) ≡ added (a.coordinates + 1) (p ∷ q ∷ z ∷ []) a
  third x p q z a e =
      let n = a.coordinates + 1 in
      later x z (p ∷ q ∷ []) n a (e (added n (p ∷ q ∷ []) a) ∙ more z (p ∷ q ∷ []) n a) (put k axis.Y q (put k axis.X p a)) (two-are p q a)

  -- the numbers of a coordinate
  coordinate-is : (d : Dimension) (c : List ℤ) (a : FlatArrays) → length c ≡ size d → put_all k d c a ≡ added (a.coordinates + 1) c a
  coordinate-is XY (x ∷ y ∷ []) a e = two-are x y a
  coordinate-is XYZ (x ∷ y ∷ z ∷ []) a e = third axis.Z x y z a (λ b. refl)
  coordinate-is XYM (x ∷ y ∷ m ∷ []) a e = third axis.M x y m a (λ b. refl)
  coordinate-is XYZM (x ∷ y ∷ z ∷ m ∷ []) a e =
      let n = a.coordinates + 1 in
      later axis.M m (x ∷ y ∷ z ∷ []) n a (more m (x ∷ y ∷ z ∷ []) n a) (put k axis.Z z (put k axis.Y y (put k axis.X x a))) (third axis.Z x y z a (λ b. refl))
  coordinate-is d c a e = absurd (omega (arith, e))

module _ (P : ℤ → Type 0) (k : GeometryType) (flat : is_collection k ≡ false) (d : Dimension) where
  pub coordinates-hold : (cs : List (List ℤ)) → AllByRecursion (CoordFits P d) cs → (a : FlatArrays) (ps : List (List (List (List ℤ)))) (last : List (List (List ℤ))) (ds : List (List ℤ)) → Holds a ps last ds
      → Holds (each (put_all k d) cs a) ps last (ds ++ cs)
  coordinates-hold [] fit a ps last ds h = subst (λ xs. Holds a ps last xs) (sym (append-nil ds)) h
  coordinates-hold (c ∷ cs) fit a ps last ds h =
      subst (λ xs. Holds (each (put_all k d) (c ∷ cs) a) ps last xs) (append_assoc ds (c ∷ []) cs)
      (coordinates-hold cs fit.1 (put_all k d c a) ps last (ds ++ c ∷ [])
      (subst (λ (b : FlatArrays). Holds b ps last (ds ++ c ∷ [])) (sym (coordinate-is k flat d c a fit.0.1)) (coordinate-more a ps last ds c h)))

  -- A part that is a ring.
  module _ (q : Part) (is_ring : (a : FlatArrays) → end_part q a ≡ end_ring a) where
    pub line-holds : (cs : List (List ℤ)) → LineStringFits P d cs → (a : FlatArrays) (ps : List (List (List (List ℤ)))) (last : List (List (List ℤ))) → Holds a ps last [] → Holds (put_line k q d cs a) ps (last ++ cs ∷ []) []
    line-holds cs fit a ps last h =
        let all = each (put_all k d) cs a in
        subst (λ (b : FlatArrays). Holds b ps (last ++ cs ∷ []) []) (sym (ended-is k flat q all ∙ is_ring all))
        (ring-more all ps last cs (coordinates-hold cs fit a ps last [] h))

    pub lines-hold : (rs : List (List (List ℤ))) → AllByRecursion (LineStringFits P d) rs → (a : FlatArrays) (ps : List (List (List (List ℤ)))) (last : List (List (List ℤ))) → Holds a ps last []
        → Holds (each (put_line k q d) rs a) ps (last ++ rs) []
    lines-hold [] fit a ps last h = subst (λ xs. Holds a ps xs []) (sym (append-nil last)) h
    lines-hold (r ∷ rs) fit a ps last h =
        subst (λ xs. Holds (each (put_line k q d) (r ∷ rs) a) ps xs []) (append_assoc last (r ∷ []) rs)
        (lines-hold rs fit.1 (put_line k q d r a) ps (last ++ r ∷ []) (line-holds r fit.0 a ps last h))

  -- the coordinate of a point, or none
  pub point-fits : (c : Option (List ℤ)) → PointFits P d c → AllByRecursion (CoordFits P d) (option_to_list c)
  point-fits None fit = tt
  point-fits (Some c) fit = (fit, tt)

  pub members-hold : (ms : List (Option (List ℤ))) → AllByRecursion (PointFits P d) ms → (a : FlatArrays) (ps : List (List (List (List ℤ)))) (last : List (List (List ℤ))) → Holds a ps last []
      → Holds (each (put_point k part.Member d) ms a) ps (last ++ map option_to_list ms) []
  members-hold [] fit a ps last h = subst (λ xs. Holds a ps xs []) (sym (append-nil last)) h
  members-hold (m ∷ ms) fit a ps last h =
      subst (λ xs. Holds (each (put_point k part.Member d) (m ∷ ms) a) ps xs []) (append_assoc last (option_to_list m ∷ []) (map option_to_list ms))
      (members-hold ms fit.1 (put_point k part.Member d m a) ps (last ++ option_to_list m ∷ []) (line-holds part.Member (λ b. refl) (option_to_list m) (point-fits m fit.0) a ps last h))

  -- polygons of several
  polygon-holds : (rs : List (List (List ℤ))) → PolygonFits P d rs → (a : FlatArrays) (ps : List (List (List (List ℤ)))) → Holds a ps [] [] → Holds (put_lines k part.Area part.AreaRing d rs a) (ps ++ rs ∷ []) [] []
  polygon-holds rs fit a ps h =
      let all = each (put_line k part.AreaRing d) rs a in
      subst (λ (b : FlatArrays). Holds b (ps ++ rs ∷ []) [] []) (sym (ended-is k flat part.Area all))
      (polygon-more all ps rs (lines-hold part.AreaRing (λ b. refl) rs fit a ps [] h))

  pub polygons-hold : (qs : List (List (List (List ℤ)))) → AllByRecursion (PolygonFits P d) qs → (a : FlatArrays) (ps : List (List (List (List ℤ)))) → Holds a ps [] []
      → Holds (each (put_lines k part.Area part.AreaRing d) qs a) (ps ++ qs) [] []
  polygons-hold [] fit a ps h = subst (λ xs. Holds a xs [] []) (sym (append-nil ps)) h
  polygons-hold (q ∷ qs) fit a ps h =
      subst (λ xs. Holds (each (put_lines k part.Area part.AreaRing d) (q ∷ qs) a) xs [] []) (append_assoc ps (q ∷ []) qs)
      (polygons-hold qs fit.1 (put_lines k part.Area part.AreaRing d q a) (ps ++ q ∷ []) (polygon-holds q fit.0 a ps h))

-- The arrays of a value's events are its arrays.

-- Nothing is held of a collection.
module _ (k : GeometryType) (h : is_collection k ≡ true) where
  ended-same : (p : Part) (a : FlatArrays) → ended k p a ≡ a
  ended-same p a = ap (λ b. if b then a else end_part p a) h

  put-same : (a : Axis) (x : ℤ) (f : FlatArrays) → put k a x f ≡ f
  put-same a x f = ap (λ b. if b then f else push a x f) h

step-same : (e : Event ℤ) (w : Headed) → is_collection w.kind ≡ true → step e w ≡ w
step-same (Event.Header p d) w h = ap (λ b. if b then w else record { kind = kind_of_part p; dimension = d; flat = w.flat }) h
step-same (Event.Open p) w h = refl
step-same (Event.Comma p) w h = refl
step-same (Event.Close p) w h = ap (λ (a : FlatArrays). record { kind = w.kind; dimension = w.dimension; flat = a }) (ended-same w.kind h p w.flat)
step-same (Event.Empty p) w h = ap (λ (a : FlatArrays). record { kind = w.kind; dimension = w.dimension; flat = a }) (ended-same w.kind h p w.flat)
step-same (Event.Number a x) w h = ap (λ (f : FlatArrays). record { kind = w.kind; dimension = w.dimension; flat = f }) (put-same w.kind h a x w.flat)

collected : (es : List (Event ℤ)) (w : Headed) → is_collection w.kind ≡ true → steps es w ≡ w
collected [] w h = refl
collected (e ∷ es) w h = ap (steps es) (step-same e w h) ∙ collected es w h

pub record IsHeld (v : Value ℤ) (w : Headed) : Type 0 where
  pub parts : List (List (List (List ℤ)))
  pub flat : parts_of v ≡ Some parts
  pub kind_is : w.kind ≡ kind_of v
  pub dimension_is : w.dimension ≡ dim_of v
  pub one : is_collection w.kind ≡ false
  pub holds : Holds w.flat parts [] []

pub record IsCollected (v : Value ℤ) (w : Headed) : Type 0 where
  pub none : parts_of v ≡ None
  pub some : is_collection w.kind ≡ true
  pub empty : w.flat.numbers ≡ []
  pub one_ring : w.flat.rings ≡ 0 ∷ []
  pub one_polygon : w.flat.polygons ≡ 0 ∷ []

begin : Holds nothing [] [] []
begin = record { numbers = refl; rings = refl; polygons = refl; coordinates = refl; ring_count = refl }

abbrev from : GeometryType → (v : Value ℤ) → Headed
from k v = record { kind = k; dimension = dim_of v; flat = nothing }

-- the arrays that a value's events lead to, where they hold its parts
held : (v : Value ℤ) {a b : Headed} (parts : List (List (List (List ℤ)))) → b ≡ a → parts_of v ≡ Some parts → a.kind ≡ kind_of v → a.dimension ≡ dim_of v → is_collection a.kind ≡ false → Holds a.flat parts [] [] → IsHeld v b ⊎ IsCollected v b
held v parts e flat kind_is dimension_is one holds = inl (subst (IsHeld v) (sym e) (record { parts = parts; flat = flat; kind_is = kind_is; dimension_is = dimension_is; one = one; holds = holds }))

-- The arrays of a value's events are its arrays, or it is a collection.
pub outcome : (P : ℤ → Type 0) (v : Value ℤ) → IsWellFormed P v → IsHeld v (arrays_of (events v)) ⊎ IsCollected v (arrays_of (events v))
outcome P (Value.point d c) fit =
    held (Value.point d c) ((option_to_list c ∷ []) ∷ []) (point-does d part.Point c (from kind.Point (Value.point d c))) refl refl refl refl
    (polygon-more _ [] (option_to_list c ∷ []) (ring-more _ [] [] (option_to_list c) (coordinates-hold P kind.Point refl d (option_to_list c) (point-fits P kind.Point refl d c fit) nothing [] [] [] begin)))
outcome P (Value.line_string d cs) fit =
    held (Value.line_string d cs) ((cs ∷ []) ∷ []) (line-does d part.LineString cs (from kind.LineString (Value.line_string d cs))) refl refl refl refl
    (polygon-more _ [] (cs ∷ []) (ring-more _ [] [] cs (coordinates-hold P kind.LineString refl d cs fit nothing [] [] [] begin)))
outcome P (Value.polygon d rs) fit =
    held (Value.polygon d rs) (rs ∷ []) (lines-do d part.Polygon part.Ring rs (from kind.Polygon (Value.polygon d rs))) refl refl refl refl
    (polygon-more _ [] rs (lines-hold P kind.Polygon refl d part.Ring (λ b. refl) rs fit nothing [] [] begin))
outcome P (Value.multi_point d ms) fit =
    held (Value.multi_point d ms) (map option_to_list ms ∷ []) (listed-does part.MultiPoint (perhaps part.Member (numbers d)) (λ k. put_point k part.Member d) (point-does d part.Member) ms (from kind.MultiPoint (Value.multi_point d ms))) refl refl refl refl
    (polygon-more _ [] (map option_to_list ms) (members-hold P kind.MultiPoint refl d ms fit nothing [] [] begin))
outcome P (Value.multi_line_string d ls) fit =
    held (Value.multi_line_string d ls) (ls ∷ []) (lines-do d part.MultiLineString part.Line ls (from kind.MultiLineString (Value.multi_line_string d ls))) refl refl refl refl
    (polygon-more _ [] ls (lines-hold P kind.MultiLineString refl d part.Line (λ b. refl) ls fit nothing [] [] begin))
outcome P (Value.multi_polygon d ps) fit =
    held (Value.multi_polygon d ps) ps (listed-does part.MultiPolygon (listed part.Area (listed part.AreaRing (numbers d))) (λ k. put_lines k part.Area part.AreaRing d) (lines-do d part.Area part.AreaRing) ps (from kind.MultiPolygon (Value.multi_polygon d ps))) refl refl refl refl
    (polygons-hold P kind.MultiPolygon refl d ps fit nothing [] begin)
outcome P (Value.collection d vs) fit =
    inr (subst (IsCollected (Value.collection d vs)) (sym (collected (geometries vs) (from kind.GeometryCollection (Value.collection d vs)) refl)) (record { none = refl; some = refl; empty = refl; one_ring = refl; one_polygon = refl }))
