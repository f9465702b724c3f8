-- Numbers and offsets that fit each other are the arrays of a value.
use Rattle.std.proofs.Common.{◌≡◌, ◌+◌, ◌*◌, ◌-◌, ◌<◌, ◌≤◌, ℕ, zero, suc, ℤ, List, [], ◌∷◌, Option, length, map, take, drop, refl, sym, ap, ◌∙◌, subst, arith, option_to_list}
use Rattle.std.specs.Prelude.{Some, None}
use Rattle.std.specs.List.{AllByRecursion, slice_index}
use Rattle.std.proofs.lemmas.List.{length-take-le, length-drop, take_all}
use Rattle.wkt_num.specs.Decimal.{IsUnits}
use Rattle.wkt_access.specs.Values.{Value, size}
use Rattle.wkt_access.specs.WellFormed.{CoordFits, LineStringFits, PolygonFits, PointFits, IsWellFormed}
use Rattle.wkt_access.specs.declared.dimensions.Dimension.{Dimension}
use Rattle.wkt_types.specs.declared.geometry_type.GeometryType.{GeometryType}
use Rattle.wkt_types.specs.declared.geometry_type.GeometryType.TheVariants as kind
use Rattle.wkt_read.specs.Header.{kind_of, dim_of}
use Rattle.wkt_fill.specs.Arrays.{parts_of, joined, offsets, between, AreOffsetsTo, numbers_in, IsGiven, from_on, coordinate_at, ring_at, polygon_at, polygons_in, AreWhole, AreRingsOfOne, HasParts, HasPartsOf}
use Rattle.wkt_fill.specs.declared.given.Given.{Given}
use Rattle.wkt_fill.proofs.Between.{from-list, from-length, climbs, joined-between, offsets-between, joined-cuts, numbers-flat, fewer}

from-all : {A : Type 0} (P : A → Type 0) (item : ℕ → A) (i n : ℕ) → ((k : ℕ) → k < i + n → P (item k)) → AllByRecursion P (from_on item i n)
from-all P item i zero h = tt
from-all P item i (suc n) h = (h i (omega arith), from-all P item (i + 1) n (λ k lt. h k (omega (arith, lt))))

-- what holds of all items holds of those between two offsets
between-all : {A : Type 0} (P : A → Type 0) (item : ℕ → A) (offs : List ℕ) (end : ℕ) → AreOffsetsTo offs end → ((k : ℕ) → k < end → P (item k)) → (i : ℕ) → i < length offs - 1 → AllByRecursion P (between item offs i)
between-all P item offs end o each i lt =
    let from : ℕ = slice_index offs i in
    let to : ℕ = slice_index offs (i + 1) in
    let up = o.ascend i (omega (arith, lt)) in
    let rest = climbs item offs o.ascend (i + 1) (length offs - 1 - (i + 1)) (omega (arith, lt)) in
    let last : slice_index offs (i + 1 + (length offs - 1 - (i + 1))) ≡ end = ap (slice_index offs) {x = i + 1 + (length offs - 1 - (i + 1))} {y = length offs - 1} (omega (arith, lt)) ∙ o.last in
    from-all P item from (to - from) (λ k less. each k (omega (arith, less, up, rest, last)))

all-take : {A : Type 0} (P : A → Type 0) (n : ℕ) (xs : List A) → AllByRecursion P xs → AllByRecursion P (take n xs)
all-take P zero xs h = tt
all-take P (suc n) [] h = tt
all-take P (suc n) (x ∷ xs) h = (h.0, all-take P n xs h.1)

all-drop : {A : Type 0} (P : A → Type 0) (n : ℕ) (xs : List A) → AllByRecursion P xs → AllByRecursion P (drop n xs)
all-drop P zero xs h = h
all-drop P (suc n) [] h = tt
all-drop P (suc n) (x ∷ xs) h = all-drop P n xs h.1

-- a ring of one coordinate at most is that of a point
only : List (List ℤ) → Option (List ℤ)
only [] = None
only (c ∷ cs) = Some c

only-back : (r : List (List ℤ)) → length r ≤ 1 → option_to_list (only r) ≡ r
unfolding only
only-back [] le = refl
only-back (c ∷ []) le = refl
only-back (c ∷ b ∷ cs) le = absurd (omega (arith, le))

only-fits : (P : ℤ → Type 0) (d : Dimension) (r : List (List ℤ)) → LineStringFits P d r → PointFits P d (only r)
unfolding only
only-fits P d [] h = tt
only-fits P d (c ∷ cs) h = h.0

onlys-back : (rs : List (List (List ℤ))) → AllByRecursion (λ r. length r ≤ 1) rs → map option_to_list (map only rs) ≡ rs
onlys-back [] h = refl
onlys-back (r ∷ rs) h = ap (λ y. y ∷ map option_to_list (map only rs)) (only-back r h.0) ∙ ap (λ ys. r ∷ ys) (onlys-back rs h.1)

onlys-fit : (P : ℤ → Type 0) (d : Dimension) (rs : List (List (List ℤ))) → AllByRecursion (LineStringFits P d) rs → AllByRecursion (PointFits P d) (map only rs)
onlys-fit P d [] h = tt
onlys-fit P d (r ∷ rs) h = (only-fits P d r h.0, onlys-fit P d rs h.1)

module _ (places : ℕ) (g : Given) (w : AreWhole g) (units : AllByRecursion (IsUnits places) g.numbers.now) where
  ring-count : ℕ
  ring-count = length g.rings.now - 1

  -- each coordinate, ring and polygon fits the dimension
  coordinate-fits : (k : ℕ) → k < w.coordinates → CoordFits (IsUnits places) g.dimension (coordinate_at g k)
  coordinate-fits k lt =
      let n : ℕ = size g.dimension in
      let within = fewer g.dimension k w.coordinates lt in (
        all-take (IsUnits places) n (drop (k * n) g.numbers.now) (all-drop (IsUnits places) (k * n) g.numbers.now units),
        length-take-le n (drop (k * n) g.numbers.now) (omega (arith, within, w.numbers, length-drop (k * n) g.numbers.now)),
      )

  ring-fits : (k : ℕ) → k < length g.rings.now - 1 → LineStringFits (IsUnits places) g.dimension (ring_at g k)
  ring-fits = between-all (CoordFits (IsUnits places) g.dimension) (coordinate_at g) g.rings.now w.coordinates w.rings coordinate-fits

  polygon-fits : (k : ℕ) → k < length g.polygons.now - 1 → PolygonFits (IsUnits places) g.dimension (polygon_at g k)
  polygon-fits = between-all (LineStringFits (IsUnits places) g.dimension) (ring_at g) g.polygons.now (length g.rings.now - 1) w.polygons ring-fits

  polygons-fit : AllByRecursion (PolygonFits (IsUnits places) g.dimension) (polygons_in g)
  polygons-fit = from-all (PolygonFits (IsUnits places) g.dimension) (polygon_at g) 0 (length g.polygons.now - 1 - 0) (λ k lt. polygon-fits k (omega (arith, lt)))

  -- the rings are those between the offsets of polygons
  rings-in : joined (polygons_in g) ≡ from_on (ring_at g) 0 (length g.rings.now - 1)
  rings-in =
      let n : ℕ = length g.polygons.now - 1 in
      let some = w.polygons.some in
      ap (λ (k : ℕ). joined (from_on (polygon_at g) 0 k)) {x = n - 0} {y = n} (omega arith)
      ∙ joined-between (ring_at g) g.polygons.now w.polygons.ascend 0 n (omega (arith, some))
      ∙ ap (λ (k : ℕ). from_on (ring_at g) (slice_index g.polygons.now 0) k) {x = slice_index g.polygons.now (0 + n) - slice_index g.polygons.now 0} {y = length g.rings.now - 1}
      (omega (arith, w.polygons.first, w.polygons.last, ap (slice_index g.polygons.now) {x = 0 + n} {y = n} (omega arith)))
      ∙ ap (λ (k : ℕ). from_on (ring_at g) k (length g.rings.now - 1)) w.polygons.first

  coordinates-in : joined (joined (polygons_in g)) ≡ from_on (coordinate_at g) 0 w.coordinates
  coordinates-in =
      let n : ℕ = length g.rings.now - 1 in
      let some = w.rings.some in
      ap joined rings-in
      ∙ joined-between (coordinate_at g) g.rings.now w.rings.ascend 0 n (omega (arith, some))
      ∙ ap (λ (k : ℕ). from_on (coordinate_at g) (slice_index g.rings.now 0) k) {x = slice_index g.rings.now (0 + n) - slice_index g.rings.now 0} {y = w.coordinates}
      (omega (arith, w.rings.first, w.rings.last, ap (slice_index g.rings.now) {x = 0 + n} {y = n} (omega arith)))
      ∙ ap (λ (k : ℕ). from_on (coordinate_at g) k w.coordinates) w.rings.first

  numbers-in : g.numbers.now ≡ numbers_in (joined (polygons_in g))
  numbers-in =
      let n : ℕ = w.coordinates * size g.dimension in
      sym (numbers-flat (joined (polygons_in g)) ∙ ap joined coordinates-in ∙ joined-cuts g.dimension g.numbers.now 0 w.coordinates
      ∙ ap (λ (k : ℕ). take n (drop k g.numbers.now)) {x = 0 * size g.dimension} {y = 0} (omega arith)
      ∙ take_all n g.numbers.now (omega (arith, w.numbers)))

  whole-list : (offs : List ℕ) → 1 ≤ length offs → from_on (slice_index offs) 0 (suc (length offs - 1)) ≡ offs
  whole-list offs some =
      from-list 0 offs 0 (suc (length offs - 1)) (omega (arith, some))
      ∙ take_all (suc (length offs - 1)) offs (omega (arith, some))

  rings-offsets : g.rings.now ≡ offsets 0 (joined (polygons_in g))
  rings-offsets =
      let n : ℕ = length g.rings.now - 1 in
      let some = w.rings.some in
      sym (ap (offsets 0) rings-in
      ∙ ap (λ (k : ℕ). offsets k (from_on (ring_at g) 0 n)) (sym w.rings.first)
      ∙ offsets-between (coordinate_at g) g.rings.now w.rings.ascend 0 n (omega (arith, some))
      ∙ whole-list g.rings.now some)

  polygons-offsets : g.polygons.now ≡ offsets 0 (polygons_in g)
  polygons-offsets =
      let n : ℕ = length g.polygons.now - 1 in
      let some = w.polygons.some in
      sym (ap (λ (k : ℕ). offsets 0 (from_on (polygon_at g) 0 k)) {x = n - 0} {y = n} (omega arith)
      ∙ ap (λ (k : ℕ). offsets k (from_on (polygon_at g) 0 n)) (sym w.polygons.first)
      ∙ offsets-between (ring_at g) g.polygons.now w.polygons.ascend 0 n (omega (arith, some))
      ∙ whole-list g.polygons.now some)

  -- so they are the arrays of a value of these parts
  given-by : (v : Value ℤ) → IsWellFormed (IsUnits places) v → parts_of v ≡ Some (polygons_in g) → g.kind ≡ kind_of v → g.dimension ≡ dim_of v → IsGiven places g v
  given-by v fits flat k d = record {
    fits = fits;
    parts = polygons_in g;
    flat = flat;
    kind_is = k;
    dimension_is = d;
    numbers_are = numbers-in;
    rings_are = rings-offsets;
    polygons_are = polygons-offsets;
  }

  one-polygon : length g.polygons.now ≡ 2 → polygons_in g ≡ polygon_at g 0 ∷ []
  one-polygon e = ap (λ (k : ℕ). from_on (polygon_at g) 0 k) {x = length g.polygons.now - 1 - 0} {y = 1} (omega (arith, e))

  plain : {A : Type 0} (xs : List A) → joined (xs ∷ []) ≡ xs
  plain [] = refl
  plain (x ∷ xs) = ap (λ ys. x ∷ ys) (plain xs)

  one-ring : length g.polygons.now ≡ 2 → length g.rings.now ≡ 2 → polygon_at g 0 ≡ ring_at g 0 ∷ []
  one-ring e r =
      sym (plain (polygon_at g 0)) ∙ ap joined (sym (one-polygon e)) ∙ rings-in
      ∙ ap (λ (k : ℕ). from_on (ring_at g) 0 k) {x = length g.rings.now - 1} {y = 1} (omega (arith, r))

  ring-small : AreRingsOfOne g.rings.now → (k : ℕ) → k < length g.rings.now - 1 → length (ring_at g k) ≤ 1
  ring-small small k lt =
      let from : ℕ = slice_index g.rings.now k in
      let to : ℕ = slice_index g.rings.now (k + 1) in
      omega (arith, small k (omega (arith, lt)), from-length (coordinate_at g) from (to - from))

  rings-small : AreRingsOfOne g.rings.now → length g.polygons.now ≡ 2 → AllByRecursion (λ r. length r ≤ 1) (polygon_at g 0)
  rings-small small e =
      subst (AllByRecursion (λ r. length r ≤ 1)) {x = from_on (ring_at g) 0 (length g.rings.now - 1)} {y = polygon_at g 0}
      (sym (sym (plain (polygon_at g 0)) ∙ ap joined (sym (one-polygon e)) ∙ rings-in))
      (from-all (λ r. length r ≤ 1) (ring_at g) 0 (length g.rings.now - 1) (λ k lt. ring-small small k (omega (arith, lt))))

  made-of : (k : GeometryType) → g.kind ≡ k → HasPartsOf k g → (v : Value ℤ) × IsGiven places g v
  made-of kind.Point e h =
      let r : List (List ℤ) = ring_at g 0 in (
        Value.point g.dimension (only r),
        given-by (Value.point g.dimension (only r)) (only-fits (IsUnits places) g.dimension r (ring-fits 0 (omega (arith, h.1))))
            (ap (λ q. Some ((q ∷ []) ∷ [])) (only-back r (ring-small h.2 0 (omega (arith, h.1)))) ∙ ap (λ p. Some (p ∷ [])) (sym (one-ring h.0 h.1)) ∙ ap Some (sym (one-polygon h.0))) e refl,
      )
  made-of kind.LineString e h =
      let r : List (List ℤ) = ring_at g 0 in (
        Value.line_string g.dimension r,
        given-by (Value.line_string g.dimension r) (ring-fits 0 (omega (arith, h.1)))
            (ap (λ p. Some (p ∷ [])) (sym (one-ring h.0 h.1)) ∙ ap Some (sym (one-polygon h.0))) e refl,
      )
  made-of kind.Polygon e h = (
    Value.polygon g.dimension (polygon_at g 0),
    given-by (Value.polygon g.dimension (polygon_at g 0)) (polygon-fits 0 (omega (arith, h))) (ap Some (sym (one-polygon h))) e refl,
  )
  made-of kind.MultiPoint e h =
      let rs : List (List (List ℤ)) = polygon_at g 0 in (
        Value.multi_point g.dimension (map only rs),
        given-by (Value.multi_point g.dimension (map only rs)) (onlys-fit (IsUnits places) g.dimension rs (polygon-fits 0 (omega (arith, h.0))))
            (ap (λ q. Some (q ∷ [])) (onlys-back rs (rings-small h.1 h.0)) ∙ ap Some (sym (one-polygon h.0))) e refl,
      )
  made-of kind.MultiLineString e h = (
    Value.multi_line_string g.dimension (polygon_at g 0),
    given-by (Value.multi_line_string g.dimension (polygon_at g 0)) (polygon-fits 0 (omega (arith, h))) (ap Some (sym (one-polygon h))) e refl,
  )
  made-of kind.MultiPolygon e h = (
    Value.multi_polygon g.dimension (polygons_in g),
    given-by (Value.multi_polygon g.dimension (polygons_in g)) polygons-fit refl e refl,
  )
  made-of kind.GeometryCollection e h = absurd h

  pub made : HasParts g → (v : Value ℤ) × IsGiven places g v
  made h = made-of g.kind refl h
