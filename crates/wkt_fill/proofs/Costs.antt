-- How much room the events of arrays take, at most.
use Rattle.std.proofs.Common.{◌≡◌, ◌+◌, ◌*◌, ◌++◌, ◌≤◌, ℕ, suc, ℤ, List, [], ◌∷◌, Option, length, map, refl, ap, subst, arith, option_to_list, length-append}
use Rattle.std.specs.Prelude.{Some, None}
use Rattle.std.specs.List.{AllByRecursion}
use Rattle.wkt_num.specs.Decimal.{IsUnits}
use Rattle.wkt_access.specs.Values.{Value, size}
use Rattle.wkt_access.specs.WellFormed.{LineStringFits, PolygonFits, PointFits, IsWellFormed}
use Rattle.wkt_access.specs.declared.dimensions.Dimension.{Dimension}
use Rattle.wkt_access.specs.declared.dimensions.Dimension.TheVariants.{XY}
use Rattle.wkt_machine.specs.Events.{Event, numbers, further, listed, perhaps, events}
use Rattle.wkt_machine.specs.declared.part.Part.{Part}
use Rattle.wkt_machine.specs.declared.part.Part.TheVariants as part
use Rattle.wkt_fill.specs.Arrays.{parts_of, joined, numbers_in, IsGiven, events_cost}
use Rattle.wkt_fill.specs.declared.given.Given.{Given}
use Rattle.wkt_fill.proofs.Between.{offsets-length}
use Rattle.wkt_fill.proofs.Owing.{cost-append}

positive : (d : Dimension) → 1 ≤ size d
positive XY = omega arith
positive _ = omega arith

total : {A : Type 0} → (A → ℕ) → List A → ℕ
total w [] = 0
total w (x ∷ xs) = w x + total w xs

module _ (takes : ℤ → ℕ) where
  -- each number, and a byte for the comma or the parenthesis behind its coordinate
  weight : List ℤ → ℕ
  weight [] = 0
  weight (x ∷ xs) = takes x + 1 + weight xs

  weight-append : (xs ys : List ℤ) → weight (xs ++ ys) ≡ weight xs + weight ys
  unfolding weight
  weight-append [] ys = omega arith
  weight-append (x ∷ xs) ys = let more = weight-append xs ys in omega (arith, more)

  numbers-cost : (d : Dimension) (c : List ℤ) → events_cost takes (numbers d c) + length c ≡ weight c
  unfolding weight
  numbers-cost d [] = omega arith
  numbers-cost d (x ∷ xs) = let more = numbers-cost d xs in omega (arith, more)

  further-cost : {A : Type 0} (p : Part) (item : A → List (Event ℤ)) (w : A → ℕ) (xs : List A) → AllByRecursion (λ x. events_cost takes (item x) + 1 ≤ w x) xs → events_cost takes (further p item xs) ≤ total w xs + 1
  unfolding total
  further-cost p item w [] h = omega arith
  further-cost p item w (x ∷ xs) h = let more = further-cost p item w xs h.1 in let one = h.0 in omega (arith, more, one, cost-append takes (item x) (further p item xs))

  listed-cost : {A : Type 0} (p : Part) (item : A → List (Event ℤ)) (w : A → ℕ) (xs : List A) → AllByRecursion (λ x. events_cost takes (item x) + 1 ≤ w x) xs → events_cost takes (listed p item xs) ≤ total w xs + 6
  unfolding total
  listed-cost p item w [] h = omega arith
  listed-cost p item w (x ∷ xs) h = let more = further-cost p item w xs h.1 in let one = h.0 in omega (arith, more, one, cost-append takes (item x) (further p item xs))

  -- ---- rings, polygons, and lists of them

  module _ (is_value : ℤ → Type 0) (d : Dimension) where
    coordinates : (cs : List (List ℤ)) → LineStringFits is_value d cs → AllByRecursion (λ c. events_cost takes (numbers d c) + 1 ≤ weight c) cs
    coordinates [] h = tt
    coordinates (c ∷ cs) h = (omega (arith, numbers-cost d c, h.0.1, positive d), coordinates cs h.1)

    total-coordinates : (cs : List (List ℤ)) → total weight cs ≡ weight (joined cs)
    unfolding total weight
    total-coordinates [] = refl
    total-coordinates (c ∷ cs) = let more = total-coordinates cs in omega (arith, more, weight-append c (joined cs))

    ring-cost : (p : Part) (cs : List (List ℤ)) → LineStringFits is_value d cs → events_cost takes (listed p (numbers d) cs) ≤ weight (joined cs) + 6
    ring-cost p cs h = omega (arith, listed-cost p (numbers d) weight cs (coordinates cs h), total-coordinates cs)

    abbrev of-ring : List (List ℤ) → ℕ
    of-ring cs = weight (joined cs) + 7

    rings : (q : Part) (rs : List (List (List ℤ))) → PolygonFits is_value d rs → AllByRecursion (λ r. events_cost takes (listed q (numbers d) r) + 1 ≤ of-ring r) rs
    rings q [] h = tt
    rings q (r ∷ rs) h = (omega (arith, ring-cost q r h.0), rings q rs h.1)

    total-rings : (rs : List (List (List ℤ))) → total of-ring rs ≡ weight (numbers_in rs) + 7 * length rs
    unfolding total weight
    total-rings [] = omega arith
    total-rings (r ∷ rs) = let more = total-rings rs in omega (arith, more, weight-append (joined r) (numbers_in rs))

    lines-cost : (p q : Part) (rs : List (List (List ℤ))) → PolygonFits is_value d rs → events_cost takes (listed p (listed q (numbers d)) rs) ≤ weight (numbers_in rs) + 7 * length rs + 6
    lines-cost p q rs h = omega (arith, listed-cost p (listed q (numbers d)) of-ring rs (rings q rs h), total-rings rs)

    abbrev of-polygon : List (List (List ℤ)) → ℕ
    of-polygon rs = weight (numbers_in rs) + 7 * length rs + 7

    polygons : (p q : Part) (ps : List (List (List (List ℤ)))) → AllByRecursion (PolygonFits is_value d) ps → AllByRecursion (λ rs. events_cost takes (listed p (listed q (numbers d)) rs) + 1 ≤ of-polygon rs) ps
    polygons p q [] h = tt
    polygons p q (rs ∷ ps) h = (omega (arith, lines-cost p q rs h.0), polygons p q ps h.1)

    numbers-append : (rs ss : List (List (List ℤ))) → weight (numbers_in (rs ++ ss)) ≡ weight (numbers_in rs) + weight (numbers_in ss)
    unfolding weight
    numbers-append [] ss = omega arith
    numbers-append (r ∷ rs) ss = let more = numbers-append rs ss in omega (arith, more, weight-append (joined r) (numbers_in (rs ++ ss)), weight-append (joined r) (numbers_in rs))

    total-polygons : (ps : List (List (List (List ℤ)))) → total of-polygon ps ≡ weight (numbers_in (joined ps)) + 7 * length (joined ps) + 7 * length ps
    unfolding total weight
    total-polygons [] = omega arith
    total-polygons (rs ∷ ps) = let more = total-polygons ps in omega (arith, more, numbers-append rs (joined ps), length-append rs (joined ps))

    areas-cost : (o p q : Part) (ps : List (List (List (List ℤ)))) → AllByRecursion (PolygonFits is_value d) ps →
        events_cost takes (listed o (listed p (listed q (numbers d))) ps) ≤ weight (numbers_in (joined ps)) + 7 * length (joined ps) + 7 * length ps + 6
    areas-cost o p q ps h = omega (arith, listed-cost o (listed p (listed q (numbers d))) of-polygon ps (polygons p q ps h), total-polygons ps)

    point-fits : (c : Option (List ℤ)) → PointFits is_value d c → LineStringFits is_value d (option_to_list c)
    point-fits None h = tt
    point-fits (Some c) h = (h, tt)

    members : (ms : List (Option (List ℤ))) → AllByRecursion (PointFits is_value d) ms → AllByRecursion (λ m. events_cost takes (perhaps part.Member (numbers d) m) + 1 ≤ of-ring (option_to_list m)) ms
    members [] h = tt
    members (m ∷ ms) h = (omega (arith, ring-cost part.Member (option_to_list m) (point-fits m h.0)), members ms h.1)

    total-members : (ms : List (Option (List ℤ))) → total (λ m. of-ring (option_to_list m)) ms ≡ total of-ring (map option_to_list ms)
    unfolding total
    total-members [] = refl
    total-members (m ∷ ms) = let more = total-members ms in omega (arith, more)

    points-cost : (ms : List (Option (List ℤ))) → AllByRecursion (PointFits is_value d) ms → events_cost takes (listed part.MultiPoint (perhaps part.Member (numbers d)) ms) ≤ weight (numbers_in (map option_to_list ms)) + 7 * length (map option_to_list ms) + 6
    points-cost ms h =
        omega (arith, listed-cost part.MultiPoint (perhaps part.Member (numbers d)) (λ m. of-ring (option_to_list m)) ms (members ms h), total-members ms, total-rings (map option_to_list ms))

  plain : {A : Type 0} (xs : List A) → joined (xs ∷ []) ≡ xs
  plain [] = refl
  plain (x ∷ xs) = ap (λ ys. x ∷ ys) (plain xs)

  -- The events of a value take so much: for each number, each ring and each polygon, and for the header.
  abbrev Most : List (List (List (List ℤ))) → ℕ → Type 0
  Most ps n = n ≤ weight (numbers_in (joined ps)) + 7 * length (joined ps) + 7 * length ps + 24

  one : (rs : List (List (List ℤ))) (n : ℕ) → n ≤ weight (numbers_in rs) + 7 * length rs + 24 → Most (rs ∷ []) n
  one rs n le = omega (arith, le, ap (λ qs. weight (numbers_in qs)) (plain rs), ap length (plain rs))

  one-ring : (r : List (List ℤ)) (n : ℕ) → n ≤ weight (joined r) + 24 → Most ((r ∷ []) ∷ []) n
  one-ring r n le = omega (arith, le, ap weight (plain (joined r)))

  value-cost : (is_value : ℤ → Type 0) (v : Value ℤ) (ps : List (List (List (List ℤ)))) → parts_of v ≡ Some ps → IsWellFormed is_value v → Most ps (events_cost takes (events v))
  value-cost is_value (Value.point d c) ps e h = subst (λ qs. Most qs (events_cost takes (events (Value.point d c)))) {x = (option_to_list c ∷ []) ∷ []} {y = ps} (cc) (one-ring (option_to_list c) _ (omega (arith, ring-cost is_value d part.Point (option_to_list c) (point-fits is_value d c h))))
  value-cost is_value (Value.line_string d cs) ps e h = subst (λ qs. Most qs (events_cost takes (events (Value.line_string d cs)))) {x = (cs ∷ []) ∷ []} {y = ps} (cc) (one-ring cs _ (omega (arith, ring-cost is_value d part.LineString cs h)))
  value-cost is_value (Value.polygon d rs) ps e h = subst (λ qs. Most qs (events_cost takes (events (Value.polygon d rs)))) {x = rs ∷ []} {y = ps} (cc) (one rs _ (omega (arith, lines-cost is_value d part.Polygon part.Ring rs h)))
  value-cost is_value (Value.multi_point d ms) ps e h = subst (λ qs. Most qs (events_cost takes (events (Value.multi_point d ms)))) {x = map option_to_list ms ∷ []} {y = ps} (cc) (one (map option_to_list ms) _ (omega (arith, points-cost is_value d ms h)))
  value-cost is_value (Value.multi_line_string d ls) ps e h = subst (λ qs. Most qs (events_cost takes (events (Value.multi_line_string d ls)))) {x = ls ∷ []} {y = ps} (cc) (one ls _ (omega (arith, lines-cost is_value d part.MultiLineString part.Line ls h)))
  value-cost is_value (Value.multi_polygon d qs) ps e h = subst (λ rs. Most rs (events_cost takes (events (Value.multi_polygon d qs)))) {x = qs} {y = ps} (cc) (omega (arith, areas-cost is_value d part.MultiPolygon part.Area part.AreaRing qs h))
  value-cost is_value (Value.collection d vs) ps e h = absurd (cc)

  -- where each number takes so much at most
  module _ (most : ℕ) where
    weight-most : (xs : List ℤ) → AllByRecursion (λ x. takes x ≤ most) xs → weight xs ≤ length xs * (most + 1)
    unfolding weight
    weight-most [] h = omega arith
    weight-most (x ∷ xs) h =
        let more = weight-most xs h.1 in
        let next : suc (length xs) * (most + 1) ≡ most + 1 + length xs * (most + 1) = omega arith in
        omega (arith, more, h.0, next)

    pub given-cost : (places : ℕ) (g : Given) (v : Value ℤ) → IsGiven places g v → AllByRecursion (λ x. takes x ≤ most) g.numbers.now →
        events_cost takes (events v) ≤ length g.numbers.now * (most + 1) + 7 * length g.rings.now + 7 * length g.polygons.now + 10
    given-cost places g v h small =
        omega (
          arith,
          value-cost (IsUnits places) v h.parts h.flat h.fits,
          weight-most g.numbers.now small,
          ap weight h.numbers_are,
          ap length h.rings_are,
          ap length h.polygons_are,
          offsets-length 0 (joined h.parts),
          offsets-length 0 h.parts,
        )
