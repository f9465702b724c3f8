-- Events that are told one after another, with room for those that are left: headers, coordinates, parts.
use Rattle.std.proofs.Common.{◌≡◌, ◌+◌, ◌-◌, ◌<◌, ◌≤◌, ℕ, suc, List, [], ◌∷◌, ◌++◌, refl, sym, ap, subst, arith, ◌*◌, ℤ, pos, length, take, drop, get_or, ◌∙◌}
use Rattle.std.proofs.lemmas.List.{drop_more}
use Rattle.wkt_machine.specs.Events.{Event, further, listed, numbers, events}
use Rattle.wkt_machine.specs.Makers.{Maker}
use Rattle.wkt_machine.specs.Room.{Leaves, header_cost}
use Rattle.wkt_machine.specs.declared.part.Part.{Part}
use Rattle.wkt_fill.specs.Arrays.{event_cost, events_cost, Tells, IsGiven, AreGiven, from_on, up_to, AreWhole, HasPartsOf}
use Rattle.wkt_access.specs.Values.{size, Value}
use Rattle.wkt_access.specs.declared.dimensions.Dimension.{Dimension}
use Rattle.wkt_access.specs.declared.dimensions.Dimension.TheVariants.{XY, XYZ, XYM, XYZM}
use Rattle.wkt_machine.specs.declared.part.Axis.{Axis}
use Rattle.wkt_fill.proofs.Between.{cut, whole-of, has-parts}
use Rattle.wkt_machine.specs.declared.part.Axis.TheVariants as axis
use Rattle.wkt_types.specs.declared.geometry_type.GeometryType.{GeometryType}
use Rattle.wkt_fill.specs.declared.given.Given.{Given}

-- Events that are told one after another, with room for those that are left.

pub cost-append : {N : Type 0} (takes : N → ℕ) (es fs : List (Event N)) → events_cost takes (es ++ fs) ≡ events_cost takes es + events_cost takes fs
cost-append takes [] fs = omega arith
cost-append takes (e ∷ es) fs = let more = cost-append takes es fs in omega (arith, more)

module _ {N B : Type 0} (maker : Maker N B) where
  -- numbers take what they took
  pub takes-same : (b c : B) (es : List (Event N)) → maker.makes b es c → maker.takes c ≡ maker.takes b
  takes-same b c es makes = let s = maker.same b c es makes in s.1

  pub tells-more : (b c d : B) (es fs : List (Event N)) → Tells maker b es c → Tells maker c fs d → Tells maker b (es ++ fs) d
  tells-more b c d es fs h k = record {
    makes = maker.more b c d es fs h.makes k.makes;
    leaves = λ m room.
        let t : N → ℕ = maker.takes b in
        let all = cost-append t es fs in
        let then = subst (λ u. Leaves maker c (events_cost u fs) d) (takes-same b c es h.makes) k.leaves in
        then m (h.leaves (m + events_cost t fs) (subst (λ (n : ℕ). maker.fits b n) {x = m + events_cost t (es ++ fs)} {y = m + events_cost t fs + events_cost t es} (omega (arith, all)) room));
  }

  -- one event
  pub tells-one : (b c : B) (e : Event N) (n : ℕ) → event_cost (maker.takes b) e ≡ n → maker.makes b (e ∷ []) c → Leaves maker b n c → Tells maker b (e ∷ []) c
  tells-one b c e n is makes leaves = record {
    makes = makes;
    leaves = λ m room. leaves m (subst (λ (k : ℕ). maker.fits b k) {x = m + events_cost (maker.takes b) (e ∷ [])} {y = m + n} (omega (arith, is)) room);
  }

  -- So much was told of some events that the others are left, for which there is room.
  pub record Owes (b : B) (es : List (Event N)) (c : B) (rest : List (Event N)) : Type 0 where
    pub room : maker.fits c (events_cost (maker.takes c) rest)
    pub then : (d : B) → Tells maker c rest d → Tells maker b es d

  pub owes-all : (b : B) (es : List (Event N)) → maker.fits b (events_cost (maker.takes b) es) → Owes b es b es
  owes-all b es room = record { room = room; then = λ d h. h }

  -- in other words
  pub owes-so : (b c : B) (es rest more : List (Event N)) → rest ≡ more → Owes b es c rest → Owes b es c more
  owes-so b c es rest more e h = subst (Owes b es c) e h

  -- there is room for the first of those that are left
  pub owes-fits : (b c : B) (es fs rest : List (Event N)) (n : ℕ) → events_cost (maker.takes c) fs ≡ n → Owes b es c (fs ++ rest) → maker.fits c n
  owes-fits b c es fs rest n is h =
      let all = cost-append (maker.takes c) fs rest in
      maker.less c n (events_cost (maker.takes c) (fs ++ rest)) (omega (arith, all, is)) h.room

  pub owes-less : (b c d : B) (es fs rest : List (Event N)) → Owes b es c (fs ++ rest) → Tells maker c fs d → Owes b es d rest
  owes-less b c d es fs rest h told = record {
    room =
        let t : N → ℕ = maker.takes c in
        let all = cost-append t fs rest in
        let room : maker.fits d (events_cost t rest) = told.leaves (events_cost t rest) (subst (λ (n : ℕ). maker.fits c n) {x = events_cost t (fs ++ rest)} {y = events_cost t rest + events_cost t fs} (omega (arith, all)) h.room) in
        subst (λ u. maker.fits d (events_cost u rest)) (sym (takes-same c d fs told.makes)) room;
    then = λ e k. h.then e (tells-more c d e fs rest told k);
  }

  pub owes-none : (b c d : B) (es fs : List (Event N)) → Owes b es c fs → Tells maker c fs d → Tells maker b es d
  owes-none b c d es fs h told = h.then d told

  -- The items from one index up to another, as events of a part.
  module _ {A : Type 0} (p : Part) (item : A → List (Event N)) (at : ℕ → A) where
    first-list : (n m : ℕ) → m ≡ suc n → (i : ℕ) → listed p item (from_on at i m) ≡ Event.Open p ∷ (item (at i) ++ further p item (from_on at (i + 1) n))
    first-list n m e i = ap (λ (k : ℕ). listed p item (from_on at i k)) e

    pub list-first : (from to : ℕ) → from < to → listed p item (up_to at from to) ≡ (Event.Open p ∷ []) ++ (item (at from) ++ further p item (up_to at (from + 1) to))
    list-first from to lt = first-list (to - (from + 1)) (to - from) (omega (arith, lt)) from

    pub list-none : (from to : ℕ) → to ≤ from → listed p item (up_to at from to) ≡ Event.Empty p ∷ []
    list-none from to le = ap (λ (k : ℕ). listed p item (from_on at from k)) {x = to - from} {y = 0} (omega (arith, le))

    next-list : (n m : ℕ) → m ≡ suc n → (i : ℕ) → further p item (from_on at i m) ≡ Event.Comma p ∷ (item (at i) ++ further p item (from_on at (i + 1) n))
    next-list n m e i = ap (λ (k : ℕ). further p item (from_on at i k)) e

    pub list-next : (from to : ℕ) → from < to → further p item (up_to at from to) ≡ (Event.Comma p ∷ []) ++ (item (at from) ++ further p item (up_to at (from + 1) to))
    list-next from to lt = next-list (to - (from + 1)) (to - from) (omega (arith, lt)) from

    pub list-end : (from to : ℕ) → to ≤ from → further p item (up_to at from to) ≡ Event.Close p ∷ []
    list-end from to le = ap (λ (k : ℕ). further p item (from_on at from k)) {x = to - from} {y = 0} (omega (arith, le))

    -- The same as they are told: `all` of them, and those that are left from an index on.
    module _ (from to : ℕ) (b : B) where
      abbrev all : List (Event N)
      all = listed p item (up_to at from to)

      abbrev left : ℕ → List (Event N)
      left i = further p item (up_to at i to)

      module _ (lt : from < to) (room : maker.fits b (events_cost (maker.takes b) all)) where
        opening : Owes b all b ((Event.Open p ∷ []) ++ (item (at from) ++ left (from + 1)))
        opening = owes-so b b all all _ (list-first from to lt) (owes-all b all room)

        pub opens : maker.fits b 1
        opens = owes-fits b b all (Event.Open p ∷ []) (item (at from) ++ left (from + 1)) 1 (omega arith) opening

        module _ (c : B) (makes : maker.makes b (Event.Open p ∷ []) c) (leaves : Leaves maker b 1 c) where
          opened : Owes b all c (item (at from) ++ left (from + 1))
          opened = owes-less b b c all (Event.Open p ∷ []) (item (at from) ++ left (from + 1)) opening (tells-one b c (Event.Open p) 1 refl makes leaves)

          pub first-fits : maker.fits c (events_cost (maker.takes c) (item (at from)))
          first-fits = owes-fits b c all (item (at from)) (left (from + 1)) _ refl opened

          pub first-told : (d : B) → Tells maker c (item (at from)) d → Owes b all d (left (from + 1))
          first-told d told = owes-less b c d all (item (at from)) (left (from + 1)) opened told

      module _ (i : ℕ) (m : B) (owes : Owes b all m (left i)) where
        module _ (lt : i < to) where
          next : Owes b all m ((Event.Comma p ∷ []) ++ (item (at i) ++ left (i + 1)))
          next = owes-so b m all (left i) _ (list-next i to lt) owes

          pub comma-fits : maker.fits m 1
          comma-fits = owes-fits b m all (Event.Comma p ∷ []) (item (at i) ++ left (i + 1)) 1 (omega arith) next

          module _ (c : B) (makes : maker.makes m (Event.Comma p ∷ []) c) (leaves : Leaves maker m 1 c) where
            behind : Owes b all c (item (at i) ++ left (i + 1))
            behind = owes-less b m c all (Event.Comma p ∷ []) (item (at i) ++ left (i + 1)) next (tells-one m c (Event.Comma p) 1 refl makes leaves)

            pub next-fits : maker.fits c (events_cost (maker.takes c) (item (at i)))
            next-fits = owes-fits b c all (item (at i)) (left (i + 1)) _ refl behind

            pub next-told : (d : B) → Tells maker c (item (at i)) d → Owes b all d (left (i + 1))
            next-told d told = owes-less b c d all (item (at i)) (left (i + 1)) behind told

        module _ (le : to ≤ i) where
          last : Owes b all m ((Event.Close p ∷ []) ++ [])
          last = owes-so b m all (left i) _ (list-end i to le) owes

          pub closed : (c : B) → maker.makes m (Event.Close p ∷ []) c → Leaves maker m 1 c → Tells maker b all c
          closed c makes leaves = owes-none b m c all (Event.Close p ∷ []) last (tells-one m c (Event.Close p) 1 refl makes leaves)

      module _ (le : to ≤ from) where
        pub emptied : (c : B) → maker.makes b (Event.Empty p ∷ []) c → Leaves maker b 6 c → Tells maker b all c
        emptied c makes leaves = subst (λ es. Tells maker b es c) (sym (list-none from to le)) (tells-one b c (Event.Empty p) 6 refl makes leaves)

-- A coordinate, as the events of its numbers.

-- the number of an index
abbrev nth : List ℤ → ℕ → ℤ
nth xs n = get_or xs n (pos 0)

numbers-at : (n k : ℕ) (xs : List ℤ) → n + suc k ≤ length xs → take (suc k) (drop n xs) ≡ nth xs n ∷ take k (drop (n + 1) xs)
numbers-at n k xs le = ap (λ ys. take (suc k) ys) (drop_more xs n (pos 0) (omega (arith, le)))

pairs : (n : ℕ) (xs : List ℤ) → n + 2 ≤ length xs → take 2 (drop n xs) ≡ nth xs n ∷ nth xs (n + 1) ∷ []
pairs n xs le = numbers-at n 1 xs le ∙ ap (λ ys. nth xs n ∷ ys) (numbers-at (n + 1) 0 xs (omega (arith, le)))

threes : (n : ℕ) (xs : List ℤ) → n + 3 ≤ length xs → take 3 (drop n xs) ≡ nth xs n ∷ nth xs (n + 1) ∷ nth xs (n + 2) ∷ []
threes n xs le =
    numbers-at n 2 xs le ∙ ap (λ ys. nth xs n ∷ ys) (pairs (n + 1) xs (omega (arith, le)))
    ∙ ap (λ (k : ℕ). nth xs n ∷ nth xs (n + 1) ∷ nth xs k ∷ []) {x = n + 1 + 1} {y = n + 2} (omega arith)

fours : (n : ℕ) (xs : List ℤ) → n + 4 ≤ length xs → take 4 (drop n xs) ≡ nth xs n ∷ nth xs (n + 1) ∷ nth xs (n + 2) ∷ nth xs (n + 3) ∷ []
fours n xs le =
    numbers-at n 3 xs le ∙ ap (λ ys. nth xs n ∷ ys) (threes (n + 1) xs (omega (arith, le)))
    ∙ ap (λ (k : ℕ). nth xs n ∷ nth xs (n + 1) ∷ nth xs k ∷ nth xs (n + 1 + 2) ∷ []) {x = n + 1 + 1} {y = n + 2} (omega arith)
    ∙ ap (λ (k : ℕ). nth xs n ∷ nth xs (n + 1) ∷ nth xs (n + 2) ∷ nth xs k ∷ []) {x = n + 1 + 2} {y = n + 3} (omega arith)

-- the numbers after the first two
abbrev more : Dimension → ℕ → List ℤ → List (Event ℤ)
more XY n xs = []
more XYZ n xs = Event.Number axis.Z (nth xs (n + 2)) ∷ []
more XYM n xs = Event.Number axis.M (nth xs (n + 2)) ∷ []
more XYZM n xs = Event.Number axis.Z (nth xs (n + 2)) ∷ Event.Number axis.M (nth xs (n + 3)) ∷ []

first-two : (d : Dimension) (n : ℕ) (xs : List ℤ) → n + size d ≤ length xs → numbers d (take (size d) (drop n xs)) ≡ Event.Number axis.X (nth xs n) ∷ Event.Number axis.Y (nth xs (n + 1)) ∷ more d n xs
first-two XY n xs le = ap (numbers XY) (pairs n xs le)
first-two XYZ n xs le = ap (numbers XYZ) (threes n xs le)
first-two XYM n xs le = ap (numbers XYM) (threes n xs le)
first-two XYZM n xs le = ap (numbers XYZM) (fours n xs le)

-- they are those of the dimension
pub more-of : (d e : Dimension) (n : ℕ) (xs : List ℤ) → d ≡ e → more d n xs ≡ more e n xs
more-of d e n xs is = ap (λ k. more k n xs) is

module _ {B : Type 0} (maker : Maker ℤ B) (d : Dimension) (xs : List ℤ) (i n : ℕ) (at : n ≡ i * size d) (within : i * size d + size d ≤ length xs)
    (b : B) (room : maker.fits b (events_cost (maker.takes b) (numbers d (cut d xs i)))) where
  abbrev coordinate-all : List (Event ℤ)
  coordinate-all = numbers d (cut d xs i)

  abbrev x-told : List (Event ℤ)
  x-told = Event.Number axis.X (nth xs n) ∷ []

  abbrev y-told : List (Event ℤ)
  y-told = Event.Number axis.Y (nth xs (n + 1)) ∷ []

  split : coordinate-all ≡ x-told ++ (y-told ++ more d n xs)
  split = ap (λ (k : ℕ). numbers d (take (size d) (drop k xs))) (sym at) ∙ first-two d n xs (omega (arith, at, within))

  begun : Owes maker b coordinate-all b (x-told ++ (y-told ++ more d n xs))
  begun = owes-so maker b b coordinate-all coordinate-all _ split (owes-all maker b coordinate-all room)

  pub x-fits : maker.fits b (maker.takes b (nth xs n))
  x-fits = owes-fits maker b b coordinate-all x-told (y-told ++ more d n xs) (maker.takes b (nth xs n)) (omega arith) begun

  module _ (b1 : B) (x-is : Tells maker b x-told b1) where
    after-x : Owes maker b coordinate-all b1 (y-told ++ more d n xs)
    after-x = owes-less maker b b b1 coordinate-all x-told (y-told ++ more d n xs) begun x-is

    pub y-fits : maker.fits b1 (maker.takes b1 (nth xs (n + 1)))
    y-fits = owes-fits maker b b1 coordinate-all y-told (more d n xs) (maker.takes b1 (nth xs (n + 1))) (omega arith) after-x

    module _ (b2 : B) (y-is : Tells maker b1 y-told b2) where
      after-y : Owes maker b coordinate-all b2 (more d n xs)
      after-y = owes-less maker b b1 b2 coordinate-all y-told (more d n xs) after-x y-is

      nothing-told : Tells maker b2 [] b2
      nothing-told = record { makes = maker.none b2; leaves = λ m fits. subst (λ (k : ℕ). maker.fits b2 k) {x = m + 0} {y = m} (omega arith) fits }

      pub two-told : more d n xs ≡ [] → Tells maker b coordinate-all b2
      two-told e = owes-none maker b b2 b2 coordinate-all (more d n xs) after-y (subst (λ es. Tells maker b2 es b2) (sym e) nothing-told)

      -- a third number, before others or none
      module _ (z : ℤ) (a : Axis) (rest : List (Event ℤ)) (is : more d n xs ≡ (Event.Number a z ∷ []) ++ rest) where
        third : Owes maker b coordinate-all b2 ((Event.Number a z ∷ []) ++ rest)
        third = owes-so maker b b2 coordinate-all (more d n xs) _ is after-y

        pub z-fits : maker.fits b2 (maker.takes b2 z)
        z-fits = owes-fits maker b b2 coordinate-all (Event.Number a z ∷ []) rest (maker.takes b2 z) (omega arith) third

        module _ (b3 : B) (z-is : Tells maker b2 (Event.Number a z ∷ []) b3) where
          after-z : Owes maker b coordinate-all b3 rest
          after-z = owes-less maker b b2 b3 coordinate-all (Event.Number a z ∷ []) rest third z-is

          pub m-fits : (m : ℤ) → rest ≡ Event.Number axis.M m ∷ [] → maker.fits b3 (maker.takes b3 m)
          m-fits m e = owes-fits maker b b3 coordinate-all (Event.Number axis.M m ∷ []) [] (maker.takes b3 m) (omega arith) (owes-so maker b b3 coordinate-all rest _ e after-z)

          pub rest-told : (b4 : B) → Tells maker b3 rest b4 → Tells maker b coordinate-all b4
          rest-told b4 told = owes-none maker b b3 b4 coordinate-all rest after-z told

      pub three-told : (b3 : B) → Tells maker b2 (more d n xs) b3 → Tells maker b coordinate-all b3
      three-told b3 told = owes-none maker b b2 b3 coordinate-all (more d n xs) after-y told

-- A header, and what stands behind it.

pub are-whole : (g : Given) → (places : ℕ) × AreGiven places g → AreWhole g
are-whole g (places, (v, h)) = whole-of places g v h

pub parts-of-kind : (g : Given) → (places : ℕ) × AreGiven places g → (k : GeometryType) → g.kind ≡ k → HasPartsOf k g
parts-of-kind g (places, (v, h)) k e = subst (λ j. HasPartsOf j g) e (has-parts places g v h)

module _ {B : Type 0} (maker : Maker ℤ B) (g : Given) (b : B) (given : (places : ℕ) × AreGiven places g) (room : (places : ℕ) (v : Value ℤ) → IsGiven places g v → maker.fits b (events_cost (maker.takes b) (events v)))
    (p : Part) (rest : List (Event ℤ)) (split : (places : ℕ) (v : Value ℤ) → IsGiven places g v → events v ≡ (Event.Header p g.dimension ∷ []) ++ rest) where
  enough : maker.fits b (events_cost (maker.takes b) ((Event.Header p g.dimension ∷ []) ++ rest))
  enough = subst (λ es. maker.fits b (events_cost (maker.takes b) es)) (split given.0 given.1.0 given.1.1) (room given.0 given.1.0 given.1.1)

  pub header-fits : maker.fits b (header_cost p)
  header-fits = owes-fits maker b b ((Event.Header p g.dimension ∷ []) ++ rest) (Event.Header p g.dimension ∷ []) rest (header_cost p) (omega arith) (owes-all maker b ((Event.Header p g.dimension ∷ []) ++ rest) enough)

  module _ (c : B) (makes : maker.makes b (Event.Header p g.dimension ∷ []) c) (leaves : Leaves maker b (header_cost p) c) where
    pub rest-fits : maker.fits c (events_cost (maker.takes c) rest)
    rest-fits =
        let left = owes-less maker b b c ((Event.Header p g.dimension ∷ []) ++ rest) (Event.Header p g.dimension ∷ []) rest (owes-all maker b ((Event.Header p g.dimension ∷ []) ++ rest) enough)
        (tells-one maker b c (Event.Header p g.dimension) (header_cost p) refl makes leaves) in
        left.room

    pub whole-told : (d : B) → Tells maker c rest d → (places : ℕ) (v : Value ℤ) → IsGiven places g v → Tells maker b (events v) d
    whole-told d told places v h =
        subst (λ es. Tells maker b es d) (sym (split places v h)) (tells-more maker b c d (Event.Header p g.dimension ∷ []) rest (tells-one maker b c (Event.Header p g.dimension) (header_cost p) refl makes leaves) told)
