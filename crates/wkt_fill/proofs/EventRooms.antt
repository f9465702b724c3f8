-- What is put into a room stands behind what was put there before, and what a writer holds then.
use Rattle.std.proofs.Common.{◌≡◌, ◌+◌, ◌<◌, ◌≤◌, ◌^◌, ◌-◌, ℕ, ℤ, List, [], ◌∷◌, ◌++◌, length, map, drop, get_or, set, min, refl, sym, ap, ap₂, ◌∙◌, subst, append_assoc, length-append, arith}
use Rattle.std.proofs.Math.Seq.{set-append_seam}
use Rattle.std.proofs.lemmas.List.{drop_more, length-map}
use Rattle.wkt_access.specs.declared.dimensions.Dimension.{Dimension}
use Rattle.wkt_types.specs.declared.geometry_type.GeometryType.TheVariants as kind
use Rattle.wkt_machine.specs.Events.{Event}
use Rattle.wkt_machine.specs.declared.part.Axis.{Axis}
use Rattle.wkt_machine.specs.declared.part.Axis.TheVariants as axis
use Rattle.wkt_machine.specs.declared.part.Part.{Part}
use Rattle.wkt_fill.specs.Filled.{counted, kind_of_part}
use Rattle.wkt_fill.specs.EventLists.{Told, IsAtFront, AreFew, HoldsTold, Holds, Becomes, halves, add, begin, begins, end_list, push, tell_all}
use Rattle.wkt_fill.specs.declared.units.WktUnits.{WktUnits}
use Rattle.wkt_fill.specs.declared.event_writer.EventWriter.{EventWriter}

put-front : {A : Type 0} (old list now now' : List A) (count count' : ℕ) (x : A) → IsAtFront old list now count → length now' ≡ length now → count' ≡ count + 1 → (count < length now → now' ≡ set now count x) → IsAtFront old (list ++ (x ∷ [])) now' count'
put-front old list now now' count count' x h long more written =
    let one : length (list ++ (x ∷ [])) ≡ length list + 1 = length-append list (x ∷ []) in
    record {
      long = long ∙ h.long;
      counted = let e = h.counted in omega (arith, more, e, one);
      front = λ fits.
          let lt : length list < length old = omega (arith, fits, one) in
          let there : count < length now = let e = h.counted in let l = h.long in omega (arith, lt, e, l) in
          let less : length list ≤ length old = omega (arith, lt) in
          written there
          ∙ ap₂ (λ l n. set l n x) (h.front less ∙ ap (λ l. list ++ l) (drop_more old (length list) x lt)) h.counted
          ∙ set-append_seam list (get_or old (length list) x) (drop (length list + 1) old) x
          ∙ sym (append_assoc list (x ∷ []) (drop (length list + 1) old))
          ∙ ap (λ n. (list ++ (x ∷ [])) ++ drop n old) (sym one);
    }

-- the same room, and as much of it
same-front : {A : Type 0} (old list now now' : List A) (count count' : ℕ) → IsAtFront old list now count → now' ≡ now → count' ≡ count → IsAtFront old list now' count'
same-front old list now now' count count' h e f = record { long = ap length e ∙ h.long; counted = f ∙ h.counted; front = λ fits. e ∙ h.front fits }

pub nothing-there : {A : Type 0} (old now : List A) (count : ℕ) → now ≡ old → count ≡ 0 → IsAtFront old [] now count
nothing-there old now count e f = record { long = ap length e; counted = f; front = λ fits. e }

pub in-room : {A : Type 0} (old list list' now now' : List A) (count count' : ℕ) → IsAtFront old list now count → list ≡ list' → now' ≡ now → count' ≡ count → IsAtFront old list' now' count'
in-room old list list' now now' count count' h l e f = subst (λ x. IsAtFront old x now' count') l (same-front old list now now' count count' h e f)

fewer-list : (w : Told) (e n : ℕ) → length (w.list ++ (e ∷ [])) ≤ n → length w.list ≤ n
fewer-list w e n h = let one = length-append w.list (e ∷ []) in omega (arith, h, one)

few-add : (w : Told) (e : ℕ) → AreFew (add e w) → AreFew w
few-add w e few = record { events = fewer-list w e (2 ^ 64 - 1) few.events; numbers = few.numbers }

next-count : (s t n m most : ℕ) → s ≡ n → t ≡ min (s + 1) most → m ≡ n + 1 → m ≤ most → t ≡ s + 1
next-count s t n m most a b c d = omega (arith, a, b, c, d)

module _ (s t : EventWriter) where
  -- an event more
  pub put-becomes : (e : ℕ) → t.places ≡ s.places → t.events.ghost_name ≡ s.events.ghost_name → t.numbers ≡ s.numbers → t.number_count ≡ s.number_count → t.coordinates ≡ s.coordinates → t.dimension ≡ s.dimension
      → length t.events.now ≡ length s.events.now → t.event_count ≡ min (s.event_count + 1) (2 ^ 64 - 1) → (s.event_count < length s.events.now → t.events.now ≡ set s.events.now s.event_count e) → Becomes (add e) s t
  put-becomes e p o n nc cs d long more written = record {
    places = p;
    events_origin = o;
    numbers_origin = ap (λ r. r.ghost_name) n;
    holds = λ events numbers w was few.
        let h = was (few-add w e few) in
        let one : length (w.list ++ (e ∷ [])) ≡ length w.list + 1 = length-append w.list (e ∷ []) in
        record {
          list = put-front events w.list s.events.now t.events.now s.event_count t.event_count e h.list long (next-count s.event_count t.event_count (length w.list) (length (w.list ++ (e ∷ []))) (2 ^ 64 - 1) h.list.counted more one few.events) written;
          units = same-front numbers (map halves w.numbers) s.numbers.now t.numbers.now s.number_count t.number_count h.units (ap (λ r. r.now) n) nc;
          coordinates = cs ∙ h.coordinates;
          fewer = h.fewer;
          dimension = d ∙ h.dimension;
        };
  }

  -- a list of coordinates that ends
  pub list-becomes : (m : EventWriter) → Becomes (add s.coordinates) s m → t.places ≡ m.places → t.events ≡ m.events → t.numbers ≡ m.numbers → t.event_count ≡ m.event_count → t.number_count ≡ m.number_count → t.coordinates ≡ 0 → t.dimension ≡ m.dimension → Becomes end_list s t
  list-becomes m b p es ns ec nc z d = record {
    places = p ∙ b.places;
    events_origin = ap (λ r. r.ghost_name) es ∙ b.events_origin;
    numbers_origin = ap (λ r. r.ghost_name) ns ∙ b.numbers_origin;
    holds = λ events numbers w was few.
        let first : AreFew w = record { events = fewer-list w w.coordinates (2 ^ 64 - 1) few.events; numbers = few.numbers } in
        let same : s.coordinates ≡ w.coordinates = (was first).coordinates in
        let less : AreFew (add s.coordinates w) = record { events = subst (λ n. length (w.list ++ (n ∷ [])) ≤ 2 ^ 64 - 1) (sym same) few.events; numbers = few.numbers } in
        let h : HoldsTold events numbers m (add s.coordinates w) = b.holds events numbers w was less in
        record {
          list = in-room events (w.list ++ (s.coordinates ∷ [])) (w.list ++ (w.coordinates ∷ [])) m.events.now t.events.now m.event_count t.event_count h.list (ap (λ n. w.list ++ (n ∷ [])) same) (ap (λ r. r.now) es) ec;
          units = same-front numbers (map halves w.numbers) m.numbers.now t.numbers.now m.number_count t.number_count h.units (ap (λ r. r.now) ns) nc;
          coordinates = z;
          fewer = omega arith;
          dimension = d ∙ h.dimension;
        };
  }

  -- a polygon of a multipolygon that begins
  pub area-becomes : (e : ℕ) → Becomes (add e) s t → e ≡ begins kind.Polygon s.dimension → Becomes (λ w. add (begins kind.Polygon w.dimension) w) s t
  area-becomes e b is = record {
    places = b.places;
    events_origin = b.events_origin;
    numbers_origin = b.numbers_origin;
    holds = λ events numbers w was few.
        let first : AreFew w = few-add w (begins kind.Polygon w.dimension) few in
        let same : e ≡ begins kind.Polygon w.dimension = is ∙ ap (begins kind.Polygon) (was first).dimension in
        subst (λ n. Holds events numbers t (add n w)) same (b.holds events numbers w was) few;
  }

  -- a header
  pub header-becomes : (m : EventWriter) (p : Part) (d : Dimension) (e : ℕ) → m.places ≡ s.places → m.events ≡ s.events → m.numbers ≡ s.numbers → m.event_count ≡ s.event_count → m.number_count ≡ s.number_count → m.coordinates ≡ s.coordinates → m.dimension ≡ d
      → Becomes (add e) m t → e ≡ begins (kind_of_part p) d → Becomes (begin p d) s t
  header-becomes m p d e ps es ns ec nc cs md b is = record {
    places = b.places ∙ ps;
    events_origin = b.events_origin ∙ ap (λ r. r.ghost_name) es;
    numbers_origin = b.numbers_origin ∙ ap (λ r. r.ghost_name) ns;
    holds = λ events numbers w was.
        let v : Told = record { list = w.list; numbers = w.numbers; coordinates = w.coordinates; dimension = d } in
        let there : Holds events numbers m v = λ few.
        let h = was (record { events = few.events; numbers = few.numbers }) in
        record {
          list = same-front events w.list s.events.now m.events.now s.event_count m.event_count h.list (ap (λ r. r.now) es) ec;
          units = same-front numbers (map halves w.numbers) s.numbers.now m.numbers.now s.number_count m.number_count h.units (ap (λ r. r.now) ns) nc;
          coordinates = cs ∙ h.coordinates;
          fewer = h.fewer;
          dimension = md;
        } in
        subst (λ n. Holds events numbers t (add n v)) is (b.holds events numbers v there);
  }

  map-one : (xs : List ℤ) (x : ℤ) → map halves xs ++ (halves x ∷ []) ≡ map halves (xs ++ (x ∷ []))
  map-one [] x = refl
  map-one (y ∷ xs) x = ap (λ l. halves y ∷ l) (map-one xs x)

  counted-more : (a : Axis) (n : ℕ) → counted a n ≤ n + 1
  counted-more axis.X n = omega arith
  counted-more _ n = omega arith

  -- a number more
  pub push-becomes : (a : Axis) (x : ℤ) → t.places ≡ s.places → t.numbers.ghost_name ≡ s.numbers.ghost_name → t.events ≡ s.events → t.event_count ≡ s.event_count → t.dimension ≡ s.dimension
      → (s.coordinates < 2 ^ 64 - 1 → t.coordinates ≡ counted a s.coordinates) → length t.numbers.now ≡ length s.numbers.now → t.number_count ≡ min (s.number_count + 1) (2 ^ 64 - 1)
      → (s.number_count < length s.numbers.now → t.numbers.now ≡ set s.numbers.now s.number_count (halves x)) → Becomes (push a x) s t
  push-becomes a x p o es ec d cs long more written = record {
    places = p;
    events_origin = ap (λ r. r.ghost_name) es;
    numbers_origin = o;
    holds = λ events numbers w was few.
        let one : length (w.numbers ++ (x ∷ [])) ≡ length w.numbers + 1 = length-append w.numbers (x ∷ []) in
        let all : length (w.numbers ++ (x ∷ [])) ≤ 2 ^ 64 - 1 = few.numbers in
        let h = was (record { events = few.events; numbers = omega (arith, all, one) }) in
        let same = length-map w.numbers halves in
        let fewer : w.coordinates ≤ length w.numbers = h.fewer in
        let is : s.coordinates ≡ w.coordinates = h.coordinates in
        record {
          list = same-front events w.list s.events.now t.events.now s.event_count t.event_count h.list (ap (λ r. r.now) es) ec;
          units = subst (λ l. IsAtFront numbers l t.numbers.now t.number_count) (map-one w.numbers x)
              (put-front numbers (map halves w.numbers) s.numbers.now t.numbers.now s.number_count t.number_count (halves x) h.units long
              (next-count s.number_count t.number_count (length (map halves w.numbers)) (length (w.numbers ++ (x ∷ []))) (2 ^ 64 - 1) h.units.counted more (omega (arith, one, same)) all) written);
          coordinates = cs (omega (arith, fewer, is, all, one)) ∙ ap (counted a) is;
          fewer = let c = counted-more a w.coordinates in omega (arith, c, fewer, one);
          dimension = d ∙ h.dimension;
        };
  }

-- a number that is passed on is the same
pub halves-any : (x y : ℤ) (r : WktUnits) → r ≡ halves y → y ≡ x → r ≡ halves x
halves-any x y r h e = h ∙ ap halves e

pub push-any : (s t : EventWriter) (a : Axis) (x y : ℤ) → Becomes (push a y) s t → y ≡ x → Becomes (tell_all (Event.Number a x ∷ [])) s t
push-any s t a x y b e = subst (λ z. Becomes (push a z) s t) e b
