-- Flat arrays, as the events of a geometry fill them, and those of the front of a text.
use Rattle.std.proofs.Common.{refl, sym, subst, inl, inr, ◌∙◌, ap, arith, zero, suc, length-append}
use Rattle.std.specs.Prelude.{ℕ, ℤ, ◌+◌, List, [], ◌∷◌, ◌++◌, Bool, true, false, if◌then◌else◌, ◌≡◌, ◌≢◌, ◌⊎◌, take, ◌↔◌, ◌≤◌, ◌<◌, length, drop, Option, Some, None, IfSome, IfNone, IsUtf8}
use Rattle.std.specs.List.{Contains}
use Rattle.std.proofs.lemmas.List.Elements.{Contains-append_left}
use Rattle.wkt_access.specs.declared.dimensions.Dimension.{Dimension}
use Rattle.wkt_types.specs.declared.geometry_type.GeometryType.{GeometryType}
use Rattle.wkt_machine.specs.declared.part.Axis.{Axis}
use Rattle.wkt_machine.specs.declared.part.Part.{Part}
use Rattle.wkt_machine.specs.Events.{Event}
use Rattle.wkt_access.specs.declared.dimensions.Dimension.TheVariants as dim
use Rattle.wkt_types.specs.declared.geometry_type.GeometryType.TheVariants as kind
use Rattle.wkt_machine.specs.declared.part.Axis.TheVariants as axis
use Rattle.wkt_machine.specs.declared.part.Part.TheVariants as part
use Rattle.wkt_fill.specs.Arrays.{HasLarge, parts_of, joined, offsets, numbers_in, IsUnheld}
use Rattle.wkt_events.specs.Remaining.{NoNumber}
use Rattle.wkt_machine.specs.Makers.{Maker, MakesNumber}
use Rattle.wkt_fill.specs.declared.array_builder.ArrayBuilder.{ArrayBuilder}
use Rattle.wkt_fill.specs.declared.array_builder.Room.{Room}
use Rattle.wkt_num.specs.Decimal.{read_decimal, IsUnits}
use Rattle.wkt_access.specs.Values.{Value}
use Rattle.wkt_access.specs.WellFormed.{IsWellFormed}
use Rattle.wkt_read.specs.Front.{Front, HasNoFront}
use Rattle.wkt_read.specs.Header.{kind_of, dim_of}
use Rattle.wkt_fill.specs.declared.fill.Filled.{Filled}

-- Flat arrays, as the events of a geometry fill them.

-- All numbers in order; where each ring begins among the coordinates and each polygon among the rings, with the end of the last; and how many coordinates and rings there are.
pub record FlatArrays : Type 0 where
  pub numbers : List ℤ
  pub rings : List ℕ
  pub polygons : List ℕ
  pub coordinates : ℕ
  pub ring_count : ℕ

-- Arrays, and the header of their geometry.
pub record Headed : Type 0 where
  pub kind : GeometryType
  pub dimension : Dimension
  pub flat : FlatArrays

-- Nothing yet: each list of offsets begins with 0.
abbrev pub nothing : FlatArrays
nothing = record { numbers = []; rings = 0 ∷ []; polygons = 0 ∷ []; coordinates = 0; ring_count = 0 }

abbrev pub unheaded : Headed
unheaded = record { kind = kind.Point; dimension = dim.XY; flat = nothing }

-- A ring ends where the last coordinate does.
abbrev pub end_ring : FlatArrays → FlatArrays
end_ring a = record { numbers = a.numbers; rings = a.rings ++ (a.coordinates ∷ []); polygons = a.polygons; coordinates = a.coordinates; ring_count = a.ring_count + 1 }

-- A polygon ends where the last ring does.
abbrev pub end_polygon : FlatArrays → FlatArrays
end_polygon a = record { numbers = a.numbers; rings = a.rings; polygons = a.polygons ++ (a.ring_count ∷ []); coordinates = a.coordinates; ring_count = a.ring_count }

-- The first number begins a coordinate.
abbrev pub counted : Axis → ℕ → ℕ
counted axis.X n = n + 1
counted a n = n

abbrev pub push : Axis → ℤ → FlatArrays → FlatArrays
push a x f = record { numbers = f.numbers ++ (x ∷ []); rings = f.rings; polygons = f.polygons; coordinates = counted a f.coordinates; ring_count = f.ring_count }

-- The kind of a whole geometry.
abbrev pub kind_of_part : Part → GeometryType
kind_of_part part.LineString = kind.LineString
kind_of_part part.Polygon = kind.Polygon
kind_of_part part.MultiPoint = kind.MultiPoint
kind_of_part part.MultiLineString = kind.MultiLineString
kind_of_part part.MultiPolygon = kind.MultiPolygon
kind_of_part part.Collection = kind.GeometryCollection
kind_of_part p = kind.Point

-- What the end of a part ends: a point and a line string are a ring, and each whole geometry but a multipolygon is one polygon.
abbrev pub end_part : Part → FlatArrays → FlatArrays
end_part part.Point a = end_polygon (end_ring a)
end_part part.LineString a = end_polygon (end_ring a)
end_part part.Polygon a = end_polygon a
end_part part.MultiPoint a = end_polygon a
end_part part.MultiLineString a = end_polygon a
end_part part.MultiPolygon a = a
end_part part.Collection a = a
end_part part.Area a = end_polygon a
end_part p a = end_ring a

-- Nothing of a collection is held.
abbrev pub is_collection : GeometryType → Bool
is_collection kind.GeometryCollection = true
is_collection k = false

abbrev pub put : GeometryType → Axis → ℤ → FlatArrays → FlatArrays
put k a x f = if is_collection k then f else push a x f

abbrev pub ended : GeometryType → Part → FlatArrays → FlatArrays
ended k p f = if is_collection k then f else end_part p f

-- Arrays of this kind are changed.
abbrev pub on : (GeometryType → FlatArrays → FlatArrays) → Headed → Headed
on f w = record { kind = w.kind; dimension = w.dimension; flat = f w.kind w.flat }

-- The headers of a collection's members don't count.
abbrev pub headed : GeometryType → Dimension → Headed → Headed
headed k d w = if is_collection w.kind then w else record { kind = k; dimension = d; flat = w.flat }

-- What an event adds.
abbrev pub step : Event ℤ → Headed → Headed
step (Event.Header p d) w = headed (kind_of_part p) d w
step (Event.Open p) w = w
step (Event.Comma p) w = w
step (Event.Close p) w = on (λ k. ended k p) w
step (Event.Empty p) w = on (λ k. ended k p) w
step (Event.Number a x) w = on (λ k. put k a x) w

-- The arrays after some events.
abbrev pub steps : List (Event ℤ) → Headed → Headed
steps [] w = w
steps (e ∷ es) w = steps es (step e w)

-- The arrays of events.
abbrev pub arrays_of : List (Event ℤ) → Headed
arrays_of es = steps es unheaded

-- What is filled stays, and events after others.

pub steps-append : (es fs : List (Event ℤ)) (w : Headed) → steps (es ++ fs) w ≡ steps fs (steps es w)
steps-append [] fs w = refl
steps-append (e ∷ es) fs w = steps-append es fs (step e w)

-- Each number that was there is there.
abbrev KeepsNumbers : FlatArrays → FlatArrays → Type 0
KeepsNumbers a b = (x : ℤ) → Contains a.numbers x → Contains b.numbers x

either : (t : Bool) (a b : FlatArrays) → KeepsNumbers a b → KeepsNumbers a (if t then a else b)
either true a b h x c = c
either false a b h x c = h x c

put-keeps : (k : GeometryType) (place : Axis) (y : ℤ) (a : FlatArrays) → KeepsNumbers a (put k place y a)
put-keeps k place y a = either (is_collection k) a (push place y a) (λ x c. Contains-append_left a.numbers (y ∷ []) x c)

part-keeps : (p : Part) (a : FlatArrays) → KeepsNumbers a (end_part p a)
part-keeps part.Point a x c = c
part-keeps _ a x c = c

ended-keeps : (k : GeometryType) (p : Part) (a : FlatArrays) → KeepsNumbers a (ended k p a)
ended-keeps k p a = either (is_collection k) a (end_part p a) (part-keeps p a)

headed-keeps : (t : Bool) (w v : Headed) → v.flat ≡ w.flat → KeepsNumbers w.flat (if t then w else v).flat
headed-keeps true w v e x c = c
headed-keeps false w v e x c = subst (λ (f : FlatArrays). Contains f.numbers x) (sym e) c

step-keeps : (e : Event ℤ) (w : Headed) → KeepsNumbers w.flat (step e w).flat
step-keeps (Event.Header p d) w = headed-keeps (is_collection w.kind) w (record { kind = kind_of_part p; dimension = d; flat = w.flat }) refl
step-keeps (Event.Open p) w = λ x c. c
step-keeps (Event.Comma p) w = λ x c. c
step-keeps (Event.Close p) w = ended-keeps w.kind p w.flat
step-keeps (Event.Empty p) w = ended-keeps w.kind p w.flat
step-keeps (Event.Number a y) w = put-keeps w.kind a y w.flat

steps-keep : (es : List (Event ℤ)) (w : Headed) → KeepsNumbers w.flat (steps es w).flat
steps-keep [] w x c = c
steps-keep (e ∷ es) w x c = steps-keep es (step e w) x (step-keeps e w x c)

-- A number that is too large stays among them.
pub large-on : (es : List (Event ℤ)) (w : Headed) → HasLarge w.flat.numbers → HasLarge (steps es w).flat.numbers
large-on es w h = record { number = h.number; held = steps-keep es w h.number h.held; large = h.large }

-- Each list is as long as it was, or longer.
record Grows (a b : FlatArrays) : Type 0 where
  numbers : length a.numbers ≤ length b.numbers
  rings : length a.rings ≤ length b.rings
  polygons : length a.polygons ≤ length b.polygons

grows-same : (a : FlatArrays) → Grows a a
grows-same a = record { numbers = omega arith; rings = omega arith; polygons = omega arith }

grows-both : (a b c : FlatArrays) → Grows a b → Grows b c → Grows a c
grows-both a b c h k = record {
  numbers = omega (arith, h.numbers, k.numbers);
  rings = omega (arith, h.rings, k.rings);
  polygons = omega (arith, h.polygons, k.polygons);
}

push-grows : (place : Axis) (y : ℤ) (a : FlatArrays) → Grows a (push place y a)
push-grows place y a = record { numbers = omega (arith, length-append a.numbers (y ∷ [])); rings = omega arith; polygons = omega arith }

ring-grows : (a : FlatArrays) → Grows a (end_ring a)
ring-grows a = record { numbers = omega arith; rings = omega (arith, length-append a.rings (a.coordinates ∷ [])); polygons = omega arith }

polygon-grows : (a : FlatArrays) → Grows a (end_polygon a)
polygon-grows a = record { numbers = omega arith; rings = omega arith; polygons = omega (arith, length-append a.polygons (a.ring_count ∷ [])) }

both-grow : (a : FlatArrays) → Grows a (end_polygon (end_ring a))
both-grow a = grows-both a (end_ring a) (end_polygon (end_ring a)) (ring-grows a) (polygon-grows (end_ring a))

either-grows : (t : Bool) (a b : FlatArrays) → Grows a b → Grows a (if t then a else b)
either-grows true a b h = grows-same a
either-grows false a b h = h

part-grows : (p : Part) (a : FlatArrays) → Grows a (end_part p a)
part-grows part.Point a = both-grow a
part-grows part.LineString a = both-grow a
part-grows part.Polygon a = polygon-grows a
part-grows part.MultiPoint a = polygon-grows a
part-grows part.MultiLineString a = polygon-grows a
part-grows part.MultiPolygon a = grows-same a
part-grows part.Collection a = grows-same a
part-grows part.Area a = polygon-grows a
part-grows p a = ring-grows a

ended-grows : (k : GeometryType) (p : Part) (a : FlatArrays) → Grows a (ended k p a)
ended-grows k p a = either-grows (is_collection k) a (end_part p a) (part-grows p a)

headed-grows : (t : Bool) (w v : Headed) → v.flat ≡ w.flat → Grows w.flat (if t then w else v).flat
headed-grows true w v e = grows-same w.flat
headed-grows false w v e = subst (Grows w.flat) (sym e) (grows-same w.flat)

step-grows : (e : Event ℤ) (w : Headed) → Grows w.flat (step e w).flat
step-grows (Event.Header p d) w = headed-grows (is_collection w.kind) w (record { kind = kind_of_part p; dimension = d; flat = w.flat }) refl
step-grows (Event.Open p) w = grows-same w.flat
step-grows (Event.Comma p) w = grows-same w.flat
step-grows (Event.Close p) w = ended-grows w.kind p w.flat
step-grows (Event.Empty p) w = ended-grows w.kind p w.flat
step-grows (Event.Number a y) w = either-grows (is_collection w.kind) w.flat (push a y w.flat) (push-grows a y w.flat)

steps-grow : (es : List (Event ℤ)) (w : Headed) → Grows w.flat (steps es w).flat
steps-grow [] w = grows-same w.flat
steps-grow (e ∷ es) w = grows-both w.flat (step e w).flat (steps es (step e w)).flat (step-grows e w) (steps-grow es (step e w))

-- What an array builder has filled.

-- The arrays of an array builder: the first places of its room.
abbrev pub view : ArrayBuilder → Headed
view f = record { kind = f.kind; dimension = f.dimension; flat = record { numbers = take f.number_count f.numbers.now; rings = take (f.ring_count + 1) f.rings.now; polygons = take (f.polygon_count + 1) f.polygons.now; coordinates = f.coordinates; ring_count = f.ring_count } }

-- A list of these arrays is longer than its place in the array builder's room.
abbrev pub Lacks : ArrayBuilder → FlatArrays → Type 0
Lacks f a = (length f.numbers.now < length a.numbers) ⊎ ((length f.rings.now < length a.rings) ⊎ (length f.polygons.now < length a.polygons))

-- The room is as large as it was.
pub record KeepsRoom (s t : ArrayBuilder) : Type 0 where
  pub numbers : length t.numbers.now ≡ length s.numbers.now
  pub rings : length t.rings.now ≡ length s.rings.now
  pub polygons : length t.polygons.now ≡ length s.polygons.now

-- Each coordinate has a number.
abbrev pub IsOrderly : ArrayBuilder → Type 0
IsOrderly f = f.coordinates ≤ f.number_count

-- The arrays became these, unless they have no room or a number of theirs was too large; then the array builder's status says so, and stays.
pub record ArrayBuilderBecomes (s : ArrayBuilder) (w : Headed) (t : ArrayBuilder) : Type 0 where
  pub room : KeepsRoom s t
  pub places : t.places ≡ s.places
  pub orderly : IsOrderly s → IsOrderly t
  pub stays : s.status ≢ 0 → t.status ≡ s.status
  pub does : s.status ≡ 0 → t.status ≡ 0 → view t ≡ w
  pub fails : s.status ≡ 0 → t.status ≢ 0 → ((t.status ≡ 22) × (IsOrderly s → Lacks s w.flat)) ⊎ ((t.status ≡ 25) × HasLarge w.flat.numbers)

-- What had no room has none after more.
lacks-more : (f : ArrayBuilder) (a b : FlatArrays) → Grows a b → Lacks f a → Lacks f b
lacks-more f a b g l = elim l [
  | inl h ↦ inl (omega (arith, h, g.numbers))
  | inr k ↦ elim k [ inl h ↦ inr (inl (omega (arith, h, g.rings))) | inr h ↦ inr (inr (omega (arith, h, g.polygons))) ]
]

pub lacks_on : (f : ArrayBuilder) (es : List (Event ℤ)) (w : Headed) → Lacks f w.flat → Lacks f (steps es w).flat
lacks_on f es w l = lacks-more f w.flat (steps es w).flat (steps-grow es w) l

lacks-before : (s t : ArrayBuilder) (a : FlatArrays) → KeepsRoom s t → Lacks t a → Lacks s a
lacks-before s t a r l = elim l [
  | inl h ↦ inl (omega (arith, h, r.numbers))
  | inr k ↦ elim k [ inl h ↦ inr (inl (omega (arith, h, r.rings))) | inr h ↦ inr (inr (omega (arith, h, r.polygons))) ]
]

abbrev pub Fills : ArrayBuilder → List (Event ℤ) → ArrayBuilder → Type 0
Fills s es t = ArrayBuilderBecomes s (steps es (view s)) t

is-zero : (n : ℕ) → (n ≡ 0) ⊎ (n ≢ 0)
is-zero zero = inl refl
is-zero (suc n) = inr (λ e. absurd (omega (arith, e)))

pub fills_none : (s : ArrayBuilder) → Fills s [] s
fills_none s = record { room = record { numbers = refl; rings = refl; polygons = refl }; places = refl; orderly = λ h. h; stays = λ n. refl; does = λ z e. refl; fails = λ z n. absurd (n z) }

pub fills_more : (s t u : ArrayBuilder) (es fs : List (Event ℤ)) → Fills s es t → Fills t fs u → Fills s (es ++ fs) u
fills_more s t u es fs h k = record {
  room = record {
    numbers = k.room.numbers ∙ h.room.numbers;
    rings = k.room.rings ∙ h.room.rings;
    polygons = k.room.polygons ∙ h.room.polygons;
  };
  places = k.places ∙ h.places;
  orderly = λ o. k.orderly (h.orderly o);
  stays = λ n. k.stays (λ e. n (sym (h.stays n) ∙ e)) ∙ h.stays n;
  does = λ z e. elim (is-zero t.status) [
    | inl tz ↦ k.does tz e ∙ ap (steps fs) (h.does z tz) ∙ sym (steps-append es fs (view s))
    | inr tn ↦ absurd (tn (sym (k.stays tn) ∙ e))
  ];
  fails = λ z n. elim (is-zero t.status) [
    | inl tz ↦ elim (k.fails tz n) [
      | inl m ↦ inl (m.0, λ o. lacks-before s t (steps (es ++ fs) (view s)).flat h.room (subst (λ (w : Headed). Lacks t w.flat) (ap (steps fs) (h.does z tz) ∙ sym (steps-append es fs (view s))) (m.1 (h.orderly o))))
      | inr l ↦ inr (l.0, subst (λ (w : Headed). HasLarge w.flat.numbers) (ap (steps fs) (h.does z tz) ∙ sym (steps-append es fs (view s))) l.1)
    ]
    | inr tn ↦ elim (h.fails z tn) [
      | inl m ↦ inl (k.stays tn ∙ m.0, λ o. subst (λ (w : Headed). Lacks s w.flat) (sym (steps-append es fs (view s))) (lacks_on s fs (steps es (view s)) (m.1 o)))
      | inr l ↦ inr (k.stays tn ∙ l.0, subst (λ (w : Headed). HasLarge w.flat.numbers) (sym (steps-append es fs (view s))) (large-on fs (steps es (view s)) l.1))
    ]
  ];
}

-- What is made is arrays; where there is no room, the status says so.
abbrev pub array_builder_maker : Maker ℤ ArrayBuilder
array_builder_maker = record {
  makes = Fills;
  reads = λ f. read_decimal 127 36 f.places;
  fits = λ f n. Unit {0};
  takes = λ f x. 0;
  none = fills_none;
  more = fills_more;
  same = λ s t es h. (ap (read_decimal 127 36) h.places, refl);
  less = λ s m n order h. tt;
}

-- The number at this place was added, and its end is returned; or there is none, and the arrays are as they were.
pub record FillsNumber (before : ArrayBuilder) (text : List ℕ) (at : ℕ) (axis : Axis) (after : ArrayBuilder) (end : Option ℕ) : Type 0 where
  pub some : IfSome end (MakesNumber (read_decimal 127 36 before.places) array_builder_maker before text at axis after)
  pub none : IfNone end (NoNumber (read_decimal 127 36 before.places) text at)
  pub nothing : IfNone end (after ≡ before)

abbrev pub with_flat : ArrayBuilder → (FlatArrays → FlatArrays) → Headed
with_flat f g = record { kind = f.kind; dimension = f.dimension; flat = g (view f).flat }

-- The array builder has this room.
pub record HasPlaces (r : Room) (f : ArrayBuilder) : Type 0 where
  pub numbers : length f.numbers.now ≡ length r.numbers.now
  pub rings : length f.rings.now ≡ length r.rings.now
  pub polygons : length f.polygons.now ≡ length r.polygons.now

-- Nothing yet, unless there is no room.
pub record ArrayBuilderBegins (given : ℕ) (r : Room) (f : ArrayBuilder) : Type 0 where
  pub places : f.places ≡ given
  pub room : HasPlaces r f
  pub orderly : IsOrderly f
  pub fresh : f.status ≡ 0 → view f ≡ unheaded
  pub or_full : f.status ≢ 0 → (f.status ≡ 22) × Lacks f nothing

-- The arrays stay; the status is that of a collection, if nothing was wrong before.
pub record RefusesCollection (s t : ArrayBuilder) : Type 0 where
  pub same : view t ≡ view s
  pub held : t.status ≡ 0 → (s.status ≡ 0) × (is_collection s.kind ≡ false)
  pub unheld : t.status ≢ 0 → ((t.status ≡ s.status) × (s.status ≢ 0)) ⊎ ((t.status ≡ 24) × (s.status ≡ 0) × (is_collection s.kind ≡ true))

-- The flat arrays of a text's front.

-- The arrays of a value: its kind, its dimension, all its numbers in order, where each ring begins among the coordinates, and where each polygon begins among the rings, with the end of the last.
pub record HoldsAll (f : ArrayBuilder) (value : Value ℤ) : Type 0 where
  pub parts : List (List (List (List ℤ)))
  pub flat : parts_of value ≡ Some parts
  pub kind_is : f.kind ≡ kind_of value
  pub dimension_is : f.dimension ≡ dim_of value
  pub numbers_are : (view f).flat.numbers ≡ numbers_in (joined parts)
  pub rings_are : (view f).flat.rings ≡ offsets 0 (joined parts)
  pub polygons_are : (view f).flat.polygons ≡ offsets 0 parts

-- The bytes have a front that ends there, and are UTF-8 if and only if those behind it are; each of its coordinates has as many numbers as its dimension says; and the arrays are those of its value, or the status says why it has none.
pub record FillsFront (places : ℕ) (text : List ℕ) (r : Room) (f : ArrayBuilder) (end : ℕ) : Type 0 where
  pub value : Value ℤ
  pub front : Front (read_decimal 127 36 places) text value end
  pub within : end ≤ length text
  pub utf8 : IsUtf8 text ↔ IsUtf8 (drop end text)
  pub fits : IsWellFormed (IsUnits places) value
  pub holds : f.status ≡ 0 → HoldsAll f value
  pub unheld : f.status ≢ 0 → IsUnheld (length r.numbers.now) (length r.rings.now) (length r.polygons.now) value f.status

abbrev pub FillsFrontIfAny : ℕ → List ℕ → Room → Option Filled → Type 0
FillsFrontIfAny places text room (Some r) = FillsFront places text room r.arrays r.end
FillsFrontIfAny places text room None = IsUtf8 text → HasNoFront (read_decimal 127 36 places) text
