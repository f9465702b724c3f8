-- Parts of a value between the offsets of its arrays.
use Rattle.std.proofs.Common.{◌≡◌, ◌+◌, ◌*◌, ◌-◌, ◌++◌, ◌<◌, ◌≤◌, ℕ, zero, suc, ℤ, List, [], ◌∷◌, length, take, drop, get_or, refl, sym, ap, ◌∙◌, arith, Option, map, subst, option_to_list}
use Rattle.std.specs.Prelude.{Some, None}
use Rattle.std.specs.List.{AllByRecursion, slice_index}
use Rattle.std.proofs.Math.Seq.{take-add}
use Rattle.std.proofs.lemmas.List.{drop_more, take_at, drop_at, length-append, drop-drop}
use Rattle.std.proofs.lemmas.List.Concat.{flat_map-append}
use Rattle.wkt_access.specs.declared.dimensions.Dimension.{Dimension}
use Rattle.wkt_access.specs.declared.dimensions.Dimension.TheVariants.{XY}
use Rattle.wkt_access.specs.Values.{size, Value}
use Rattle.wkt_fill.specs.Arrays.{joined, offsets, numbers_in, parts_of, IsGiven, from_on, up_to, between, Ascend, AreOffsetsTo, AreWhole, coordinate_at, ring_at, polygon_at, polygons_in, AreRingsOfOne, HasParts, HasPartsOf}
use Rattle.wkt_fill.specs.declared.given.Given.{Given}
use Rattle.wkt_num.specs.Decimal.{IsUnits}
use Rattle.wkt_access.specs.WellFormed.{CoordFits, LineStringFits, PointFits, IsWellFormed}
use Rattle.wkt_types.specs.declared.geometry_type.GeometryType.{GeometryType}
use Rattle.wkt_read.specs.Header.{kind_of, dim_of}
use Rattle.wkt_machine.specs.Events.{Event, numbers, further, listed, perhaps, events}
use Rattle.wkt_machine.specs.declared.part.Part.{Part}
use Rattle.wkt_types.specs.declared.geometry_type.GeometryType.TheVariants as kind
use Rattle.wkt_machine.specs.declared.part.Part.TheVariants as part

-- Items by their indices, and lists between offsets.

module _ {A : Type 0} (item : ℕ → A) where
  pub from-length : (i n : ℕ) → length (from_on item i n) ≡ n
  from-length i zero = refl
  from-length i (suc n) = ap suc (from-length (i + 1) n)

  pub from-more : (i m n : ℕ) → from_on item i (m + n) ≡ from_on item i m ++ from_on item (i + m) n
  from-more i zero n = ap (λ (k : ℕ). from_on item i k) {x = zero + n} {y = n} (omega arith) ∙ ap (λ (k : ℕ). from_on item k n) {x = i} {y = i + zero} (omega arith)
  from-more i (suc m) n =
      ap (λ (k : ℕ). from_on item i k) {x = suc m + n} {y = suc (m + n)} (omega arith)
      ∙ ap (λ xs. item i ∷ xs) (from-more (i + 1) m n ∙ ap (λ (k : ℕ). from_on item (i + 1) m ++ from_on item k n) {x = i + 1 + m} {y = i + suc m} (omega arith))

-- the items of a list, by their indices
pub from-list : {A : Type 0} (d : A) (xs : List A) (i n : ℕ) → i + n ≤ length xs → from_on (λ k. get_or xs k d) i n ≡ take n (drop i xs)
from-list d xs i zero le = refl
from-list d xs i (suc n) le =
    ap (λ ys. get_or xs i d ∷ ys) (from-list d xs (i + 1) n (omega (arith, le)))
    ∙ sym (ap (λ ys. take (suc n) ys) (drop_more xs i d (omega (arith, le))))

-- Offsets that go up.
module _ {A : Type 0} (item : ℕ → A) (offs : List ℕ) (up : Ascend offs) where
  -- the lists between offsets, joined
  pub climbs : (i n : ℕ) → i + n < length offs → slice_index offs i ≤ slice_index offs (i + n)
  climbs i zero lt = omega (arith, ap (slice_index offs) {x = i} {y = i + zero} (omega arith))
  climbs i (suc n) lt =
      let one = up i (omega (arith, lt)) in
      let more = climbs (i + 1) n (omega (arith, lt)) in
      omega (arith, one, more, ap (slice_index offs) {x = i + 1 + n} {y = i + suc n} (omega arith))

  pub joined-between : (i n : ℕ) → i + n < length offs → joined (from_on (between item offs) i n) ≡ up_to item (slice_index offs i) (slice_index offs (i + n))
  joined-between i zero lt = ap (λ (k : ℕ). from_on item (slice_index offs i) k) {x = 0} {y = slice_index offs (i + zero) - slice_index offs i} (omega (arith, ap (slice_index offs) {x = i + zero} {y = i} (omega arith)))
  joined-between i (suc n) lt =
      let a : ℕ = slice_index offs i in
      let b : ℕ = slice_index offs (i + 1) in
      let c : ℕ = slice_index offs (i + suc n) in
      let one = up i (omega (arith, lt)) in
      let same : slice_index offs (i + 1 + n) ≡ c = ap (slice_index offs) (omega arith) in
      let more = climbs (i + 1) n (omega (arith, lt)) in
      ap (λ ys. between item offs i ++ ys) (joined-between (i + 1) n (omega (arith, lt)) ∙ ap (λ (k : ℕ). up_to item b k) same)
      ∙ ap (λ (k : ℕ). from_on item a (b - a) ++ from_on item k (c - b)) {x = b} {y = a + (b - a)} (omega (arith, one))
      ∙ sym (from-more item a (b - a) (c - b))
      ∙ ap (λ (k : ℕ). from_on item a k) {x = b - a + (c - b)} {y = c - a} (omega (arith, one, more, same))

  -- and their offsets
  pub offsets-between : (i n : ℕ) → i + n < length offs → offsets (slice_index offs i) (from_on (between item offs) i n) ≡ from_on (slice_index offs) i (suc n)
  offsets-between i zero lt = refl
  offsets-between i (suc n) lt =
      let one = up i (omega (arith, lt)) in
      ap (λ ys. slice_index offs i ∷ ys)
      (ap (λ (k : ℕ). offsets k (from_on (between item offs) (i + 1) n)) {x = slice_index offs i + length (between item offs i)} {y = slice_index offs (i + 1)}
      (omega (arith, one, from-length item (slice_index offs i) (slice_index offs (i + 1) - slice_index offs i)))
      ∙ offsets-between (i + 1) n (omega (arith, lt)))

-- ---- the other way round: lists that have these offsets are those between them

pub same-front : {A : Type 0} (xs ys us vs : List A) → length xs ≡ length us → xs ++ ys ≡ us ++ vs → xs ≡ us
same-front xs ys us vs long e = sym (take_at xs ys (length xs) refl) ∙ ap (λ l. take (length xs) l) e ∙ take_at us vs (length xs) (sym long)

pub same-back : {A : Type 0} (xs ys us vs : List A) → length xs ≡ length us → xs ++ ys ≡ us ++ vs → ys ≡ vs
same-back xs ys us vs long e = sym (drop_at xs ys (length xs) refl) ∙ ap (λ l. drop (length xs) l) e ∙ drop_at us vs (length xs) (sym long)

head-of : (offs : List ℕ) (i m : ℕ) (ms : List ℕ) → drop i offs ≡ m ∷ ms → (slice_index offs i ≡ m) × (drop (i + 1) offs ≡ ms)
head-of [] zero m ms e = absurd (cc)
head-of [] (suc i) m ms e = absurd (cc)
head-of (o ∷ os) zero m ms e = (cc, cc)
head-of (o ∷ os) (suc i) m ms e =
    let more = head-of os i m ms e in
    (more.0, ap (λ (k : ℕ). drop k (o ∷ os)) {x = suc i + 1} {y = suc (i + 1)} (omega arith) ∙ more.1)

offsets-head : {A : Type 0} (n : ℕ) (xss : List (List A)) → (ms : List ℕ) × (offsets n xss ≡ n ∷ ms)
offsets-head n [] = ([], refl)
offsets-head n (xs ∷ xss) = (offsets (n + length xs) xss, refl)

pub between-offsets : {A : Type 0} (item : ℕ → A) (offs : List ℕ) (xss : List (List A)) (i n : ℕ) → drop i offs ≡ offsets n xss → from_on item n (length (joined xss)) ≡ joined xss
    → from_on (between item offs) i (length xss) ≡ xss
between-offsets item offs [] i n e h = refl
between-offsets {A = A} item offs (xs ∷ xss) i n e h =
    let here = head-of offs i n (offsets (n + length xs) xss) e in
    let next = offsets-head (n + length xs) xss in
    let there = head-of offs (i + 1) (n + length xs) next.0 (here.1 ∙ next.1) in
    let split : from_on item n (length xs) ++ from_on item (n + length xs) (length (joined xss)) ≡ xs ++ joined xss =
    sym (from-more item n (length xs) (length (joined xss))) ∙ ap (λ (k : ℕ). from_on item n k) (sym (length-append xs (joined xss))) ∙ h in
    let long : length (from_on item n (length xs)) ≡ length xs = from-length item n (length xs) in
    let one : between item offs i ≡ xs =
    ap (λ (k : ℕ). from_on item (slice_index offs i) k) {x = slice_index offs (i + 1) - slice_index offs i} {y = length xs} (omega (arith, here.0, there.0))
    ∙ ap (λ (k : ℕ). from_on item k (length xs)) here.0
    ∙ same-front _ _ xs (joined xss) long split in
    ap (λ (y : List A). y ∷ from_on (between item offs) (i + 1) (length xss)) one
    ∙ ap (λ (ys : List (List A)). xs ∷ ys) (between-offsets item offs xss (i + 1) (n + length xs) here.1 (same-back _ _ xs (joined xss) long split))

-- ---- coordinates

times : (d : Dimension) (i : ℕ) → suc i * size d ≡ size d + i * size d
times XY i = omega arith
times _ i = omega arith

pub next-times : (d : Dimension) (i : ℕ) → (i + 1) * size d ≡ i * size d + size d
next-times XY i = omega arith
next-times _ i = omega arith

pub fewer : (d : Dimension) (i n : ℕ) → i < n → i * size d + size d ≤ n * size d
fewer XY i n lt = omega (arith, lt)
fewer _ i n lt = omega (arith, lt)

abbrev pub cut : Dimension → List ℤ → ℕ → List ℤ
cut d numbers i = take (size d) (drop (i * size d) numbers)

pub joined-cuts : (d : Dimension) (numbers : List ℤ) (i n : ℕ) → joined (from_on (cut d numbers) i n) ≡ take (n * size d) (drop (i * size d) numbers)
joined-cuts d numbers i zero = ap (λ (k : ℕ). take k (drop (i * size d) numbers)) {x = 0} {y = zero * size d} (omega arith)
joined-cuts d numbers i (suc n) =
    ap (λ ys. cut d numbers i ++ ys) (joined-cuts d numbers (i + 1) n
    ∙ ap (λ (k : ℕ). take (n * size d) (drop k numbers)) (next-times d i)
    ∙ ap (λ ys. take (n * size d) ys) (sym (drop-drop (size d) (i * size d) numbers)))
    ∙ sym (take-add (size d) (n * size d) (drop (i * size d) numbers))
    ∙ ap (λ (k : ℕ). take k (drop (i * size d) numbers)) (sym (times d n))

pub numbers-flat : (rs : List (List (List ℤ))) → numbers_in rs ≡ joined (joined rs)
numbers-flat [] = refl
numbers-flat (r ∷ rs) = ap (λ ns. joined r ++ ns) (numbers-flat rs) ∙ sym (flat_map-append (λ xs. xs) r (joined rs))

-- coordinates of so many numbers are those at their indices
abbrev pub HasSize : Dimension → List ℤ → Type 0
HasSize d c = length c ≡ size d

pub cuts-are : (d : Dimension) (numbers : List ℤ) (cs : List (List ℤ)) (i : ℕ) → drop (i * size d) numbers ≡ joined cs → AllByRecursion (HasSize d) cs → from_on (cut d numbers) i (length cs) ≡ cs
cuts-are d numbers [] i e h = refl
cuts-are d numbers (c ∷ cs) i e h =
    let one : cut d numbers i ≡ c = ap (λ ys. take (size d) ys) e ∙ take_at c (joined cs) (size d) h.0 in
    let rest : drop ((i + 1) * size d) numbers ≡ joined cs =
    ap (λ (k : ℕ). drop k numbers) (next-times d i)
    ∙ sym (drop-drop (size d) (i * size d) numbers) ∙ ap (λ ys. drop (size d) ys) e ∙ drop_at c (joined cs) (size d) h.0 in
    ap (λ (y : List ℤ). y ∷ from_on (cut d numbers) (i + 1) (length cs)) one ∙ ap (λ (ys : List (List ℤ)). c ∷ ys) (cuts-are d numbers cs (i + 1) rest h.1)

pub coords-length : (d : Dimension) (cs : List (List ℤ)) → AllByRecursion (HasSize d) cs → length (joined cs) ≡ length cs * size d
coords-length d [] h = omega arith
coords-length d (c ∷ cs) h = omega (arith, length-append c (joined cs), h.0, coords-length d cs h.1, times d (length cs))

-- Indices that lie within the arrays.

offset-within : (offs : List ℕ) (end : ℕ) → AreOffsetsTo offs end → (k : ℕ) → k < length offs → slice_index offs k ≤ end
offset-within offs end h k lt =
    let n : ℕ = length offs - 1 - k in
    let up = climbs (λ (i : ℕ). i) offs h.ascend k n (omega (arith, lt)) in
    let last : slice_index offs (k + n) ≡ end = ap (slice_index offs) {x = k + n} {y = length offs - 1} (omega (arith, lt)) ∙ h.last in
    omega (arith, up, last)

times-within : (d : Dimension) (a n : ℕ) → a ≤ n → a * size d ≤ n * size d
times-within XY a n le = omega (arith, le)
times-within _ a n le = omega (arith, le)

module _ (g : Given) (w : AreWhole g) (k : ℕ) where
  pub ring-order : k + 1 < length g.rings.now → slice_index g.rings.now k ≤ slice_index g.rings.now (k + 1)
  ring-order lt = w.rings.ascend k lt

  -- the coordinates of a ring are there
  pub ring-within : k < length g.rings.now → slice_index g.rings.now k * size g.dimension ≤ length g.numbers.now
  ring-within lt =
      let inside = offset-within g.rings.now w.coordinates w.rings k lt in
      omega (arith, times-within g.dimension (slice_index g.rings.now k) w.coordinates inside, w.numbers)

  -- and so are the rings of a polygon
  pub polygon-within : k < length g.polygons.now → slice_index g.polygons.now k ≤ length g.rings.now - 1
  polygon-within lt = offset-within g.polygons.now (length g.rings.now - 1) w.polygons k lt

-- Arrays of a value: its parts are found between their offsets.

-- ---- the value of some parts, by its kind

abbrev pub Inverted : GeometryType → Value ℤ → List (List (List (List ℤ))) → Type 0
Inverted kind.Point v ps = (c : Option (List ℤ)) × (v ≡ Value.point (dim_of v) c) × (ps ≡ (option_to_list c ∷ []) ∷ [])
Inverted kind.LineString v ps = (cs : List (List ℤ)) × (v ≡ Value.line_string (dim_of v) cs) × (ps ≡ (cs ∷ []) ∷ [])
Inverted kind.Polygon v ps = (rs : List (List (List ℤ))) × (v ≡ Value.polygon (dim_of v) rs) × (ps ≡ rs ∷ [])
Inverted kind.MultiPoint v ps = (os : List (Option (List ℤ))) × (v ≡ Value.multi_point (dim_of v) os) × (ps ≡ map option_to_list os ∷ [])
Inverted kind.MultiLineString v ps = (ls : List (List (List ℤ))) × (v ≡ Value.multi_line_string (dim_of v) ls) × (ps ≡ ls ∷ [])
Inverted kind.MultiPolygon v ps = v ≡ Value.multi_polygon (dim_of v) ps
Inverted kind.GeometryCollection v ps = ⊥

invert : (v : Value ℤ) (ps : List (List (List (List ℤ)))) → parts_of v ≡ Some ps → Inverted (kind_of v) v ps
invert (Value.point d c) ps e = (c, refl, cc)
invert (Value.line_string d cs) ps e = (cs, refl, cc)
invert (Value.polygon d rs) ps e = (rs, refl, cc)
invert (Value.multi_point d os) ps e = (os, refl, cc)
invert (Value.multi_line_string d ls) ps e = (ls, refl, cc)
invert (Value.multi_polygon d qs) ps e = ap (Value.multi_polygon d) {x = qs} {y = ps} (cc)
invert (Value.collection d vs) ps e = absurd (cc)

-- ---- its coordinates have the sizes that the dimension says

all-append : {A : Type 0} (P : A → Type 0) (xs ys : List A) → AllByRecursion P xs → AllByRecursion P ys → AllByRecursion P (xs ++ ys)
all-append P [] ys h k = k
all-append P (x ∷ xs) ys h k = (h.0, all-append P xs ys h.1 k)

all-joined : {A : Type 0} (P : A → Type 0) (xss : List (List A)) → AllByRecursion (AllByRecursion P) xss → AllByRecursion P (joined xss)
all-joined P [] h = tt
all-joined P (xs ∷ xss) h = all-append P xs (joined xss) h.0 (all-joined P xss h.1)

module _ (is_value : ℤ → Type 0) (d : Dimension) where
  pub sizes : (cs : List (List ℤ)) → LineStringFits is_value d cs → AllByRecursion (HasSize d) cs
  sizes [] h = tt
  sizes (c ∷ cs) h = (h.0.1, sizes cs h.1)

  rings-fit : (rs : List (List (List ℤ))) → AllByRecursion (LineStringFits is_value d) rs → AllByRecursion (HasSize d) (joined rs)
  rings-fit rs h = sizes (joined rs) (all-joined (CoordFits is_value d) rs h)

  one-fits : (rs : List (List (List ℤ))) → AllByRecursion (LineStringFits is_value d) rs → AllByRecursion (HasSize d) (joined (joined (rs ∷ [])))
  one-fits rs h = rings-fit (joined (rs ∷ [])) (all-append (LineStringFits is_value d) rs [] h tt)

  members-fit : (os : List (Option (List ℤ))) → AllByRecursion (PointFits is_value d) os → AllByRecursion (LineStringFits is_value d) (map option_to_list os)
  members-fit [] h = tt
  members-fit (None ∷ os) h = (tt, members-fit os h.1)
  members-fit (Some c ∷ os) h = ((h.0, tt), members-fit os h.1)

parts-fit : (is_value : ℤ → Type 0) (v : Value ℤ) (ps : List (List (List (List ℤ)))) → parts_of v ≡ Some ps → IsWellFormed is_value v → AllByRecursion (HasSize (dim_of v)) (joined (joined ps))
parts-fit is_value (Value.point d None) ps e h = subst (λ qs. AllByRecursion (HasSize d) (joined (joined qs))) {x = ([] ∷ []) ∷ []} {y = ps} (cc) tt
parts-fit is_value (Value.point d (Some c)) ps e h = subst (λ qs. AllByRecursion (HasSize d) (joined (joined qs))) {x = ((c ∷ []) ∷ []) ∷ []} {y = ps} (cc) (h.1, tt)
parts-fit is_value (Value.line_string d cs) ps e h = subst (λ qs. AllByRecursion (HasSize d) (joined (joined qs))) {x = (cs ∷ []) ∷ []} {y = ps} (cc) (one-fits is_value d (cs ∷ []) (h, tt))
parts-fit is_value (Value.polygon d rs) ps e h = subst (λ qs. AllByRecursion (HasSize d) (joined (joined qs))) {x = rs ∷ []} {y = ps} (cc) (one-fits is_value d rs h)
parts-fit is_value (Value.multi_point d os) ps e h =
    subst (λ qs. AllByRecursion (HasSize d) (joined (joined qs))) {x = map option_to_list os ∷ []} {y = ps} (cc) (one-fits is_value d (map option_to_list os) (members-fit is_value d os h))
parts-fit is_value (Value.multi_line_string d ls) ps e h = subst (λ qs. AllByRecursion (HasSize d) (joined (joined qs))) {x = ls ∷ []} {y = ps} (cc) (one-fits is_value d ls h)
parts-fit is_value (Value.multi_polygon d qs) ps e h =
    subst (λ rs. AllByRecursion (HasSize d) (joined (joined rs))) {x = qs} {y = ps} (cc) (rings-fit is_value d (joined qs) (all-joined (LineStringFits is_value d) qs h))
parts-fit is_value (Value.collection d vs) ps e h = absurd (cc)

-- ---- offsets

pub offsets-length : {A : Type 0} (n : ℕ) (xss : List (List A)) → length (offsets n xss) ≡ length xss + 1
offsets-length n [] = omega arith
offsets-length n (xs ∷ xss) = omega (arith, offsets-length (n + length xs) xss)

offsets-first : {A : Type 0} (n : ℕ) (xss : List (List A)) → slice_index (offsets n xss) 0 ≡ n
offsets-first n [] = refl
offsets-first n (xs ∷ xss) = refl

offsets-last : {A : Type 0} (n : ℕ) (xss : List (List A)) → slice_index (offsets n xss) (length xss) ≡ n + length (joined xss)
offsets-last n [] = omega arith
offsets-last n (xs ∷ xss) = omega (arith, offsets-last (n + length xs) xss, length-append xs (joined xss))

offsets-up : {A : Type 0} (n : ℕ) (xss : List (List A)) (i : ℕ) → i + 1 < length (offsets n xss) → slice_index (offsets n xss) i ≤ slice_index (offsets n xss) (i + 1)
offsets-up n [] i lt = absurd (omega (arith, lt))
offsets-up n (xs ∷ xss) zero lt = omega (arith, offsets-first (n + length xs) xss)
offsets-up n (xs ∷ xss) (suc i) lt =
    let more = offsets-up (n + length xs) xss i (omega (arith, lt)) in
    omega (arith, more, ap (slice_index (offsets n (xs ∷ xss))) {x = suc i + 1} {y = suc (i + 1)} (omega arith))

are-offsets : {A : Type 0} (xss : List (List A)) (offs : List ℕ) (end : ℕ) → offs ≡ offsets 0 xss → end ≡ length (joined xss) → AreOffsetsTo offs end
are-offsets xss offs end e l =
    let last : 0 + length (joined xss) ≡ end = omega (arith, l) in
    subst (λ os. AreOffsetsTo os end) (sym e) (record {
      some = omega (arith, offsets-length 0 xss);
      first = offsets-first 0 xss;
      ascend = offsets-up 0 xss;
      last = ap (slice_index (offsets 0 xss)) {x = length (offsets 0 xss) - 1} {y = length xss} (omega (arith, offsets-length 0 xss)) ∙ offsets-last 0 xss ∙ last;
    })

-- ---- what stands between the offsets

fused : {A B : Type 0} (p : Part) (item : B → List (Event ℤ)) (f : A → B) (xs : List A) → further p (λ x. item (f x)) xs ≡ further p item (map f xs)
fused p item f [] = refl
fused p item f (x ∷ xs) = ap (λ es. Event.Comma p ∷ (item (f x) ++ es)) (fused p item f xs)

mapped : {A B : Type 0} (p : Part) (item : B → List (Event ℤ)) (f : A → B) (xs : List A) → listed p (λ x. item (f x)) xs ≡ listed p item (map f xs)
mapped p item f [] = refl
mapped p item f (x ∷ xs) = ap (λ es. Event.Open p ∷ (item (f x) ++ es)) (fused p item f xs)

module _ (places : ℕ) (g : Given) (v : Value ℤ) (h : IsGiven places g v) where
  sized : AllByRecursion (HasSize g.dimension) (joined (joined h.parts))
  sized = subst (λ d. AllByRecursion (HasSize d) (joined (joined h.parts))) (sym h.dimension_is) (parts-fit (IsUnits places) v h.parts h.flat h.fits)

  flat : g.numbers.now ≡ joined (joined (joined h.parts))
  flat = h.numbers_are ∙ numbers-flat (joined h.parts)

  coordinates-are : from_on (coordinate_at g) 0 (length (joined (joined h.parts))) ≡ joined (joined h.parts)
  coordinates-are =
      cuts-are g.dimension g.numbers.now (joined (joined h.parts)) 0 (ap (λ (k : ℕ). drop k g.numbers.now) {x = 0 * size g.dimension} {y = 0} (omega arith) ∙ flat) sized

  rings-are : from_on (ring_at g) 0 (length (joined h.parts)) ≡ joined h.parts
  rings-are = between-offsets (coordinate_at g) g.rings.now (joined h.parts) 0 0 h.rings_are coordinates-are

  -- the arrays have these parts
  pub parts-are : polygons_in g ≡ h.parts
  parts-are =
      ap (λ (n : ℕ). from_on (polygon_at g) 0 n) {x = length g.polygons.now - 1 - 0} {y = length h.parts} (omega (arith, ap length h.polygons_are, offsets-length 0 h.parts))
      ∙ between-offsets (ring_at g) g.polygons.now h.parts 0 0 h.polygons_are rings-are

  pub whole-of : AreWhole g
  whole-of = record {
    coordinates = length (joined (joined h.parts));
    numbers = ap length flat ∙ coords-length g.dimension (joined (joined h.parts)) sized;
    rings = are-offsets (joined h.parts) g.rings.now _ h.rings_are refl;
    polygons = are-offsets h.parts g.polygons.now (length g.rings.now - 1) h.polygons_are (omega (arith, ap length h.rings_are, offsets-length 0 (joined h.parts)));
  }

  pub inverted : (k : GeometryType) → g.kind ≡ k → Inverted k v h.parts
  inverted k e = subst (λ j. Inverted j v h.parts) (sym h.kind_is ∙ e) (invert v h.parts h.flat)

  -- one polygon
  one-polygon : (rs : List (List (List ℤ))) → h.parts ≡ rs ∷ [] → (length g.polygons.now ≡ 2) × (polygon_at g 0 ≡ rs)
  one-polygon rs e =
      let two : length g.polygons.now ≡ 2 = omega (arith, ap length h.polygons_are, offsets-length 0 h.parts, ap length e) in
      let all : polygon_at g 0 ∷ [] ≡ rs ∷ [] =
      ap (λ (n : ℕ). from_on (polygon_at g) 0 n) {x = 1} {y = length g.polygons.now - 1 - 0} (omega (arith, two)) ∙ parts-are ∙ e in
      (two, cc)

  -- one ring
  one-ring : (r : List (List ℤ)) → h.parts ≡ (r ∷ []) ∷ [] → (length g.rings.now ≡ 2) × (ring_at g 0 ≡ r)
  one-ring r e =
      let two : length g.rings.now ≡ 2 = omega (arith, ap length h.rings_are, offsets-length 0 (joined h.parts), ap (λ ps. length (joined ps)) e) in
      let all : ring_at g 0 ∷ [] ≡ r ∷ [] =
      ap (λ (n : ℕ). from_on (ring_at g) 0 n) {x = 1} {y = length (joined h.parts)} (omega (arith, ap (λ ps. length (joined ps)) e)) ∙ rings-are ∙ ap joined e in
      (two, cc)

  module _ (N : Type 0) where
    header : (p : Part) (make : Dimension → List (Event ℤ)) → Event.Header p (dim_of v) ∷ make (dim_of v) ≡ (Event.Header p g.dimension ∷ []) ++ make g.dimension
    header p make = ap (λ d. Event.Header p d ∷ make d) (sym h.dimension_is)

  pub point-events : g.kind ≡ kind.Point → events v ≡ (Event.Header part.Point g.dimension ∷ []) ++ listed part.Point (numbers g.dimension) (ring_at g 0)
  point-events e =
      let i = inverted kind.Point e in
      ap events i.1 ∙ header ℤ part.Point (λ d. listed part.Point (numbers d) (option_to_list i.0))
      ∙ ap (λ r. Event.Header part.Point g.dimension ∷ listed part.Point (numbers g.dimension) r) (sym (one-ring (option_to_list i.0) i.2).1)

  pub line_string-events : g.kind ≡ kind.LineString → events v ≡ (Event.Header part.LineString g.dimension ∷ []) ++ listed part.LineString (numbers g.dimension) (ring_at g 0)
  line_string-events e =
      let i = inverted kind.LineString e in
      ap events i.1 ∙ header ℤ part.LineString (λ d. listed part.LineString (numbers d) i.0)
      ∙ ap (λ r. Event.Header part.LineString g.dimension ∷ listed part.LineString (numbers g.dimension) r) (sym (one-ring i.0 i.2).1)

  pub polygon-events : g.kind ≡ kind.Polygon → events v ≡ (Event.Header part.Polygon g.dimension ∷ []) ++ listed part.Polygon (listed part.Ring (numbers g.dimension)) (polygon_at g 0)
  polygon-events e =
      let i = inverted kind.Polygon e in
      ap events i.1 ∙ header ℤ part.Polygon (λ d. listed part.Polygon (listed part.Ring (numbers d)) i.0)
      ∙ ap (λ r. Event.Header part.Polygon g.dimension ∷ listed part.Polygon (listed part.Ring (numbers g.dimension)) r) (sym (one-polygon i.0 i.2).1)

  pub multi_point-events : g.kind ≡ kind.MultiPoint → events v ≡ (Event.Header part.MultiPoint g.dimension ∷ []) ++ listed part.MultiPoint (listed part.Member (numbers g.dimension)) (polygon_at g 0)
  multi_point-events e =
      let i = inverted kind.MultiPoint e in
      ap events i.1 ∙ header ℤ part.MultiPoint (λ d. listed part.MultiPoint (perhaps part.Member (numbers d)) i.0)
      ∙ ap (λ es. Event.Header part.MultiPoint g.dimension ∷ es) (mapped part.MultiPoint (listed part.Member (numbers g.dimension)) option_to_list i.0)
      ∙ ap (λ r. Event.Header part.MultiPoint g.dimension ∷ listed part.MultiPoint (listed part.Member (numbers g.dimension)) r) (sym (one-polygon (map option_to_list i.0) i.2).1)

  pub multi_line_string-events : g.kind ≡ kind.MultiLineString → events v ≡ (Event.Header part.MultiLineString g.dimension ∷ []) ++ listed part.MultiLineString (listed part.Line (numbers g.dimension)) (polygon_at g 0)
  multi_line_string-events e =
      let i = inverted kind.MultiLineString e in
      ap events i.1 ∙ header ℤ part.MultiLineString (λ d. listed part.MultiLineString (listed part.Line (numbers d)) i.0)
      ∙ ap (λ r. Event.Header part.MultiLineString g.dimension ∷ listed part.MultiLineString (listed part.Line (numbers g.dimension)) r) (sym (one-polygon i.0 i.2).1)

  pub multi_polygon-events : g.kind ≡ kind.MultiPolygon → events v ≡ (Event.Header part.MultiPolygon g.dimension ∷ []) ++ listed part.MultiPolygon (listed part.Area (listed part.AreaRing (numbers g.dimension))) (polygons_in g)
  multi_polygon-events e =
      let i = inverted kind.MultiPolygon e in
      ap events i ∙ header ℤ part.MultiPolygon (λ d. listed part.MultiPolygon (listed part.Area (listed part.AreaRing (numbers d))) h.parts)
      ∙ ap (λ r. Event.Header part.MultiPolygon g.dimension ∷ listed part.MultiPolygon (listed part.Area (listed part.AreaRing (numbers g.dimension))) r) (sym parts-are)

  pub no-collection : g.kind ≡ kind.GeometryCollection → ⊥
  no-collection e = inverted kind.GeometryCollection e

  -- ---- and the shape that its kind has

  small : (c : Option (List ℤ)) → length (option_to_list c) ≤ 1
  small None = omega arith
  small (Some c) = omega arith

  smalls : (os : List (Option (List ℤ))) (n i : ℕ) → i + 1 < length (offsets n (map option_to_list os)) → slice_index (offsets n (map option_to_list os)) (i + 1) ≤ slice_index (offsets n (map option_to_list os)) i + 1
  smalls [] n i lt = absurd (omega (arith, lt))
  smalls (c ∷ os) n zero lt = omega (arith, small c, offsets-first (n + length (option_to_list c)) (map option_to_list os))
  smalls (c ∷ os) n (suc i) lt =
      let xss : List (List (List ℤ)) = map option_to_list (c ∷ os) in
      let more = smalls os (n + length (option_to_list c)) i (omega (arith, lt)) in
      omega (arith, more, ap (slice_index (offsets n xss)) {x = suc i + 1} {y = suc (i + 1)} (omega arith))

  of-one : (os : List (Option (List ℤ))) → joined h.parts ≡ map option_to_list os → AreRingsOfOne g.rings.now
  of-one os e = subst (λ rs. AreRingsOfOne rs) (sym (h.rings_are ∙ ap (offsets 0) e)) (smalls os 0)

  has-of : (k : GeometryType) → g.kind ≡ k → HasPartsOf k g
  has-of kind.Point e = let i = inverted kind.Point e in ((one-polygon _ i.2).0, (one-ring _ i.2).0, of-one (i.0 ∷ []) (ap joined i.2))
  has-of kind.LineString e = let i = inverted kind.LineString e in ((one-polygon _ i.2).0, (one-ring _ i.2).0)
  has-of kind.Polygon e = let i = inverted kind.Polygon e in (one-polygon _ i.2).0
  has-of kind.MultiPoint e = let i = inverted kind.MultiPoint e in ((one-polygon _ i.2).0, of-one i.0 (ap joined i.2 ∙ plain (map option_to_list i.0)))
    where
      plain : {A : Type 0} (xs : List A) → joined (xs ∷ []) ≡ xs
      plain [] = refl
      plain (x ∷ xs) = ap (λ ys. x ∷ ys) (plain xs)
  has-of kind.MultiLineString e = let i = inverted kind.MultiLineString e in (one-polygon _ i.2).0
  has-of kind.MultiPolygon e = tt
  has-of kind.GeometryCollection e = no-collection e

  pub has-parts : HasParts g
  has-parts = has-of g.kind refl
