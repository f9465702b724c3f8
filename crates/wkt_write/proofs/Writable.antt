-- Shapes without an error and well-formed values, one from the other; how deep they are, and what is left in a string.
use Rattle.std.proofs.Common.{◌≡◌, ℕ, ◌≤◌, List, [], ◌∷◌, length, take, map, Bool, true, false, cond, nat_lt, Option, Some, None, refl, arith, ltb-false, option_map, zero, suc, ap, ◌∙◌, ltb-true, max, ◌<◌, slice_get, ◌++◌, String, Result, Ok, Err, string_bytes}
use Rattle.std.specs.Prelude.{option_to_list}
use Rattle.std.specs.List.{AllByRecursion}
use Rattle.std.proofs.lemmas.List.{length-take-le}
use Rattle.std.specs.Option.{option_or}
use Rattle.std.specs.Borrow.{MutBor}
use Rattle.std.specs.declared.alloc.Global.{Global}
use Rattle.wkt_access.specs.declared.dimensions.Dimension.{Dimension}
use Rattle.wkt_access.specs.declared.dimensions.Dimension.TheVariants.{XY, XYZ, XYM, XYZM}
use Rattle.wkt_access.specs.declared.error.Error.{Error}
use Rattle.wkt_access.specs.declared.error.Error.TheVariants.{TooFewNumbers, FmtError, RectUnsupportedDimension, UnknownDimension, Memory}
use Rattle.wkt_access.specs.Values.{size, Value, Values}
use Rattle.wkt_access.specs.Shapes.{Shape, Shapes, printed, dimension, rings_of, rect_corner, cut, canon, canons, header_of, polygon_of, shape_of, shapes_of, PolygonShape}
use Rattle.wkt_access.specs.Faults.{fault, faults, first_fault, coordinate_fault, coordinates_fault, point_fault, polygon_fault, under, rect_fault}
use Rattle.wkt_write.specs.Pieces.{Clear, KnownCoord, KnownCoords, KnownLineStrings, KnownPoint, KnownPolygon, KnownRectCorner, Known, AllKnown}
use Rattle.wkt_access.specs.WellFormed.{IsLawful, CoordFits, LineStringFits, PolygonFits, PointFits, IsWellFormed, AreWellFormed}
use Rattle.wkt_write.proofs.FirstErrors.{none_of_or}
use Rattle.wkt_write.proofs.Bracketed.{under_clean}
use Rattle.wkt_write.proofs.Members.{inside_clean}
use Rattle.wkt_num.specs.Sink.{Sink}
use Rattle.wkt_write.specs.Writes.{Fails, Writes, Pushes}
use Rattle.wkt_access.specs.Parts.{each, members_of}
use Rattle.wkt_num.specs.Borrowed.{string_sink, string_of}
use Rattle.wkt_num.specs.declared.string_text.StringText.{StringText}
use Rattle.wkt_access.specs.Texts.{shape_text}

-- The value of a shape without an error is well-formed, where its numbers are known.

-- a list without an error, and its images
all_fit : {A B : Type 0} (f : A → Option Error) (H : A → Type 0) (G : B → Type 0) (g : A → B) → ((x : A) → f x ≡ None → H x → G (g x)) → (xs : List A) → first_fault f xs ≡ None → AllByRecursion H xs → AllByRecursion G (map g xs)
all_fit f H G g one [] e h = tt
all_fit f H G g one (x ∷ xs) e h =
    let p = none_of_or (f x) (first_fault f xs) e in
    (one x p.0 h.0, all_fit f H G g one xs p.1 h.1)

-- a coordinate that is not too short
enough : (n k : ℕ) → cond (nat_lt n k) (Some TooFewNumbers) None ≡ None → k ≤ n
enough n k h = go (nat_lt n k) refl h
  where
    go : (b : Bool) → nat_lt n k ≡ b → cond b (Some TooFewNumbers) None ≡ None → k ≤ n
    go true e h = cc
    go false e h = ltb-false n k e

module _ {N : Type 0} (is_value : N → Type 0) where
  module _ (d : Dimension) where
    coord_fits : (c : List N) → coordinate_fault (size d) c ≡ None → KnownCoord is_value (size d) c → CoordFits is_value d (take (size d) c)
    coord_fits c e h = (h, length-take-le (size d) c (enough (length c) (size d) e))

    line_string_fits : (cs : List (List N)) → coordinates_fault (size d) cs ≡ None → KnownCoords is_value (size d) cs → LineStringFits is_value d (map (take (size d)) cs)
    line_string_fits cs e h = all_fit (coordinate_fault (size d)) (KnownCoord is_value (size d)) (CoordFits is_value d) (take (size d)) coord_fits cs e h

    line_strings_fit : (ls : List (List (List N))) → first_fault (coordinates_fault (size d)) ls ≡ None → KnownLineStrings is_value (size d) ls → PolygonFits is_value d (map (map (take (size d))) ls)
    line_strings_fit ls e h = all_fit (coordinates_fault (size d)) (KnownCoords is_value (size d)) (LineStringFits is_value d) (map (take (size d))) line_string_fits ls e h

    point_fits : (c : Option (List N)) → point_fault (size d) c ≡ None → KnownPoint is_value (size d) c → PointFits is_value d (option_map (take (size d)) c)
    point_fits None e h = tt
    point_fits (Some c) e h = (line_string_fits (c ∷ []) e h).0

  corner_fits : (a b : List N) → KnownRectCorner is_value a → KnownRectCorner is_value b → CoordFits is_value XY (rect_corner a b)
  corner_fits [] b h g = absurd (omega (arith, h.1))
  corner_fits (x ∷ xs) [] h g = absurd (omega (arith, g.1))
  corner_fits (x ∷ xs) (y ∷ []) h g = absurd (omega (arith, g.1))
  corner_fits (x ∷ xs) (y ∷ z ∷ zs) h g = ((h.0.0, (g.0.1.0, tt)), refl)

  mutual
    pub known_well_formed : (s : Shape N) → fault s ≡ None → Known is_value s → IsWellFormed is_value (canon s)
    known_well_formed (Shape.point d c) e h = point_fits (dimension d) c (under_clean d (λ k. point_fault k c) e) h
    known_well_formed (Shape.line_string d cs) e h = line_string_fits (dimension d) cs (under_clean d (λ k. coordinates_fault k cs) e) h
    known_well_formed (Shape.polygon d p) e h = line_strings_fit (dimension d) (rings_of p) (under_clean d (λ k. polygon_fault k p) e) h
    known_well_formed (Shape.multi_point d ps) e h = all_fit (point_fault (size (dimension d))) (KnownPoint is_value (size (dimension d))) (PointFits is_value (dimension d)) (option_map (cut d)) (point_fits (dimension d)) ps (under_clean d (λ k. first_fault (point_fault k) ps) e) h
    known_well_formed (Shape.multi_line_string d ls) e h = line_strings_fit (dimension d) ls (under_clean d (λ k. first_fault (coordinates_fault k) ls) e) h
    known_well_formed (Shape.multi_polygon d ps) e h = all_fit (polygon_fault (size (dimension d))) (KnownPolygon is_value (size (dimension d))) (PolygonFits is_value (dimension d)) (λ p. map (map (cut d)) (rings_of p)) (λ p. line_strings_fit (dimension d) (rings_of p)) ps (under_clean d (λ k. first_fault (polygon_fault k) ps) e) h
    known_well_formed (Shape.collection d gs) e h = all_known_well_formed gs (inside_clean (printed d) (faults gs) e) h
    known_well_formed (Shape.rect d a b) e (ha, hb) = ((corner_fits b a hb ha, (corner_fits b b hb hb, (corner_fits a b ha hb, (corner_fits a a ha ha, (corner_fits b a hb ha, tt))))), tt)
    known_well_formed (Shape.triangle d a b c) e h =
        let (fa, (fb, (fc, u))) = line_string_fits (dimension d) (a ∷ b ∷ c ∷ []) (under_clean d (λ k. coordinates_fault k (a ∷ b ∷ c ∷ [])) e) h in
        ((fa, (fb, (fc, (fa, tt)))), tt)
    known_well_formed (Shape.line d a b) e h = line_string_fits (dimension d) (a ∷ b ∷ []) (under_clean d (λ k. coordinates_fault k (a ∷ b ∷ [])) e) h

    all_known_well_formed : (gs : Shapes N) → faults gs ≡ None → AllKnown is_value gs → AreWellFormed is_value (canons gs)
    all_known_well_formed Shapes.no_shapes e h = tt
    all_known_well_formed (Shapes.more_shapes g gs) e h =
        let p = none_of_or (fault g) (faults gs) e in
        (known_well_formed g p.0 h.0, all_known_well_formed gs p.1 h.1)

  -- a lawful shape's value is well-formed
  pub canon_well_formed : (s : Shape N) → fault s ≡ None → IsLawful is_value s → IsWellFormed is_value (canon s)
  canon_well_formed s e h = h

  -- where the check pass finds nothing, the shape is lawful
  pub lawful : (s : Shape N) → Clear (fault s) (Known is_value s) → IsLawful is_value s
  lawful s p = known_well_formed s p.none p.holds

-- A well-formed value is a writable shape of values.

-- no error in a list whose items have none
all_clear : {A B : Type 0} (f : B → Option Error) (H : B → Type 0) (G : A → Type 0) (g : A → B) → ((x : A) → G x → (f (g x) ≡ None) × H (g x)) → (xs : List A) → AllByRecursion G xs → (first_fault f (map g xs) ≡ None) × AllByRecursion H (map g xs)
all_clear f H G g one [] h = (refl, tt)
all_clear f H G g one (x ∷ xs) h =
    let p = one x h.0 in
    let q = all_clear f H G g one xs h.1 in
    (ap (λ o. option_or o (first_fault f (map g xs))) p.0 ∙ q.0, (p.1, q.1))

clear : {A : Type 0} (f : A → Option Error) (H G : A → Type 0) → ((x : A) → G x → (f x ≡ None) × H x) → (xs : List A) → AllByRecursion G xs → (first_fault f xs ≡ None) × AllByRecursion H xs
clear f H G one [] h = (refl, tt)
clear f H G one (x ∷ xs) h =
    let p = one x h.0 in
    let q = clear f H G one xs h.1 in
    (ap (λ o. option_or o (first_fault f xs)) p.0 ∙ q.0, (p.1, q.1))

long : (n k : ℕ) → n ≡ k → cond (nat_lt n k) (Some TooFewNumbers) None ≡ None
long n k e = go (nat_lt n k) refl
  where
    go : (b : Bool) → nat_lt n k ≡ b → cond b (Some TooFewNumbers) None ≡ None
    go true h = absurd (omega (arith, e, ltb-true n k h))
    go false h = refl

-- a header that a value has is printed
under_header : (d : Dimension) (inside : ℕ → Option Error) → inside (size d) ≡ None → under (printed (header_of d)) inside ≡ None
under_header XY inside h = h
under_header XYZ inside h = h
under_header XYM inside h = h
under_header XYZM inside h = h

-- what is known under a header that a value has
known_header : (d : Dimension) (P : ℕ → Type 0) → P (size d) → P (size (dimension (header_of d)))
known_header XY P h = h
known_header XYZ P h = h
known_header XYM P h = h
known_header XYZM P h = h

module _ {N : Type 0} (is_value : N → Type 0) where
  take_values : (k : ℕ) (xs : List N) → AllByRecursion is_value xs → AllByRecursion is_value (take k xs)
  take_values zero xs h = tt
  take_values (suc k) [] h = tt
  take_values (suc k) (x ∷ xs) h = (h.0, take_values k xs h.1)

  module _ (d : Dimension) where
    coord_clear : (c : List N) → CoordFits is_value d c → (coordinate_fault (size d) c ≡ None) × KnownCoord is_value (size d) c
    coord_clear c (h, e) = (long (length c) (size d) e, take_values (size d) c h)

    line_string_clear : (cs : List (List N)) → LineStringFits is_value d cs → (coordinates_fault (size d) cs ≡ None) × KnownCoords is_value (size d) cs
    line_string_clear cs h = clear (coordinate_fault (size d)) (KnownCoord is_value (size d)) (CoordFits is_value d) coord_clear cs h

    line_strings_clear : (ls : List (List (List N))) → PolygonFits is_value d ls → (first_fault (coordinates_fault (size d)) ls ≡ None) × KnownLineStrings is_value (size d) ls
    line_strings_clear ls h = clear (coordinates_fault (size d)) (KnownCoords is_value (size d)) (LineStringFits is_value d) line_string_clear ls h

    polygon_clear : (rings : List (List (List N))) → PolygonFits is_value d rings → (polygon_fault (size d) (polygon_of rings) ≡ None) × KnownPolygon is_value (size d) (polygon_of rings)
    polygon_clear [] h = (refl, tt)
    polygon_clear ([] ∷ rs) h = (refl, tt)
    polygon_clear ((c ∷ cs) ∷ rs) h = line_strings_clear ((c ∷ cs) ∷ rs) h

    point_clear : (c : Option (List N)) → PointFits is_value d c → (point_fault (size d) c ≡ None) × KnownPoint is_value (size d) c
    point_clear None h = (refl, tt)
    point_clear (Some c) h = line_string_clear (c ∷ []) (h, tt)

  mutual
    clear_of : (v : Value N) → IsWellFormed is_value v → (fault (shape_of v) ≡ None) × Known is_value (shape_of v)
    clear_of (Value.point d c) h = let p = point_clear d c h in (under_header d (λ k. point_fault k c) p.0, known_header d (λ k. KnownPoint is_value k c) p.1)
    clear_of (Value.line_string d cs) h = let p = line_string_clear d cs h in (under_header d (λ k. coordinates_fault k cs) p.0, known_header d (λ k. KnownCoords is_value k cs) p.1)
    clear_of (Value.polygon d rings) h = let p = polygon_clear d rings h in (under_header d (λ k. polygon_fault k (polygon_of rings)) p.0, known_header d (λ k. KnownPolygon is_value k (polygon_of rings)) p.1)
    clear_of (Value.multi_point d ps) h = let p = clear (point_fault (size d)) (KnownPoint is_value (size d)) (PointFits is_value d) (point_clear d) ps h in (under_header d (λ k. first_fault (point_fault k) ps) p.0, known_header d (λ k. AllByRecursion (KnownPoint is_value k) ps) p.1)
    clear_of (Value.multi_line_string d ls) h = let p = line_strings_clear d ls h in (under_header d (λ k. first_fault (coordinates_fault k) ls) p.0, known_header d (λ k. KnownLineStrings is_value k ls) p.1)
    clear_of (Value.multi_polygon d ps) h = let p = all_clear (polygon_fault (size d)) (KnownPolygon is_value (size d)) (PolygonFits is_value d) polygon_of (polygon_clear d) ps h in (under_header d (λ k. first_fault (polygon_fault k) (map polygon_of ps)) p.0, known_header d (λ k. AllByRecursion (KnownPolygon is_value k) (map polygon_of ps)) p.1)
    clear_of (Value.collection d vs) h = let p = all_clear_of vs h in (under_header d (λ k. faults (shapes_of vs)) p.0, p.1)

    all_clear_of : (vs : Values N) → AreWellFormed is_value vs → (faults (shapes_of vs) ≡ None) × AllKnown is_value (shapes_of vs)
    all_clear_of Values.no_values h = (refl, tt)
    all_clear_of (Values.more_values v vs) h =
        let p = clear_of v h.0 in
        let q = all_clear_of vs h.1 in
        (ap (λ o. option_or o (faults (shapes_of vs))) p.0 ∙ q.0, (p.1, q.1))

  pub writable : (v : Value N) → IsWellFormed is_value v → (fault (shape_of v) ≡ None) × IsLawful is_value (shape_of v)
  writable v h = let p = clear_of v h in (p.0, known_well_formed is_value (shape_of v) p.0 p.1)

-- The error of a shape is never that of the sink or of memory.

abbrev IsOwn : Error → Type 0
IsOwn (FmtError e) = ⊥
IsOwn RectUnsupportedDimension = Unit {0}
IsOwn UnknownDimension = Unit {0}
IsOwn TooFewNumbers = Unit {0}
IsOwn (Memory e) = ⊥

abbrev IsOwnIfAny : Option Error → Type 0
IsOwnIfAny None = Unit {0}
IsOwnIfAny (Some e) = IsOwn e

or_own : (a b : Option Error) → IsOwnIfAny a → IsOwnIfAny b → IsOwnIfAny (option_or a b)
or_own None b h g = g
or_own (Some e) b h g = h

first_own : {A : Type 0} (f : A → Option Error) → ((x : A) → IsOwnIfAny (f x)) → (xs : List A) → IsOwnIfAny (first_fault f xs)
first_own f h [] = tt
first_own f h (x ∷ xs) = or_own (f x) (first_fault f xs) (h x) (first_own f h xs)

few_own : (b : Bool) → IsOwnIfAny (cond b (Some TooFewNumbers) None)
few_own true = tt
few_own false = tt

coordinate_own : {N : Type 0} (k : ℕ) (c : List N) → IsOwnIfAny (coordinate_fault k c)
coordinate_own k c = few_own (nat_lt (length c) k)

line_string_own : {N : Type 0} (k : ℕ) (cs : List (List N)) → IsOwnIfAny (coordinates_fault k cs)
line_string_own k cs = first_own (coordinate_fault k) (coordinate_own k) cs

member_own : {N : Type 0} (k : ℕ) (c : Option (List N)) → IsOwnIfAny (point_fault k c)
member_own k c = line_string_own k (option_to_list c)

polygon_own : {N : Type 0} (k : ℕ) (p : PolygonShape N) → IsOwnIfAny (polygon_fault k p)
polygon_own k p = first_own (coordinates_fault k) (line_string_own k) (rings_of p)

under_own : (o : Option Dimension) (inside : ℕ → Option Error) → ((k : ℕ) → IsOwnIfAny (inside k)) → IsOwnIfAny (under o inside)
under_own None inside h = tt
under_own (Some d) inside h = h _

rect_own : (o : Option Dimension) → IsOwnIfAny (rect_fault o)
rect_own None = tt
rect_own (Some XY) = tt
rect_own (Some XYZ) = tt
rect_own (Some XYM) = tt
rect_own (Some XYZM) = tt

mutual
  fault_own : {N : Type 0} (s : Shape N) → IsOwnIfAny (fault s)
  fault_own (Shape.point d c) = under_own (printed d) (λ k. point_fault k c) (λ k. member_own k c)
  fault_own (Shape.line_string d cs) = under_own (printed d) (λ k. coordinates_fault k cs) (λ k. line_string_own k cs)
  fault_own (Shape.polygon d p) = under_own (printed d) (λ k. polygon_fault k p) (λ k. polygon_own k p)
  fault_own (Shape.multi_point d ps) = under_own (printed d) (λ k. first_fault (point_fault k) ps) (λ k. first_own (point_fault k) (member_own k) ps)
  fault_own (Shape.multi_line_string d ls) = under_own (printed d) (λ k. first_fault (coordinates_fault k) ls) (λ k. first_own (coordinates_fault k) (line_string_own k) ls)
  fault_own (Shape.multi_polygon d ps) = under_own (printed d) (λ k. first_fault (polygon_fault k) ps) (λ k. first_own (polygon_fault k) (polygon_own k) ps)
  fault_own (Shape.collection d gs) = under_own (printed d) (λ k. faults gs) (λ k. faults_own gs)
  fault_own (Shape.rect d a b) = rect_own (printed d)
  fault_own (Shape.triangle d a b c) = under_own (printed d) (λ k. coordinates_fault k (a ∷ b ∷ c ∷ [])) (λ k. line_string_own k (a ∷ b ∷ c ∷ []))
  fault_own (Shape.line d a b) = under_own (printed d) (λ k. coordinates_fault k (a ∷ b ∷ [])) (λ k. line_string_own k (a ∷ b ∷ []))

  faults_own : {N : Type 0} (gs : Shapes N) → IsOwnIfAny (faults gs)
  faults_own Shapes.no_shapes = tt
  faults_own (Shapes.more_shapes g gs) = or_own (fault g) (faults gs) (fault_own g) (faults_own gs)

module _ {S N : Type 0} (sink : Sink S) (num : N → List ℕ) (s : S) (shape : Shape N) where
  own_refusal : (e : Error) → IsOwnIfAny (fault shape) → fault shape ≡ Some e → Fails sink num s shape s e
  own_refusal (FmtError x) h w = absurd (rw w at h)
  own_refusal RectUnsupportedDimension h w = record { found = w; same = refl }
  own_refusal UnknownDimension h w = record { found = w; same = refl }
  own_refusal TooFewNumbers h w = record { found = w; same = refl }
  own_refusal (Memory x) h w = absurd (rw w at h)

  pub refusal : (e : Error) → fault shape ≡ Some e → Fails sink num s shape s e
  refusal e w = own_refusal e (fault_own shape) w

-- How deep collections are nested: a member is less deep than its collection.

abbrev mutual
  pub depth : {N : Type 0} → Shape N → ℕ
  depth (Shape.point d c) = 0
  depth (Shape.line_string d cs) = 0
  depth (Shape.polygon d y) = 0
  depth (Shape.multi_point d ps) = 0
  depth (Shape.multi_line_string d ls) = 0
  depth (Shape.multi_polygon d ys) = 0
  depth (Shape.collection d gs) = suc (deepest gs)
  depth (Shape.rect d a b) = 0
  depth (Shape.triangle d a b c) = 0
  depth (Shape.line d a b) = 0

  pub deepest : {N : Type 0} → Shapes N → ℕ
  deepest Shapes.no_shapes = 0
  deepest (Shapes.more_shapes g gs) = max (depth g) (deepest gs)

below_deepest : {N : Type 0} (gs : Shapes N) (i : ℕ) (g : Shape N) → slice_get (each gs) i ≡ Some g → depth g ≤ deepest gs
below_deepest Shapes.no_shapes i g h = cc
below_deepest (Shapes.more_shapes x gs) zero g h =
    let e : x ≡ g = cc in
    let d : depth x ≡ depth g = ap depth e in
    omega (arith, d)
below_deepest (Shapes.more_shapes x gs) (suc i) g h = omega (arith, below_deepest gs i g h)

pub member_below : {N : Type 0} (s : Shape N) (i : ℕ) (g : Shape N) → slice_get (members_of s) i ≡ Some g → depth g < depth s
member_below (Shape.point d c) i g h = cc
member_below (Shape.line_string d cs) i g h = cc
member_below (Shape.polygon d y) i g h = cc
member_below (Shape.multi_point d ps) i g h = cc
member_below (Shape.multi_line_string d ls) i g h = cc
member_below (Shape.multi_polygon d ys) i g h = cc
member_below (Shape.collection d gs) i g h = omega (arith, below_deepest gs i g h)
member_below (Shape.rect d a b) i g h = cc
member_below (Shape.triangle d a b c) i g h = cc
member_below (Shape.line d a b) i g h = cc

-- The text of a string after a geometry was written through the sink over it.

module _ {N : Type 0} (is_value : N → Type 0) (num : N → List ℕ) (shape : Shape N) (s t : StringText) (b e : MutBor (String Global)) (o : List ℕ)
    (at : string_of s ≡ b) (to : e ≡ string_of t) (is : e.ghost_name ≡ b.ghost_name → o ≡ string_bytes e.now) where
  -- a refused shape leaves the string as it was
  back : t ≡ s → o ≡ string_bytes b.now
  back h = let same : e ≡ b = to ∙ ap string_of h ∙ at in is (ap (λ x. x.ghost_name) same) ∙ ap (λ x. string_bytes x.now) same

  -- the string that comes back is what the sink holds
  held : (string_of t).ghost_name ≡ (string_of s).ghost_name → o ≡ string_bytes (string_of t).now
  held h = is (ap (λ x. x.ghost_name) to ∙ h ∙ ap (λ x. x.ghost_name) at) ∙ ap (λ x. string_bytes x.now) to

  before : string_bytes (string_of s).now ≡ string_bytes b.now
  before = ap (λ x. string_bytes x.now) at

  pub pushed : {T : Type 0} (r : Result T Error) → Writes string_sink is_value num s shape t r → Pushes is_value num (string_bytes b.now) shape o r
  pushed (Ok x) h =
      record { added = held h.added.given.same ∙ h.added.given.grown ∙ ap (λ l. l ++ shape_text num shape) before; sound = h.sound; lawful = h.lawful; fault = tt; untouched = tt; memory = tt; grew = tt }
  pushed (Err (FmtError x)) h =
      let left = h.broken.left in
      record {
        added = tt;
        sound = tt;
        lawful = tt;
        fault = tt;
        untouched = tt;
        memory = h.sound;
        grew = record {
          part = left.grew.part;
          rest = left.grew.rest;
          begins = left.grew.begins;
          grown = held left.same ∙ left.grew.grown ∙ ap (λ l. l ++ left.grew.part) before;
        };
      }
  pushed (Err RectUnsupportedDimension) h = record { added = tt; sound = tt; lawful = tt; fault = h.found; untouched = back h.same; memory = tt; grew = tt }
  pushed (Err UnknownDimension) h = record { added = tt; sound = tt; lawful = tt; fault = h.found; untouched = back h.same; memory = tt; grew = tt }
  pushed (Err TooFewNumbers) h = record { added = tt; sound = tt; lawful = tt; fault = h.found; untouched = back h.same; memory = tt; grew = tt }
  pushed (Err (Memory x)) h = absurd h
