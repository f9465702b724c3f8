-- A flat value and its Wkt are written as one value; neither has an error, and a shape without error is refused for memory alone.
use Rattle.std.proofs.Common.{◌≡◌, ℕ, List, [], ◌∷◌, map, Some, None, refl, ap, ap₂, sym, ◌∙◌, subst, Result, Ok, Err, String, string_bytes, OnOk}
use Rattle.std.specs.Prelude.{IfOk, IfErr}
use Rattle.std.specs.Option.{option_or}
use Rattle.wkt_access.specs.Shapes.{Shape, canon, canons, rings_of, polygon_of, shapes_of, cut}
use Rattle.wkt_access.specs.declared.dimensions.Dimension.TheVariants.{XY}
use Rattle.wkt_access.specs.declared.dimensions.Dimensions.TheVariants.{Xy}
use Rattle.wkt_access.specs.Values.{Value, Values}
use Rattle.wkt_access.specs.Texts.{text, shape_text}
use Rattle.wkt_access.specs.Faults.{fault, faults, first_fault, coordinates_fault, point_fault, polygon_fault}
use Rattle.wkt_types.specs.Values.{tree_shape, values_of, point_numbers, line_string_numbers, polygon_numbers}
use Rattle.wkt_flat.specs.Shape.{flat_shape, flat_shapes, sequence_numbers, rings_shape}
use Rattle.wkt_flat.specs.Shape as shape
use Rattle.wkt_flat.specs.Rings.{Rings}
use Rattle.wkt_flat.specs.Tree.{Flat, Flats}
use Rattle.wkt_flat.proofs.TreeLemmas.{writable}
use Rattle.wkt_convert.specs.Back.{back, all_back, line_string_back, rings_back, point_back, polygon_back, wkt_text}
use Rattle.wkt_convert.specs.Laws.{FlatAndBack}
use Rattle.wkt_flat.specs.declared.coord.Coord as flat_coord
use Rattle.wkt_flat.specs.declared.point.Point as flat_point
use Rattle.wkt_access.specs.declared.error.Error.{Error}
use Rattle.wkt_access.specs.declared.error.Error.TheVariants.{FmtError, RectUnsupportedDimension, UnknownDimension, TooFewNumbers, Memory}
use Rattle.wkt_access.specs.WellFormed.{IsLawful, IsWellFormed}
use Rattle.wkt_bytes.specs.Sinks.{SinkOfBytes, IsOut, IsPartOut}
use Rattle.wkt_convert.specs.Sent.{Sends, IfShape, IsRefusal, IsMemory}
use Rattle.wkt_convert.specs.declared.send.ToWktError.{ToWktError}
use Rattle.wkt_convert.specs.declared.send.ToWktError.TheVariants as send

-- A flat_tree value and its `Wkt` are written as one value, and neither has an error.

lines : {T : Type 0} (cs : List (flat_coord.Coord T)) → sequence_numbers cs ≡ line_string_numbers (line_string_back cs)
lines [] = refl
lines (c ∷ cs) = ap (λ l. (c.x ∷ c.y ∷ []) ∷ l) (lines cs)

all_line_strings : {T : Type 0} (ls : List (List (flat_coord.Coord T))) → map sequence_numbers ls ≡ map line_string_numbers (map line_string_back ls)
all_line_strings [] = refl
all_line_strings (l ∷ ls) = ap₂ (λ x xs. x ∷ xs) (lines l) (all_line_strings ls)

points : {T : Type 0} (ps : List (flat_point.Point T)) → map (λ p. Some (shape.flat_point_numbers p)) ps ≡ map point_numbers (map point_back ps)
points [] = refl
points (p ∷ ps) = ap (λ xs. Some (p.0.x ∷ p.0.y ∷ []) ∷ xs) (points ps)

rings : {T : Type 0} (e : List (flat_coord.Coord T)) (is : List (List (flat_coord.Coord T))) →
    rings_of (rings_shape (record { exterior = e; interiors = is })) ≡ rings_of (polygon_of (map line_string_numbers (rings_back e is)))
rings [] is = refl
rings (c ∷ cs) is = ap₂ (λ l ls. ((c.x ∷ c.y ∷ []) ∷ l) ∷ ls) (lines cs) (all_line_strings is)

polygons : {T : Type 0} (ys : List (Rings (flat_coord.Coord T))) →
    map (λ p. map (map (cut Xy)) (rings_of p)) (map rings_shape ys) ≡ map (λ p. map (map (cut Xy)) (rings_of p)) (map polygon_of (map polygon_numbers (map polygon_back ys)))
polygons [] = refl
polygons (y ∷ ys) = ap₂ (λ x xs. x ∷ xs) (ap (map (map (cut Xy))) (rings y.exterior y.interiors)) (polygons ys)

mutual
  pub same : {T : Type 0} (t : Flat T) → canon (flat_shape t) ≡ canon (tree_shape (back t))
  same (Flat.point p) = refl
  same (Flat.line l) = refl
  same (Flat.line_string cs) = ap (λ l. Value.line_string XY (map (cut Xy) l)) (lines cs)
  same (Flat.polygon y) = ap (λ l. Value.polygon XY (map (map (cut Xy)) l)) (rings y.exterior y.interiors)
  same (Flat.multi_point ps) = ap (λ l. canon (Shape.multi_point Xy l)) (points ps)
  same (Flat.multi_line_string ls) = ap (λ l. Value.multi_line_string XY (map (map (cut Xy)) l)) (all_line_strings ls)
  same (Flat.multi_polygon ys) = ap (λ l. Value.multi_polygon XY l) (polygons ys)
  same (Flat.collection ts) = ap (λ vs. Value.collection XY vs) (all_same ts)
  same (Flat.rect r) = refl
  same (Flat.triangle t) = refl

  all_same : {T : Type 0} (ts : Flats T) → canons (flat_shapes ts) ≡ canons (shapes_of (values_of (all_back ts)))
  all_same Flats.no_flats = refl
  all_same (Flats.more_flats t ts) = ap₂ Values.more_values (same t) (all_same ts)

polygon_clear : {T : Type 0} (y : Rings (flat_coord.Coord T)) → polygon_fault 2 (polygon_of (polygon_numbers (polygon_back y))) ≡ None
polygon_clear y = ap (first_fault (coordinates_fault 2)) (sym (rings y.exterior y.interiors)) ∙ writable (Flat.polygon y)

polygons_clear : {T : Type 0} (ys : List (Rings (flat_coord.Coord T))) → first_fault (polygon_fault 2) (map polygon_of (map polygon_numbers (map polygon_back ys))) ≡ None
polygons_clear [] = refl
polygons_clear (y ∷ ys) = ap (λ o. option_or o (first_fault (polygon_fault 2) (map polygon_of (map polygon_numbers (map polygon_back ys))))) (polygon_clear y) ∙ polygons_clear ys

mutual
  pub clear : {T : Type 0} (t : Flat T) → fault (tree_shape (back t)) ≡ None
  clear (Flat.point p) = refl
  clear (Flat.line l) = refl
  clear (Flat.line_string cs) = ap (coordinates_fault 2) (sym (lines cs)) ∙ writable (Flat.line_string cs)
  clear (Flat.polygon y) = polygon_clear y
  clear (Flat.multi_point ps) = ap (first_fault (point_fault 2)) (sym (points ps)) ∙ writable (Flat.multi_point ps)
  clear (Flat.multi_line_string ls) = ap (first_fault (coordinates_fault 2)) (sym (all_line_strings ls)) ∙ writable (Flat.multi_line_string ls)
  clear (Flat.multi_polygon ys) = polygons_clear ys
  clear (Flat.collection ts) = all_clear ts
  clear (Flat.rect r) = refl
  clear (Flat.triangle t) = refl

  all_clear : {T : Type 0} (ts : Flats T) → faults (shapes_of (values_of (all_back ts))) ≡ None
  all_clear Flats.no_flats = refl
  all_clear (Flats.more_flats t ts) = ap (λ o. option_or o (faults (shapes_of (values_of (all_back ts))))) (clear t) ∙ all_clear ts

pub flat_and_back : {T : Type 0} → FlatAndBack T
flat_and_back t = (same t, writable t, clear t)

pub same_text : {T : Type 0} (num : T → List ℕ) (t : Flat T) → text num (canon (flat_shape t)) ≡ text num (canon (tree_shape (back t)))
same_text num t = ap (text num) (same t)

-- A shape without error is refused for memory alone, or never.

never : {A N : Type 0} (s : Shape N) → fault s ≡ None → (r : Result A ToWktError) → IfShape r (λ e. fault s ≡ Some e) → IfShape r (λ _. ⊥)
never s n (Ok x) h = tt
never s n (Err (send.Shape e)) h = let p : None ≡ Some e = sym n ∙ h in cc
never s n (Err (send.Io e)) h = tt

none_some : {X : Type 0} (o : Error) {e : _} → e ≡ None → e ≡ Some o → X
none_some o n h = let p : None ≡ Some o = sym n ∙ h in cc

only_memory : {N : Type 0} (s : Shape N) → fault s ≡ None → (e : Error) → IsRefusal s e → IsMemory e
only_memory s n (FmtError e) h = h
only_memory s n RectUnsupportedDimension h = none_some RectUnsupportedDimension n h
only_memory s n UnknownDimension h = none_some UnknownDimension n h
only_memory s n TooFewNumbers h = none_some TooFewNumbers n h
only_memory s n (Memory e) h = tt

memory_refuses : {N : Type 0} (s : Shape N) (e : Error) → IsMemory e → IsRefusal s e
memory_refuses s (FmtError e) h = h
memory_refuses s RectUnsupportedDimension h = absurd h
memory_refuses s UnknownDimension h = absurd h
memory_refuses s TooFewNumbers h = absurd h
memory_refuses s (Memory e) h = tt

string_memory : {A N : Type 0} (s : Shape N) → fault s ≡ None → (r : Result A Error) → IfErr r (IsRefusal s) → IfErr r IsMemory
string_memory s n (Ok x) h = tt
string_memory s n (Err e) h = only_memory s n e h

string_refused : {A N : Type 0} (s : Shape N) (r : Result A Error) → IfErr r IsMemory → IfErr r (IsRefusal s)
string_refused s (Ok x) h = tt
string_refused s (Err e) h = memory_refuses s e h

ok_any : {A E P : Type 0} (r : Result A E) → P → OnOk r P
ok_any (Ok x) p = p
ok_any (Err e) p = tt

-- what was said of the text that a flat value is written as is said of its `Wkt`
module _ {A E T : Type 0} (r : Result A E) (t : Flat T) where
  pub sound_of : OnOk r (fault (tree_shape (back t)) ≡ None)
  sound_of = ok_any r (clear t)

  pub lawful_of : (is_value : T → Type 0) → OnOk r (IsLawful is_value (flat_shape t)) → OnOk r (IsLawful is_value (tree_shape (back t)))
  lawful_of is_value h = subst (λ s. OnOk r (IsWellFormed is_value s)) (same t) h

module _ {A T : Type 0} (r : Result A ToWktError) (t : Flat T) where
  pub never_of : IfShape r (λ e. fault (flat_shape t) ≡ Some e) → IfShape r (λ _. ⊥)
  never_of = never (flat_shape t) (writable t) r

-- what went out of a flat value went out of its `Wkt`
module _ {W T : Type 0} (sink : SinkOfBytes W) (is_value : T → Type 0) (num : T → List ℕ) (u v : W) (t : Flat T) where
  pub sends_of : {A : Type 0} (r : Result A ToWktError) → Sends sink is_value num u (flat_shape t) v r → IfShape r (λ e. fault (flat_shape t) ≡ Some e)
      → Sends sink is_value num u (tree_shape (back t)) v r
  sends_of (Ok x) h cause = record {
    sound = clear t;
    lawful = subst (λ s. IsWellFormed is_value s) (same t) h.lawful;
    out = subst (λ (bs : List ℕ). IsOut sink u v bs) (same_text num t) h.out;
    unfailed = h.unfailed;
  }
  sends_of (Err (send.Shape e)) h cause = none_some e (writable t) cause
  sends_of (Err (send.Io e)) h cause = record {
    sound = clear t;
    out = subst (λ (bs : List ℕ). IsPartOut sink u v bs) (same_text num t) h.out;
    failed = h.failed;
  }

module _ {T : Type 0} (t : Flat T) where
  pub text_of : {A : Type 0} (r : Result (String A) Error) (num : T → List ℕ) → IfOk r (λ s. string_bytes s ≡ shape_text num (flat_shape t)) → IfOk r (λ s. string_bytes s ≡ wkt_text num t)
  text_of r num h = subst (λ (bs : List ℕ). IfOk r (λ s. string_bytes s ≡ bs)) (same_text num t) h

  pub memory_of : {A : Type 0} (r : Result A Error) → IfErr r (IsRefusal (flat_shape t)) → IfErr r IsMemory
  memory_of r h = string_memory (flat_shape t) (writable t) r h

  pub refused_of : {A : Type 0} (r : Result A Error) → IfErr r (IsRefusal (flat_shape t)) → IfErr r (IsRefusal (tree_shape (back t)))
  refused_of r h = string_refused (tree_shape (back t)) r (memory_of r h)
