-- The answers to texts and JSON values: the flat value of the front, or a refusal with its message; and the `Wkt` of a flat
-- value, with its parts as lists.
use Rattle.std.proofs.Common.{◌≡◌, ℕ, List, Option, Some, None, Result, Ok, Err, Bool, subst, sym, ◌∙◌, refl, IfNone, IsSome, ◌↔◌, false, IsTrue, [], ◌∷◌, arith, ap, ap₂, map, cond}
use Rattle.std.specs.Prelude.{IfSome, IsUtf8, option_map}
use Rattle.std.proofs.lemmas.Option.{none-some}
use Rattle.std.specs.List.{AllByRecursion}
use Rattle.std.specs.Cmp.{IsTotalOrder}
use Rattle.std.specs.Ordering.{is_lt, is_gt, ordering_reverse}
use Rattle.std.specs.declared.cmp.Ordering.{Ordering}
use Rattle.std.specs.declared.cmp.Ordering.TheVariants.{Less, Equal, Greater}
use Rattle.wkt_types.specs.Tree.{Tree, trees_of}
use Rattle.wkt_types.specs.Outcome.{Outcome, Answers}
use Rattle.wkt_types.specs.declared.convert.ConvertError.{ConvertError}
use Rattle.wkt_types.specs.declared.convert.ConvertError.TheVariants.{PointConversionError, MismatchedGeometry, WrongNumberOfGeometries, InvalidWKT, Reader, Utf8, Memory}
use Rattle.wkt_read.specs.Answered.{IsFront, HasBadNumber}
use Rattle.wkt_flat.specs.declared.coord.Coord.{Coord}
use Rattle.wkt_flat.specs.declared.coord.Coord as flat_coord
use Rattle.wkt_convert.specs.Kinds.{AnswersAny, point_in}
use Rattle.wkt_convert.specs.declared.flattened.Flattened.{Flattened}
use Rattle.wkt_flat_read.specs.Trees.{IsFlatFront}
use Rattle.wkt.specs.FromText.{TextAnswers, BytesAnswer, cause_of, point_if_any}
use Rattle.wkt_read.specs.Items.{bad_number}
use Rattle.wkt_read.specs.Messages.{message_text}
use Rattle.wkt_read.specs.Refusal.{IsRefusedWith}
use Rattle.wkt_read.specs.declared.messages.Message.{Message}
use Rattle.wkt_read.proofs.Refusals.{one-text, with_bad}
use Rattle.wkt_flat.specs.Tree.{Flat, Flats, flats_of}
use Rattle.wkt_read.specs.declared.messages.Message.TheVariants as message
use Rattle.wkt_access.specs.Shapes.{canon, canons, cut, rings_of}
use Rattle.wkt_access.specs.Values.{Value, Values}
use Rattle.wkt_access.specs.declared.dimensions.Dimension.TheVariants.{XY}
use Rattle.wkt_access.specs.declared.dimensions.Dimensions.TheVariants.{Xy}
use Rattle.wkt_types.specs.Values.{value_of, values_of, point_numbers, line_string_numbers, polygon_numbers, HasDim, IsPointIn, IsLineStringIn, IsPolygonIn, IsUniform, AreUniform, IsWktOf}
use Rattle.wkt_flat.specs.Rings.{Rings, lesser, greater}
use Rattle.wkt_flat.specs.Shape.{flat_shape, flat_shapes, sequence_numbers, rings_shape}
use Rattle.wkt_flat.specs.Shape as shape
use Rattle.wkt_convert.specs.Back.{back, all_back, flat_xy, line_string_back, rings_back, point_back, polygon_back}
use Rattle.wkt.specs.Laws.{IsAtMost}
use Rattle.wkt_flat.specs.declared.point.Point as flat_point

-- The answers to texts and JSON values: the flat value of the front, or a refusal with its message.

-- The answer to a text by the flat value of its front, and to the bytes of a source by the answer to its text.

module _ {T X R : Type 0} (read : List ℕ → Option T) (see : R → X) (turn : Tree T → Outcome X) where
  text_bytes : (bs : List ℕ) → IsUtf8 bs → (r : Result R ConvertError) → TextAnswers read see turn bs r → BytesAnswer cause_of (TextAnswers read see turn) bs r
  text_bytes bs u (Ok r) h = (u, h)
  text_bytes bs u (Err PointConversionError) h = (u, h)
  text_bytes bs u (Err (MismatchedGeometry e f)) h = (u, h)
  text_bytes bs u (Err (WrongNumberOfGeometries n)) h = absurd h
  text_bytes bs u (Err (InvalidWKT m)) h = (u, h)
  text_bytes bs u (Err (Reader e)) h = tt
  text_bytes bs u (Err Utf8) h = absurd h
  text_bytes bs u (Err (Memory e)) h = tt

  pub source_answers : (o : Option (List ℕ)) (string text : List ℕ) → IfSome o (λ bs. string ≡ bs) → text ≡ string → IsUtf8 text →
      (r : Result R ConvertError) → TextAnswers read see turn text r → IfSome o (λ bs. BytesAnswer cause_of (TextAnswers read see turn) bs r)
  source_answers None string text h e u r a = tt
  source_answers (Some bs) string text h e u r a =
      subst (λ (bs : List ℕ). BytesAnswer cause_of (TextAnswers read see turn) bs r) (e ∙ h) (text_bytes text u r a)

  front_gives : (text : List ℕ) (k : Tree T) → IsFront read text k → (r : Result R ConvertError) → Answers see (turn k) r → TextAnswers read see turn text r
  front_gives text k front (Ok x) h = (k, front, h)
  front_gives text k front (Err PointConversionError) h = (k, front, h)
  front_gives text k front (Err (MismatchedGeometry e f)) h = (k, front, h)
  front_gives text k front (Err (WrongNumberOfGeometries n)) h = absurd h
  front_gives text k front (Err (InvalidWKT m)) h = absurd h
  front_gives text k front (Err (Reader e)) h = absurd h
  front_gives text k front (Err Utf8) h = absurd h
  front_gives text k front (Err (Memory e)) h = tt

  pub flat_answers : (E : Coord T → Coord T → Bool) (text : List ℕ) (f : Flattened T) (r : Result R ConvertError) → IsFlatFront read E text f → AnswersAny E f see turn r → TextAnswers read see turn text r
  flat_answers E text f r (k, front, flat) h = front_gives text k front r (h k flat)

-- What has no front is refused, and the message on a bad number comes only where there is one.

pub bad_of : {N : Type 0} (read : List ℕ → Option N) (text : List ℕ) (m : Message) → IsRefusedWith read text m → message_text m ≡ bad_number → HasBadNumber read text
bad_of read text m refused is = with_bad read text m refused (one-text m message.BadNumber is)

pub some_of : {A F : Type 0} (o : Option A) → IfNone o F → (F → ⊥) → IsSome o
some_of None h n = absurd (n h)
some_of (Some x) h n = refl

-- When a flat geometry is no point and not without points.

-- What is neither a point nor a multipoint without members gives no point.
pub gives_no_point : {T : Type 0} (b : Bool) (t : Flat T) → point_in t ≡ None → (IsTrue b ↔ (t ≡ Flat.multi_point [])) → b ≡ false → point_if_any t ≡ None
gives_no_point b (Flat.point p) n e f = absurd (none-some p (sym n))
gives_no_point b (Flat.line l) n e f = refl
gives_no_point b (Flat.line_string l) n e f = refl
gives_no_point b (Flat.polygon y) n e f = refl
gives_no_point b (Flat.multi_point []) n e f = absurd (grind (arith, e, f))
gives_no_point b (Flat.multi_point (p ∷ ps)) n e f = refl
gives_no_point b (Flat.multi_line_string m) n e f = refl
gives_no_point b (Flat.multi_polygon m) n e f = refl
gives_no_point b (Flat.collection ts) n e f = refl
gives_no_point b (Flat.rect r) n e f = refl
gives_no_point b (Flat.triangle t) n e f = refl

-- The `Wkt` of a flat value, and its parts as lists.

-- The `Wkt` of a flat value is what the value of its shape is read as.

coords_uniform : {T : Type 0} (cs : List (flat_coord.Coord T)) → AllByRecursion (HasDim XY) (map flat_xy cs)
coords_uniform [] = tt
coords_uniform (c ∷ cs) = (refl, coords_uniform cs)

line_strings_uniform : {T : Type 0} (ls : List (List (flat_coord.Coord T))) → AllByRecursion (IsLineStringIn XY) (map line_string_back ls)
line_strings_uniform [] = tt
line_strings_uniform (l ∷ ls) = ((refl, coords_uniform l), line_strings_uniform ls)

points_uniform : {T : Type 0} (ps : List (flat_point.Point T)) → AllByRecursion (IsPointIn XY) (map point_back ps)
points_uniform [] = tt
points_uniform (p ∷ ps) = ((refl, refl), points_uniform ps)

rings_uniform : {T : Type 0} (e : List (flat_coord.Coord T)) (is : List (List (flat_coord.Coord T))) → AllByRecursion (IsLineStringIn XY) (rings_back e is)
rings_uniform [] is = tt
rings_uniform (c ∷ cs) is = line_strings_uniform ((c ∷ cs) ∷ is)

polygons_uniform : {T : Type 0} (ys : List (Rings (flat_coord.Coord T))) → AllByRecursion (IsPolygonIn XY) (map polygon_back ys)
polygons_uniform [] = tt
polygons_uniform (y ∷ ys) = ((refl, rings_uniform y.exterior y.interiors), polygons_uniform ys)

mutual
  back_uniform : {T : Type 0} (t : Flat T) → IsUniform (back t)
  back_uniform (Flat.point p) = (refl, refl)
  back_uniform (Flat.line l) = (refl, coords_uniform (l.start ∷ l.end ∷ []))
  back_uniform (Flat.line_string cs) = (refl, coords_uniform cs)
  back_uniform (Flat.polygon y) = (refl, rings_uniform y.exterior y.interiors)
  back_uniform (Flat.multi_point ps) = points_uniform ps
  back_uniform (Flat.multi_line_string ls) = line_strings_uniform ls
  back_uniform (Flat.multi_polygon ys) = polygons_uniform ys
  back_uniform (Flat.collection ts) = all_back_uniform ts
  back_uniform (Flat.rect r) = (refl, ((refl, (refl, (refl, (refl, (refl, (refl, tt)))))), tt))
  back_uniform (Flat.triangle t) = (refl, ((refl, (refl, (refl, (refl, (refl, tt))))), tt))

  all_back_uniform : {T : Type 0} (ts : Flats T) → AreUniform (all_back ts)
  all_back_uniform Flats.no_flats = tt
  all_back_uniform (Flats.more_flats t ts) = (back_uniform t, all_back_uniform ts)

line_string_value : {T : Type 0} (cs : List (flat_coord.Coord T)) → line_string_numbers (line_string_back cs) ≡ map (cut Xy) (sequence_numbers cs)
line_string_value [] = refl
line_string_value (c ∷ cs) = ap (λ l. (c.x ∷ c.y ∷ []) ∷ l) (line_string_value cs)

line_strings_value : {T : Type 0} (ls : List (List (flat_coord.Coord T))) → map line_string_numbers (map line_string_back ls) ≡ map (map (cut Xy)) (map sequence_numbers ls)
line_strings_value [] = refl
line_strings_value (l ∷ ls) = ap₂ (λ x xs. x ∷ xs) (line_string_value l) (line_strings_value ls)

points_value : {T : Type 0} (ps : List (flat_point.Point T)) → map point_numbers (map point_back ps) ≡ map (option_map (cut Xy)) (map (λ p. Some (shape.flat_point_numbers p)) ps)
points_value [] = refl
points_value (p ∷ ps) = ap (λ xs. Some (p.0.x ∷ p.0.y ∷ []) ∷ xs) (points_value ps)

rings_value : {T : Type 0} (e : List (flat_coord.Coord T)) (is : List (List (flat_coord.Coord T))) →
    map line_string_numbers (rings_back e is) ≡ map (map (cut Xy)) (rings_of (rings_shape (record { exterior = e; interiors = is })))
rings_value [] is = refl
rings_value (c ∷ cs) is = line_strings_value ((c ∷ cs) ∷ is)

polygons_value : {T : Type 0} (ys : List (Rings (flat_coord.Coord T))) →
    map polygon_numbers (map polygon_back ys) ≡ map (λ p. map (map (cut Xy)) (rings_of p)) (map rings_shape ys)
polygons_value [] = refl
polygons_value (y ∷ ys) = ap₂ (λ x xs. x ∷ xs) (rings_value y.exterior y.interiors) (polygons_value ys)

mutual
  back_value : {T : Type 0} (t : Flat T) → value_of (back t) ≡ canon (flat_shape t)
  back_value (Flat.point p) = refl
  back_value (Flat.line l) = refl
  back_value (Flat.line_string cs) = ap (λ l. Value.line_string XY l) (line_string_value cs)
  back_value (Flat.polygon y) = ap (λ l. Value.polygon XY l) (rings_value y.exterior y.interiors)
  back_value (Flat.multi_point ps) = ap (λ l. Value.multi_point XY l) (points_value ps)
  back_value (Flat.multi_line_string ls) = ap (λ l. Value.multi_line_string XY l) (line_strings_value ls)
  back_value (Flat.multi_polygon ys) = ap (λ l. Value.multi_polygon XY l) (polygons_value ys)
  back_value (Flat.collection ts) = ap (λ vs. Value.collection XY vs) (all_back_value ts)
  back_value (Flat.rect r) = refl
  back_value (Flat.triangle t) = refl

  all_back_value : {T : Type 0} (ts : Flats T) → values_of (all_back ts) ≡ canons (flat_shapes ts)
  all_back_value Flats.no_flats = refl
  all_back_value (Flats.more_flats t ts) = ap₂ Values.more_values (back_value t) (all_back_value ts)

pub back_is_wkt : {T : Type 0} (t : Flat T) → IsWktOf (canon (flat_shape t)) (back t)
back_is_wkt t = record { value = back_value t; uniform = back_uniform t }

-- The corners of a rectangle in order, and the members of a collection as one list.

module _ {N : Type 0} (cmp : N → N → Ordering) (o : IsTotalOrder cmp) (partial : N → N → Option Ordering) (agrees : (x y : N) → partial x y ≡ Some (cmp x y)) where
  turned : (a b : N) (r : Ordering) → cmp a b ≡ r → IsAtMost cmp (cond (is_lt r) a b) (cond (is_lt r) b a)
  turned a b Less e = ap is_gt e
  turned a b Equal e = ap is_gt (o.antisymm b a ∙ ap ordering_reverse e)
  turned a b Greater e = ap is_gt (o.antisymm b a ∙ ap ordering_reverse e)

  pub in_order : (a b : N) → IsAtMost cmp (lesser partial a b) (greater partial a b)
  in_order a b = rw (agrees a b) (turned a b (cmp a b) refl)

-- lists are one where what is made of them is, and each step of the making keeps its parts apart
module _ {A B : Type 0} (of : List A → B) (apart : (x : A) (xs : List A) → of [] ≡ of (x ∷ xs) → ⊥) (parts : (x y : A) (xs ys : List A) → of (x ∷ xs) ≡ of (y ∷ ys) → (x ≡ y) × (of xs ≡ of ys)) where
  one : (xs ys : List A) → of xs ≡ of ys → xs ≡ ys
  one [] [] e = refl
  one [] (y ∷ ys) e = absurd (apart y ys e)
  one (x ∷ xs) [] e = absurd (apart x xs (sym e))
  one (x ∷ xs) (y ∷ ys) e = let p = parts x y xs ys e in ap₂ (λ z zs. z ∷ zs) p.0 (one xs ys p.1)

pub trees_one : {T : Type 0} (xs ys : List (Tree T)) → trees_of xs ≡ trees_of ys → xs ≡ ys
trees_one = one trees_of (λ x xs e. cc) (λ x y xs ys e. (cc, cc))

pub flats_one : {T : Type 0} (xs ys : List (Flat T)) → flats_of xs ≡ flats_of ys → xs ≡ ys
flats_one = one flats_of (λ x xs e. cc) (λ x y xs ys e. (cc, cc))
