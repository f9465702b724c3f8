-- What is read where a flat tree grows over a source is the flat value of the front.
use Rattle.std.proofs.Common.{◌≡◌, ℕ, List, [], ◌∷◌, length, refl, ap, ap₂, arith, Option, Some, None, ◌++◌, sym, ◌∙◌, subst, ◌⊎◌, inl, inr, Result, Ok, Err, IfOk, IfSome, Bool, true, false}
use Rattle.std.specs.Prelude.{map}
use Rattle.std.specs.List.{AllByRecursion}
use Rattle.std.specs.Borrow.{MutBor}
use Rattle.wkt_access.specs.declared.dimensions.Dimension.{Dimension}
use Rattle.wkt_access.specs.declared.dimensions.Dimension.TheVariants.{XY, XYZ, XYM, XYZM}
use Rattle.wkt_access.specs.Values.{Value, Values}
use Rattle.wkt_access.specs.WellFormed.{CoordFits, LineStringFits, PolygonFits, PointFits, IsWellFormed, AreWellFormed}
use Rattle.wkt_types.specs.Held.{numbers_of, Held, HeldPoint}
use Rattle.wkt_types.specs.Tree.{Tree, Trees}
use Rattle.wkt_types.specs.Values.{HasDim, IsPointIn, IsLineStringIn, IsPolygonIn, AreUniform, IsWktOf, values_of, point_numbers, line_string_numbers, polygon_numbers}
use Rattle.wkt_types.specs.declared.coord.Coord.{Coord as WktCoord}
use Rattle.wkt_read.specs.Answered.{OnText, OnMessage}
use Rattle.wkt_read.specs.Refusal.{IfText}
use Rattle.wkt_read.specs.Spanned.{lexemes_of, spanned}
use Rattle.wkt_read.specs.declared.error.ReadError.{ReadError}
use Rattle.wkt_read.specs.declared.error.ReadError.TheVariants.{Text, Memory}
use Rattle.wkt_read.proofs.OneForm.{geometry_fits}
use Rattle.wkt_flat.specs.declared.coord.Coord.{Coord}
use Rattle.wkt_convert.specs.declared.flattened.Flattened.{Flattened}
use Rattle.wkt_machine.specs.Events.{events}
use Rattle.wkt_values.specs.Growing.{Growing, rest}
use Rattle.wkt_sources.specs.Taken.{TakesValue}
use Rattle.wkt_machine.specs.View.{View}
use Rattle.wkt_values.proofs.ValueFromEvents.{value_grows}
use Rattle.wkt_flat_read.specs.Trees.{AnswersFlat, IsFlatRead, IsFlatFront, FlatGrew, FlatHolds, FlatHoldsWhole, FlatIsLost, tree_maker, tree_of}
use Rattle.wkt_flat_read.specs.declared.tree.FlatTree.{FlatTree}
use Rattle.wkt_machine.specs.Machine.{is_over}
use Rattle.wkt_machine.specs.Goes.{GoesFrom}
use Rattle.wkt_machine.specs.Machines.{state_of}
use Rattle.wkt_machine.specs.declared.source.Progress.{Progress}
use Rattle.wkt_sources.proofs.FrontValues.{front_whole, taken}
use Rattle.wkt_flat_read.specs.declared.flat_builder.FlatBuilder.{FlatBuilder}

-- A value whose coordinates fit is what some tree is read as.

-- each item is the image of one
images : {A B : Type 0} (f : A → B) (P : A → Type 0) (Fits : B → Type 0) → ((b : B) → Fits b → (a : A) × (f a ≡ b) × P a) → (bs : List B) → AllByRecursion Fits bs → (as' : List A) × (map f as' ≡ bs) × AllByRecursion P as'
images f P Fits one [] h = ([], refl, tt)
images f P Fits one (b ∷ bs) (h, hs) =
    let (a, is, p) = one b h in
    let (as', are, ps) = images f P Fits one bs hs in (a ∷ as', ap₂ (λ c cs. c ∷ cs) is are, (p, ps))

two : {N : Type 0} (c : List N) → length c ≡ 2 → (k : WktCoord N) × (numbers_of k ≡ c) × HasDim XY k
two [] e = absurd (omega (arith, e))
two (x ∷ []) e = absurd (omega (arith, e))
two (x ∷ y ∷ []) e = (record { x = x; y = y; z = None; m = None }, refl, refl)
two (x ∷ y ∷ z ∷ r) e = absurd (omega (arith, e))

three : {N : Type 0} (c : List N) → length c ≡ 3 → ((k : WktCoord N) × (numbers_of k ≡ c) × HasDim XYZ k) × ((k : WktCoord N) × (numbers_of k ≡ c) × HasDim XYM k)
three [] e = absurd (omega (arith, e))
three (x ∷ []) e = absurd (omega (arith, e))
three (x ∷ y ∷ []) e = absurd (omega (arith, e))
three (x ∷ y ∷ z ∷ []) e = ((record { x = x; y = y; z = Some z; m = None }, refl, refl), (record { x = x; y = y; z = None; m = Some z }, refl, refl))
three (x ∷ y ∷ z ∷ m ∷ r) e = absurd (omega (arith, e))

four : {N : Type 0} (c : List N) → length c ≡ 4 → (k : WktCoord N) × (numbers_of k ≡ c) × HasDim XYZM k
four [] e = absurd (omega (arith, e))
four (x ∷ []) e = absurd (omega (arith, e))
four (x ∷ y ∷ []) e = absurd (omega (arith, e))
four (x ∷ y ∷ z ∷ []) e = absurd (omega (arith, e))
four (x ∷ y ∷ z ∷ m ∷ []) e = (record { x = x; y = y; z = Some z; m = Some m }, refl, refl)
four (x ∷ y ∷ z ∷ m ∷ n ∷ r) e = absurd (omega (arith, e))

module _ {N : Type 0} (is_value : N → Type 0) where
  coord_in : (d : Dimension) (c : List N) → CoordFits is_value d c → (k : WktCoord N) × (numbers_of k ≡ c) × HasDim d k
  coord_in XY c h = two c h.1
  coord_in XYZ c h = (three c h.1).0
  coord_in XYM c h = (three c h.1).1
  coord_in XYZM c h = four c h.1

  coords_in : (d : Dimension) (cs : List (List N)) → LineStringFits is_value d cs → (ks : List (WktCoord N)) × (map numbers_of ks ≡ cs) × AllByRecursion (HasDim d) ks
  coords_in d = images numbers_of (HasDim d) (CoordFits is_value d) (coord_in d)

  line_in : (d : Dimension) (cs : List (List N)) → LineStringFits is_value d cs → (l : Held (WktCoord N)) × (line_string_numbers l ≡ cs) × IsLineStringIn d l
  line_in d cs h = let (ks, are, all) = coords_in d cs h in (record { parts = ks; dim = d }, are, (refl, all))

  lines_in : (d : Dimension) (ls : List (List (List N))) → PolygonFits is_value d ls → (ks : List (Held (WktCoord N))) × (map line_string_numbers ks ≡ ls) × AllByRecursion (IsLineStringIn d) ks
  lines_in d = images line_string_numbers (IsLineStringIn d) (LineStringFits is_value d) (line_in d)

  area_in : (d : Dimension) (ls : List (List (List N))) → PolygonFits is_value d ls → (y : Held (Held (WktCoord N))) × (polygon_numbers y ≡ ls) × IsPolygonIn d y
  area_in d ls h = let (ks, are, all) = lines_in d ls h in (record { parts = ks; dim = d }, are, (refl, all))

  point_in : (d : Dimension) (c : Option (List N)) → PointFits is_value d c → (p : HeldPoint (WktCoord N)) × (point_numbers p ≡ c) × IsPointIn d p
  point_in d None h = (record { coord = None; dim = d }, refl, (refl, tt))
  point_in d (Some c) h = let (k, is, in_dim) = coord_in d c h in (record { coord = Some k; dim = d }, ap (λ c. Some c) is, (refl, in_dim))

  point_read : (d : Dimension) (c : Option (List N)) → PointFits is_value d c → (t : Tree N) × IsWktOf (Value.point d c) t
  point_read d None h = (Tree.point (record { coord = None; dim = d }), record { value = refl; uniform = (refl, tt) })
  point_read d (Some c) h =
      let (k, is, in_dim) = coord_in d c h in
      (Tree.point (record { coord = Some k; dim = d }), record { value = ap (λ c. Value.point d (Some c)) is; uniform = (refl, in_dim) })

  mutual
    pub value_read : (v : Value N) → IsWellFormed is_value v → (t : Tree N) × IsWktOf v t
    value_read (Value.point d c) h = point_read d c h
    value_read (Value.line_string d cs) h =
        let (ks, are, all) = coords_in d cs h in (Tree.line_string (record { parts = ks; dim = d }), record { value = ap (λ cs. Value.line_string d cs) are; uniform = (refl, all) })
    value_read (Value.polygon d ls) h =
        let (ks, are, all) = lines_in d ls h in (Tree.polygon (record { parts = ks; dim = d }), record { value = ap (λ ls. Value.polygon d ls) are; uniform = (refl, all) })
    value_read (Value.multi_point d ps) h =
        let (ks, are, all) = images point_numbers (IsPointIn d) (PointFits is_value d) (point_in d) ps h in
        (Tree.multi_point (record { parts = ks; dim = d }), record { value = ap (λ ps. Value.multi_point d ps) are; uniform = all })
    value_read (Value.multi_line_string d ls) h =
        let (ks, are, all) = lines_in d ls h in (Tree.multi_line_string (record { parts = ks; dim = d }), record { value = ap (λ ls. Value.multi_line_string d ls) are; uniform = all })
    value_read (Value.multi_polygon d ys) h =
        let (ks, are, all) = images polygon_numbers (IsPolygonIn d) (PolygonFits is_value d) (area_in d) ys h in
        (Tree.multi_polygon (record { parts = ks; dim = d }), record { value = ap (λ ys. Value.multi_polygon d ys) are; uniform = all })
    value_read (Value.collection d vs) h =
        let (ts, are, all) = values_read vs h in (Tree.collection ts d, record { value = ap (λ vs. Value.collection d vs) are; uniform = all })

    values_read : (vs : Values N) → AreWellFormed is_value vs → (ts : Trees N) × (values_of ts ≡ vs) × AreUniform ts
    values_read Values.no_values h = (Trees.no_trees, refl, tt)
    values_read (Values.more_values v vs) (h, hs) =
        let (t, is) = value_read v h in
        let (ts, are, all) = values_read vs hs in
        (Trees.more_trees t ts, ap₂ (λ v vs. Values.more_values v vs) is.value are, (is.uniform, all))

-- What is read where a flat tree grows over a source.

module _ {N S : Type 0} (is_value : N → Type 0) (read : List ℕ → Option N) (values : (bs : List ℕ) → IfSome (read bs) is_value) (E : Coord N → Coord N → Bool) (view : View N S) where
  fits : (s r : S) (v : Value N) → TakesValue read view s v r → IsWellFormed is_value v
  fits s r v h = geometry_fits is_value read values v (lexemes_of (h.given ++ (h.last ∷ []))) h.stands

  -- the value has grown, or it is lost
  grown : (t u : FlatTree N) (v : Value N) → IsWellFormed is_value v → FlatHolds E t (rest [] None) → FlatGrew E t (events v) u → FlatHoldsWhole E u [] v ⊎ FlatIsLost u
  grown t u v fit begins grew =
      let k = value_grows is_value v fit [] in
      subst (λ w. FlatHolds E u w ⊎ FlatIsLost u) k.is (grew.holds (rest [] None) begins k.may)

  pub flat_off : (t u : FlatTree N) (s r : S) → FlatHolds E t (rest [] None) → (v : Value N) × TakesValue read view s v r × FlatGrew E t (events v) u → (a : Result (Flattened N) ReadError) → AnswersFlat E u a → IfOk a (λ f. IsFlatRead read E view s f r)
  flat_off t u s r begins h (Err e) k = tt
  flat_off t u s r begins (v, takes, grew) (Ok f) (kept, is) = go (grown t u v (fits s r v takes) begins grew)
    where
      go : FlatHoldsWhole E u [] v ⊎ FlatIsLost u → IsFlatRead read E view s f r
      go (inl whole) = let (k, of) = value_read is_value v (fits s r v takes) in (k, (v, takes, of), is v whole k of.value)
      go (inr lost) = let clash : false ≡ true = sym kept ∙ lost in cc

-- what has grown isn't refused
pub answer_text : {N : Type 0} (E : Coord N → Coord N → Bool) (t : FlatTree N) (P : Type 0) (a : Result (Flattened N) ReadError) → AnswersFlat E t a → OnText a P
answer_text E t P (Ok w) k = tt
answer_text E t P (Err (Text m)) k = absurd k
answer_text E t P (Err (Memory e)) k = tt

pub answer_message : {N : Type 0} (E : Coord N → Coord N → Bool) (t : FlatTree N) (m : List ℕ) (P : Type 0) (a : Result (Flattened N) ReadError) → AnswersFlat E t a → OnMessage a m P
answer_message E t m P (Ok w) k = tt
answer_message E t m P (Err (Text said)) k = absurd k
answer_message E t m P (Err (Memory e)) k = tt

pub answer_refusal : {N : Type 0} (E : Coord N → Coord N → Bool) (t : FlatTree N) (P : List ℕ → Type 0) (a : Result (Flattened N) ReadError) → AnswersFlat E t a → IfText a P
answer_refusal E t P (Ok w) k = tt
answer_refusal E t P (Err (Text said)) k = absurd k
answer_refusal E t P (Err (Memory e)) k = tt

-- what is lent is held
pub lent : {N : Type 0} (E : Coord N → Coord N → Bool) (b c : MutBor (FlatTree N)) (w : Growing N) → b ≡ c → FlatHolds E c.now w → FlatHolds E b.now w
lent {N} E b c w e h = subst (λ (b : MutBor (FlatTree N)). FlatHolds E b.now w) (sym e) h

-- What is read from the place where a text begins is the flat value of its front.

-- A tree that holds nothing yet grows over the source, and a value ends.
module _ {N S : Type 0} (is_value : N → Type 0) (read : List ℕ → Option N) (values : (bs : List ℕ) → IfSome (read bs) is_value) (E : Coord N → Coord N → Bool) (view : View N S)
    (text : List ℕ) (s : S) (begins : view.remaining s ≡ spanned text) (b : FlatBuilder N) (to : Progress S (FlatBuilder N))
    (on : GoesFrom read view (tree_maker E read) s b to) (over : is_over (state_of to.machine) ≡ true) (empty : FlatHolds E (tree_of b).now (rest [] None))
    (u : FlatTree N) (same : u ≡ (tree_of to.builder).now) where
  grew_by : (v : Value N) × TakesValue read view s v to.source × FlatGrew E (tree_of b).now (events v) u
  grew_by =
      let (v, takes, grew) = taken read view (tree_maker E read) s b to on over in
      (v, takes, subst (FlatGrew E (tree_of b).now (events v)) (sym same) grew)

  pub answer_found : (a : Result (Flattened N) ReadError) → AnswersFlat E u a → IfOk a (IsFlatFront read E text)
  answer_found (Err e) k = tt
  answer_found (Ok f) k =
      let (k, (v, takes, of), flat) : IsFlatRead read E view s f to.source = flat_off is_value read values E view (tree_of b).now u s to.source empty grew_by (Ok f) k in
      (k, (takes.last.end, (v, front_whole read view text s begins v to.source takes, of)), flat)
