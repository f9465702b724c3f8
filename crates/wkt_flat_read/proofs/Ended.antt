-- The whole geometry that a tree holds, as a flat value.
use Rattle.std.proofs.Common.{◌≡◌, List, [], ◌∷◌, ◌++◌, length, length-append, sym, refl, ap, ap₂, ◌∙◌, subst, append_assoc, arith, Option, Some, None, Bool, true, false, ◌||◌}
use Rattle.std.specs.Prelude.{map, option_to_list, codes, Vec}
use Rattle.std.specs.declared.alloc.Global.{Global}
use Rattle.wkt_access.specs.Values.{Value}
use Rattle.wkt_flat.specs.Tree.{Flat, flats_of, more_flats, Flats, flat_trees, flat_members}
use Rattle.wkt_flat.specs.declared.coord.Coord.{Coord}
use Rattle.wkt_values.specs.Growing.{numbers_by, members_of, Frame}
use Rattle.wkt_flat_read.specs.Trees.{flat_coord, flat_line, flat_point, flat_points, plain, plains, is_empty, some_empty, holds_empty, hold_empty, flat_area, alone, coord_by, point_at, some_holds, found_of, FlatHoldsEnded, GivesCollection, GivesFlat, GivesOther, GivesMembers, FlatGives, IsLone}
use Rattle.wkt_access.specs.declared.dimensions.Dimension.{Dimension}
use Rattle.wkt_types.specs.Held.{numbers_of, Held, HeldPoint}
use Rattle.wkt_types.specs.Outcome.{xy, Outcome, value, refused, empty_point, mismatched}
use Rattle.wkt_types.specs.Tree.{Tree, Trees}
use Rattle.wkt_types.specs.Values.{value_of, values_of, point_numbers, line_string_numbers, polygon_numbers}
use Rattle.wkt_convert.specs.Flatten.{sequence, first_outside, rings, points, point_or_none, flat, flat_all, flat_collection, outcome_map, outcome_both}
use Rattle.wkt_convert.specs.Kinds.{found_name}
use Rattle.wkt_convert.specs.declared.flattened.Found.{Found}
use Rattle.wkt_types.specs.declared.coord.Coord as wkt_coord
use Rattle.wkt_convert.specs.declared.flattened.Found.TheVariants as found
use Rattle.wkt_flat.specs.declared.geometry.Geometry.{Geometry}
use Rattle.wkt_flat.specs.declared.geometry.GeometryCollection.{GeometryCollection}
use Rattle.wkt_flat.proofs.TreeLemmas.{flat-point}
use Rattle.wkt_convert.specs.declared.flattened.Flattened.TheVariants.{Collection, RefusedCollection, Other, RefusedMultiPoint}
use Rattle.wkt_values.specs.declared.tree.Ended.{Ended}
use Rattle.wkt_flat_read.specs.declared.tree.FlatTree.{FlatTree}
use Rattle.wkt_flat.specs.declared.geometry.Geometry.TheVariants as geometry
use Rattle.wkt_values.specs.declared.tree.Ended.TheVariants as last

-- Parts of lists, and tests of them.

pub or_false : (a : Bool) → (a || false) ≡ a
or_false true = refl
or_false false = refl

pub or_true : (a : Bool) → (a || true) ≡ true
or_true true = refl
or_true false = refl

pub or_assoc : (a b c : Bool) → (a || (b || c)) ≡ ((a || b) || c)
or_assoc true b c = refl
or_assoc false b c = refl

-- a list whose image has a last item
pub unmap-last : {A B : Type 0} (f : A → B) (xs : List A) (bs : List B) (b : B) → map f xs ≡ bs ++ (b ∷ []) → (before : List A) × (x : A) × (xs ≡ before ++ (x ∷ [])) × (map f before ≡ bs) × (f x ≡ b)
unmap-last f [] bs b e = absurd (omega (arith, ap length e, length-append bs (b ∷ [])))
unmap-last f (x ∷ []) [] b e = ([], x, refl, refl, cc)
unmap-last f (x ∷ y ∷ xs) [] b e = let no : ⊥ = cc in absurd no
unmap-last f (x ∷ xs) (c ∷ bs) b e =
    let rest : map f xs ≡ bs ++ (b ∷ []) = cc in
    let first : f x ≡ c = cc in
    let (before, y, is, image, last) = unmap-last f xs bs b rest in
    (x ∷ before, y, ap (λ l. x ∷ l) is, ap₂ (λ c cs. c ∷ cs) first image, last)

pub no_items : {A : Type 0} (xs : List A) → length xs ≡ 0 → xs ≡ []
no_items [] e = refl
no_items (x ∷ xs) e = absurd (omega (arith, e))

pub none-last : {A B : Type 0} (f : A → B) (xs : List A) (bs : List B) (b : B) → xs ≡ [] → map f xs ≡ bs ++ (b ∷ []) → ⊥
none-last f xs bs b none e = let (before, y, is, image, last) = unmap-last f xs bs b e in omega (arith, ap length (sym is ∙ none), length-append before (y ∷ []))

module _ {T : Type 0} where
  pub line-append : (cs ds : List (List T)) → flat_line (cs ++ ds) ≡ flat_line cs ++ flat_line ds
  line-append [] ds = refl
  line-append (c ∷ cs) ds = ap (λ l. flat_coord c ++ l) (line-append cs ds) ∙ sym (append_assoc (flat_coord c) (flat_line cs) (flat_line ds))

  pub points-append : (ps qs : List (Option (List T))) → flat_points (ps ++ qs) ≡ flat_points ps ++ flat_points qs
  points-append [] qs = refl
  points-append (p ∷ ps) qs = ap (λ l. flat_point p ++ l) (points-append ps qs) ∙ sym (append_assoc (flat_point p) (flat_points ps) (flat_points qs))

  pub empty-last : (ps : List (Option (List T))) (p : Option (List T)) → some_empty (ps ++ (p ∷ [])) ≡ (some_empty ps || is_empty p)
  empty-last [] p = or_false (is_empty p)
  empty-last (q ∷ ps) p = ap (λ b. is_empty q || b) (empty-last ps p) ∙ or_assoc (is_empty q) (some_empty ps) (is_empty p)

  pub holds-last : (vs : List (Value T)) (v : Value T) → some_holds (vs ++ (v ∷ [])) ≡ (some_holds vs || holds_empty v)
  holds-last [] v = or_false (holds_empty v)
  holds-last (u ∷ vs) v = ap (λ b. holds_empty u || b) (holds-last vs v) ∙ or_assoc (holds_empty u) (some_holds vs) (holds_empty v)

  pub members-hold : (vs : List (Value T)) → hold_empty (members_of vs) ≡ some_holds vs
  members-hold [] = refl
  members-hold (v ∷ vs) = ap (λ b. holds_empty v || b) (members-hold vs)

  pub members-plain : (E : Coord T → Coord T → Bool) (vs : List (Value T)) → flats_of (map (plain E) vs) ≡ plains E (members_of vs)
  members-plain E [] = refl
  members-plain E (v ∷ vs) = ap (λ ts. more_flats (plain E v) ts) (members-plain E vs)

  -- the coordinate at hand
  pub hand_line : (x y z m : Option T) → flat_line (option_to_list (numbers_by x y z m)) ≡ option_to_list (coord_by x y)
  hand_line (Some x) (Some y) z m = refl
  hand_line (Some x) None z m = refl
  hand_line None y z m = refl

  pub hand_point : (x y z m : Option T) → flat_point (numbers_by x y z m) ≡ point_at (coord_by x y)
  hand_point (Some x) (Some y) z m = refl
  hand_point (Some x) None z m = refl
  hand_point None y z m = refl

  pub hand_empty : (x y z m : Option T) → is_empty (numbers_by x y z m) ≡ is_empty (coord_by x y)
  hand_empty (Some x) (Some y) z m = refl
  hand_empty (Some x) None z m = refl
  hand_empty None y z m = refl

-- The flat value of the tree of a value.

-- what is flat, unless an empty point stands in a multipoint
abbrev pub unless : {X : Type 0} → Bool → X → Outcome X
unless true x = refused empty_point
unless false x = value x

unless-map : {X Y : Type 0} (f : X → Y) (b : Bool) (x : X) → outcome_map f (unless b x) ≡ unless b (f x)
unless-map f true x = refl
unless-map f false x = refl

unless-both : {X Y Z : Type 0} (f : X → Y → Z) (a b : Bool) (x : X) (y : Y) → outcome_both f (unless a x) (unless b y) ≡ unless (a || b) (f x y)
unless-both f true b x y = refl
unless-both f false true x y = refl
unless-both f false false x y = refl

maps : {A B C : Type 0} (f : A → C) (g : A → B) (h : B → C) → ((x : A) → f x ≡ h (g x)) → (xs : List A) → map f xs ≡ map h (map g xs)
maps f g h e [] = refl
maps f g h e (x ∷ xs) = ap₂ (λ y ys. y ∷ ys) (e x) (maps f g h e xs)

module _ {T : Type 0} where
  line_is : (cs : List (wkt_coord.Coord T)) → map xy cs ≡ flat_line (map numbers_of cs)
  line_is [] = refl
  line_is (c ∷ cs) = ap (λ l. xy c ∷ l) (line_is cs)

  sequence_is : (l : Held (wkt_coord.Coord T)) → sequence l ≡ flat_line (line_string_numbers l)
  sequence_is l = line_is l.parts

  sequences : (ls : List (Held (wkt_coord.Coord T))) → map sequence ls ≡ map flat_line (map line_string_numbers ls)
  sequences ls = maps sequence line_string_numbers flat_line sequence_is ls

  point_is : (c : Option (wkt_coord.Coord T)) (d : Dimension) → point_or_none c ≡ alone (flat_point (point_numbers (record { coord = c; dim = d })))
  point_is None d = refl
  point_is (Some c) d = refl

  -- a point before others
  point_before : (c : Option (wkt_coord.Coord T)) (d : Dimension) (ps : List (HeldPoint (wkt_coord.Coord T))) → points ps ≡ unless (some_empty (map point_numbers ps)) (flat_points (map point_numbers ps))
      → points (record { coord = c; dim = d } ∷ ps) ≡ unless (some_empty (map point_numbers (record { coord = c; dim = d } ∷ ps))) (flat_points (map point_numbers (record { coord = c; dim = d } ∷ ps)))
  point_before None d ps h = refl
  point_before (Some c) d ps h = ap (λ o. outcome_map (λ y. record { 0 = xy c } ∷ y) o) h ∙ unless-map (λ y. record { 0 = xy c } ∷ y) (some_empty (map point_numbers ps)) (flat_points (map point_numbers ps))

  points_are : (ps : List (HeldPoint (wkt_coord.Coord T))) → points ps ≡ unless (some_empty (map point_numbers ps)) (flat_points (map point_numbers ps))
  points_are [] = refl
  points_are (p ∷ ps) = point_before p.coord p.dim ps (points_are ps)

  module _ (E : Coord T → Coord T → Bool) where
    rings_are : (y : Held (Held (wkt_coord.Coord T))) → rings E y ≡ flat_area E (polygon_numbers y)
    rings_are y = ap (first_outside E) (sequences y.parts)

    mutual
      pub flat_is : (t : Tree T) → flat E t ≡ unless (holds_empty (value_of t)) (plain E (value_of t))
      flat_is (Tree.point p) = ap value (point_is p.coord p.dim)
      flat_is (Tree.line_string l) = ap (λ cs. value (Flat.line_string cs)) (sequence_is l)
      flat_is (Tree.polygon y) = ap (λ y. value (Flat.polygon y)) (rings_are y)
      flat_is (Tree.multi_point m) = ap (outcome_map Flat.multi_point) (points_are m.parts) ∙ unless-map Flat.multi_point (some_empty (map point_numbers m.parts)) (flat_points (map point_numbers m.parts))
      flat_is (Tree.multi_line_string m) = ap (λ ls. value (Flat.multi_line_string ls)) (sequences m.parts)
      flat_is (Tree.multi_polygon m) = ap (λ ys. value (Flat.multi_polygon ys)) (maps (rings E) polygon_numbers (flat_area E) rings_are m.parts)
      flat_is (Tree.collection ts d) = ap (outcome_map Flat.collection) (flats_are ts) ∙ unless-map Flat.collection (hold_empty (values_of ts)) (plains E (values_of ts))

      pub flats_are : (ts : Trees T) → flat_all E ts ≡ unless (hold_empty (values_of ts)) (plains E (values_of ts))
      flats_are Trees.no_trees = refl
      flats_are (Trees.more_trees t ts) =
          ap₂ (λ a b. outcome_both Flats.more_flats a b) (flat_is t) (flats_are ts)
          ∙ unless-both Flats.more_flats (holds_empty (value_of t)) (hold_empty (values_of ts)) (plain E (value_of t)) (plains E (values_of ts))

    -- the kind of a value, if it is no collection
    abbrev pub kind_of : Value T → Option Found
    kind_of (Value.point d c) = Some found.Point
    kind_of (Value.line_string d cs) = Some found.LineString
    kind_of (Value.polygon d rs) = Some found.Polygon
    kind_of (Value.multi_point d ps) = Some found.MultiPoint
    kind_of (Value.multi_line_string d ls) = Some found.MultiLineString
    kind_of (Value.multi_polygon d ys) = Some found.MultiPolygon
    kind_of (Value.collection d vs) = None

    abbrev named : Option Found → Outcome (Flats T)
    named None = value Flats.no_flats
    named (Some kind) = refused (mismatched (codes "GeometryCollection") (found_name kind))

    pub other_is : (t : Tree T) (kind : Found) → kind_of (value_of t) ≡ Some kind → flat_collection E t ≡ refused (mismatched (codes "GeometryCollection") (found_name kind))
    other_is (Tree.collection ts d) kind e = let no : ⊥ = cc in absurd no
    other_is _ kind e = ap (λ o. named o) e

    -- a collection
    pub collection_is : (t : Tree T) → kind_of (value_of t) ≡ None → (ts : Flats T) → plain E (value_of t) ≡ Flat.collection ts → flat_collection E t ≡ unless (holds_empty (value_of t)) ts
    collection_is (Tree.collection ts d) none fs e = flats_are ts ∙ ap (λ fs. unless (hold_empty (values_of ts)) fs) (let same : plains E (values_of ts) ≡ fs = cc in same)
    collection_is _ none fs e = let no : ⊥ = cc in absurd no

    -- what is flat but for an empty point is a multipoint, if it is no collection
    pub multi_point_is : (v : Value T) (kind : Found) → kind_of v ≡ Some kind → holds_empty v ≡ true → kind ≡ found.MultiPoint
    multi_point_is (Value.multi_point d ps) kind e h = cc
    multi_point_is _ kind e h = let no : ⊥ = cc in absurd no

module _ {T : Type 0} (E : Coord T → Coord T → Bool) where
  -- the value that ended has the kind of what ended
  kinds : (l : Ended) (t : FlatTree T) (o : List (Frame T)) (v : Value T) → FlatHoldsEnded E l t o v → kind_of E v ≡ found_of l
  kinds last.Point t o v (d, c, is, at, only, are_open) = ap (kind_of E) (sym is)
  kinds last.LineString t o v (d, c, is, only, are_open) = ap (kind_of E) (sym is)
  kinds last.Polygon t o v (d, c, is, only, are_open) = ap (kind_of E) (sym is)
  kinds last.MultiPoint t o v (d, c, is, only, are_open) = ap (kind_of E) (sym is)
  kinds last.MultiLineString t o v (d, c, is, only, are_open) = ap (kind_of E) (sym is)
  kinds last.MultiPolygon t o v (d, c, is, only, are_open) = ap (kind_of E) (sym is)
  kinds last.Collection t o v (f, is, only, are_open) = ap (kind_of E) (sym is)
  kinds last.NoMembers t o v (d, is, only, are_open) = ap (kind_of E) (sym is)

  -- a collection has the flat value of its members
  members_are : (v : Value T) → kind_of E v ≡ None → (ts : Flats T) × (plain E v ≡ Flat.collection ts)
  members_are (Value.collection d vs) e = (plains E vs, refl)
  members_are _ e = let no : ⊥ = cc in absurd no

  module _ (t : FlatTree T) where
    pub refused_collection : t.is_refused ≡ true → GivesCollection E t RefusedCollection
    refused_collection r none v h k e =
        let empty : holds_empty (value_of k) ≡ true = ap holds_empty e ∙ sym h.refused ∙ r in
        let kind : kind_of E (value_of k) ≡ None = ap (kind_of E) e ∙ kinds t.last t [] v h.whole ∙ none in
        let (ts, is) = members_are (value_of k) kind in
        (flat_is E k ∙ ap (λ b. unless b (plain E (value_of k))) empty, collection_is E k kind ts is ∙ ap (λ b. unless b ts) empty)

    pub refused_other : (kind : Found) → t.is_refused ≡ true → GivesOther E t kind (Some RefusedMultiPoint)
    refused_other kind r some v h k e =
        let empty : holds_empty (value_of k) ≡ true = ap holds_empty e ∙ sym h.refused ∙ r in
        let same : kind_of E (value_of k) ≡ Some kind = ap (kind_of E) e ∙ kinds t.last t [] v h.whole ∙ some in (
          flat_is E k ∙ ap (λ b. unless b (plain E (value_of k))) empty,
          other_is E k kind same ∙ ap (λ kind. refused (mismatched (codes "GeometryCollection") (found_name kind))) (multi_point_is E (value_of k) kind same empty),
        )

    -- a geometry that was taken
    pub gives_other : (kind : Found) (g : Geometry T) (u : FlatTree T) → t.is_refused ≡ false → FlatGives E t (Some g) u → GivesOther E t kind (Some (Other g kind))
    gives_other kind g u r gives some v h k e =
        let none : holds_empty (value_of k) ≡ false = ap holds_empty e ∙ sym h.refused ∙ r in
        let same : kind_of E (value_of k) ≡ Some kind = ap (kind_of E) e ∙ kinds t.last t [] v h.whole ∙ some in
        let (is, only, are_open) = gives.gives [] v h in
        (flat_is E k ∙ ap (λ b. unless b (plain E (value_of k))) none ∙ ap (λ v. value (plain E v)) e ∙ ap value (sym is), other_is E k kind same)

    -- a point whose coordinate is at hand
    pub gives_lone : (c : Coord T) → IsLone t c → GivesFlat E t (Some (Other (geometry.Point (record { 0 = c })) found.Point))
    gives_lone c lone v h k e =
        let none : holds_empty (value_of k) ≡ false = ap holds_empty e ∙ sym h.refused ∙ lone.refused in
        let same : kind_of E (value_of k) ≡ Some found.Point = ap (kind_of E) e ∙ kinds t.last t [] v h.whole ∙ ap found_of lone.last in
        let is : plain E v ≡ Flat.point (record { 0 = c }) = go (subst (λ l. FlatHoldsEnded E l t [] v) lone.last h.whole) in
        (flat_is E k ∙ ap (λ b. unless b (plain E (value_of k))) none ∙ ap (λ v. value (plain E v)) e ∙ ap value (is ∙ sym (flat-point (record { 0 = c }))), other_is E k found.Point same)
      where
        go : FlatHoldsEnded E last.Point t [] v → plain E v ≡ Flat.point (record { 0 = c })
        go (d, p, is, at, only, are_open) = ap (plain E) (sym is) ∙ ap alone (sym at) ∙ ap (λ c. alone (point_at c)) lone.coord

    pub gives_collection : (c : Vec (Geometry T) Global) (g : GeometryCollection T) (u : FlatTree T) → t.is_refused ≡ false → GivesMembers E t c u → flat_trees g ≡ flat_members c.items → GivesCollection E t (Collection g)
    gives_collection c g u r gives are none v h k e =
        let free : holds_empty (value_of k) ≡ false = ap holds_empty e ∙ sym h.refused ∙ r in
        let kind : kind_of E (value_of k) ≡ None = ap (kind_of E) e ∙ kinds t.last t [] v h.whole ∙ none in
        let is : plain E (value_of k) ≡ Flat.collection (flat_trees g) = ap (plain E) e ∙ go t.last refl none h.whole in
        (flat_is E k ∙ ap (λ b. unless b (plain E (value_of k))) free ∙ ap value is, collection_is E k kind (flat_trees g) is ∙ ap (λ b. unless b (flat_trees g)) free)
      where
        go : (l : Ended) → t.last ≡ l → found_of l ≡ None → FlatHoldsEnded E l t [] v → plain E v ≡ Flat.collection (flat_trees g)
        go last.Collection same none (f, is, only, are_open) =
            ap (plain E) (sym is) ∙ ap (λ ts. Flat.collection ts) (sym (members-plain E f.members)) ∙ ap (λ ms. Flat.collection (flats_of ms)) (sym (gives.last same f [] are_open).0) ∙ ap (λ ts. Flat.collection ts) (sym are)
        go last.NoMembers same none (d, is, only, are_open) = ap (plain E) (sym is) ∙ ap (λ gs. Flat.collection (flat_members gs)) (sym (gives.none same).0) ∙ ap (λ ts. Flat.collection ts) (sym are)
        go _ same none rest = let no : ⊥ = cc in absurd no
