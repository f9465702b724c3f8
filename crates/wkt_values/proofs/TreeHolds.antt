-- What a tree holds after each call.
use Rattle.std.proofs.Common.{◌≡◌, ◌+◌, ◌<◌, ℕ, List, [], ◌∷◌, ◌++◌, length, length-append, sym, refl, ap, ◌∙◌, subst, arith, ◌⊎◌, inl, inr, Option, Some, None, IfSome, Bool, true, false, ◌||◌}
use Rattle.std.specs.Prelude.{map, option_map, get_or, slice_set, IsSome, Vec}
use Rattle.std.specs.Vec.{with_item}
use Rattle.std.specs.declared.alloc.Global.{Global}
use Rattle.std.specs.List.{AllByRecursion}
use Rattle.std.proofs.lemmas.List.{map-append, get_or_at, set_at}
use Rattle.wkt_access.specs.declared.dimensions.Dimension.{Dimension}
use Rattle.wkt_access.specs.declared.dimensions.Dimension.TheVariants.{XY}
use Rattle.wkt_access.specs.Values.{Value, Values}
use Rattle.wkt_types.specs.Held.{numbers_of, dim_by}
use Rattle.wkt_types.specs.Tree.{tree, trees_of}
use Rattle.wkt_types.specs.Tree as trees
use Rattle.wkt_types.specs.Values.{HasDim, HasDimIfAny, IsPointIn, IsLineStringIn, IsPolygonIn, IsUniform, AreUniform, IsWktOf, value_of, values_of, point_numbers, line_string_numbers, polygon_numbers}
use Rattle.wkt_types.specs.declared.geometry.Wkt.{Wkt}
use Rattle.wkt_machine.specs.Events.{Event}
use Rattle.wkt_values.specs.Growing.{Frame, Growing, HasParts, coord, numbers_by, headed, rest, members_of, joined, opened, with_line, with_point, ended, grow, lists, lists_end, shut, HasMember, HasPoint, MayCome, MayEnd, MayOpen, with_number, MayJoin, with_item as grown_item, MayBeEmpty, without_items, lists_items}
use Rattle.wkt_values.specs.Trees.{wkt_value, UniformWkt, HoldsFrame, HoldsFrames, coord_by, coord_of, HasOnly, AllIn, HoldsParts, HoldsEnded, HoldsWhole, HoldsBy, Holds, IsLost, Becomes, Grew, TreeGives, GivesLast, Joins}
use Rattle.wkt_machine.specs.declared.part.Part.{Part}
use Rattle.wkt_machine.specs.declared.part.Part.TheVariants as part
use Rattle.wkt_values.specs.declared.tree.Ended.{Ended}
use Rattle.wkt_values.specs.declared.tree.Ended.TheVariants as last
use Rattle.wkt_values.specs.declared.tree.OpenCollection.{OpenCollection}
use Rattle.wkt_values.specs.declared.tree.Tree.{Tree}
use Rattle.wkt_machine.specs.declared.part.Axis.{Axis}

all-last : {A : Type 0} (P : A → Type 0) (xs : List A) (x : A) → AllByRecursion P xs → P x → AllByRecursion P (xs ++ (x ∷ []))
all-last P [] x h k = (k, tt)
all-last P (y ∷ xs) x (h, hs) k = (h, all-last P xs x hs k)

all-more : {A : Type 0} (P : A → Type 0) (ys xs : List A) (x : A) → ys ≡ xs ++ (x ∷ []) → AllByRecursion P xs → P x → AllByRecursion P ys
all-more P ys xs x e h k = subst (AllByRecursion P) (sym e) (all-last P xs x h k)

map-more : {A B : Type 0} (f : A → B) (ys xs : List A) (x : A) (bs : List B) (b : B) → ys ≡ xs ++ (x ∷ []) → map f xs ≡ bs → f x ≡ b → map f ys ≡ bs ++ (b ∷ [])
map-more f ys xs x bs b e h k = ap (map f) e ∙ map-append f xs (x ∷ []) ∙ ap (λ l. l ++ (f x ∷ [])) h ∙ ap (λ y. bs ++ (y ∷ [])) k

no-map : {A B : Type 0} (f : A → B) (xs : List A) → map f xs ≡ [] → xs ≡ []
no-map f [] e = refl
no-map f (x ∷ xs) e = let no : ⊥ = cc in absurd no

all-none : {A B : Type 0} (P : A → Type 0) (f : A → B) (xs : List A) → map f xs ≡ [] → AllByRecursion P xs
all-none P f xs e = subst (AllByRecursion P) (sym (no-map f xs e)) tt

all-of-none : {A : Type 0} (P : A → Type 0) (xs : List A) → xs ≡ [] → AllByRecursion P xs
all-of-none P xs e = subst (AllByRecursion P) (sym e) tt

pub no_items : {A : Type 0} (xs : List A) → length xs ≡ 0 → xs ≡ []
no_items [] e = refl
no_items (x ∷ xs) e = absurd (omega (arith, e))

some_none : {A : Type 0} (o : Option A) → o ≡ None → IsSome o → ⊥
some_none None e h = cc
some_none (Some x) e h = cc

pub none_open : {A C : Type 0} (o : Option A) (cs : List C) (n : ℕ) → n ≡ length cs → (0 < n → IsSome o) → o ≡ None → cs ≡ []
none_open o [] n e h none = refl
none_open o (c ∷ cs) n e h none = absurd (some_none o none (h (omega (arith, e))))

none-last : {A : Type 0} (xs : List A) (x : A) → xs ++ (x ∷ []) ≡ [] → ⊥
none-last xs x e = omega (arith, ap length e, length-append xs (x ∷ []))

pub last-same : {A : Type 0} (xs ys : List A) (x y : A) → xs ++ (x ∷ []) ≡ ys ++ (y ∷ []) → (xs ≡ ys) × (x ≡ y)
last-same [] [] x y e = (refl, let same : x ≡ y = cc in same)
last-same [] (z ∷ ys) x y e = absurd (omega (arith, ap length e, length-append ys (y ∷ [])))
last-same (z ∷ xs) [] x y e = absurd (omega (arith, ap length e, length-append xs (x ∷ [])))
last-same (z ∷ xs) (w ∷ ys) x y e =
    let (a, b) = last-same xs ys x y (cc) in
    (let same : z ∷ xs ≡ w ∷ ys = cc in same, b)

-- a coordinate by its numbers
coord_numbers : {T : Type 0} (x y z m : Option T) → option_map numbers_of (coord_by x y z m) ≡ numbers_by x y z m
coord_numbers (Some x) (Some y) z m = refl
coord_numbers (Some x) None z m = refl
coord_numbers None y z m = refl

-- its dimension
coord_in : {T : Type 0} (x y z m : Option T) (d : Dimension) → IfSome (numbers_by x y z m) (λ c. dim_by z m ≡ d) → HasDimIfAny d (coord_by x y z m)
coord_in (Some x) (Some y) z m d h = h
coord_in (Some x) None z m d h = tt
coord_in None y z m d h = tt

members-value : {T : Type 0} (ws : List (Wkt T)) → values_of (trees_of (map tree ws)) ≡ members_of (map wkt_value ws)
members-value [] = refl
members-value (w ∷ ws) = ap (λ vs. Values.more_values (wkt_value w) vs) (members-value ws)

members-uniform : {T : Type 0} (ws : List (Wkt T)) → AllByRecursion UniformWkt ws → AreUniform (trees_of (map tree ws))
members-uniform [] h = tt
members-uniform (w ∷ ws) h = (h.0, members-uniform ws h.1)

module _ {T : Type 0} where
  pub parts_of : (t : Tree T) (w : Growing T) → w.grown ≡ None → Holds t w → HoldsParts t w
  parts_of t w e h = subst (HoldsBy t w) e h

  pub whole_of : (t : Tree T) (w : Growing T) (v : Value T) → w.grown ≡ Some v → Holds t w → HoldsWhole t w.outer v
  whole_of t w v e h = subst (HoldsBy t w) e h

  pub empty_in : (t : Tree T) → HasOnly t [] [] [] [] → AllIn t
  empty_in t (c, p, l, y) = (
    all-none (HasDim t.dim) numbers_of t.coords.items c,
    all-none (IsPointIn t.dim) point_numbers t.points.items p,
    all-none (IsLineStringIn t.dim) line_string_numbers t.lines.items l,
    all-none (IsPolygonIn t.dim) polygon_numbers t.areas.items y,
  )

  -- no part is at hand where a geometry begins
  bare_of : (t : Tree T) (w : Growing T) (d : Dimension) → w ≡ headed d w.outer → HoldsParts t w → HasOnly t [] [] [] []
  bare_of t w d e k = (k.parts.0 ∙ ap (λ w. w.coords) e, k.parts.1 ∙ ap (λ w. w.points) e, k.parts.2 ∙ ap (λ w. w.lines) e, k.parts.3 ∙ ap (λ w. w.areas) e)

  -- the coordinate at hand
  module _ (t : Tree T) (w : Growing T) (k : HoldsParts t w) where
    hand_coord : option_map numbers_of (coord_of t) ≡ coord w.hand
    hand_coord =
        coord_numbers t.x t.y t.z t.m ∙ ap (λ x. numbers_by x t.y t.z t.m) k.x ∙ ap (λ y. numbers_by w.hand.x y t.z t.m) k.y ∙ ap (λ z. numbers_by w.hand.x w.hand.y z t.m) k.z
        ∙ ap (λ m. numbers_by w.hand.x w.hand.y w.hand.z m) k.m

    hand_in : IfSome (coord w.hand) (λ c. dim_by w.hand.z w.hand.m ≡ w.dim) → HasDimIfAny t.dim (coord_of t)
    hand_in h = subst (λ d. HasDimIfAny d (coord_of t)) (sym k.dim) (coord_in t.x t.y t.z t.m w.dim
        (subst (λ o. IfSome o (λ c. dim_by t.z t.m ≡ w.dim)) (sym (sym (coord_numbers t.x t.y t.z t.m) ∙ hand_coord))
        (subst (λ e. IfSome (coord w.hand) (λ c. e ≡ w.dim)) (sym (ap (λ z. dim_by z t.m) k.z ∙ ap (λ m. dim_by w.hand.z m) k.m)) h)))

  -- a collection opens
  pub opens : (t : Tree T) (v : Vec (OpenCollection T) Global) (c : OpenCollection T) → c.dim ≡ t.dim → c.members.items ≡ [] → v.items ≡ t.outer.items ++ (c ∷ []) → Becomes true (MayOpen part.Collection) (opened part.Collection) t (record t { outer = v; dim = XY })
  opens t v c d none items = record {
    stays = λ h. h;
    holds = λ w h e.
        let k = parts_of t w (ap (λ w. w.grown) e) h in
        let bare = bare_of t w w.dim e k in
        inl (record {
          kept = k.kept;
          dim = refl;
          x = k.x ∙ ap (λ w. w.hand.x) e;
          y = k.y ∙ ap (λ w. w.hand.y) e;
          z = k.z ∙ ap (λ w. w.hand.z) e;
          m = k.m ∙ ap (λ w. w.hand.m) e;
          parts = bare;
          all_in = empty_in (record t { outer = v; dim = XY }) bare;
          open_ones = (t.outer.items, c, items, record { dim = d ∙ k.dim; members = ap (map wkt_value) none; uniform = all-of-none UniformWkt c.members.items none }, k.open_ones);
        });
  }

  -- the last of several
  pub last_of : (cs before : List (OpenCollection T)) (c : OpenCollection T) (f : Frame T) (o : List (Frame T)) → HoldsFrames cs (f ∷ o) → cs ≡ before ++ (c ∷ []) → HoldsFrame c f × HoldsFrames before o
  last_of cs before c f o (b, x, e2, hf, ho) e =
      let (same, last) = last-same b before x c (sym e2 ∙ e) in
      (subst (λ c. HoldsFrame c f) last hf, subst (λ b. HoldsFrames b o) same ho)

  -- the collection of these members
  pub collected : (c : OpenCollection T) (f : Frame T) (w : Wkt T) → HoldsFrame c f → tree w ≡ trees.collection (trees_of (map tree c.members.items)) c.dim → IsWktOf (Value.collection f.dim (members_of f.members)) (tree w)
  collected c f w h e = record {
    value = ap value_of e ∙ ap (λ vs. Value.collection c.dim vs) (members-value c.members.items) ∙ ap (λ vs. Value.collection c.dim (members_of vs)) h.members ∙ ap (λ d. Value.collection d (members_of f.members)) h.dim;
    uniform = subst IsUniform (sym e) (members-uniform c.members.items h.uniform);
  }

  pub gives_last : (t : Tree T) (v : Vec (OpenCollection T) Global) (c : OpenCollection T) (w : Wkt T) → t.outer.items ≡ v.items ++ (c ∷ []) → tree w ≡ trees.collection (trees_of (map tree c.members.items)) c.dim → GivesLast t w (record t { outer = v })
  gives_last t v c w items e = record {
    same = refl;
    gives = λ f o h. let (hf, ho) = last_of t.outer.items v.items c f o h items in (collected c f w hf e, ho);
  }

  -- a member was put into the collection that was opened last
  pub member_joins : (t : Tree T) (v : Vec (OpenCollection T) Global) (c d : OpenCollection T) (before : List (OpenCollection T)) (w : Wkt T) → t.outer.items ≡ before ++ (c ∷ []) → v.items ≡ before ++ (d ∷ []) → d.dim ≡ c.dim → d.members.items ≡ c.members.items ++ (w ∷ [])
      → Joins t w (record t { dim = XY; x = None; y = None; z = None; m = None; outer = v })
  member_joins t v c d before w old new dim members = record {
    stays = λ h. h;
    joins = λ f o value kept only frames is.
        let (hf, ho) = last_of t.outer.items before c f o frames old in
        inl (record {
          kept = kept;
          dim = refl;
          x = refl;
          y = refl;
          z = refl;
          m = refl;
          parts = only;
          all_in = empty_in (record t { dim = XY; x = None; y = None; z = None; m = None; outer = v }) only;
          open_ones = (
            before,
            d,
            new,
            record {
              dim = dim ∙ hf.dim;
              members = map-more wkt_value d.members.items c.members.items w f.members value members hf.members is.value;
              uniform = all-more UniformWkt d.members.items c.members.items w members hf.uniform is.uniform;
            },
            ho,
          );
        });
  }

  -- the same, with the place in the list of open ones
  pub member_put : (t : Tree T) (c : OpenCollection T) (list : Vec (Wkt T) Global) (w : Wkt T) (n : ℕ) → n + 1 ≡ length t.outer.items → c ≡ get_or t.outer.items n c → list.items ≡ c.members.items ++ (w ∷ [])
      → Joins t w (record t { dim = XY; x = None; y = None; z = None; m = None; outer = with_item t.outer n (record { members = list; dim = c.dim }) })
  member_put t c list w n long at members = record {
    stays = λ h. h;
    joins = λ f o value kept only frames is.
        let (before, x, items, hf, ho) = frames in
        let count : length before ≡ n = omega (arith, ap length items, length-append before (x ∷ []), long) in
        let same : c ≡ x = at ∙ ap (λ l. get_or l n c) items ∙ get_or_at before x [] c n count in
        let d : OpenCollection T = record { members = list; dim = c.dim } in
        (member_joins t (with_item t.outer n d) c d before w (items ∙ ap (λ x. before ++ (x ∷ [])) (sym same)) (ap (λ l. slice_set l n d) items ∙ set_at before x [] d n count) refl members).joins f o value kept only frames is;
  }

  -- none is open
  pub none_joins : (t u : Tree T) (w : Wkt T) → t.outer.items ≡ [] → u.is_lost ≡ t.is_lost → Joins t w u
  none_joins t u w none lost = record {
    stays = λ h. lost ∙ h;
    joins = λ f o value kept only (before, c, items, hf, ho) is. absurd (none-last before c (sym items ∙ none));
  }

  pub lost_joins : (t u : Tree T) (w : Wkt T) → IsLost u → Joins t w u
  lost_joins t u w l = record { stays = λ h. l; joins = λ f o value kept only frames is. inr l }

  -- the geometry that ended was taken, and put there
  pub member_ends : (t u s : Tree T) (geometry : Wkt T) → TreeGives t geometry u → Joins u geometry s → Becomes true HasMember (λ w. joined w.outer w.grown) t s
  member_ends t u s geometry gives joins = record {
    stays = λ h. joins.stays (gives.is_lost ∙ h);
    holds = λ w h ((f, o, e), v, grown).
        let k = whole_of t w v grown h in
        let (is, only, frames) = gives.gives w.outer v k in
        either w (λ h. subst (λ g. Holds s (joined w.outer g)) (sym grown) (subst (λ o. Holds s (joined o (Some v))) (sym e) h))
        (joins.joins f o v (gives.is_lost ∙ k.kept) only (subst (HoldsFrames u.outer.items) e frames) is);
  }
    where
      either : (w : Growing T) {A : Type 0} → (A → Holds s (joined w.outer w.grown)) → A ⊎ IsLost s → Holds s (joined w.outer w.grown) ⊎ (IsLost s × (true ≡ true))
      either w f (inl h) = inl (f h)
      either w f (inr l) = inr (l, refl)

  -- these parts alone are at hand
  only_of : (t : Tree T) (w : Growing T) {cs : List (List T)} {ps : List (Option (List T))} {ls : List (List (List T))} {ys : List (List (List (List T)))} → HoldsParts t w → HasParts cs ps ls ys w → HasOnly t cs ps ls ys
  only_of t w k has = (k.parts.0 ∙ has.coords, k.parts.1 ∙ has.points, k.parts.2 ∙ has.lines, k.parts.3 ∙ has.areas)

  -- A part ends whose items are whole.

  ends_by : (p q : Part) (t u s : Tree T) → p ≡ q → u ≡ s → Becomes (lists_end q) (MayEnd q) (ended q) t s → Becomes (lists_end p) (MayEnd p) (ended p) t u
  ends_by p q t u s e f h = subst (λ p. Becomes (lists_end p) (MayEnd p) (ended p) t u) (sym e) (subst (λ u. Becomes (lists_end q) (MayEnd q) (ended q) t u) (sym f) h)

  -- that of a geometry, which has this value
  whole_by : (q : Part) (l : Ended) (value : Growing T → Value T) → ((w : Growing T) → MayEnd q w → (w.grown ≡ None) × (ended q w ≡ rest w.outer (Some (value w))))
      → ((t : Tree T) (w : Growing T) → HoldsParts t w → MayEnd q w → HoldsEnded l (record t { last = l }) w.outer (value w)) → (p : Part) (t u : Tree T) → p ≡ q → u ≡ record t { last = l } → Becomes (lists_end p) (MayEnd p) (ended p) t u
  whole_by q l value grows whole p t u e f =
      let s : Tree T = record t { last = l } in
      ends_by p q t u s e f (record {
        stays = λ h. h;
        holds = λ w h may.
            let (grown, same) = grows w may in
            let k = parts_of t w grown h in
            inl (subst (Holds s) (sym same) (record { kept = k.kept; all_in = k.all_in; whole = whole t w k may }));
      })

  pub whole_point : (p : Part) (t u : Tree T) → p ≡ part.Point → u ≡ record t { last = last.Point } → Becomes (lists_end p) (MayEnd p) (ended p) t u
  whole_point = whole_by part.Point last.Point (λ w. Value.point w.dim (coord w.hand)) (λ w may. (may.1.grown, refl)) (λ t w k (p, has).
      (ap (λ d. Value.point d (option_map numbers_of (coord_of t))) k.dim ∙ ap (λ c. Value.point w.dim c) (hand_coord t w k), hand_in t w k p.1, only_of t w k has, k.open_ones))

  pub whole_line_string : (p : Part) (t u : Tree T) → p ≡ part.LineString → u ≡ record t { last = last.LineString } → Becomes (lists_end p) (MayEnd p) (ended p) t u
  whole_line_string = whole_by part.LineString last.LineString (λ w. Value.line_string w.dim w.coords) (λ w has. (has.grown, refl)) (λ t w k has. (w.coords, ap (λ d. Value.line_string d w.coords) k.dim, only_of t w k has, k.open_ones))

  pub whole_polygon : (p : Part) (t u : Tree T) → p ≡ part.Polygon → u ≡ record t { last = last.Polygon } → Becomes (lists_end p) (MayEnd p) (ended p) t u
  whole_polygon = whole_by part.Polygon last.Polygon (λ w. Value.polygon w.dim w.lines) (λ w has. (has.grown, refl)) (λ t w k has. (w.lines, ap (λ d. Value.polygon d w.lines) k.dim, only_of t w k has, k.open_ones))

  pub whole_multi_point : (p : Part) (t u : Tree T) → p ≡ part.MultiPoint → u ≡ record t { last = last.MultiPoint } → Becomes (lists_end p) (MayEnd p) (ended p) t u
  whole_multi_point = whole_by part.MultiPoint last.MultiPoint (λ w. Value.multi_point w.dim w.points) (λ w has. (has.grown, refl)) (λ t w k has. (w.points, ap (λ d. Value.multi_point d w.points) k.dim, only_of t w k has, k.open_ones))

  pub whole_multi_line_string : (p : Part) (t u : Tree T) → p ≡ part.MultiLineString → u ≡ record t { last = last.MultiLineString } → Becomes (lists_end p) (MayEnd p) (ended p) t u
  whole_multi_line_string = whole_by part.MultiLineString last.MultiLineString (λ w. Value.multi_line_string w.dim w.lines) (λ w has. (has.grown, refl)) (λ t w k has. (w.lines, ap (λ d. Value.multi_line_string d w.lines) k.dim, only_of t w k has, k.open_ones))

  pub whole_multi_polygon : (p : Part) (t u : Tree T) → p ≡ part.MultiPolygon → u ≡ record t { last = last.MultiPolygon } → Becomes (lists_end p) (MayEnd p) (ended p) t u
  whole_multi_polygon = whole_by part.MultiPolygon last.MultiPolygon (λ w. Value.multi_polygon w.dim w.areas) (λ w has. (has.grown, refl)) (λ t w k has. (w.areas, ap (λ d. Value.multi_polygon d w.areas) k.dim, only_of t w k has, k.open_ones))

  pub whole_collection : (p : Part) (t u : Tree T) → p ≡ part.Collection → u ≡ record t { last = last.Collection } → Becomes (lists_end p) (MayEnd p) (ended p) t u
  whole_collection p t u e f =
      let s : Tree T = record t { last = last.Collection } in
      ends_by p part.Collection t u s e f (record {
        stays = λ h. h;
        holds = λ w h ((f, o, e), has).
            let k = parts_of t w has.grown h in
            inl (subst (λ o. Holds s (shut o)) (sym e) (record { kept = k.kept; all_in = k.all_in; whole = (f, refl, only_of t w k has, subst (HoldsFrames t.outer.items) e k.open_ones) }));
      })

  pub gives_none : (t : Tree T) (v : Vec (OpenCollection T) Global) (w : Wkt T) → t.outer.items ≡ [] → GivesLast t w (record t { outer = v })
  gives_none t v w none = record { same = refl; gives = λ f o (before, c, items, hf, ho). absurd (none-last before c (sym items ∙ none)) }

  -- an event after one call
  pub one_event : (b : Bool) (May : Growing T → Type 0) (change : Growing T → Growing T) (t u : Tree T) (e : Event T) → Becomes b May change t u → ((w : Growing T) → MayCome e w → May w) → ((w : Growing T) → change w ≡ grow e w) → (b ≡ true → lists e ≡ true) → Grew t (e ∷ []) u
  one_event b May change t u e h may same lost = record {
    stays = h.stays;
    holds = λ w k (m, rest). go w (h.holds w k (may w m));
  }
    where
      go : (w : Growing T) → Holds u (change w) ⊎ (IsLost u × (b ≡ true)) → Holds u (grow e w) ⊎ (IsLost u × ((lists e || false) ≡ true))
      go w (inl k) = inl (subst (Holds u) (same w) k)
      go w (inr (l, is)) = inr (l, ap (λ b. b || false) (lost is))

  -- an event after two
  pub two_calls : (a b : Bool) (MayA MayB : Growing T → Type 0) (first second : Growing T → Growing T) (t u v : Tree T) → Becomes a MayA first t u → Becomes b MayB second u v → Becomes (a || b) (λ w. MayA w × MayB (first w)) (λ w. second (first w)) t v
  two_calls a b MayA MayB first second t u v h k = record {
    stays = λ l. k.stays (h.stays l);
    holds = λ w s (m, n). go a w n (h.holds w s m);
  }
    where
      next : (a : Bool) (w : Growing T) → Holds v (second (first w)) ⊎ (IsLost v × (b ≡ true)) → Holds v (second (first w)) ⊎ (IsLost v × ((a || b) ≡ true))
      next a w (inl s) = inl s
      next true w (inr (l, is)) = inr (l, refl)
      next false w (inr (l, is)) = inr (l, is)

      go : (a : Bool) (w : Growing T) → MayB (first w) → Holds u (first w) ⊎ (IsLost u × (a ≡ true)) → Holds v (second (first w)) ⊎ (IsLost v × ((a || b) ≡ true))
      go a w n (inl s) = next a w (k.holds (first w) s n)
      go a w n (inr (l, is)) = inr (k.stays l, ap (λ a. a || b) is)

  -- nothing is done where a part opens that is no collection
  pub no_opening : (t : Tree T) (p : Part) → (p ≡ part.Collection → ⊥) → Grew t (Event.Open p ∷ []) t
  no_opening t part.Collection not = absurd (not refl)
  no_opening t p not = record { stays = λ h. h; holds = λ w h m. inl h }

  -- a part that ends is one of several
  pub line_by : (p : Part) (t u : Tree T) → (p ≡ part.Ring) ⊎ ((p ≡ part.Line) ⊎ (p ≡ part.AreaRing)) → Becomes true (λ w. w.grown ≡ None) with_line t u → Becomes (lists_end p) (MayEnd p) (ended p) t u
  line_by p t u (inl e) h = ends_by p part.Ring t u u e refl h
  line_by p t u (inr (inl e)) h = ends_by p part.Line t u u e refl h
  line_by p t u (inr (inr e)) h = ends_by p part.AreaRing t u u e refl h

  pub point_by : (p : Part) (t u : Tree T) → (p ≡ part.Member) ⊎ (p ≡ part.Bare) → Becomes true HasPoint with_point t u → Becomes (lists_end p) (MayEnd p) (ended p) t u
  point_by p t u (inl e) h = ends_by p part.Member t u u e refl h
  point_by p t u (inr e) h = ends_by p part.Bare t u u e refl h

  pub area_by : (p : Part) (t u : Tree T) → p ≡ part.Area → Becomes true (λ w. w.grown ≡ None) (ended part.Area) t u → Becomes (lists_end p) (MayEnd p) (ended p) t u
  area_by p t u e h = ends_by p part.Area t u u e refl h

pub ruleset part_ends = (whole_point, whole_line_string, whole_polygon, whole_multi_point, whole_multi_line_string, whole_multi_polygon, point_by)

-- The event after each call.
module _ {T : Type 0} where
  pub header_grew : (p : Part) (d : Dimension) (t u : Tree T) → Becomes false (λ w. w ≡ headed XY w.outer) (λ w. record w { dim = d }) t u → Grew t (Event.Header p d ∷ []) u
  header_grew p d t u h = one_event false _ _ t u (Event.Header p d) h (λ w m. m) (λ w. refl) (λ e. e)

  pub number_grew : (a : Axis) (x : T) (t u : Tree T) → Becomes false (λ w. w.grown ≡ None) (λ w. record w { hand = with_number a x w.hand }) t u → Grew t (Event.Number a x ∷ []) u
  number_grew a x t u h = one_event false _ _ t u (Event.Number a x) h (λ w m. m) (λ w. refl) (λ e. e)

  pub comma_grew : (p : Part) (t u : Tree T) → Becomes (lists_items p) (MayJoin p) (grown_item p) t u → Grew t (Event.Comma p ∷ []) u
  comma_grew p t u h = one_event (lists_items p) _ _ t u (Event.Comma p) h (λ w m. m) (λ w. refl) (λ e. e)

  pub empty_grew : (p : Part) (t u : Tree T) → Becomes (lists_end p) (MayBeEmpty p) (λ w. ended p (without_items p w)) t u → Grew t (Event.Empty p ∷ []) u
  empty_grew p t u h = one_event (lists_end p) _ _ t u (Event.Empty p) h (λ w m. m) (λ w. refl) (λ e. e)

  pub close_grew : (p : Part) (t u v : Tree T) → Becomes (lists_items p) (MayJoin p) (grown_item p) t u → Becomes (lists_end p) (MayEnd p) (ended p) u v → Grew t (Event.Close p ∷ []) v
  close_grew p t u v h k =
      one_event (lists_items p || lists_end p) _ _ t v (Event.Close p) (two_calls (lists_items p) (lists_end p) _ _ _ _ t u v h k) (λ w m. m) (λ w. refl) (λ e. e)

  pub open_grew : (p : Part) (t u : Tree T) → p ≡ part.Collection → Becomes true (MayOpen part.Collection) (opened part.Collection) t u → Grew t (Event.Open p ∷ []) u
  open_grew p t u is h =
      subst (λ p. Grew t (Event.Open p ∷ []) u) (sym is) (one_event true _ _ t u (Event.Open part.Collection) h (λ w m. m) (λ w. refl) (λ e. refl))
