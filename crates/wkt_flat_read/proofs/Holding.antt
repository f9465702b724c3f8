-- What a flat tree holds after each call.
use Rattle.std.proofs.Common.{◌≡◌, ◌+◌, ◌<◌, ℕ, List, [], ◌∷◌, ◌++◌, length, length-append, sym, refl, ap, ◌∙◌, subst, append-nil, arith, ◌⊎◌, inl, inr, Option, Some, None, Bool, true, false, ◌||◌}
use Rattle.std.specs.Prelude.{map, option_to_list, get_or, slice_set, IsSome, Vec}
use Rattle.std.specs.Vec.{with_item}
use Rattle.std.specs.declared.alloc.Global.{Global}
use Rattle.std.proofs.lemmas.List.{map-append, get_or_at, set_at}
use Rattle.wkt_access.specs.Values.{Value}
use Rattle.wkt_flat.specs.Tree.{Flat, flats_of, flat_tree, flat_members}
use Rattle.wkt_flat.specs.declared.coord.Coord.{Coord}
use Rattle.wkt_flat.specs.declared.geometry.Geometry.{Geometry}
use Rattle.wkt_flat.specs.declared.point.Point.{Point}
use Rattle.wkt_machine.specs.Events.{Event}
use Rattle.wkt_values.specs.Growing.{Frame, Growing, coord, rest, joined, opened as grown_open, with_coord, with_line, with_point, ended, grow, shut, HasMember, HasNumbers, HasPoint, MayCome, MayEnd, MayOpen, with_number, MayJoin, with_item as grown_item, MayBeEmpty, without_items}
use Rattle.wkt_machine.specs.declared.part.Part.{Part}
use Rattle.wkt_machine.specs.declared.part.Part.TheVariants as part
use Rattle.wkt_flat_read.specs.Trees.{flat_line, flat_area, flat_point, flat_points, plain, is_empty, some_empty, holds_empty, coord_by, coord_of, point_at, members, opened, frames, frames_hold, some_holds, FlatHasOnly, FlatIsLost, FlatHoldsParts, FlatHoldsEnded, FlatHoldsWhole, FlatHoldsBy, FlatHolds, FlatBecomes, FlatGrew, FlatGives, FlatGivesLast, GivesMembers, FlatJoins}
use Rattle.wkt_values.specs.declared.tree.Ended.TheVariants as last
use Rattle.wkt_values.proofs.TreeHolds.{last-same}
use Rattle.wkt_flat_read.specs.declared.tree.FlatTree.{FlatTree}
use Rattle.wkt_flat_read.proofs.Ended.{or_false, or_true, or_assoc, unmap-last, none-last, line-append, points-append, empty-last, holds-last, members-hold, members-plain, hand_line, hand_point, hand_empty}
use Rattle.wkt_machine.specs.declared.part.Axis.{Axis}

module _ {T : Type 0} (E : Coord T → Coord T → Bool) where
  pub parts_of : (t : FlatTree T) (w : Growing T) → w.grown ≡ None → FlatHolds E t w → FlatHoldsParts E t w
  parts_of t w e h = subst (FlatHoldsBy E t w) e h

  pub whole_of : (t : FlatTree T) (w : Growing T) (v : Value T) → w.grown ≡ Some v → FlatHolds E t w → FlatHoldsWhole E t w.outer v
  whole_of t w v e h = subst (FlatHoldsBy E t w) e h

  -- the coordinate at hand
  hand_is : (t : FlatTree T) (w : Growing T) → FlatHoldsParts E t w → coord_by w.hand.x w.hand.y ≡ coord_of t
  hand_is t w k = ap (λ x. coord_by x w.hand.y) (sym k.x) ∙ ap (λ y. coord_by t.x y) (sym k.y)

  line_at : (t : FlatTree T) (w : Growing T) → FlatHoldsParts E t w → flat_line (option_to_list (coord w.hand)) ≡ option_to_list (coord_of t)
  line_at t w k = hand_line w.hand.x w.hand.y w.hand.z w.hand.m ∙ ap (λ c. option_to_list c) (hand_is t w k)

  point_is : (t : FlatTree T) (w : Growing T) → FlatHoldsParts E t w → flat_point (coord w.hand) ≡ point_at (coord_of t)
  point_is t w k = hand_point w.hand.x w.hand.y w.hand.z w.hand.m ∙ ap (λ c. point_at c) (hand_is t w k)

  empty_is : (t : FlatTree T) (w : Growing T) → FlatHoldsParts E t w → is_empty (coord w.hand) ≡ is_empty (coord_of t)
  empty_is t w k = hand_empty w.hand.x w.hand.y w.hand.z w.hand.m ∙ ap (λ c. is_empty c) (hand_is t w k)

  pub coord_ends : (t : FlatTree T) (list : Vec (Coord T) Global) (c : Coord T) → coord_of t ≡ Some c → list.items ≡ t.coords.items ++ (c ∷ []) → FlatBecomes E HasNumbers with_coord t (record t { coords = list })
  coord_ends t list c is items = record {
    stays = λ h. h;
    holds = λ w h m.
        let k = parts_of t w m.0 h in
        let all : list.items ≡ flat_line (w.coords ++ option_to_list (coord w.hand)) =
        items ∙ ap (λ l. l ++ (c ∷ [])) k.parts.0 ∙ ap (λ o. flat_line w.coords ++ option_to_list o) (sym is) ∙ ap (λ l. flat_line w.coords ++ l) (sym (line_at t w k)) ∙ sym (line-append w.coords (option_to_list (coord w.hand))) in
        inl (subst (FlatHoldsBy E (record t { coords = list }) (with_coord w)) (sym m.0) (record {
          kept = k.kept;
          refused = k.refused;
          x = k.x;
          y = k.y;
          parts = (all, k.parts.1, k.parts.2, k.parts.3);
          open_ones = k.open_ones;
        }));
  }

  -- a point more, by what it adds
  point_more : (t u : FlatTree T) (w : Growing T) → FlatHoldsParts E t w → u.is_lost ≡ false → u.is_refused ≡ (t.is_refused || is_empty (coord_of t)) → u.x ≡ t.x → u.y ≡ t.y → u.coords ≡ t.coords → u.points.items ≡ t.points.items ++ point_at (coord_of t)
      → u.lines ≡ t.lines → u.areas ≡ t.areas → u.outer ≡ t.outer → FlatHoldsParts E u (with_point w)
  point_more t u w k kept refused x y coords points lines areas outer = record {
    kept = kept;
    refused =
        refused ∙ ap (λ b. b || is_empty (coord_of t)) k.refused ∙ ap (λ b. (frames_hold w.outer || some_empty w.points) || b) (sym (empty_is t w k))
        ∙ sym (or_assoc (frames_hold w.outer) (some_empty w.points) (is_empty (coord w.hand))) ∙ ap (λ b. frames_hold w.outer || b) (sym (empty-last w.points (coord w.hand)));
    x = x ∙ k.x;
    y = y ∙ k.y;
    parts = (
      ap (λ v. v.items) coords ∙ k.parts.0,
      points ∙ ap (λ l. l ++ point_at (coord_of t)) k.parts.1 ∙ ap (λ l. flat_points w.points ++ l) (sym (point_is t w k) ∙ sym (append-nil (flat_point (coord w.hand)))) ∙ sym (points-append w.points (coord w.hand ∷ [])),
      ap (λ v. v.items) lines ∙ k.parts.2,
      ap (λ v. v.items) areas ∙ k.parts.3,
    );
    open_ones = ap (λ v. map members v.items) outer ∙ k.open_ones;
  }

  pub point_ends : (t : FlatTree T) (list : Vec (Point T) Global) (c : Coord T) → coord_of t ≡ Some c → list.items ≡ t.points.items ++ (record { 0 = c } ∷ []) → FlatBecomes E HasPoint with_point t (record t { points = list })
  point_ends t list c is items = record {
    stays = λ h. h;
    holds = λ w h m.
        let k = parts_of t w m.0 h in
        inl (subst (FlatHoldsBy E (record t { points = list }) (with_point w)) (sym m.0)
        (point_more t (record t { points = list }) w k k.kept (sym (or_false t.is_refused) ∙ ap (λ o. t.is_refused || is_empty o) (sym is)) refl refl refl (items ∙ ap (λ o. t.points.items ++ point_at o) (sym is)) refl refl refl));
  }

  pub empty_point_ends : (t : FlatTree T) → coord_of t ≡ None → FlatBecomes E HasPoint with_point t (record t { is_refused = true })
  empty_point_ends t is = record {
    stays = λ h. h;
    holds = λ w h m.
        let k = parts_of t w m.0 h in
        inl (subst (FlatHoldsBy E (record t { is_refused = true }) (with_point w)) (sym m.0)
        (point_more t (record t { is_refused = true }) w k k.kept (sym (or_true t.is_refused) ∙ ap (λ o. t.is_refused || is_empty o) (sym is)) refl refl refl (sym (append-nil t.points.items) ∙ ap (λ o. t.points.items ++ point_at o) (sym is)) refl refl refl));
  }

  -- a collection opens
  pub opens : (t : FlatTree T) (v : Vec (Vec (Geometry T) Global) Global) (c : Vec (Geometry T) Global) → c.items ≡ [] → v.items ≡ t.outer.items ++ (c ∷ []) → FlatBecomes E (MayOpen part.Collection) (grown_open part.Collection) t (record t { outer = v })
  opens t v c none items = record {
    stays = λ h. h;
    holds = λ w h e.
        let k = parts_of t w (ap (λ w. w.grown) e) h in
        inl (record {
          kept = k.kept;
          refused = k.refused ∙ ap (λ w'. frames_hold w.outer || some_empty w'.points) e ∙ ap (λ b. b || false) (sym (or_false (frames_hold w.outer)));
          x = k.x ∙ ap (λ w. w.hand.x) e;
          y = k.y ∙ ap (λ w. w.hand.y) e;
          parts = (k.parts.0 ∙ ap (λ w. flat_line w.coords) e, k.parts.1 ∙ ap (λ w. flat_points w.points) e, k.parts.2 ∙ ap (λ w. map flat_line w.lines) e, k.parts.3 ∙ ap (λ w. map (flat_area E) w.areas) e);
          open_ones = ap (map members) items ∙ map-append members t.outer.items (c ∷ []) ∙ ap (λ l. l ++ (members c ∷ [])) k.open_ones ∙ ap (λ l. frames E w.outer ++ (map flat_tree l ∷ [])) none;
        });
  }

  -- the collection that was opened last is taken
  pub gives_last : (t : FlatTree T) (v : Vec (Vec (Geometry T) Global) Global) (c : Vec (Geometry T) Global) → t.outer.items ≡ v.items ++ (c ∷ []) → FlatGivesLast E t c (record t { outer = v })
  gives_last t v c items = record {
    same = refl;
    gives = λ f o h.
        let image = map-append members v.items (c ∷ []) in
        let both : map members v.items ++ (members c ∷ []) ≡ frames E o ++ (map (plain E) f.members ∷ []) = sym image ∙ ap (map members) (sym items) ∙ h in
        let (same, one) = last-same (map members v.items) (frames E o) (members c) (map (plain E) f.members) both in (one, same);
  }

  pub gives_none : (t : FlatTree T) (v : Vec (Vec (Geometry T) Global) Global) (c : Vec (Geometry T) Global) → t.outer.items ≡ [] → FlatGivesLast E t c (record t { outer = v })
  gives_none t v c none = record { same = refl; gives = λ f o h. absurd (none-last members t.outer.items (frames E o) (map (plain E) f.members) none h) }

  -- a collection of these members is the geometry
  pub collection_gives : (t u : FlatTree T) (c : Vec (Geometry T) Global) (g : Geometry T) → (t.last ≡ last.Collection) ⊎ (t.last ≡ last.NoMembers) → GivesMembers E t c u → flat_tree g ≡ Flat.collection (flats_of (members c)) → FlatGives E t (Some g) u
  collection_gives t u c g which h is = record {
    is_lost = ap (λ t. t.is_lost) h.same;
    is_refused = ap (λ t. t.is_refused) h.same;
    gives = λ o v k. go which o v k;
  }
    where
      stays : FlatHasOnly t [] [] [] [] → FlatHasOnly u [] [] [] []
      stays only = subst (λ t. FlatHasOnly t [] [] [] []) (sym h.same) only

      go : (t.last ≡ last.Collection) ⊎ (t.last ≡ last.NoMembers) → (o : List (Frame T)) (v : Value T) → FlatHoldsWhole E t o v → (flat_tree g ≡ plain E v) × FlatHasOnly u [] [] [] [] × (opened u ≡ frames E o)
      go (inl e) o v k =
          let (f, value, only, parts_open) : FlatHoldsEnded E last.Collection t o v = subst (λ l. FlatHoldsEnded E l t o v) e k.whole in
          let (all, outer) = h.last e f o parts_open in
          (is ∙ ap (λ ms. Flat.collection (flats_of ms)) all ∙ ap (λ ts. Flat.collection ts) (members-plain E f.members) ∙ ap (plain E) value, stays only, outer)
      go (inr e) o v k =
          let (d, value, only, parts_open) : FlatHoldsEnded E last.NoMembers t o v = subst (λ l. FlatHoldsEnded E l t o v) e k.whole in
          let (none, same) = h.none e in
          (is ∙ ap (λ gs. Flat.collection (flat_members gs)) none ∙ ap (plain E) value, stays only, ap (λ t. opened t) same ∙ parts_open)

  -- a member was put into the collection that was opened last
  pub member_put : (t : FlatTree T) (c list : Vec (Geometry T) Global) (g : Geometry T) (n : ℕ) → n + 1 ≡ length t.outer.items → c ≡ get_or t.outer.items n c → list.items ≡ c.items ++ (g ∷ [])
      → FlatJoins E t g (record t { x = None; y = None; outer = with_item t.outer n list })
  member_put t c list g n long at added = record {
    stays = λ h. h;
    joins = λ f o v kept refused only parts_open is.
        let (before, d, items, image, one) = unmap-last members t.outer.items (frames E o) (map (plain E) f.members) parts_open in
        let count : length before ≡ n = omega (arith, ap length items, length-append before (d ∷ []), long) in
        let same : c ≡ d = at ∙ ap (λ l. get_or l n c) items ∙ get_or_at before d [] c n count in
        let new : slice_set t.outer.items n list ≡ before ++ (list ∷ []) = ap (λ l. slice_set l n list) items ∙ set_at before d [] list n count in
        let more : members list ≡ map (plain E) (f.members ++ (v ∷ [])) =
        ap (map flat_tree) added ∙ map-append flat_tree c.items (g ∷ []) ∙ ap (λ l. l ++ (flat_tree g ∷ [])) (ap (λ c. members c) same ∙ one) ∙ ap (λ x. map (plain E) f.members ++ (x ∷ [])) is ∙ sym (map-append (plain E) f.members (v ∷ [])) in
        inl (record {
          kept = kept;
          refused =
              refused ∙ sym (or_assoc (frames_hold o) (some_holds f.members) (holds_empty v)) ∙ ap (λ b. frames_hold o || b) (sym (holds-last f.members v))
              ∙ sym (or_false (frames_hold o || some_holds (f.members ++ (v ∷ []))));
          x = refl;
          y = refl;
          parts = only;
          open_ones = ap (map members) new ∙ map-append members before (list ∷ []) ∙ ap (λ l. l ++ (members list ∷ [])) image ∙ ap (λ x. frames E o ++ (x ∷ [])) more;
        });
  }

  -- none is parts_open
  pub none_joins : (t u : FlatTree T) (g : Geometry T) → t.outer.items ≡ [] → u.is_lost ≡ t.is_lost → FlatJoins E t g u
  none_joins t u g none lost = record {
    stays = λ h. lost ∙ h;
    joins = λ f o v kept refused only parts_open is. absurd (none-last members t.outer.items (frames E o) (map (plain E) f.members) none parts_open);
  }

  pub lost_joins : (t u : FlatTree T) (g : Geometry T) → FlatIsLost u → FlatJoins E t g u
  lost_joins t u g l = record { stays = λ h. l; joins = λ f o v kept refused only parts_open is. inr l }

  -- the geometry that ended was taken, and put there
  pub member_ends : (t u s : FlatTree T) (r : Option (Geometry T)) (g : Geometry T) → r ≡ Some g → FlatGives E t r u → FlatJoins E u g s → FlatBecomes E HasMember (λ w. joined w.outer w.grown) t s
  member_ends t u s r g some gives joins = record {
    stays = λ h. joins.stays (gives.is_lost ∙ h);
    holds = λ w h ((f, o, e), v, grown).
        let k = whole_of t w v grown h in
        let given : FlatGives E t (Some g) u = subst (λ r. FlatGives E t r u) some gives in
        let (is, only, parts_open) = given.gives w.outer v k in
        either w (λ h. subst (λ g. FlatHolds E s (joined w.outer g)) (sym grown) (subst (λ o. FlatHolds E s (joined o (Some v))) (sym e) h))
        (joins.joins f o v (gives.is_lost ∙ k.kept) (gives.is_refused ∙ k.refused ∙ ap (λ o. frames_hold o || holds_empty v) e) only (parts_open ∙ ap (frames E) e) is);
  }
    where
      either : (w : Growing T) {A : Type 0} → (A → FlatHolds E s (joined w.outer w.grown)) → A ⊎ FlatIsLost s → FlatHolds E s (joined w.outer w.grown) ⊎ FlatIsLost s
      either w f (inl h) = inl (f h)
      either w f (inr l) = inr l

  -- a part ends whose items are whole
  pub whole_collection : (t : FlatTree T) → FlatBecomes E (MayEnd part.Collection) (ended part.Collection) t (record t { last = last.Collection })
  whole_collection t = record {
    stays = λ h. h;
    holds = λ w h ((f, o, e), has).
        let k = parts_of t w has.grown h in
        inl (subst (λ o. FlatHolds E (record t { last = last.Collection }) (shut o)) (sym e) (record {
          kept = k.kept;
          refused =
              k.refused ∙ ap (λ o. frames_hold o || some_empty w.points) e ∙ ap (λ ps. frames_hold (f ∷ o) || some_empty ps) has.points ∙ or_false (frames_hold (f ∷ o))
              ∙ ap (λ b. frames_hold o || b) (sym (members-hold f.members));
          whole = (f, refl, (k.parts.0 ∙ ap (λ cs. flat_line cs) has.coords, k.parts.1 ∙ ap (λ ps. flat_points ps) has.points, k.parts.2 ∙ ap (map flat_line) has.lines, k.parts.3 ∙ ap (map (flat_area E)) has.areas), k.open_ones ∙ ap (frames E) e);
        }));
  }

  -- an event after one call
  pub one_event : (May : Growing T → Type 0) (change : Growing T → Growing T) (t u : FlatTree T) (e : Event T) → FlatBecomes E May change t u → ((w : Growing T) → MayCome e w → May w) → ((w : Growing T) → change w ≡ grow e w) → FlatGrew E t (e ∷ []) u
  one_event May change t u e h may same = record {
    stays = h.stays;
    holds = λ w k (m, rest). go w (h.holds w k (may w m));
  }
    where
      go : (w : Growing T) → FlatHolds E u (change w) ⊎ FlatIsLost u → FlatHolds E u (grow e w) ⊎ FlatIsLost u
      go w (inl k) = inl (subst (FlatHolds E u) (same w) k)
      go w (inr l) = inr l

  -- an event after two
  pub two_calls : (MayA MayB : Growing T → Type 0) (first second : Growing T → Growing T) (t u v : FlatTree T) → FlatBecomes E MayA first t u → FlatBecomes E MayB second u v → FlatBecomes E (λ w. MayA w × MayB (first w)) (λ w. second (first w)) t v
  two_calls MayA MayB first second t u v h k = record {
    stays = λ l. k.stays (h.stays l);
    holds = λ w s (m, n). go w n (h.holds w s m);
  }
    where
      go : (w : Growing T) → MayB (first w) → FlatHolds E u (first w) ⊎ FlatIsLost u → FlatHolds E v (second (first w)) ⊎ FlatIsLost v
      go w n (inl s) = k.holds (first w) s n
      go w n (inr l) = inr (k.stays l)

  -- the event after each call
  pub number_grew : (a : Axis) (x : T) (t u : FlatTree T) → FlatBecomes E (λ w. w.grown ≡ None) (λ w. record w { hand = with_number a x w.hand }) t u → FlatGrew E t (Event.Number a x ∷ []) u
  number_grew a x t u h = one_event _ _ t u (Event.Number a x) h (λ w m. m) (λ w. refl)

  pub comma_grew : (p : Part) (t u : FlatTree T) → FlatBecomes E (MayJoin p) (grown_item p) t u → FlatGrew E t (Event.Comma p ∷ []) u
  comma_grew p t u h = one_event _ _ t u (Event.Comma p) h (λ w m. m) (λ w. refl)

  pub empty_grew : (p : Part) (t u : FlatTree T) → FlatBecomes E (MayBeEmpty p) (λ w. ended p (without_items p w)) t u → FlatGrew E t (Event.Empty p ∷ []) u
  empty_grew p t u h = one_event _ _ t u (Event.Empty p) h (λ w m. m) (λ w. refl)

  pub close_grew : (p : Part) (t u v : FlatTree T) → FlatBecomes E (MayJoin p) (grown_item p) t u → FlatBecomes E (MayEnd p) (ended p) u v → FlatGrew E t (Event.Close p ∷ []) v
  close_grew p t u v h k = one_event _ _ t v (Event.Close p) (two_calls _ _ _ _ t u v h k) (λ w m. m) (λ w. refl)

  pub open_grew : (p : Part) (t u : FlatTree T) → p ≡ part.Collection → FlatBecomes E (MayOpen part.Collection) (grown_open part.Collection) t u → FlatGrew E t (Event.Open p ∷ []) u
  open_grew p t u is h =
      subst (λ p. FlatGrew E t (Event.Open p ∷ []) u) (sym is) (one_event _ _ t u (Event.Open part.Collection) h (λ w m. m) (λ w. refl))

  -- nothing is done where a part opens that is no collection
  pub no_opening : (t : FlatTree T) (p : Part) → (p ≡ part.Collection → ⊥) → FlatGrew E t (Event.Open p ∷ []) t
  no_opening t part.Collection not = absurd (not refl)
  no_opening t p not = record { stays = λ h. h; holds = λ w h m. inl h }

  pub ends_by : (p q : Part) (t u s : FlatTree T) → p ≡ q → u ≡ s → FlatBecomes E (MayEnd q) (ended q) t s → FlatBecomes E (MayEnd p) (ended p) t u
  ends_by p q t u s e f h = subst (λ p. FlatBecomes E (MayEnd p) (ended p) t u) (sym e) (subst (λ u. FlatBecomes E (MayEnd q) (ended q) t u) (sym f) h)

  -- a part that ends is one of several
  pub line_by : (p : Part) (t u : FlatTree T) → (p ≡ part.Ring) ⊎ ((p ≡ part.Line) ⊎ (p ≡ part.AreaRing)) → FlatBecomes E (λ w. w.grown ≡ None) with_line t u → FlatBecomes E (MayEnd p) (ended p) t u
  line_by p t u (inl e) h = ends_by p part.Ring t u u e refl h
  line_by p t u (inr (inl e)) h = ends_by p part.Line t u u e refl h
  line_by p t u (inr (inr e)) h = ends_by p part.AreaRing t u u e refl h

  pub point_by : (p : Part) (t u : FlatTree T) → (p ≡ part.Member) ⊎ (p ≡ part.Bare) → FlatBecomes E HasPoint with_point t u → FlatBecomes E (MayEnd p) (ended p) t u
  point_by p t u (inl e) h = ends_by p part.Member t u u e refl h
  point_by p t u (inr e) h = ends_by p part.Bare t u u e refl h
