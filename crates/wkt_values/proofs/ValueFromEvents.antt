-- A value grows from its events.
use Rattle.std.proofs.Common.{◌≡◌, ◌+◌, ℕ, List, [], ◌∷◌, ◌++◌, length, sym, refl, ap, ◌∙◌, subst, append_assoc, append-nil, arith, Option, Some, None, IfSome}
use Rattle.std.specs.Prelude.{option_to_list}
use Rattle.std.specs.List.{AllByRecursion}
use Rattle.wkt_access.specs.declared.dimensions.Dimension.{Dimension}
use Rattle.wkt_access.specs.declared.dimensions.Dimension.TheVariants.{XY, XYZ, XYM, XYZM}
use Rattle.wkt_access.specs.Values.{Value, Values}
use Rattle.wkt_access.specs.WellFormed.{CoordFits, LineStringFits, PolygonFits, PointFits, IsWellFormed, AreWellFormed}
use Rattle.wkt_types.specs.Held.{dim_by}
use Rattle.wkt_machine.specs.Events.{Event, numbers, further, listed, perhaps, events, geometries, members}
use Rattle.wkt_values.specs.Trees.{grow_append}
use Rattle.wkt_values.specs.Growing.{Frame, Hand, Growing, bare, coord, numbers_by, headed, rest, members_of, opened, with_coord, with_item, ended, without_items, grow, grow_all, HasParts, HasNumbers, MayOpen, MayJoin, MayEnd, MayCome, MayAll}
use Rattle.wkt_machine.specs.declared.part.Part.{Part}
use Rattle.wkt_machine.specs.declared.part.Part.TheVariants as part

-- a list that is this long
next_of : {N : Type 0} (n : ℕ) (c : List N) → length c ≡ n + 1 → (x : N) × (r : List N) × (c ≡ x ∷ r) × (length r ≡ n)
next_of n [] e = absurd (omega (arith, e))
next_of n (x ∷ r) e = (x, r, refl, omega (arith, e))

none_of : {N : Type 0} (c : List N) → length c ≡ 0 → c ≡ []
none_of [] e = refl
none_of (x ∷ c) e = absurd (omega (arith, e))

two_of : {N : Type 0} (c : List N) → length c ≡ 2 → (x : N) × (y : N) × (c ≡ x ∷ y ∷ [])
two_of c e =
    let (x, r, a, b) = next_of 1 c e in
    let (y, s, f, g) = next_of 0 r b in (x, y, a ∙ ap (λ l. x ∷ l) (f ∙ ap (λ l. y ∷ l) (none_of s g)))

three_of : {N : Type 0} (c : List N) → length c ≡ 3 → (x : N) × (y : N) × (z : N) × (c ≡ x ∷ y ∷ z ∷ [])
three_of c e =
    let (x, r, a, b) = next_of 2 c e in
    let (y, z, f) = two_of r b in (x, y, z, a ∙ ap (λ l. x ∷ l) f)

four_of : {N : Type 0} (c : List N) → length c ≡ 4 → (x : N) × (y : N) × (z : N) × (m : N) × (c ≡ x ∷ y ∷ z ∷ m ∷ [])
four_of c e =
    let (x, r, a, b) = next_of 3 c e in
    let (y, z, m, f) = three_of r b in (x, y, z, m, a ∙ ap (λ l. x ∷ l) f)

module _ {N : Type 0} (is_value : N → Type 0) where
  may-append : (es fs : List (Event N)) (s : Growing N) → MayAll es s → MayAll fs (grow_all es s) → MayAll (es ++ fs) s
  may-append [] fs s h k = k
  may-append (e ∷ es) fs s (h, hs) k = (h, may-append es fs (grow e s) hs k)

  -- Events make the first growing the second, and each may come where it does.
  pub record Grows (es : List (Event N)) (s t : Growing N) : Type 0 where
    pub is : grow_all es s ≡ t
    pub may : MayAll es s

  both : {es fs : List (Event N)} {s t u : Growing N} → Grows es s t → Grows fs t u → Grows (es ++ fs) s u
  both {es} {fs} {s} {t} {u} h k = record {
    is = grow_append es fs s ∙ ap (grow_all fs) h.is ∙ k.is;
    may = may-append es fs s h.may (subst (MayAll fs) (sym h.is) k.may);
  }

  one : (e : Event N) {es : List (Event N)} {s t u : Growing N} → MayCome e s → grow e s ≡ t → Grows es t u → Grows (e ∷ es) s u
  one e {es} {s} {t} {u} m is h = record { is = ap (grow_all es) is ∙ h.is; may = (m, subst (MayAll es) (sym is) h.may) }

  last : (e : Event N) {s t : Growing N} → MayCome e s → grow e s ≡ t → Grows (e ∷ []) s t
  last e m is = record { is = is; may = (m, tt) }

  to : {es : List (Event N)} {s t u : Growing N} → t ≡ u → Grows es s t → Grows es s u
  to e h = record { is = h.is ∙ e; may = h.may }

  -- no number is at hand that the dimension hasn't
  abbrev IsIn : Dimension → Hand N → Type 0
  IsIn XY h = (h.z ≡ None) × (h.m ≡ None)
  IsIn XYZ h = h.m ≡ None
  IsIn XYM h = h.z ≡ None
  IsIn XYZM h = Unit {0}

  bare_in : (d : Dimension) (h : Hand N) → h.z ≡ None → h.m ≡ None → IsIn d h
  bare_in XY h z m = (z, m)
  bare_in XYZ h z m = m
  bare_in XYM h z m = z
  bare_in XYZM h z m = tt

  -- its x doesn't matter
  in_anyway : (d : Dimension) (h : Hand N) → IsIn d h → IsIn d (record h { x = None })
  in_anyway XY h i = i
  in_anyway _ h i = i

  -- the numbers of a coordinate are at hand
  record Held (d : Dimension) (c : List N) (h : Hand N) : Type 0 where
    is : coord h ≡ Some c
    dims : dim_by h.z h.m ≡ d
    within : IsIn d h

  -- numbers lead from one hand to another, whatever else has grown
  Leads : Dimension → List N → Hand N → Hand N → Type 0
  Leads d c h k = (s : Growing N) → s.grown ≡ None → Grows (numbers d c) (record s { hand = h }) (record s { hand = k })

  coord_grows : (d : Dimension) (c : List N) → CoordFits is_value d c → (h : Hand N) → IsIn d h → (k : Hand N) × Held d c k × Leads d c h k
  unfolding Leads
  coord_grows XY c f h i =
      let (x, y, e) = two_of c f.1 in
      subst (λ c. (k : Hand N) × Held XY c k × Leads XY c h k) (sym e) (
        record h { x = Some x; y = Some y },
        record {
          is = ap (λ z. numbers_by (Some x) (Some y) z h.m) i.0 ∙ ap (λ m. numbers_by (Some x) (Some y) None m) i.1;
          dims = ap (λ z. dim_by z h.m) i.0 ∙ ap (λ m. dim_by None m) i.1;
          within = i;
        },
        λ s g. record { is = refl; may = (g, (g, tt)) },
      )
  coord_grows XYZ c f h i =
      let (x, y, z, e) = three_of c f.1 in
      subst (λ c. (k : Hand N) × Held XYZ c k × Leads XYZ c h k) (sym e) (
        record h { x = Some x; y = Some y; z = Some z },
        record { is = ap (λ m. numbers_by (Some x) (Some y) (Some z) m) i; dims = ap (λ m. dim_by (Some z) m) i; within = i },
        λ s g. record { is = refl; may = (g, (g, (g, tt))) },
      )
  coord_grows XYM c f h i =
      let (x, y, m, e) = three_of c f.1 in
      subst (λ c. (k : Hand N) × Held XYM c k × Leads XYM c h k) (sym e) (
        record h { x = Some x; y = Some y; m = Some m },
        record { is = ap (λ z. numbers_by (Some x) (Some y) z (Some m)) i; dims = ap (λ z. dim_by z (Some m)) i; within = i },
        λ s g. record { is = refl; may = (g, (g, (g, tt))) },
      )
  coord_grows XYZM c f h i =
      let (x, y, z, m, e) = four_of c f.1 in
      subst (λ c. (k : Hand N) × Held XYZM c k × Leads XYZM c h k) (sym e) (
        record { x = Some x; y = Some y; z = Some z; m = Some m },
        record { is = refl; dims = refl; within = tt },
        λ s g. record { is = refl; may = (g, (g, (g, (g, tt)))) },
      )

  -- The events lead from there to a growing with some hand that fits the dimension.
  GrowsTo : Dimension → List (Event N) → Growing N → (Hand N → Growing N) → Type 0
  GrowsTo d es s t = (k : Hand N) × IsIn d k × Grows es s (t k)

  -- a line of coordinates, whatever part it is
  module _ (p : Part) (d : Dimension) (s : Growing N) (in_dim : s.dim ≡ d) (none : s.grown ≡ None)
      (opens : (h : Hand N) → opened p (record s { coords = []; hand = h }) ≡ record s { coords = []; hand = h }) (may_open : (h : Hand N) → MayOpen p (record s { coords = []; hand = h }))
      (items : (t : Growing N) → with_item p t ≡ with_coord t) (may_join : (t : Growing N) → HasNumbers t → MayJoin p t)
      (may_end : (cs : List (List N)) (h : Hand N) → MayEnd p (record s { coords = cs; hand = h })) where
    abbrev line : List (List N) → Hand N → Growing N
    line cs h = record s { coords = cs; hand = h }

    -- the coordinate at hand is added
    added : (before : List (List N)) (c : List N) (h : Hand N) → Held d c h → with_item p (line before h) ≡ line (before ++ (c ∷ [])) h
    added before c h held = items (line before h) ∙ ap (λ o. line (before ++ option_to_list o) h) held.is

    has_numbers : (before : List (List N)) (c : List N) (h : Hand N) → Held d c h → HasNumbers (line before h)
    has_numbers before c h held = (none, held.dims ∙ sym in_dim)

    more_coords : (xs : List (List N)) → AllByRecursion (CoordFits is_value d) xs → (before : List (List N)) (c : List N) (h : Hand N) → Held d c h → GrowsTo d (further p (numbers d) xs) (line before h) (λ k. ended p (line (before ++ (c ∷ xs)) k))
    unfolding Leads GrowsTo
    more_coords [] f before c h held = (
      h,
      held.within,
      last (Event.Close p) (may_join (line before h) (has_numbers before c h held), subst (MayEnd p) (sym (added before c h held)) (may_end (before ++ (c ∷ [])) h)) (ap (ended p) (added before c h held)),
    )
    more_coords (x ∷ xs) (f, fs) before c h held =
        let (k, next, leads) = coord_grows d x f h held.within in
        let (l, inside, grows) = more_coords xs fs (before ++ (c ∷ [])) x k next in (
          l,
          inside,
          one (Event.Comma p) (may_join (line before h) (has_numbers before c h held)) (added before c h held)
              (both (leads (line (before ++ (c ∷ [])) h) none) (to (ap (λ cs. ended p (line cs l)) (append_assoc before (c ∷ []) (x ∷ xs))) grows)),
        )

    coords_grow : (xs : List (List N)) → AllByRecursion (CoordFits is_value d) xs → (h : Hand N) → IsIn d h → GrowsTo d (listed p (numbers d) xs) (line [] h) (λ k. ended p (line xs k))
    unfolding Leads GrowsTo
    coords_grow [] f h i =
        let without = record h { x = None } in (
          without,
          in_anyway d h i,
          last (Event.Empty p) (may_open h, subst (MayEnd p) (sym (opens without)) (may_end [] without)) (ap (ended p) (opens without)),
        )
    coords_grow (x ∷ xs) (f, fs) h i =
        let (k, held, leads) = coord_grows d x f h i in
        let (l, inside, grows) = more_coords xs fs [] x k held in
        (l, inside, one (Event.Open p) (may_open h) (opens h) (both (leads (line [] h) none) grows))

  -- a part of other parts, by the growing with so many of them and the numbers at hand
  module _ {A : Type 0} (p : Part) (d : Dimension) (f : A → List (Event N)) (Fits : A → Type 0) (S : List A → Hand N → Growing N)
      (opens : (h : Hand N) → opened p (S [] h) ≡ S [] h) (may_open : (h : Hand N) → MayOpen p (S [] h)) (empties : (h : Hand N) → without_items p (S [] h) ≡ S [] (record h { x = None }))
      (items : (xs : List A) (h : Hand N) → with_item p (S xs h) ≡ S xs h) (may_join : (xs : List A) (h : Hand N) → MayJoin p (S xs h)) (may_end : (xs : List A) (h : Hand N) → MayEnd p (S xs h))
      (item : (x : A) → Fits x → (xs : List A) (h : Hand N) → IsIn d h → GrowsTo d (f x) (S xs h) (S (xs ++ (x ∷ [])))) where
    more_parts : (xs : List A) → AllByRecursion Fits xs → (before : List A) (h : Hand N) → IsIn d h → GrowsTo d (further p f xs) (S before h) (λ k. ended p (S (before ++ xs) k))
    unfolding GrowsTo
    more_parts [] g before h i = (
      h,
      i,
      to (ap (λ xs. ended p (S xs h)) (sym (append-nil before)))
          (last (Event.Close p) (may_join before h, subst (MayEnd p) (sym (items before h)) (may_end before h)) (ap (ended p) (items before h))),
    )
    more_parts (x ∷ xs) (g, gs) before h i =
        let (k, inside, grows) = item x g before h i in
        let (l, within, rest) = more_parts xs gs (before ++ (x ∷ [])) k inside in (
          l,
          within,
          one (Event.Comma p) (may_join before h) (items before h) (both grows (to (ap (λ xs. ended p (S xs l)) (append_assoc before (x ∷ []) xs)) rest)),
        )

    parts_grow : (xs : List A) → AllByRecursion Fits xs → (h : Hand N) → IsIn d h → GrowsTo d (listed p f xs) (S [] h) (λ k. ended p (S xs k))
    unfolding GrowsTo
    parts_grow [] g h i =
        let without = record h { x = None } in (
          without,
          in_anyway d h i,
          last (Event.Empty p) (may_open h, subst (MayEnd p) (sym (empties h)) (may_end [] without)) (ap (ended p) (empties h)),
        )
    parts_grow (x ∷ xs) (g, gs) h i =
        let (k, inside, grows) = item x g [] h i in
        let (l, within, rest) = more_parts xs gs (x ∷ []) k inside in
        (l, within, one (Event.Open p) (may_open h) (opens h) (both grows rest))

  module _ (d : Dimension) (o : List (Frame N)) where
    -- after a header
    abbrev base : Hand N → Growing N
    base h = record (headed d o) { hand = h }

    only : (s : Growing N) → s.grown ≡ None → HasParts s.coords s.points s.lines s.areas s
    only s g = record { coords = refl; points = refl; lines = refl; areas = refl; grown = g }

    ring_grows : (ys : List (List (List (List N)))) (cs : List (List N)) → LineStringFits is_value d cs → (ls : List (List (List N))) (h : Hand N) → IsIn d h
        → GrowsTo d (listed part.Ring (numbers d) cs) (record (base h) { lines = ls; areas = ys }) (λ k. record (base k) { lines = ls ++ (cs ∷ []); areas = ys })
    ring_grows ys cs f ls h i = coords_grow part.Ring d (record (base h) { lines = ls; areas = ys }) refl refl (λ h. refl) (λ h. refl) (λ t. refl) (λ t n. n) (λ cs h. refl) cs f h i

    line_grows : (cs : List (List N)) → LineStringFits is_value d cs → (ls : List (List (List N))) (h : Hand N) → IsIn d h
        → GrowsTo d (listed part.Line (numbers d) cs) (record (base h) { lines = ls }) (λ k. record (base k) { lines = ls ++ (cs ∷ []) })
    line_grows cs f ls h i = coords_grow part.Line d (record (base h) { lines = ls }) refl refl (λ h. refl) (λ h. refl) (λ t. refl) (λ t n. n) (λ cs h. refl) cs f h i

    area_ring_grows : (ys : List (List (List (List N)))) (cs : List (List N)) → LineStringFits is_value d cs → (ls : List (List (List N))) (h : Hand N) → IsIn d h
        → GrowsTo d (listed part.AreaRing (numbers d) cs) (record (base h) { lines = ls; areas = ys }) (λ k. record (base k) { lines = ls ++ (cs ∷ []); areas = ys })
    area_ring_grows ys cs f ls h i = coords_grow part.AreaRing d (record (base h) { lines = ls; areas = ys }) refl refl (λ h. refl) (λ h. refl) (λ t. refl) (λ t n. n) (λ cs h. refl) cs f h i

    area_grows : (rs : List (List (List N))) → PolygonFits is_value d rs → (ys : List (List (List (List N)))) (h : Hand N) → IsIn d h
        → GrowsTo d (listed part.Area (listed part.AreaRing (numbers d)) rs) (record (base h) { areas = ys }) (λ k. record (base k) { areas = ys ++ (rs ∷ []) })
    area_grows rs f ys h i =
        parts_grow part.Area d (listed part.AreaRing (numbers d)) (LineStringFits is_value d) (λ ls h. record (base h) { lines = ls; areas = ys }) (λ h. refl) (λ h. refl) (λ h. refl) (λ ls h. refl) (λ ls h. refl) (λ ls h. refl) (area_ring_grows ys) rs f h i

    member_grows : (c : Option (List N)) → PointFits is_value d c → (ps : List (Option (List N))) (h : Hand N) → IsIn d h
        → GrowsTo d (perhaps part.Member (numbers d) c) (record (base h) { points = ps }) (λ k. record (base k) { points = ps ++ (c ∷ []) })
    unfolding Leads GrowsTo
    member_grows None f ps h i = (record h { x = None }, in_anyway d h i, last (Event.Empty part.Member) (refl, (refl, tt)) refl)
    member_grows (Some c) f ps h i =
        let (k, held, leads) = coord_grows d c f h i in
        let dims = subst (λ o. IfSome o (λ c. dim_by k.z k.m ≡ d)) (sym held.is) held.dims in (
          k,
          held.within,
          one (Event.Open part.Member) refl refl (both (leads (record (base h) { points = ps }) refl)
              (last (Event.Close part.Member) (refl, (refl, dims)) (ap (λ c. record (base k) { points = ps ++ (c ∷ []) }) held.is))),
        )

    point_grows : (c : Option (List N)) → PointFits is_value d c → Grows (perhaps part.Point (numbers d) c) (headed d o) (rest o (Some (Value.point d c)))
    unfolding Leads GrowsTo
    point_grows None f = last (Event.Empty part.Point) (refl, ((refl, tt), only (headed d o) refl)) refl
    point_grows (Some c) f =
        let (k, held, leads) = coord_grows d c f bare (bare_in d bare refl refl) in
        let dims = subst (λ o. IfSome o (λ c. dim_by k.z k.m ≡ d)) (sym held.is) held.dims in
        one (Event.Open part.Point) refl refl (both (leads (headed d o) refl)
        (last (Event.Close part.Point) (refl, ((refl, dims), only (base k) refl)) (ap (λ c. rest o (Some (Value.point d c))) held.is)))

    -- a whole geometry of a list
    whole : (es : List (Event N)) (t : Growing N) → GrowsTo d es (headed d o) (λ k. t) → Grows es (headed d o) t
    unfolding GrowsTo
    whole es t h = h.2

    line_string_grows : (cs : List (List N)) → LineStringFits is_value d cs → Grows (listed part.LineString (numbers d) cs) (headed d o) (rest o (Some (Value.line_string d cs)))
    line_string_grows cs f =
        whole (listed part.LineString (numbers d) cs) (rest o (Some (Value.line_string d cs)))
        (coords_grow part.LineString d (headed d o) refl refl (λ h. refl) (λ h. refl) (λ t. refl) (λ t n. n) (λ cs h. only (record (base h) { coords = cs }) refl) cs f bare (bare_in d bare refl refl))

    polygon_grows : (rs : List (List (List N))) → PolygonFits is_value d rs → Grows (listed part.Polygon (listed part.Ring (numbers d)) rs) (headed d o) (rest o (Some (Value.polygon d rs)))
    polygon_grows rs f =
        whole (listed part.Polygon (listed part.Ring (numbers d)) rs) (rest o (Some (Value.polygon d rs)))
        (parts_grow part.Polygon d (listed part.Ring (numbers d)) (LineStringFits is_value d) (λ ls h. record (base h) { lines = ls }) (λ h. refl) (λ h. refl) (λ h. refl) (λ ls h. refl) (λ ls h. refl)
        (λ ls h. only (record (base h) { lines = ls }) refl) (ring_grows []) rs f bare (bare_in d bare refl refl))

    multi_point_grows : (ms : List (Option (List N))) → AllByRecursion (PointFits is_value d) ms → Grows (listed part.MultiPoint (perhaps part.Member (numbers d)) ms) (headed d o) (rest o (Some (Value.multi_point d ms)))
    multi_point_grows ms f =
        whole (listed part.MultiPoint (perhaps part.Member (numbers d)) ms) (rest o (Some (Value.multi_point d ms)))
        (parts_grow part.MultiPoint d (perhaps part.Member (numbers d)) (PointFits is_value d) (λ ps h. record (base h) { points = ps }) (λ h. refl) (λ h. refl) (λ h. refl) (λ ps h. refl) (λ ps h. refl)
        (λ ps h. only (record (base h) { points = ps }) refl) member_grows ms f bare (bare_in d bare refl refl))

    multi_line_string_grows : (ls : List (List (List N))) → AllByRecursion (LineStringFits is_value d) ls → Grows (listed part.MultiLineString (listed part.Line (numbers d)) ls) (headed d o) (rest o (Some (Value.multi_line_string d ls)))
    multi_line_string_grows ls f =
        whole (listed part.MultiLineString (listed part.Line (numbers d)) ls) (rest o (Some (Value.multi_line_string d ls)))
        (parts_grow part.MultiLineString d (listed part.Line (numbers d)) (LineStringFits is_value d) (λ ls h. record (base h) { lines = ls }) (λ h. refl) (λ h. refl) (λ h. refl) (λ ls h. refl) (λ ls h. refl)
        (λ ls h. only (record (base h) { lines = ls }) refl) line_grows ls f bare (bare_in d bare refl refl))

    multi_polygon_grows : (ys : List (List (List (List N)))) → AllByRecursion (PolygonFits is_value d) ys → Grows (listed part.MultiPolygon (listed part.Area (listed part.AreaRing (numbers d))) ys) (headed d o) (rest o (Some (Value.multi_polygon d ys)))
    multi_polygon_grows ys f =
        whole (listed part.MultiPolygon (listed part.Area (listed part.AreaRing (numbers d))) ys) (rest o (Some (Value.multi_polygon d ys)))
        (parts_grow part.MultiPolygon d (listed part.Area (listed part.AreaRing (numbers d))) (PolygonFits is_value d) (λ ys h. record (base h) { areas = ys }) (λ h. refl) (λ h. refl) (λ h. refl) (λ ys h. refl) (λ ys h. refl)
        (λ ys h. only (record (base h) { areas = ys }) refl) area_grows ys f bare (bare_in d bare refl refl))

  -- members of a collection after others
  abbrev onto : List (Value N) → Values N → Values N
  onto [] vs = vs
  onto (u ∷ us) vs = Values.more_values u (onto us vs)

  onto_one : (us : List (Value N)) (v : Value N) → members_of (us ++ (v ∷ [])) ≡ onto us (Values.more_values v Values.no_values)
  onto_one [] v = refl
  onto_one (u ∷ us) v = ap (λ vs. Values.more_values u vs) (onto_one us v)

  onto_more : (us : List (Value N)) (v : Value N) (vs : Values N) → onto (us ++ (v ∷ [])) vs ≡ onto us (Values.more_values v vs)
  onto_more [] v vs = refl
  onto_more (u ∷ us) v vs = ap (λ vs. Values.more_values u vs) (onto_more us v vs)

  mutual
    pub value_grows : (v : Value N) → IsWellFormed is_value v → (o : List (Frame N)) → Grows (events v) (rest o None) (rest o (Some v))
    value_grows (Value.point d c) h o = one (Event.Header part.Point d) refl refl (point_grows d o c h)
    value_grows (Value.line_string d cs) h o = one (Event.Header part.LineString d) refl refl (line_string_grows d o cs h)
    value_grows (Value.polygon d rs) h o = one (Event.Header part.Polygon d) refl refl (polygon_grows d o rs h)
    value_grows (Value.multi_point d ms) h o = one (Event.Header part.MultiPoint d) refl refl (multi_point_grows d o ms h)
    value_grows (Value.multi_line_string d ls) h o = one (Event.Header part.MultiLineString d) refl refl (multi_line_string_grows d o ls h)
    value_grows (Value.multi_polygon d ys) h o = one (Event.Header part.MultiPolygon d) refl refl (multi_polygon_grows d o ys h)
    value_grows (Value.collection d vs) h o = one (Event.Header part.Collection d) refl refl (geometries_grow vs h d o)

    geometries_grow : (vs : Values N) → AreWellFormed is_value vs → (d : Dimension) (o : List (Frame N)) → Grows (geometries vs) (headed d o) (rest o (Some (Value.collection d vs)))
    geometries_grow Values.no_values h d o = last (Event.Empty part.Collection) (refl, ((record { dim = d; members = [] }, o, refl), only XY (record { dim = d; members = [] } ∷ o) (rest (record { dim = d; members = [] } ∷ o) None) refl)) refl
    geometries_grow (Values.more_values v vs) (h, hs) d o =
        one (Event.Open part.Collection) refl refl (both (value_grows v h (record { dim = d; members = [] } ∷ o)) (members_grow vs hs d [] v o))

    members_grow : (vs : Values N) → AreWellFormed is_value vs → (d : Dimension) (us : List (Value N)) (v : Value N) (o : List (Frame N)) → Grows (members vs) (rest (record { dim = d; members = us } ∷ o) (Some v)) (rest o (Some (Value.collection d (onto us (Values.more_values v vs)))))
    members_grow Values.no_values h d us v o =
        let f : Frame N = record { dim = d; members = us ++ (v ∷ []) } in
        last (Event.Close part.Collection) (((record { dim = d; members = us }, o, refl), v, refl), ((f, o, refl), only XY (f ∷ o) (rest (f ∷ o) None) refl)) (ap (λ vs. rest o (Some (Value.collection d vs))) (onto_one us v))
    members_grow (Values.more_values u vs) (h, hs) d us v o =
        let f : Frame N = record { dim = d; members = us ++ (v ∷ []) } in
        one (Event.Comma part.Collection) ((record { dim = d; members = us }, o, refl), v, refl) refl (both (value_grows u h (f ∷ o))
        (to (ap (λ vs. rest o (Some (Value.collection d vs))) (onto_more us v (Values.more_values u vs))) (members_grow vs hs d (us ++ (v ∷ [])) u o)))
