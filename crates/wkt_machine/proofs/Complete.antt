-- The lexemes of coordinates, parts and whole geometries lead over them, and make their events.
use Rattle.std.proofs.Common.{◌≡◌, ℕ, List, [], ◌∷◌, ◌++◌, sym, refl, ap, ◌∙◌, subst, append_assoc, Option, Some, None, ◌≤◌, ◌-◌, suc, length, append-nil, arith, cond, codes, inl, inr}
use Rattle.std.specs.Prelude.{◌⊎◌}
use Rattle.std.specs.Str.{str_to_ascii_uppercase}
use Rattle.wkt_num.specs.Bytes.{Lexeme, Open, Close, Comma, Word, Num}
use Rattle.wkt_machine.specs.Events.{Event, axis_of, numbers, further, listed, perhaps, events, geometries, members}
use Rattle.wkt_machine.specs.Machine.{Move, after, and_then, move, run, numbers_after, at, inside, outside, moved, said, comma_step, last_place, last_step, step, made, part_of, joined_step, kind_step, dimension_step, State}
use Rattle.wkt_machine.specs.Machine as place
use Rattle.wkt_access.specs.declared.dimensions.Dimension.{Dimension}
use Rattle.wkt_access.specs.declared.dimensions.Dimension.TheVariants.{XY}
use Rattle.wkt_access.specs.Values.{size, Value, Values}
use Rattle.wkt_read.specs.Grammar.{IsEmptyWord, Within, More, Listed, Perhaps, Numbers, Coord, Ring, Poly, Member, DimPart, Header, StandFor, Geometries, Further}
use Rattle.wkt_read.proofs.KindWords.{empty_no_dim, is_empty}
use Rattle.wkt_machine.specs.declared.part.Part.{Part}
use Rattle.wkt_machine.specs.declared.step.Action.TheVariants as act
use Rattle.wkt_machine.specs.declared.part.Axis.TheVariants as axis
use Rattle.wkt_machine.specs.declared.part.Part.TheVariants as part
use Rattle.wkt_types.specs.declared.geometry_type.GeometryType.{GeometryType}
use Rattle.wkt_types.specs.declared.geometry_type.GeometryType.TheVariants as kind

-- What lexemes lead from one state to another, whatever follows them.

pub after-nil : {N : Type 0} (o : Option (Move N)) → after [] o ≡ o
after-nil None = refl
after-nil (Some s) = refl

pub after-after : {N : Type 0} (es fs : List (Event N)) (o : Option (Move N)) → after es (after fs o) ≡ after (es ++ fs) o
after-after es fs None = refl
after-after es fs (Some s) = ap (λ l. Some (s.0, l)) (sym (append_assoc es fs s.1))

then-after : {N : Type 0} (es : List (Event N)) (o : Option (Move N)) (more : State → Option (Move N)) → and_then (after es o) more ≡ after es (and_then o more)
then-after es None more = refl
then-after es (Some s) more = sym (after-after es s.1 (more s.0))

module _ {N : Type 0} (read : List ℕ → Option N) where
  -- The lexemes lead from one state to another and make these events, whatever follows.
  pub record Runs (s : State) (ls : List Lexeme) (es : List (Event N)) (t : State) : Type 0 where
    pub on : (rest : List Lexeme) → run read s (ls ++ rest) ≡ after es (run read t rest)

  pub stay : (s : State) → Runs s [] [] s
  stay s = record { on = λ rest. sym (after-nil (run read s rest)) }

  -- one lexeme, and then others
  pub first : {s t u : State} {l : Lexeme} {ls : List Lexeme} {es fs : List (Event N)} → move read s l ≡ Some (t, es) → Runs t ls fs u → Runs s (l ∷ ls) (es ++ fs) u
  first {s} {t} {u} {l} {ls} {es} {fs} e r = record {
    on = λ rest. ap (λ o. and_then o (λ t. run read t (ls ++ rest))) e ∙ ap (after es) (r.on rest) ∙ after-after es fs (run read u rest);
  }

  -- some lexemes, and then others
  pub both : {s t u : State} {a b : List Lexeme} {es fs : List (Event N)} → Runs s a es t → Runs t b fs u → Runs s (a ++ b) (es ++ fs) u
  both {s} {t} {u} {a} {b} {es} {fs} r q = record {
    on = λ rest. ap (run read s) (append_assoc a b rest) ∙ r.on (b ++ rest) ∙ ap (after es) (q.on rest) ∙ after-after es fs (run read u rest);
  }

  pub one : {s t : State} {l : Lexeme} {es : List (Event N)} → move read s l ≡ Some (t, es) → Runs s (l ∷ []) es t
  one {s} {t} {l} {es} e = record { on = λ rest. ap (λ o. and_then o (λ t. run read t rest)) e }

  pub lexemes : {s t : State} {ls ks : List Lexeme} {es : List (Event N)} → ls ≡ ks → Runs s ks es t → Runs s ls es t
  lexemes {s} {t} {ls} {ks} {es} e r = subst (λ l. Runs s l es t) (sym e) r

  pub makes : {s t : State} {ls : List Lexeme} {es fs : List (Event N)} → es ≡ fs → Runs s ls es t → Runs s ls fs t
  makes {s} {t} {ls} {es} {fs} e r = subst (λ l. Runs s ls l t) e r

-- Coordinates, and parts with items of one kind.

pub size_after : (d : Dimension) → size d ≡ suc (numbers_after d)
size_after XY = refl
size_after _ = refl

pub some_after : (d : Dimension) → 1 ≤ numbers_after d
some_after XY = omega arith
some_after _ = omega arith

-- the number with most after it is the first
first_axis : (d : Dimension) → axis_of d (numbers_after d) ≡ axis.X
first_axis XY = refl
first_axis _ = refl

module _ {N : Type 0} (read : List ℕ → Option N) where
  -- what the last number of a part makes beside its event
  abbrev pub closes_bare : Part → List (Event N)
  closes_bare part.Bare = Event.Close part.Member ∷ []
  closes_bare p = []

  last_made : (p : Part) (d : Dimension) (x : N) → made (last_step p d) (Some x) ≡ Event.Number (axis_of d 0) x ∷ closes_bare p
  last_made part.Bare d x = refl
  last_made p d x = refl

  -- a lexeme that is a number
  pub number : {t : State} {es : List (Event N)} (s : State) (x : N) (run : List ℕ) → read run ≡ Some x → moved read (step s (Num run)) (said read (Some x)) ≡ Some (t, es) → move read s (Num run) ≡ Some (t, es)
  number s x run is e = ap (λ o. moved read (step s (Num run)) (said read o)) is ∙ e

  -- the numbers of a coordinate from one on
  numbers_run : (p : Part) (d : Dimension) (n : ℕ) (x : N) (xs : List N) (ls : List Lexeme) → Numbers read ls (x ∷ xs)
      → Runs read (at n (place.Number p d (length xs))) ls (numbers d (x ∷ xs) ++ closes_bare p) (at n (last_place p d))
  numbers_run p d n x [] ls (run, more, e, is, e2) =
      lexemes read (e ∙ ap (λ l. Num run ∷ l) e2) (one read (number (at n (place.Number p d 0)) x run is (ap (λ l. Some (at n (last_place p d), l)) (last_made p d x))))
  numbers_run p d n x (y ∷ ys) ls (run, more, e, is, h) =
      lexemes read e (first read (number (at n (place.Number p d (suc (length ys)))) x run is refl) (numbers_run p d n y ys more h))

  -- a coordinate
  pub coord_run : (p : Part) (d : Dimension) (n : ℕ) (c : List N) (ls : List Lexeme) → Coord read d ls c
      → Runs read (at n (place.Number p d (numbers_after d))) ls (numbers d c ++ closes_bare p) (at n (last_place p d))
  coord_run p d n [] ls (h, e) = absurd (omega (arith, size_after d))
  coord_run p d n (x ∷ xs) ls (h, e) =
      let same : length xs ≡ numbers_after d = omega (arith, size_after d) in
      subst (λ k. Runs read (at n (place.Number p d k)) ls (numbers d (x ∷ xs) ++ closes_bare p) (at n (last_place p d))) same (numbers_run p d n x xs ls h)

  -- What stands after a header or in place of a part: EMPTY, or a parenthesis and what leads out of the part.
  abbrev pub Stands : Part → Dimension → ℕ → List Lexeme → List (Event N) → Type 0
  Stands p d n ls es =
      (IsEmptyWord ls × (es ≡ Event.Empty p ∷ []))
      ⊎ ((body : List Lexeme) × (fs : List (Event N)) × (ls ≡ Open ∷ body) × (es ≡ Event.Open p ∷ fs) × Runs read (inside p d n) body fs (outside p d n))

  pub empty_word : (w : List ℕ) (p : Part) (d : Dimension) (n : ℕ) → str_to_ascii_uppercase w ≡ codes "EMPTY" → move read (at n (place.Opening p d)) (Word w) ≡ Some (outside p d n, Event.Empty p ∷ [])
  empty_word w p d n e = ap (λ b. moved read (cond b (Some (outside p d n, act.Empty p)) None) (Some None)) (is_empty w e)

  pub opening_run : (p : Part) (d : Dimension) (n : ℕ) (ls : List Lexeme) (es : List (Event N)) → Stands p d n ls es → Runs read (at n (place.Opening p d)) ls es (outside p d n)
  opening_run p d n ls es (inl ((w, e, is), e2)) = lexemes read e (makes read (sym e2) (one read (empty_word w p d n is)))
  opening_run p d n ls es (inr (body, fs, e, e2, r)) = lexemes read e (makes read (sym e2) (first read refl r))

  module _ {A : Type 0} (p : Part) (d : Dimension) (n : ℕ) (P : List Lexeme → A → Type 0) (f : A → List (Event N))
      (item : (x : A) (a : List Lexeme) → P a x → Runs read (inside p d n) a (f x) (at n (place.Item p d))) where
    -- one item in parentheses
    pub single : (x : A) (ls : List Lexeme) → Within (λ b. P b x) ls → Stands p d n ls (listed p f (x ∷ []))
    single x ls (body, e, h) = inr (body ++ (Close ∷ []), f x ++ (Event.Close p ∷ []), e, refl, both read (item x body h) (one read refl))

    pub perhaps_stands : (o : Option A) (ls : List Lexeme) → Perhaps P ls o → Stands p d n ls (perhaps p f o)
    perhaps_stands None ls h = inl (h, refl)
    perhaps_stands (Some x) ls h = single x ls h

    module _ (comma : comma_step p d n ≡ Some (inside p d n, act.Comma p)) where
      more_run : (xs : List A) (ls : List Lexeme) → More P ls xs → Runs read (at n (place.Item p d)) (ls ++ (Close ∷ [])) (further p f xs) (outside p d n)
      more_run [] ls e = lexemes read (ap (λ l. l ++ (Close ∷ [])) e) (one read refl)
      more_run (x ∷ xs) ls (a, b, e, h, m) =
          lexemes read (ap (λ l. l ++ (Close ∷ [])) e ∙ ap (λ l. Comma ∷ l) (append_assoc a b (Close ∷ [])))
          (first read (ap (λ o. moved read o (Some None)) comma) (both read (item x a h) (more_run xs b m)))

      pub listed_stands : (xs : List A) (ls : List Lexeme) → Listed P ls xs → Stands p d n ls (listed p f xs)
      listed_stands [] ls h = inl (h, refl)
      listed_stands (x ∷ xs) ls (body, e, (a, b, e2, h, m)) =
          inr (a ++ (b ++ (Close ∷ [])), f x ++ further p f xs, e ∙ ap (λ l. Open ∷ (l ++ (Close ∷ []))) e2 ∙ ap (λ l. Open ∷ l) (append_assoc a b (Close ∷ [])), refl, both read (item x a h) (more_run xs b m))

  -- a coordinate of a part in parentheses
  pub plain_coord : (p : Part) (d : Dimension) (n : ℕ) → closes_bare p ≡ [] → last_place p d ≡ place.Item p d → (c : List N) (ls : List Lexeme) → Coord read d ls c
      → Runs read (at n (place.Number p d (numbers_after d))) ls (numbers d c) (at n (place.Item p d))
  plain_coord p d n none item c ls h =
      makes read (ap (λ l. numbers d c ++ l) none ∙ append-nil (numbers d c))
      (subst (λ q. Runs read (at n (place.Number p d (numbers_after d))) ls (numbers d c ++ closes_bare p) (at n q)) item (coord_run p d n c ls h))

  pub point_stands : (d : Dimension) (n : ℕ) (o : Option (List N)) (ls : List Lexeme) → Perhaps (Coord read d) ls o → Stands part.Point d n ls (perhaps part.Point (numbers d) o)
  point_stands d n = perhaps_stands part.Point d n (Coord read d) (numbers d) (plain_coord part.Point d n refl refl)

  pub line_stands : (d : Dimension) (n : ℕ) (cs : List (List N)) (ls : List Lexeme) → Listed (Coord read d) ls cs → Stands part.LineString d n ls (listed part.LineString (numbers d) cs)
  line_stands d n = listed_stands part.LineString d n (Coord read d) (numbers d) (plain_coord part.LineString d n refl refl) refl

  pub ring_run : (d : Dimension) (n : ℕ) (cs : List (List N)) (ls : List Lexeme) → Ring read d ls cs → Runs read (at n (place.Opening part.Ring d)) ls (listed part.Ring (numbers d) cs) (at n (place.Item part.Polygon d))
  ring_run d n cs ls h = opening_run part.Ring d n ls _ (listed_stands part.Ring d n (Coord read d) (numbers d) (plain_coord part.Ring d n refl refl) refl cs ls h)

  pub string_run : (d : Dimension) (n : ℕ) (cs : List (List N)) (ls : List Lexeme) → Ring read d ls cs → Runs read (at n (place.Opening part.Line d)) ls (listed part.Line (numbers d) cs) (at n (place.Item part.MultiLineString d))
  string_run d n cs ls h = opening_run part.Line d n ls _ (listed_stands part.Line d n (Coord read d) (numbers d) (plain_coord part.Line d n refl refl) refl cs ls h)

  pub rings_stand : (d : Dimension) (n : ℕ) (rs : List (List (List N))) (ls : List Lexeme) → Listed (Ring read d) ls rs → Stands part.Polygon d n ls (listed part.Polygon (listed part.Ring (numbers d)) rs)
  rings_stand d n = listed_stands part.Polygon d n (Ring read d) (listed part.Ring (numbers d)) (ring_run d n) refl

  pub strings_stand : (d : Dimension) (n : ℕ) (rs : List (List (List N))) (ls : List Lexeme) → Listed (Ring read d) ls rs → Stands part.MultiLineString d n ls (listed part.MultiLineString (listed part.Line (numbers d)) rs)
  strings_stand d n = listed_stands part.MultiLineString d n (Ring read d) (listed part.Line (numbers d)) (string_run d n) refl

  pub polygon_ring_run : (d : Dimension) (n : ℕ) (cs : List (List N)) (ls : List Lexeme) → Ring read d ls cs → Runs read (at n (place.Opening part.AreaRing d)) ls (listed part.AreaRing (numbers d) cs) (at n (place.Item part.Area d))
  polygon_ring_run d n cs ls h = opening_run part.AreaRing d n ls _ (listed_stands part.AreaRing d n (Coord read d) (numbers d) (plain_coord part.AreaRing d n refl refl) refl cs ls h)

  pub polygon_run : (d : Dimension) (n : ℕ) (rs : List (List (List N))) (ls : List Lexeme) → Poly read d ls rs → Runs read (at n (place.Opening part.Area d)) ls (listed part.Area (listed part.AreaRing (numbers d)) rs) (at n (place.Item part.MultiPolygon d))
  polygon_run d n rs ls h = opening_run part.Area d n ls _ (listed_stands part.Area d n (Ring read d) (listed part.AreaRing (numbers d)) (polygon_ring_run d n) refl rs ls h)

  pub polygons_stand : (d : Dimension) (n : ℕ) (ps : List (List (List (List N)))) (ls : List Lexeme) → Listed (Poly read d) ls ps → Stands part.MultiPolygon d n ls (listed part.MultiPolygon (listed part.Area (listed part.AreaRing (numbers d))) ps)
  polygons_stand d n = listed_stands part.MultiPolygon d n (Poly read d) (listed part.Area (listed part.AreaRing (numbers d))) (polygon_run d n) refl

  -- a member of a multipoint without parentheses
  bare_run : (d : Dimension) (n : ℕ) (c : List N) (ls : List Lexeme) → Coord read d ls c → Runs read (at n (place.Opening part.Member d)) ls (listed part.Member (numbers d) (c ∷ [])) (at n (place.Item part.MultiPoint d))
  bare_run d n [] ls (h, len) = absurd (omega (arith, size_after d))
  bare_run d n (x ∷ []) ls (h, len) = absurd (omega (arith, size_after d, some_after d))
  bare_run d n (x ∷ y ∷ ys) ls ((run, more, e, is, h), len) =
      let many : length (y ∷ ys) ≡ numbers_after d = omega (arith, size_after d) in
      let fewer : length ys ≡ numbers_after d - 1 = omega arith in
      let first_one : axis_of d (length (y ∷ ys)) ≡ axis.X = ap (axis_of d) many ∙ first_axis d in
      lexemes read e (first read (number (at n (place.Opening part.Member d)) x run is
      (ap (λ k. Some (at n (place.Number part.Bare d k), Event.Open part.Member ∷ Event.Number axis.X x ∷ [])) (sym fewer)
      ∙ ap (λ a. Some (at n (place.Number part.Bare d (length ys)), Event.Open part.Member ∷ Event.Number a x ∷ [])) (sym first_one)))
      (numbers_run part.Bare d n y ys more h))

  pub member_run : (d : Dimension) (n : ℕ) (m : Option (List N)) (ls : List Lexeme) → Member read d ls m → Runs read (at n (place.Opening part.Member d)) ls (perhaps part.Member (numbers d) m) (at n (place.Item part.MultiPoint d))
  member_run d n None ls h = opening_run part.Member d n ls _ (inl (h, refl))
  member_run d n (Some c) ls (inl h) = bare_run d n c ls h
  member_run d n (Some c) ls (inr h) = opening_run part.Member d n ls _ (single part.Member d n (Coord read d) (numbers d) (plain_coord part.Member d n refl refl) c ls h)

  pub members_stand : (d : Dimension) (n : ℕ) (ms : List (Option (List N))) (ls : List Lexeme) → Listed (Member read d) ls ms → Stands part.MultiPoint d n ls (listed part.MultiPoint (perhaps part.Member (numbers d)) ms)
  members_stand d n = listed_stands part.MultiPoint d n (Member read d) (perhaps part.Member (numbers d)) (member_run d n) refl

-- The lexemes of a geometry lead over it, and make its events.

module _ {N : Type 0} (read : List ℕ → Option N) where
  -- what stands after a kind word alone, without a dimension word
  dimension_run : (p : Part) (n : ℕ) (ls : List Lexeme) (es : List (Event N)) → Stands read p XY n ls es → Runs read (at n (place.Alone p)) ls (Event.Header p XY ∷ es) (outside p XY n)
  dimension_run p n ls es (inl ((w, e, is), e2)) =
      lexemes read e (makes read (ap (λ l. Event.Header p XY ∷ l) (sym e2)) (one read
      (ap (λ o. moved read (dimension_step o p w n) (Some None)) (empty_no_dim w is)
      ∙ ap (λ b. moved read (cond b (Some (outside p XY n, act.HeaderEmpty p)) None) (Some None)) (is_empty w is))))
  dimension_run p n ls es (inr (body, fs, e, e2, r)) =
      lexemes read e (makes read (ap (λ l. Event.Header p XY ∷ l) (sym e2)) (first read refl r))

  -- what stands after a kind word, by the dimension that is joined to it
  joined_run : (p : Part) (o : Option Dimension) (d : Dimension) (n : ℕ) (more b : List Lexeme) (es : List (Event N)) → DimPart o d more → Stands read p d n b es
      → (fs : List (Event N)) × Runs read (joined_step p o n).0 (more ++ b) fs (outside p d n) × (made {N = N} (joined_step p o n).1 None ++ fs ≡ Event.Header p d ∷ es)
  joined_run p (Some j) d n more b es (ed, em) h =
      (es, lexemes read (ap (λ l. l ++ b) em) (subst (λ j. Runs read (at n (place.Opening p j)) b es (outside p d n)) ed (opening_run read p d n b es h)), ap (λ j. Event.Header p j ∷ es) (sym ed))
  joined_run p None d n more b es (inl (ed, em)) h =
      let go = λ (d : Dimension). Runs read (at n (place.Alone p)) b (Event.Header p d ∷ es) (outside p d n) in
      (Event.Header p d ∷ es, lexemes read (ap (λ l. l ++ b) em) (subst go (sym ed) (dimension_run p n b es (subst (λ d. Stands read p d n b es) ed h))), refl)
  joined_run p None d n more b es (inr (w, em, is)) h =
      (Event.Header p d ∷ es, lexemes read (ap (λ l. l ++ b) em) (first read (ap (λ o. moved read (dimension_step o p w n) (Some None)) is) (opening_run read p d n b es h)), refl)

  -- a header, and what stands after it
  headed : (k : GeometryType) (d : Dimension) (n : ℕ) (ls h b : List Lexeme) (es : List (Event N)) → ls ≡ h ++ b → Header k d h → Stands read (part_of k) d n b es
      → Runs read (at n place.Kind) ls (Event.Header (part_of k) d ∷ es) (outside (part_of k) d n)
  headed k d n ls h b es split (w, e, more, eh, is, ek, dp) body =
      let go = λ (k : GeometryType). Stands read (part_of k) d n b es → Runs read (at n place.Kind) (Word w ∷ (more ++ b)) (Event.Header (part_of k) d ∷ es) (outside (part_of k) d n) in
      lexemes read (split ∙ ap (λ l. l ++ b) eh) (subst go ek
      (λ body.
      let (fs, r, e2) = joined_run (part_of e.kind) e.joined d n more b es dp body in
      makes read e2 (first read (ap (λ o. moved read (kind_step o n) (Some None)) is) r))
      body)

  mutual
    pub value_run : (v : Value N) (ls : List Lexeme) (n : ℕ) → StandFor read ls v → Runs read (at n place.Kind) ls (events v) (at n place.Geometry)
    value_run (Value.point d c) ls n (h, b, e, head, body) = headed kind.Point d n ls h b _ e head (point_stands read d n c b body)
    value_run (Value.line_string d cs) ls n (h, b, e, head, body) = headed kind.LineString d n ls h b _ e head (line_stands read d n cs b body)
    value_run (Value.polygon d rs) ls n (h, b, e, head, body) = headed kind.Polygon d n ls h b _ e head (rings_stand read d n rs b body)
    value_run (Value.multi_point d ms) ls n (h, b, e, head, body) = headed kind.MultiPoint d n ls h b _ e head (members_stand read d n ms b body)
    value_run (Value.multi_line_string d cs) ls n (h, b, e, head, body) = headed kind.MultiLineString d n ls h b _ e head (strings_stand read d n cs b body)
    value_run (Value.multi_polygon d ps) ls n (h, b, e, head, body) = headed kind.MultiPolygon d n ls h b _ e head (polygons_stand read d n ps b body)
    value_run (Value.collection d vs) ls n (h, b, e, head, body) = headed kind.GeometryCollection d n ls h b _ e head (geometries_stand vs b d n body)

    geometries_stand : (vs : Values N) (ls : List Lexeme) (d : Dimension) (n : ℕ) → Geometries read ls vs → Stands read part.Collection d n ls (geometries vs)
    geometries_stand Values.no_values ls d n h = inl (h, refl)
    geometries_stand (Values.more_values v vs) ls d n (a, b, e, g, m) =
        inr (a ++ (b ++ (Close ∷ [])), events v ++ members vs, e ∙ ap (λ l. Open ∷ l) (append_assoc a b (Close ∷ [])), refl, both read (value_run v a (suc n) g) (further_run vs b n m))

    further_run : (vs : Values N) (ls : List Lexeme) (n : ℕ) → Further read ls vs → Runs read (at (suc n) place.Geometry) (ls ++ (Close ∷ [])) (members vs) (at n place.Geometry)
    further_run Values.no_values ls n e = lexemes read (ap (λ l. l ++ (Close ∷ [])) e) (one read refl)
    further_run (Values.more_values v vs) ls n (a, b, e, g, m) =
        lexemes read (ap (λ l. l ++ (Close ∷ [])) e ∙ ap (λ l. Comma ∷ l) (append_assoc a b (Close ∷ [])))
        (first read refl (both read (value_run v a (suc n) g) (further_run vs b n m)))
