-- What is begun as a geometry is walked over, and what stands before a place is begun as one.
use Rattle.std.proofs.Common.{◌≡◌, ◌≤◌, ◌-◌, ℕ, zero, suc, List, [], ◌∷◌, ◌++◌, length, sym, refl, ap, ◌∙◌, subst, append-nil, arith, Option, Some, None, cond, inl, inr, append_assoc, false}
use Rattle.std.specs.Prelude.{◌⊎◌}
use Rattle.wkt_num.specs.Bytes.{Lexeme, Open, Close, Comma, Word, Num}
use Rattle.wkt_access.specs.declared.dimensions.Dimension.{Dimension}
use Rattle.wkt_access.specs.declared.dimensions.Dimension.TheVariants.{XY}
use Rattle.wkt_types.specs.declared.geometry_type.GeometryType.{GeometryType}
use Rattle.wkt_read.specs.Grammar.{DimPart, Header, IsEmptyWord, Within, More, Many, Numbers, Coord, Ring, Poly, Member, StandFor}
use Rattle.wkt_read.proofs.Begun.{body_nothing}
use Rattle.wkt_read.specs.Begun.{BegunNext, BegunMany, BegunWithin, BegunListed, BegunPerhaps, BegunCoord, BegunRing, BegunPoly, BegunMember, BegunBody, BegunAt, BegunGeometry}
use Rattle.wkt_read.proofs.KindWords.{empty_no_dim, is_empty}
use Rattle.wkt_machine.specs.Events.{Event, numbers, listed, perhaps, events}
use Rattle.wkt_machine.specs.Machine.{Move, part_of, numbers_after, last_place, at, inside, outside, after, and_then, move, moved, run, joined_step, kind_step, dimension_step, State, Place, over_at}
use Rattle.wkt_machine.specs.declared.part.Part.{Part}
use Rattle.wkt_machine.specs.Machine as place
use Rattle.wkt_machine.proofs.Complete.{Runs, stay, first, both, one, lexemes, number, plain_coord, size_after, Stands, empty_word, ring_run, string_run, polygon_run, polygon_ring_run, member_run, value_run}
use Rattle.wkt_types.specs.declared.geometry_type.GeometryType.TheVariants as kind
use Rattle.wkt_machine.specs.declared.part.Part.TheVariants as part
use Rattle.wkt_machine.specs.declared.step.Action.TheVariants as act
use Rattle.wkt_machine.proofs.Places.{Before, In, Past, Then, Headed, Free, Top, To, Alone, ToCoord, Behind, Progress, alone_top, member_past}

-- What is begun as a geometry is walked over.

module _ {N : Type 0} (read : List ℕ → Option N) where
  -- The machine goes over all of the lexemes.
  abbrev pub On : State → List Lexeme → Type 0
  On s ls = (m : Move N) × (run read s ls ≡ Some m)

  pub on_none : (s : State) (ls : List Lexeme) → ls ≡ [] → On s ls
  on_none s ls e = ((s, []), ap (run read s) e)

  pub on_first : (s t : State) (l : Lexeme) (ls ks : List Lexeme) (es : List (Event N)) → ks ≡ l ∷ ls → move read s l ≡ Some (t, es) → On t ls → On s ks
  on_first s t l ls ks es split e (m, is) = ((m.0, es ++ m.1), ap (run read s) split ∙ ap (λ o. and_then o (λ t. run read t ls)) e ∙ ap (after es) is)

  pub on_after : (s t : State) (a b ks : List Lexeme) (es : List (Event N)) → ks ≡ a ++ b → Runs read s a es t → On t b → On s ks
  on_after s t a b ks es split r (m, is) = ((m.0, es ++ m.1), ap (run read s) split ∙ r.on b ∙ ap (after es) is)

  pub on_whole : (s t : State) (ls : List Lexeme) (es : List (Event N)) → Runs read s ls es t → On s ls
  on_whole s t ls es r = on_after s t ls [] ls es (sym (append-nil ls)) r (on_none t [] refl)

  -- numbers
  numbers_on : (p : Part) (d : Dimension) (n more : ℕ) (xs : List N) (ls : List Lexeme) → Numbers read ls xs → length xs ≤ suc more → On (at n (place.Number p d more)) ls
  numbers_on p d n more [] ls e few = on_none _ ls e
  numbers_on p d n zero (x ∷ xs) ls (run, rest, e, is, h) few =
      on_first _ (at n (last_place p d)) (Num run) rest ls _ e (number read (at n (place.Number p d zero)) x run is refl) (last xs rest h (omega arith))
    where
      last : (xs : List N) (rest : List Lexeme) → Numbers read rest xs → length xs ≤ 0 → On (at n (last_place p d)) rest
      last [] rest e few = on_none _ rest e
      last (x ∷ xs) rest h few = absurd (omega arith)
  numbers_on p d n (suc more) (x ∷ xs) ls (run, rest, e, is, h) few =
      on_first _ (at n (place.Number p d more)) (Num run) rest ls _ e (number read (at n (place.Number p d (suc more))) x run is refl) (numbers_on p d n more xs rest h (omega arith))

  coord_on : (p : Part) (d : Dimension) (n : ℕ) (ls : List Lexeme) → BegunCoord read d ls → On (at n (place.Number p d (numbers_after d))) ls
  coord_on p d n ls (xs, h, few) = numbers_on p d n (numbers_after d) xs ls h (omega (arith, size_after d))

  bare_on : (d : Dimension) (n : ℕ) (ls : List Lexeme) → BegunCoord read d ls → On (at n (place.Opening part.Member d)) ls
  bare_on d n ls ([], e, few) = on_none _ ls e
  bare_on d n ls (x ∷ xs, (run, rest, e, is, h), few) =
      on_first _ (at n (place.Number part.Bare d (numbers_after d - 1))) (Num run) rest ls _ e (number read (at n (place.Opening part.Member d)) x run is refl)
      (numbers_on part.Bare d n (numbers_after d - 1) xs rest h (omega (arith, size_after d)))

  -- A part is begun: nothing, EMPTY, or a parenthesis and what is gone over inside.
  abbrev pub Starts : Part → Dimension → ℕ → List Lexeme → Type 0
  Starts p d n ls = (ls ≡ []) ⊎ IsEmptyWord ls ⊎ ((body : List Lexeme) × (ls ≡ Open ∷ body) × On (inside p d n) body)

  starts_whole : (p : Part) (d : Dimension) (n : ℕ) (ls : List Lexeme) (es : List (Event N)) → Stands read p d n ls es → Starts p d n ls
  starts_whole p d n ls es (inl (e, e2)) = inr (inl e)
  starts_whole p d n ls es (inr (body, fs, e, e2, r)) = inr (inr (body, e, on_whole _ _ body fs r))

  opening_on : (p : Part) (d : Dimension) (n : ℕ) (ls : List Lexeme) → Starts p d n ls → On (at n (place.Opening p d)) ls
  opening_on p d n ls (inl e) = on_none _ ls e
  opening_on p d n ls (inr (inl (w, e, is))) = on_first _ (outside p d n) (Word w) [] ls _ e (empty_word read w p d n is) (on_none _ [] refl)
  opening_on p d n ls (inr (inr (body, e, h))) = on_first _ (inside p d n) Open body ls _ e refl h

  dimension_on : (p : Part) (n : ℕ) (ls : List Lexeme) → Starts p XY n ls → On (at n (place.Alone p)) ls
  dimension_on p n ls (inl e) = on_none _ ls e
  dimension_on p n ls (inr (inl (w, e, is))) =
      on_first _ (outside p XY n) (Word w) [] ls (Event.Header p XY ∷ Event.Empty p ∷ []) e
      (ap (λ o. moved read (dimension_step o p w n) (Some None)) (empty_no_dim w is)
      ∙ ap (λ b. moved read (cond b (Some (outside p XY n, act.HeaderEmpty p)) None) (Some None)) (is_empty w is))
      (on_none _ [] refl)
  dimension_on p n ls (inr (inr (body, e, h))) = on_first _ (inside p XY n) Open body ls _ e refl h

  -- items of one kind, by the states before and behind one
  module _ {A : Type 0} (p : Part) (d : Dimension) (n : ℕ) (behind : State) (P : List Lexeme → A → Type 0) (B : List Lexeme → Type 0) (f : A → List (Event N))
      (comma : move read behind Comma ≡ Some (inside p d n, Event.Comma p ∷ []))
      (close : move read behind Close ≡ Some (outside p d n, Event.Close p ∷ []))
      (item : (x : A) (a : List Lexeme) → P a x → Runs read (inside p d n) a (f x) behind)
      (begun : (a : List Lexeme) → B a → On (inside p d n) a) where
    tail_run : (xs : List A) (ls : List Lexeme) → More P ls xs → (es : List (Event N)) × Runs read behind ls es behind
    tail_run [] ls e = ([], lexemes read e (stay read behind))
    tail_run (x ∷ xs) ls (a, b, e, h, m) = let (es, r) = tail_run xs b m in (_, lexemes read e (first read comma (both read (item x a h) r)))

    many_run : (xs : List A) (ls : List Lexeme) → Many P ls xs → (es : List (Event N)) × Runs read (inside p d n) ls es behind
    many_run [] ls m = absurd m
    many_run (x ∷ xs) ls (a, b, e, h, m) = let (es, r) = tail_run xs b m in (_, lexemes read e (both read (item x a h) r))

    next_on : (ls : List Lexeme) → BegunNext B ls → On behind ls
    next_on ls (inl e) = on_none _ ls e
    next_on ls (inr (b, e, h)) = on_first _ (inside p d n) Comma b ls _ e comma (begun b h)

    many_on : (ls : List Lexeme) → BegunMany P B ls → On (inside p d n) ls
    many_on ls (inl h) = begun ls h
    many_on ls (inr (xs, a, b, e, m, next)) = let (es, r) = many_run xs a m in on_after _ behind a b ls es e r (next_on b next)

    within_on : (ls : List Lexeme) → Within (λ b. (xs : List A) × Many P b xs) ls → Starts p d n ls
    within_on ls (body, e, (xs, m)) = let (es, r) = many_run xs body m in inr (inr (body ++ (Close ∷ []), e, on_whole _ _ (body ++ (Close ∷ [])) _ (both read r (one read close))))

    pub listed_on : (ls : List Lexeme) → BegunListed P B ls → Starts p d n ls
    listed_on ls (inl (inl e)) = inl e
    listed_on ls (inl (inr e)) = inr (inl e)
    listed_on ls (inr (inl e)) = inl e
    listed_on ls (inr (inr (inl (b, e, h)))) = inr (inr (b, e, many_on b h))
    listed_on ls (inr (inr (inr w))) = within_on ls w

  -- one item, by the states before and behind it
  module _ {A : Type 0} (p : Part) (d : Dimension) (n : ℕ) (behind : State) (P : List Lexeme → A → Type 0) (B : List Lexeme → Type 0) (f : A → List (Event N))
      (close : move read behind Close ≡ Some (outside p d n, Event.Close p ∷ []))
      (item : (x : A) (a : List Lexeme) → P a x → Runs read (inside p d n) a (f x) behind)
      (begun : (a : List Lexeme) → B a → On (inside p d n) a) where
    pub one_on : (ls : List Lexeme) → BegunWithin (λ b. (x : A) × P b x) B ls → Starts p d n ls
    one_on ls (inl e) = inl e
    one_on ls (inr (inl (b, e, h))) = inr (inr (b, e, begun b h))
    one_on ls (inr (inr (body, e, (x, h)))) = inr (inr (body ++ (Close ∷ []), e, on_whole _ _ (body ++ (Close ∷ [])) _ (both read (item x body h) (one read close))))

    pub perhaps_on : (ls : List Lexeme) → BegunPerhaps P B ls → Starts p d n ls
    perhaps_on ls (inl (inl e)) = inl e
    perhaps_on ls (inl (inr e)) = inr (inl e)
    perhaps_on ls (inr h) = one_on ls h

  module _ (d : Dimension) (n : ℕ) where
    point_on : (ls : List Lexeme) → BegunPerhaps (Coord read d) (BegunCoord read d) ls → Starts part.Point d n ls
    point_on = perhaps_on part.Point d n (at n (place.Item part.Point d)) (Coord read d) (BegunCoord read d) (numbers d) refl (plain_coord read part.Point d n refl refl) (coord_on part.Point d n)

    line_on : (ls : List Lexeme) → BegunRing read d ls → Starts part.LineString d n ls
    line_on = listed_on part.LineString d n (at n (place.Item part.LineString d)) (Coord read d) (BegunCoord read d) (numbers d) refl refl (plain_coord read part.LineString d n refl refl) (coord_on part.LineString d n)

    ring_on : (ls : List Lexeme) → BegunRing read d ls → On (at n (place.Opening part.Ring d)) ls
    ring_on ls h = opening_on part.Ring d n ls (listed_on part.Ring d n (at n (place.Item part.Ring d)) (Coord read d) (BegunCoord read d) (numbers d) refl refl (plain_coord read part.Ring d n refl refl) (coord_on part.Ring d n) ls h)

    string_on : (ls : List Lexeme) → BegunRing read d ls → On (at n (place.Opening part.Line d)) ls
    string_on ls h = opening_on part.Line d n ls (listed_on part.Line d n (at n (place.Item part.Line d)) (Coord read d) (BegunCoord read d) (numbers d) refl refl (plain_coord read part.Line d n refl refl) (coord_on part.Line d n) ls h)

    rings_on : (ls : List Lexeme) → BegunPoly read d ls → Starts part.Polygon d n ls
    rings_on = listed_on part.Polygon d n (at n (place.Item part.Polygon d)) (Ring read d) (BegunRing read d) (listed part.Ring (numbers d)) refl refl (ring_run read d n) ring_on

    strings_on : (ls : List Lexeme) → BegunPoly read d ls → Starts part.MultiLineString d n ls
    strings_on = listed_on part.MultiLineString d n (at n (place.Item part.MultiLineString d)) (Ring read d) (BegunRing read d) (listed part.Line (numbers d)) refl refl (string_run read d n) string_on

    polygon_ring_on : (ls : List Lexeme) → BegunRing read d ls → On (at n (place.Opening part.AreaRing d)) ls
    polygon_ring_on ls h = opening_on part.AreaRing d n ls (listed_on part.AreaRing d n (at n (place.Item part.AreaRing d)) (Coord read d) (BegunCoord read d) (numbers d) refl refl (plain_coord read part.AreaRing d n refl refl) (coord_on part.AreaRing d n) ls h)

    polygon_on : (ls : List Lexeme) → BegunPoly read d ls → On (at n (place.Opening part.Area d)) ls
    polygon_on ls h = opening_on part.Area d n ls (listed_on part.Area d n (at n (place.Item part.Area d)) (Ring read d) (BegunRing read d) (listed part.AreaRing (numbers d)) refl refl (polygon_ring_run read d n) polygon_ring_on ls h)

    polygons_on : (ls : List Lexeme) → BegunListed (Poly read d) (BegunPoly read d) ls → Starts part.MultiPolygon d n ls
    polygons_on = listed_on part.MultiPolygon d n (at n (place.Item part.MultiPolygon d)) (Poly read d) (BegunPoly read d) (listed part.Area (listed part.AreaRing (numbers d))) refl refl (polygon_run read d n) polygon_on

    member_on : (ls : List Lexeme) → BegunMember read d ls → On (at n (place.Opening part.Member d)) ls
    member_on ls (inl (inl e)) = on_none _ ls e
    member_on ls (inl (inr e)) = opening_on part.Member d n ls (inr (inl e))
    member_on ls (inr (inl h)) = bare_on d n ls h
    member_on ls (inr (inr h)) = opening_on part.Member d n ls (one_on part.Member d n (at n (place.Item part.Member d)) (Coord read d) (BegunCoord read d) (numbers d) refl (plain_coord read part.Member d n refl refl) (coord_on part.Member d n) ls h)

    members_on : (ls : List Lexeme) → BegunListed (Member read d) (BegunMember read d) ls → Starts part.MultiPoint d n ls
    members_on = listed_on part.MultiPoint d n (at n (place.Item part.MultiPoint d)) (Member read d) (BegunMember read d) (perhaps part.Member (numbers d)) refl refl (member_run read d n) member_on

  -- a kind word, and what stands after it
  joined_on : (p : Part) (o : Option Dimension) (d : Dimension) (n : ℕ) (more b : List Lexeme) → DimPart o d more → Starts p d n b → On (joined_step p o n).0 (more ++ b)
  joined_on p (Some j) d n more b (ed, em) h = subst (λ l. On (at n (place.Opening p j)) (l ++ b)) (sym em) (subst (λ d. On (at n (place.Opening p d)) b) ed (opening_on p d n b h))
  joined_on p None d n more b (inl (ed, em)) h = subst (λ l. On (at n (place.Alone p)) (l ++ b)) (sym em) (dimension_on p n b (subst (λ d. Starts p d n b) ed h))
  joined_on p None d n more b (inr (w, em, is)) h = on_first _ (at n (place.Opening p d)) (Word w) b (more ++ b) _ (ap (λ l. l ++ b) em) (ap (λ o. moved read (dimension_step o p w n) (Some None)) is) (opening_on p d n b h)

  headed_on : (k : GeometryType) (d : Dimension) (n : ℕ) (ls h b : List Lexeme) → ls ≡ h ++ b → Header k d h → Starts (part_of k) d n b → On (at n place.Kind) ls
  headed_on k d n ls h b split (w, e, more, eh, is, ek, dp) body =
      on_first _ (joined_step (part_of e.kind) e.joined n).0 (Word w) (more ++ b) ls _ (split ∙ ap (λ l. l ++ b) eh) (ap (λ o. moved read (kind_step o n) (Some None)) is)
      (joined_on (part_of e.kind) e.joined d n more b dp (subst (λ k. Starts (part_of k) d n b) (sym ek) body))

  body_on : (B : List Lexeme → Type 0) (n : ℕ) → ((ls : List Lexeme) → B ls → On (at (suc n) place.Kind) ls) → (k : GeometryType) (d : Dimension) (b : List Lexeme) → BegunBody read B k d b → Starts (part_of k) d n b
  body_on B n begun kind.Point d b h = point_on d n b h
  body_on B n begun kind.LineString d b h = line_on d n b h
  body_on B n begun kind.Polygon d b h = rings_on d n b h
  body_on B n begun kind.MultiPoint d b h = members_on d n b h
  body_on B n begun kind.MultiLineString d b h = strings_on d n b h
  body_on B n begun kind.MultiPolygon d b h = polygons_on d n b h
  body_on B n begun kind.GeometryCollection d b h = listed_on part.Collection d n (at (suc n) place.Geometry) (StandFor read) B events refl refl (λ v a g. value_run read v a (suc n) g) begun b h

  at_on : (m n : ℕ) (ls : List Lexeme) → BegunAt read m ls → On (at n place.Kind) ls
  at_on zero n ls h = absurd h
  at_on (suc m) n ls (inl e) = on_none _ ls e
  at_on (suc m) n ls (inr (k, d, h, b, e, head, body)) = headed_on k d n ls h b e head (body_on (BegunAt read m) n (at_on m (suc n)) k d b body)

  -- what is begun is gone over
  pub begun_on : (n : ℕ) (ls : List Lexeme) → BegunGeometry read ls → On (at n place.Kind) ls
  begun_on n ls (m, h) = at_on m n ls h

-- What stands before a place is begun as a geometry.

module _ {N : Type 0} (read : List ℕ → Option N) where
  abbrev Begun : List Lexeme → Type 0
  Begun = BegunGeometry read

  -- What is begun with B, after what stands for C, is begun.
  abbrev Grows : (List Lexeme → Type 0) → (List Lexeme → Type 0) → Type 0
  Grows C B = (c b : List Lexeme) → C c → B b → Begun (c ++ b)

  module _ {A : Type 0} (C : List Lexeme → Type 0) (P : List Lexeme → A → Type 0) (B : List Lexeme → Type 0) (grows : Grows C (BegunListed P B)) where
    before_begun : (m b : List Lexeme) → Before P m → B b → BegunMany P B (m ++ b)
    before_begun m b (inl e) h = inl (subst (λ l. B (l ++ b)) (sym e) h)
    before_begun m b (inr (a, e, (xs, i))) h = inr (xs, a, Comma ∷ b, ap (λ l. l ++ b) e ∙ append_assoc a (Comma ∷ []) b, i, inr (b, refl, h))

    in_begun : Grows (In C P) B
    in_begun ls b (c, m, k, be, e) h =
        subst Begun (sym (ap (λ l. l ++ b) e ∙ append_assoc c (Open ∷ m) b)) (grows c (Open ∷ (m ++ b)) k (inr (inr (inl (m ++ b, refl, before_begun m b be h)))))

    past_begun : (ls : List Lexeme) → Past C P ls → Begun ls
    past_begun ls (c, m, k, (xs, i), e) = subst Begun (sym e) (grows c (Open ∷ m) k (inr (inr (inl (m, refl, inr (xs, m, [], sym (append-nil m), i, inl refl))))))

  headed_begun : (n j : ℕ) → Grows (Free read n) Begun → (k : GeometryType) (d : Dimension) → Grows (Headed read (Free read n) k d) (BegunBody read (BegunAt read j) k d)
  headed_begun n j grows k d c b (a, h, free, hd, e) body =
      subst Begun (sym (ap (λ l. l ++ b) e ∙ append_assoc a h b)) (grows a (h ++ b) free (suc j, inr (k, d, h, b, refl, hd, body)))

  free_begun : (n : ℕ) → Grows (Free read n) Begun
  free_begun zero a b e h = subst (λ l. Begun (l ++ b)) (sym e) h
  free_begun (suc n) a b (d, h) (j, g) =
      in_begun (Headed read (Free read n) kind.GeometryCollection d) (StandFor read) (BegunAt read j) (headed_begun n j (free_begun n) kind.GeometryCollection d) a b h g

  abbrev BegunPart : Part → Dimension → List Lexeme → Type 0
  BegunPart part.Point d = BegunPerhaps (Coord read d) (BegunCoord read d)
  BegunPart part.LineString d = BegunRing read d
  BegunPart part.Polygon d = BegunPoly read d
  BegunPart part.MultiLineString d = BegunPoly read d
  BegunPart part.MultiPoint d = BegunListed (Member read d) (BegunMember read d)
  BegunPart part.MultiPolygon d = BegunListed (Poly read d) (BegunPoly read d)
  BegunPart part.Collection d = BegunListed (StandFor read) (BegunAt read 0)
  BegunPart p d = λ ls. ⊥

  part_body : (k : GeometryType) (d : Dimension) (b : List Lexeme) → BegunPart (part_of k) d b → BegunBody read (BegunAt read 0) k d b
  part_body kind.Point d b h = h
  part_body _ d b h = h

  module _ (d : Dimension) (n : ℕ) where
    top_begun : (p : Part) → Grows (Top read p d n) (BegunPart p d)
    top_begun p c b (k, is, h) body = headed_begun n 0 (free_begun n) k d c b h (part_body k d b (subst (λ p. BegunPart p d b) (sym is) body))

    ring_begun : Grows (To read part.Ring d n) (BegunRing read d)
    ring_begun = in_begun (Top read part.Polygon d n) (Ring read d) (BegunRing read d) (top_begun part.Polygon)

    string_begun : Grows (To read part.Line d n) (BegunRing read d)
    string_begun = in_begun (Top read part.MultiLineString d n) (Ring read d) (BegunRing read d) (top_begun part.MultiLineString)

    member_begun : Grows (To read part.Member d n) (BegunMember read d)
    member_begun = in_begun (Top read part.MultiPoint d n) (Member read d) (BegunMember read d) (top_begun part.MultiPoint)

    polygon_begun : Grows (To read part.Area d n) (BegunPoly read d)
    polygon_begun = in_begun (Top read part.MultiPolygon d n) (Poly read d) (BegunPoly read d) (top_begun part.MultiPolygon)

    polygon_ring_begun : Grows (To read part.AreaRing d n) (BegunRing read d)
    polygon_ring_begun = in_begun (To read part.Area d n) (Ring read d) (BegunRing read d) polygon_begun

    alone_begun : (C : List Lexeme → Type 0) (B : List Lexeme → Type 0) → ((b : List Lexeme) → BegunCoord read d b → B (Open ∷ b)) → Grows C B → Grows (Alone read C) (BegunCoord read d)
    alone_begun C B opens grows ls b (c, k, e) h = subst Begun (sym (ap (λ l. l ++ b) e ∙ append_assoc c (Open ∷ []) b)) (grows c (Open ∷ b) k (opens b h))

    coord_begun : (p : Part) → Grows (ToCoord read p d n) (BegunCoord read d)
    coord_begun part.Point = alone_begun (Top read part.Point d n) (BegunPart part.Point d) (λ b h. inr (inr (inl (b, refl, h)))) (top_begun part.Point)
    coord_begun part.Member = alone_begun (To read part.Member d n) (BegunMember read d) (λ b h. inr (inr (inr (inl (b, refl, h))))) member_begun
    coord_begun part.Bare = λ c b k h. member_begun c b k (inr (inl h))
    coord_begun part.LineString = in_begun (Top read part.LineString d n) (Coord read d) (BegunCoord read d) (top_begun part.LineString)
    coord_begun part.Ring = in_begun (To read part.Ring d n) (Coord read d) (BegunCoord read d) ring_begun
    coord_begun part.Line = in_begun (To read part.Line d n) (Coord read d) (BegunCoord read d) string_begun
    coord_begun part.AreaRing = in_begun (To read part.AreaRing d n) (Coord read d) (BegunCoord read d) polygon_ring_begun
    coord_begun p = λ c b k h. absurd k

    -- nothing is begun
    ended : (C B : List Lexeme → Type 0) → B [] → Grows C B → (ls : List Lexeme) → C ls → Begun ls
    ended C B none grows ls k = subst Begun (append-nil ls) (grows ls [] k none)

    to_begun : (p : Part) (ls : List Lexeme) → To read p d n ls → Begun ls
    to_begun part.Ring = ended (To read part.Ring d n) (BegunRing read d) (inl (inl refl)) ring_begun
    to_begun part.Line = ended (To read part.Line d n) (BegunRing read d) (inl (inl refl)) string_begun
    to_begun part.Member = ended (To read part.Member d n) (BegunMember read d) (inl (inl refl)) member_begun
    to_begun part.Area = ended (To read part.Area d n) (BegunPoly read d) (inl (inl refl)) polygon_begun
    to_begun part.AreaRing = ended (To read part.AreaRing d n) (BegunRing read d) (inl (inl refl)) polygon_ring_begun
    to_begun part.Bare = λ ls h. absurd h
    to_begun p = ended (Top read p d n) (BegunPart p d) (inl (inl refl)) (top_begun p)

    alone_behind : (p : Part) (ls : List Lexeme) → Then (ToCoord read p d n) (Coord read d) ls → Begun ls
    alone_behind p ls (c, f, x, k, (nums, len), e) = subst Begun (sym e) (coord_begun p c f k (x, nums, omega (arith, len)))

    behind_begun : (p : Part) (ls : List Lexeme) → Behind read p d n ls → Begun ls
    behind_begun part.Point = alone_behind part.Point
    behind_begun part.Member = alone_behind part.Member
    behind_begun part.LineString = past_begun (Top read part.LineString d n) (Coord read d) (BegunCoord read d) (top_begun part.LineString)
    behind_begun part.Polygon = past_begun (Top read part.Polygon d n) (Ring read d) (BegunRing read d) (top_begun part.Polygon)
    behind_begun part.MultiLineString = past_begun (Top read part.MultiLineString d n) (Ring read d) (BegunRing read d) (top_begun part.MultiLineString)
    behind_begun part.Ring = past_begun (To read part.Ring d n) (Coord read d) (BegunCoord read d) ring_begun
    behind_begun part.Line = past_begun (To read part.Line d n) (Coord read d) (BegunCoord read d) string_begun
    behind_begun part.MultiPoint = past_begun (Top read part.MultiPoint d n) (Member read d) (BegunMember read d) (top_begun part.MultiPoint)
    behind_begun part.MultiPolygon = past_begun (Top read part.MultiPolygon d n) (Poly read d) (BegunPoly read d) (top_begun part.MultiPolygon)
    behind_begun part.Area = past_begun (To read part.Area d n) (Ring read d) (BegunRing read d) polygon_begun
    behind_begun part.AreaRing = past_begun (To read part.AreaRing d n) (Coord read d) (BegunCoord read d) polygon_ring_begun
    behind_begun part.Bare = λ ls h. absurd h
    behind_begun part.Collection = λ ls h. absurd h

  pub at_begun : (p : Place) (n : ℕ) (ls : List Lexeme) → over_at p n ≡ false → Progress read p n ls → Begun ls
  at_begun place.Kind n ls o h = subst Begun (append-nil ls) (free_begun n ls [] h (1, inl refl))
  at_begun (place.Alone p) n ls o h = let (k, is, head) = alone_top read p n ls h in subst Begun (append-nil ls) (headed_begun n 0 (free_begun n) k XY ls [] head (body_nothing read (BegunAt read 0) k XY))
  at_begun (place.Opening p d) n ls o h = to_begun d n p ls h
  at_begun (place.Number p d more) n ls o (c, m, xs, k, nums, len, e) = subst Begun (sym e) (coord_begun d n p c m k (xs, nums, omega (arith, len)))
  at_begun (place.Item p d) n ls o h = behind_begun d n p ls h
  at_begun place.Geometry zero ls o h = let no : ⊥ = cc in absurd no
  at_begun place.Geometry (suc n) ls o h =
      let (d, past) = member_past read n ls h in
      past_begun (Headed read (Free read n) kind.GeometryCollection d) (StandFor read) (BegunAt read 0) (headed_begun n 0 (free_begun n) kind.GeometryCollection d) ls past
