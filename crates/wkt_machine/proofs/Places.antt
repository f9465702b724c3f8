-- What stands before each place of a geometry.
use Rattle.std.proofs.Common.{◌≡◌, ◌+◌, ℕ, zero, suc, List, [], ◌∷◌, ◌++◌, length, length-append, sym, refl, ap, ◌∙◌, subst, append_assoc, append-nil, arith, Option, Some, None, Bool, true, false, cond, inl, inr}
use Rattle.std.specs.Prelude.{◌⊎◌}
use Rattle.wkt_num.specs.Bytes.{Lexeme, Open, Close, Comma, Word, Num}
use Rattle.wkt_access.specs.declared.dimensions.Dimension.{Dimension}
use Rattle.wkt_access.specs.declared.dimensions.Dimension.TheVariants.{XY}
use Rattle.wkt_access.specs.Values.{size, Value, Values}
use Rattle.wkt_types.specs.declared.geometry_type.GeometryType.{GeometryType}
use Rattle.wkt_types.specs.declared.geometry_type.GeometryType.TheVariants as kind
use Rattle.wkt_read.specs.Grammar.{KindWord, kind_word, dim_word, DimPart, Header, IsEmptyWord, Within, More, Many, Listed, Perhaps, Numbers, Coord, Ring, Poly, Member, StandFor, Geometries, Further, is_empty_word}
use Rattle.wkt_read.proofs.KindWords.{empty_is}
use Rattle.wkt_machine.specs.Machine.{part_of, numbers_after, inside, outside, kind_step, joined_step, dimension_step, last_place, number_step, bare_step, comma_step, step_at, Place, State}
use Rattle.wkt_machine.specs.declared.part.Part.{Part}
use Rattle.wkt_machine.specs.declared.part.Part.TheVariants as part
use Rattle.wkt_machine.specs.Machine as place
use Rattle.wkt_machine.specs.declared.step.Action.{Action}
use Rattle.wkt_machine.specs.declared.step.Action.TheVariants as act
use Rattle.wkt_machine.proofs.Complete.{size_after, some_after}

-- Items with commas between them.
abbrev pub Items : {A : Type 0} → (List Lexeme → A → Type 0) → List Lexeme → Type 0
Items {A} P ls = (xs : List A) × Many P ls xs

-- Items, each before a comma.
abbrev pub Before : {A : Type 0} → (List Lexeme → A → Type 0) → List Lexeme → Type 0
Before P ls = (ls ≡ []) ⊎ ((b : List Lexeme) × (ls ≡ b ++ (Comma ∷ [])) × Items P b)

-- An item is to come in the parentheses of a part; before them stands C.
abbrev pub In : {A : Type 0} → (List Lexeme → Type 0) → (List Lexeme → A → Type 0) → List Lexeme → Type 0
In C P ls = (c : List Lexeme) × (m : List Lexeme) × C c × Before P m × (ls ≡ c ++ (Open ∷ m))

-- An item stands before in such parentheses.
abbrev pub Past : {A : Type 0} → (List Lexeme → Type 0) → (List Lexeme → A → Type 0) → List Lexeme → Type 0
Past C P ls = (c : List Lexeme) × (m : List Lexeme) × C c × Items P m × (ls ≡ c ++ (Open ∷ m))

-- A whole part, after C.
abbrev pub Then : {A : Type 0} → (List Lexeme → Type 0) → (List Lexeme → A → Type 0) → List Lexeme → Type 0
Then {A} C P ls = (c : List Lexeme) × (f : List Lexeme) × (x : A) × C c × P f x × (ls ≡ c ++ f)

module _ {A : Type 0} (P : List Lexeme → A → Type 0) where
  more_more : (xs : List A) (x : A) (a b : List Lexeme) → More P a xs → P b x → More P (a ++ (Comma ∷ b)) (xs ++ (x ∷ []))
  more_more [] x a b e h = (b, [], ap (λ l. l ++ (Comma ∷ b)) e ∙ ap (λ l. Comma ∷ l) (sym (append-nil b)), h, refl)
  more_more (y ∷ xs) x a b (p, q, e, h, m) k = (p, q ++ (Comma ∷ b), ap (λ l. l ++ (Comma ∷ b)) e ∙ ap (λ l. Comma ∷ l) (append_assoc p q (Comma ∷ b)), h, more_more xs x q b m k)

  many_more : (xs : List A) (x : A) (a b : List Lexeme) → Many P a xs → P b x → Many P (a ++ (Comma ∷ b)) (xs ++ (x ∷ []))
  many_more [] x a b m k = absurd m
  many_more (y ∷ xs) x a b (p, q, e, h, m) k = (p, q ++ (Comma ∷ b), ap (λ l. l ++ (Comma ∷ b)) e ∙ append_assoc p q (Comma ∷ b), h, more_more xs x q b m k)

  -- an item after those before
  pub items_one : (m b : List Lexeme) (x : A) → Before P m → P b x → Items P (m ++ b)
  items_one m b x (inl e) h = (x ∷ [], (b, [], ap (λ l. l ++ b) e ∙ sym (append-nil b), h, refl))
  items_one m b x (inr (a, e, (xs, i))) h = (xs ++ (x ∷ []), subst (λ l. Many P l (xs ++ (x ∷ []))) (sym (ap (λ l. l ++ b) e ∙ append_assoc a (Comma ∷ []) b)) (many_more xs x a b i h))

  module _ (C : List Lexeme → Type 0) where
    pub opened : (c : List Lexeme) → C c → In C P (c ++ (Open ∷ []))
    opened c k = (c, [], k, inl refl, refl)

    pub ended : (ls b : List Lexeme) (x : A) → In C P ls → P b x → Past C P (ls ++ b)
    ended ls b x (c, m, k, be, e) h = (c, m ++ b, k, items_one m b x be h, ap (λ l. l ++ b) e ∙ append_assoc c (Open ∷ m) b)

    pub next : (ls : List Lexeme) → Past C P ls → In C P (ls ++ (Comma ∷ []))
    next ls (c, m, k, i, e) = (c, m ++ (Comma ∷ []), k, inr (m, refl, i), ap (λ l. l ++ (Comma ∷ [])) e ∙ append_assoc c (Open ∷ m) (Comma ∷ []))

    items_listed : (m : List Lexeme) (xs : List A) → Many P m xs → Listed P (Open ∷ (m ++ (Close ∷ []))) xs
    items_listed m [] i = absurd i
    items_listed m (x ∷ xs) i = (m, refl, i)

    pub closed : (ls : List Lexeme) → Past C P ls → Then C (Listed P) (ls ++ (Close ∷ []))
    closed ls (c, m, k, (xs, i), e) = (c, Open ∷ (m ++ (Close ∷ [])), xs, k, items_listed m xs i, ap (λ l. l ++ (Close ∷ [])) e ∙ append_assoc c (Open ∷ m) (Close ∷ []))

    pub empty : (ls : List Lexeme) (w : List ℕ) → is_empty_word w ≡ true → C ls → Then C (Listed P) (ls ++ (Word w ∷ []))
    empty ls w is k = (ls, Word w ∷ [], [], k, (w, refl, empty_is w is), refl)

-- a whole item
pub then_past : {A : Type 0} (C : List Lexeme → Type 0) (P : List Lexeme → A → Type 0) (ls : List Lexeme) → Then (In C P) P ls → Past C P ls
then_past C P ls (c, f, x, k, h, e) = subst (Past C P) (sym e) (ended P C c f x k h)

module _ {N : Type 0} (read : List ℕ → Option N) where
  -- A header, after what a geometry begins behind.
  abbrev pub Headed : (List Lexeme → Type 0) → GeometryType → Dimension → List Lexeme → Type 0
  Headed K k d ls = (a : List Lexeme) × (h : List Lexeme) × K a × Header k d h × (ls ≡ a ++ h)

  -- A geometry is to come that is in so many collections.
  abbrev pub Free : ℕ → List Lexeme → Type 0
  Free zero ls = ls ≡ []
  Free (suc n) ls = (d : Dimension) × In (Headed (Free n) kind.GeometryCollection d) (StandFor read) ls

  -- A geometry stands before.
  abbrev pub Whole : ℕ → List Lexeme → Type 0
  Whole n = Then (Free n) (StandFor read)

  -- What a geometry has in its parentheses is to come.
  abbrev pub Top : Part → Dimension → ℕ → List Lexeme → Type 0
  Top p d n ls = (k : GeometryType) × (part_of k ≡ p) × Headed (Free n) k d ls

  -- A part is to come.
  abbrev pub To : Part → Dimension → ℕ → List Lexeme → Type 0
  To part.Ring d n = In (Top part.Polygon d n) (Ring read d)
  To part.Line d n = In (Top part.MultiLineString d n) (Ring read d)
  To part.Member d n = In (Top part.MultiPoint d n) (Member read d)
  To part.Area d n = In (Top part.MultiPolygon d n) (Poly read d)
  To part.AreaRing d n = In (In (Top part.MultiPolygon d n) (Poly read d)) (Ring read d)
  To part.Bare d n = λ ls. ⊥
  To p d n = Top p d n

  -- The one coordinate of a part is to come.
  abbrev pub Alone : (List Lexeme → Type 0) → List Lexeme → Type 0
  Alone C ls = (c : List Lexeme) × C c × (ls ≡ c ++ (Open ∷ []))

  -- A coordinate is to come.
  abbrev pub ToCoord : Part → Dimension → ℕ → List Lexeme → Type 0
  ToCoord part.Point d n = Alone (Top part.Point d n)
  ToCoord part.Member d n = Alone (To part.Member d n)
  ToCoord part.Bare d n = In (Top part.MultiPoint d n) (Member read d)
  ToCoord part.LineString d n = In (Top part.LineString d n) (Coord read d)
  ToCoord part.Ring d n = In (To part.Ring d n) (Coord read d)
  ToCoord part.Line d n = In (To part.Line d n) (Coord read d)
  ToCoord part.AreaRing d n = In (To part.AreaRing d n) (Coord read d)
  ToCoord p d n = λ ls. ⊥

  -- An item stands before.
  abbrev pub Behind : Part → Dimension → ℕ → List Lexeme → Type 0
  Behind part.Point d n = Then (Alone (Top part.Point d n)) (Coord read d)
  Behind part.Member d n = Then (Alone (To part.Member d n)) (Coord read d)
  Behind part.LineString d n = Past (Top part.LineString d n) (Coord read d)
  Behind part.Polygon d n = Past (Top part.Polygon d n) (Ring read d)
  Behind part.MultiLineString d n = Past (Top part.MultiLineString d n) (Ring read d)
  Behind part.Ring d n = Past (To part.Ring d n) (Coord read d)
  Behind part.Line d n = Past (To part.Line d n) (Coord read d)
  Behind part.MultiPoint d n = Past (Top part.MultiPoint d n) (Member read d)
  Behind part.MultiPolygon d n = Past (Top part.MultiPolygon d n) (Poly read d)
  Behind part.Area d n = Past (To part.Area d n) (Ring read d)
  Behind part.AreaRing d n = Past (To part.AreaRing d n) (Coord read d)
  Behind part.Bare d n = λ ls. ⊥
  Behind part.Collection d n = λ ls. ⊥

  -- What stands before a place.
  abbrev pub Progress : Place → ℕ → List Lexeme → Type 0
  Progress place.Kind n ls = Free n ls
  Progress (place.Alone p) n ls = (a : List Lexeme) × (w : List ℕ) × (e : KindWord) × Free n a × (kind_word w ≡ Some e) × (part_of e.kind ≡ p) × (e.joined ≡ None) × (ls ≡ a ++ (Word w ∷ []))
  Progress (place.Opening p d) n ls = To p d n ls
  Progress (place.Number p d more) n ls = (c : List Lexeme) × (m : List Lexeme) × (xs : List N) × ToCoord p d n c × Numbers read m xs × (length xs + suc more ≡ size d) × (ls ≡ c ++ m)
  Progress (place.Item p d) n ls = Behind p d n ls
  Progress place.Geometry n ls = Whole n ls

  -- A step leads on to its place.
  abbrev pub Keeps : Option (State × Action) → List Lexeme → Type 0
  Keeps None ls = Unit {0}
  Keeps (Some s) ls = Progress s.0.place s.0.depth ls

  -- after a header
  to_top : (k : GeometryType) (d : Dimension) (n : ℕ) (ls : List Lexeme) → Headed (Free n) k d ls → To (part_of k) d n ls
  to_top kind.Point d n ls h = (kind.Point, refl, h)
  to_top k d n ls h = (k, refl, h)

  -- What stands after the header of a geometry that has this part.
  abbrev pub Body : Part → Dimension → List Lexeme → Type 0
  Body part.Point d f = (o : Option (List N)) × Perhaps (Coord read d) f o
  Body part.LineString d f = (xs : List (List N)) × Listed (Coord read d) f xs
  Body part.Polygon d f = (xs : List (List (List N))) × Listed (Ring read d) f xs
  Body part.MultiLineString d f = (xs : List (List (List N))) × Listed (Ring read d) f xs
  Body part.MultiPoint d f = (xs : List (Option (List N))) × Listed (Member read d) f xs
  Body part.MultiPolygon d f = (xs : List (List (List (List N)))) × Listed (Poly read d) f xs
  Body part.Collection d f = (vs : Values N) × Geometries read f vs
  Body p d f = ⊥

  with_header : (k : GeometryType) (d : Dimension) (n : ℕ) (a h f : List Lexeme) → Free n a → Header k d h → Body (part_of k) d f → Whole n (a ++ (h ++ f))
  with_header kind.Point d n a h f k hd (o, b) = (a, h ++ f, Value.point d o, k, (h, f, refl, hd, b), refl)
  with_header kind.LineString d n a h f k hd (o, b) = (a, h ++ f, Value.line_string d o, k, (h, f, refl, hd, b), refl)
  with_header kind.Polygon d n a h f k hd (o, b) = (a, h ++ f, Value.polygon d o, k, (h, f, refl, hd, b), refl)
  with_header kind.MultiPoint d n a h f k hd (o, b) = (a, h ++ f, Value.multi_point d o, k, (h, f, refl, hd, b), refl)
  with_header kind.MultiLineString d n a h f k hd (o, b) = (a, h ++ f, Value.multi_line_string d o, k, (h, f, refl, hd, b), refl)
  with_header kind.MultiPolygon d n a h f k hd (o, b) = (a, h ++ f, Value.multi_polygon d o, k, (h, f, refl, hd, b), refl)
  with_header kind.GeometryCollection d n a h f k hd (o, b) = (a, h ++ f, Value.collection d o, k, (h, f, refl, hd, b), refl)

  top_whole : (p : Part) (d : Dimension) (n : ℕ) (c f ls : List Lexeme) → ls ≡ c ++ f → Top p d n c → Body p d f → Whole n ls
  top_whole p d n c f ls e (k, is, (a, h, free, hd, split)) b =
      subst (Whole n) (sym (e ∙ ap (λ l. l ++ f) split ∙ append_assoc a h f)) (with_header k d n a h f free hd (subst (λ p. Body p d f) (sym is) b))

  empty_body : (k : GeometryType) (d : Dimension) (f : List Lexeme) → IsEmptyWord f → Body (part_of k) d f
  empty_body kind.Point d f e = (None, e)
  empty_body kind.GeometryCollection d f e = (Values.no_values, e)
  empty_body _ d f e = ([], e)

  top_empty : (p : Part) (d : Dimension) (n : ℕ) (ls : List Lexeme) (w : List ℕ) → is_empty_word w ≡ true → Top p d n ls → Whole n (ls ++ (Word w ∷ []))
  top_empty p d n ls w is (k, same, (a, h, free, hd, split)) =
      subst (Whole n) (sym (ap (λ l. l ++ (Word w ∷ [])) split ∙ append_assoc a h (Word w ∷ []))) (with_header k d n a h (Word w ∷ []) free hd (empty_body k d (Word w ∷ []) (w, refl, empty_is w is)))

  -- EMPTY in place of a part
  to_empty : (p : Part) (d : Dimension) (n : ℕ) (ls : List Lexeme) (w : List ℕ) → is_empty_word w ≡ true → To p d n ls → Keeps (Some (outside p d n, act.Empty p)) (ls ++ (Word w ∷ []))
  to_empty part.Ring d n ls w is h = then_past (Top part.Polygon d n) (Ring read d) _ (empty (Coord read d) (To part.Ring d n) ls w is h)
  to_empty part.Line d n ls w is h = then_past (Top part.MultiLineString d n) (Ring read d) _ (empty (Coord read d) (To part.Line d n) ls w is h)
  to_empty part.Member d n ls w is h = ended (Member read d) (Top part.MultiPoint d n) ls (Word w ∷ []) None h (w, refl, empty_is w is)
  to_empty part.Area d n ls w is h = then_past (Top part.MultiPolygon d n) (Poly read d) _ (empty (Ring read d) (To part.Area d n) ls w is h)
  to_empty part.AreaRing d n ls w is h = then_past (To part.Area d n) (Ring read d) _ (empty (Coord read d) (To part.AreaRing d n) ls w is h)
  to_empty part.Bare d n ls w is h = absurd h
  to_empty p d n ls w is h = top_empty p d n ls w is h

  empty_keeps : (p : Part) (d : Dimension) (n : ℕ) (ls : List Lexeme) (w : List ℕ) (b : Bool) → is_empty_word w ≡ b → To p d n ls → Keeps (cond b (Some (outside p d n, act.Empty p)) None) (ls ++ (Word w ∷ []))
  empty_keeps p d n ls w true is h = to_empty p d n ls w is h
  empty_keeps p d n ls w false is h = tt

  -- a kind word
  after_kind : (k : GeometryType) (o : Option Dimension) (e : KindWord) (n : ℕ) (ls : List Lexeme) (w : List ℕ) → kind_word w ≡ Some e → e.kind ≡ k → e.joined ≡ o → Free n ls → Keeps (Some (joined_step (part_of k) o n)) (ls ++ (Word w ∷ []))
  after_kind k (Some d) e n ls w is ek ej h = to_top k d n _ (ls, Word w ∷ [], h, (w, e, [], refl, is, ek, subst (λ o. DimPart o d []) (sym ej) (refl, refl)), refl)
  after_kind k None e n ls w is ek ej h = (ls, w, e, h, is, ap part_of ek, ej, refl)

  kind_keeps : (o : Option KindWord) (n : ℕ) (ls : List Lexeme) (w : List ℕ) → kind_word w ≡ o → Free n ls → Keeps (kind_step o n) (ls ++ (Word w ∷ []))
  kind_keeps None n ls w is h = tt
  kind_keeps (Some e) n ls w is h = after_kind e.kind e.joined e n ls w is refl refl h

  -- after a kind word alone
  pub alone_top : (p : Part) (n : ℕ) (ls : List Lexeme) → Progress (place.Alone p) n ls → Top p XY n ls
  alone_top p n ls (a, w, e, free, is, ek, ej, split) = (e.kind, ek, (a, Word w ∷ [], free, (w, e, [], refl, is, refl, subst (λ o. DimPart o XY []) (sym ej) (inl (refl, refl))), split))

  with_dimension : (p : Part) (d : Dimension) (n : ℕ) (ls : List Lexeme) (v : List ℕ) → dim_word v ≡ Some d → Progress (place.Alone p) n ls → Top p d n (ls ++ (Word v ∷ []))
  with_dimension p d n ls v named (a, w, e, free, is, ek, ej, split) =
      (e.kind, ek, (a, Word w ∷ Word v ∷ [], free, (w, e, Word v ∷ [], refl, is, refl, subst (λ o. DimPart o d (Word v ∷ [])) (sym ej) (inr (v, refl, named))), ap (λ l. l ++ (Word v ∷ [])) split ∙ append_assoc a (Word w ∷ []) (Word v ∷ [])))

  -- the part of a geometry is to come
  top_to : (p : Part) (d : Dimension) (n : ℕ) (ls : List Lexeme) → Top p d n ls → To p d n ls
  top_to p d n ls (k, is, h) = subst (λ p. To p d n ls) is (to_top k d n ls h)

  whole_outside : (k : GeometryType) (d : Dimension) (n : ℕ) (a : Action) (ls : List Lexeme) → Whole n ls → Keeps (Some (outside (part_of k) d n, a)) ls
  whole_outside kind.Point d n a ls h = h
  whole_outside k d n a ls h = h

  top_outside : (p : Part) (d : Dimension) (n : ℕ) (a : Action) (ls ks : List Lexeme) → Top p d n ks → Whole n ls → Keeps (Some (outside p d n, a)) ls
  top_outside p d n a ls ks (k, is, t) h = subst (λ p. Keeps (Some (outside p d n, a)) ls) is (whole_outside k d n a ls h)

  dimension_empty : (p : Part) (n : ℕ) (ls : List Lexeme) (w : List ℕ) (b : Bool) → is_empty_word w ≡ b → Progress (place.Alone p) n ls → Keeps (cond b (Some (outside p XY n, act.HeaderEmpty p)) None) (ls ++ (Word w ∷ []))
  dimension_empty p n ls w true is h = top_outside p XY n (act.HeaderEmpty p) _ ls (alone_top p n ls h) (top_empty p XY n ls w is (alone_top p n ls h))
  dimension_empty p n ls w false is h = tt

  dimension_keeps : (o : Option Dimension) (p : Part) (n : ℕ) (ls : List Lexeme) (w : List ℕ) → dim_word w ≡ o → Progress (place.Alone p) n ls → Keeps (dimension_step o p w n) (ls ++ (Word w ∷ []))
  dimension_keeps (Some d) p n ls w is h = top_to p d n _ (with_dimension p d n ls w is h)
  dimension_keeps None p n ls w is h = dimension_empty p n ls w (is_empty_word w) refl h

  collection_kind : (k : GeometryType) → part_of k ≡ part.Collection → k ≡ kind.GeometryCollection
  collection_kind kind.GeometryCollection e = refl
  collection_kind k e = let no : ⊥ = cc in absurd no

  -- a parenthesis
  first_number : (p : Part) (d : Dimension) (n : ℕ) (ls : List Lexeme) → ToCoord p d n ls → Progress (place.Number p d (numbers_after d)) n ls
  first_number p d n ls h = (ls, [], [], h, refl, omega (arith, size_after d), sym (append-nil ls))

  open_keeps : (p : Part) (d : Dimension) (n : ℕ) (a : Action) (ls : List Lexeme) → To p d n ls → Keeps (Some (inside p d n, a)) (ls ++ (Open ∷ []))
  open_keeps part.Point d n a ls h = first_number part.Point d n _ (ls, h, refl)
  open_keeps part.Member d n a ls h = first_number part.Member d n _ (ls, h, refl)
  open_keeps part.LineString d n a ls h = first_number part.LineString d n _ (opened (Coord read d) (Top part.LineString d n) ls h)
  open_keeps part.Polygon d n a ls h = opened (Ring read d) (Top part.Polygon d n) ls h
  open_keeps part.MultiLineString d n a ls h = opened (Ring read d) (Top part.MultiLineString d n) ls h
  open_keeps part.MultiPoint d n a ls h = opened (Member read d) (Top part.MultiPoint d n) ls h
  open_keeps part.MultiPolygon d n a ls h = opened (Poly read d) (Top part.MultiPolygon d n) ls h
  open_keeps part.Area d n a ls h = opened (Ring read d) (To part.Area d n) ls h
  open_keeps part.Bare d n a ls h = absurd h
  open_keeps part.Collection d n a ls (k, is, h) = (d, opened (StandFor read) (Headed (Free n) kind.GeometryCollection d) ls (subst (λ k. Headed (Free n) k d ls) (collection_kind k is) h))
  open_keeps p d n a ls h = first_number p d n _ (opened (Coord read d) (To p d n) ls h)

  -- a number
  numbers_more : (xs : List N) (x : N) (m : List Lexeme) (run : List ℕ) → Numbers read m xs → read run ≡ Some x → Numbers read (m ++ (Num run ∷ [])) (xs ++ (x ∷ []))
  numbers_more [] x m run e is = (run, [], ap (λ l. l ++ (Num run ∷ [])) e, is, refl)
  numbers_more (y ∷ xs) x m run (r, more, e, is, h) k = (r, more ++ (Num run ∷ []), ap (λ l. l ++ (Num run ∷ [])) e, is, numbers_more xs x more run h k)

  -- a whole coordinate
  coord_end : (p : Part) (d : Dimension) (n : ℕ) (c f ls : List Lexeme) (x : List N) → ls ≡ c ++ f → ToCoord p d n c → Coord read d f x → Progress (last_place p d) n ls
  coord_end part.Point d n c f ls x e h k = (c, f, x, h, k, e)
  coord_end part.Member d n c f ls x e h k = (c, f, x, h, k, e)
  coord_end part.Bare d n c f ls x e h k = subst (Behind part.MultiPoint d n) (sym e) (ended (Member read d) (Top part.MultiPoint d n) c f (Some x) h (inl k))
  coord_end part.LineString d n c f ls x e h k = subst (Behind part.LineString d n) (sym e) (ended (Coord read d) (Top part.LineString d n) c f x h k)
  coord_end part.Ring d n c f ls x e h k = subst (Behind part.Ring d n) (sym e) (ended (Coord read d) (To part.Ring d n) c f x h k)
  coord_end part.Line d n c f ls x e h k = subst (Behind part.Line d n) (sym e) (ended (Coord read d) (To part.Line d n) c f x h k)
  coord_end part.AreaRing d n c f ls x e h k = subst (Behind part.AreaRing d n) (sym e) (ended (Coord read d) (To part.AreaRing d n) c f x h k)
  coord_end p d n c f ls x e h k = absurd h

  number_keeps : (p : Part) (d : Dimension) (more n : ℕ) (ls : List Lexeme) (run : List ℕ) (x : N) → read run ≡ Some x → Progress (place.Number p d more) n ls → Keeps (Some (number_step p d more n)) (ls ++ (Num run ∷ []))
  number_keeps p d zero n ls run x is (c, m, xs, h, nums, len, split) =
      coord_end p d n c (m ++ (Num run ∷ [])) _ (xs ++ (x ∷ [])) (ap (λ l. l ++ (Num run ∷ [])) split ∙ append_assoc c m (Num run ∷ [])) h
      (numbers_more xs x m run nums is, length-append xs (x ∷ []) ∙ len)
  number_keeps p d (suc more) n ls run x is (c, m, xs, h, nums, len, split) =
      (c, m ++ (Num run ∷ []), xs ++ (x ∷ []), h, numbers_more xs x m run nums is, omega (arith, length-append xs (x ∷ [])), ap (λ l. l ++ (Num run ∷ [])) split ∙ append_assoc c m (Num run ∷ []))

  bare_keeps : (p : Part) (d : Dimension) (n : ℕ) (ls : List Lexeme) (run : List ℕ) (x : N) → read run ≡ Some x → To p d n ls → Keeps (bare_step p d n) (ls ++ (Num run ∷ []))
  bare_keeps part.Member d n ls run x is h = (ls, Num run ∷ [], x ∷ [], h, (run, [], refl, is, refl), omega (arith, size_after d, some_after d), refl)
  bare_keeps p d n ls run x is h = tt

  -- after an item
  comma_keeps : (p : Part) (d : Dimension) (n : ℕ) (ls : List Lexeme) → Behind p d n ls → Keeps (comma_step p d n) (ls ++ (Comma ∷ []))
  comma_keeps part.Point d n ls h = tt
  comma_keeps part.Member d n ls h = tt
  comma_keeps part.LineString d n ls h = first_number part.LineString d n _ (next (Coord read d) (Top part.LineString d n) ls h)
  comma_keeps part.Polygon d n ls h = next (Ring read d) (Top part.Polygon d n) ls h
  comma_keeps part.MultiLineString d n ls h = next (Ring read d) (Top part.MultiLineString d n) ls h
  comma_keeps part.MultiPoint d n ls h = next (Member read d) (Top part.MultiPoint d n) ls h
  comma_keeps part.MultiPolygon d n ls h = next (Poly read d) (Top part.MultiPolygon d n) ls h
  comma_keeps part.Area d n ls h = next (Ring read d) (To part.Area d n) ls h
  comma_keeps part.Bare d n ls h = absurd h
  comma_keeps part.Collection d n ls h = absurd h
  comma_keeps p d n ls h = first_number p d n _ (next (Coord read d) (To p d n) ls h)

  in_parens : (C : List Lexeme → Type 0) (d : Dimension) (ls : List Lexeme) → Then (Alone C) (Coord read d) ls → Then C (λ f x. Within (λ b. Coord read d b x) f) (ls ++ (Close ∷ []))
  in_parens C d ls (c, f, x, (a, k, e), h, split) =
      (a, Open ∷ (f ++ (Close ∷ [])), x, k, (f, refl, h), ap (λ l. l ++ (Close ∷ [])) (split ∙ ap (λ l. l ++ f) e ∙ append_assoc a (Open ∷ []) f) ∙ append_assoc a (Open ∷ f) (Close ∷ []))

  close_keeps : (p : Part) (d : Dimension) (n : ℕ) (ls : List Lexeme) → Behind p d n ls → Keeps (Some (outside p d n, act.Close p)) (ls ++ (Close ∷ []))
  close_keeps part.Point d n ls h = let (c, f, x, k, w, e) = in_parens (Top part.Point d n) d ls h in top_whole part.Point d n c f _ e k (Some x, w)
  close_keeps part.Member d n ls h = let (c, f, x, k, w, e) = in_parens (To part.Member d n) d ls h in subst (Behind part.MultiPoint d n) (sym e) (ended (Member read d) (Top part.MultiPoint d n) c f (Some x) k (inr w))
  close_keeps part.LineString d n ls h = let (c, f, x, k, w, e) = closed (Coord read d) (Top part.LineString d n) ls h in top_whole part.LineString d n c f _ e k (x, w)
  close_keeps part.Polygon d n ls h = let (c, f, x, k, w, e) = closed (Ring read d) (Top part.Polygon d n) ls h in top_whole part.Polygon d n c f _ e k (x, w)
  close_keeps part.MultiLineString d n ls h = let (c, f, x, k, w, e) = closed (Ring read d) (Top part.MultiLineString d n) ls h in top_whole part.MultiLineString d n c f _ e k (x, w)
  close_keeps part.MultiPoint d n ls h = let (c, f, x, k, w, e) = closed (Member read d) (Top part.MultiPoint d n) ls h in top_whole part.MultiPoint d n c f _ e k (x, w)
  close_keeps part.MultiPolygon d n ls h = let (c, f, x, k, w, e) = closed (Poly read d) (Top part.MultiPolygon d n) ls h in top_whole part.MultiPolygon d n c f _ e k (x, w)
  close_keeps part.Ring d n ls h = then_past (Top part.Polygon d n) (Ring read d) _ (closed (Coord read d) (To part.Ring d n) ls h)
  close_keeps part.Line d n ls h = then_past (Top part.MultiLineString d n) (Ring read d) _ (closed (Coord read d) (To part.Line d n) ls h)
  close_keeps part.Area d n ls h = then_past (Top part.MultiPolygon d n) (Poly read d) _ (closed (Ring read d) (To part.Area d n) ls h)
  close_keeps part.AreaRing d n ls h = then_past (To part.Area d n) (Ring read d) _ (closed (Coord read d) (To part.AreaRing d n) ls h)
  close_keeps part.Bare d n ls h = absurd h
  close_keeps part.Collection d n ls h = absurd h

  -- after a member of a collection
  pub member_past : (n : ℕ) (ls : List Lexeme) → Whole (suc n) ls → (d : Dimension) × Past (Headed (Free n) kind.GeometryCollection d) (StandFor read) ls
  member_past n ls (c, f, v, (d, h), g, e) = (d, subst (Past (Headed (Free n) kind.GeometryCollection d) (StandFor read)) (sym e) (ended (StandFor read) (Headed (Free n) kind.GeometryCollection d) c f v h g))

  values_of : (xs : List (Value N)) → Values N
  values_of [] = Values.no_values
  values_of (x ∷ xs) = Values.more_values x (values_of xs)

  further_of : (xs : List (Value N)) (f : List Lexeme) → More (StandFor read) f xs → Further read f (values_of xs)
  unfolding values_of
  further_of [] f e = e
  further_of (x ∷ xs) f (a, b, e, g, m) = (a, b, e, g, further_of xs b m)

  geometries_of : (xs : List (Value N)) (f : List Lexeme) → Listed (StandFor read) f xs → Geometries read f (values_of xs)
  unfolding values_of
  geometries_of [] f w = w
  geometries_of (x ∷ xs) f (body, e, (a, b, e2, g, m)) = (a, b, e ∙ ap (λ l. Open ∷ (l ++ Close ∷ [])) e2, g, further_of xs b m)

  member_close : (n : ℕ) (ls : List Lexeme) → Whole (suc n) ls → Whole n (ls ++ (Close ∷ []))
  member_close n ls h =
      let (d, past) = member_past n ls h in
      let (c, f, xs, k, w, e) = closed (StandFor read) (Headed (Free n) kind.GeometryCollection d) ls past in
      top_whole part.Collection d n c f _ e (kind.GeometryCollection, refl, k) (values_of xs, geometries_of xs f w)

  member_comma : (n : ℕ) (ls : List Lexeme) → Whole (suc n) ls → Free (suc n) (ls ++ (Comma ∷ []))
  member_comma n ls h = let (d, past) = member_past n ls h in (d, next (StandFor read) (Headed (Free n) kind.GeometryCollection d) ls past)

  -- The lexeme is read, if it is a number.
  abbrev pub IsRead : Lexeme → Type 0
  IsRead (Num run) = (x : N) × (read run ≡ Some x)
  IsRead l = Unit {0}

  -- each step leads on to its place
  pub keeps : (p : Place) (n : ℕ) (l : Lexeme) (ls : List Lexeme) → IsRead l → Progress p n ls → Keeps (step_at p n l) (ls ++ (l ∷ []))
  keeps place.Kind n (Word w) ls r h = kind_keeps (kind_word w) n ls w refl h
  keeps (place.Alone p) n (Word w) ls r h = dimension_keeps (dim_word w) p n ls w refl h
  keeps (place.Alone p) n Open ls r h = open_keeps p XY n (act.HeaderOpen p) ls (top_to p XY n ls (alone_top p n ls h))
  keeps (place.Opening p d) n Open ls r h = open_keeps p d n (act.Open p) ls h
  keeps (place.Opening p d) n (Word w) ls r h = empty_keeps p d n ls w (is_empty_word w) refl h
  keeps (place.Opening p d) n (Num run) ls (x, is) h = bare_keeps p d n ls run x is h
  keeps (place.Number p d more) n (Num run) ls (x, is) h = number_keeps p d more n ls run x is h
  keeps (place.Item p d) n Comma ls r h = comma_keeps p d n ls h
  keeps (place.Item p d) n Close ls r h = close_keeps p d n ls h
  keeps place.Geometry (suc n) Comma ls r h = member_comma n ls h
  keeps place.Geometry (suc n) Close ls r h = member_close n ls h
  keeps p n l ls r h = tt
