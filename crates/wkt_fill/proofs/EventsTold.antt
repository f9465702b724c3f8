-- What the events of a value tell is its lists.
use Rattle.std.proofs.Common.{◌≡◌, ◌+◌, ℕ, ℤ, List, [], ◌∷◌, ◌++◌, length, map, flat_map, refl, sym, ap, ap₂, ◌∙◌, append_assoc, arith, option_to_list, Option}
use Rattle.std.specs.List.{AllByRecursion}
use Rattle.std.proofs.lemmas.List.{append-nil}
use Rattle.wkt_access.specs.declared.dimensions.Dimension.{Dimension}
use Rattle.wkt_access.specs.declared.dimensions.Dimension.TheVariants.{XY, XYZ, XYM, XYZM}
use Rattle.wkt_access.specs.Values.{size, Value, Values}
use Rattle.wkt_access.specs.WellFormed.{LineStringFits, PolygonFits, PointFits, IsWellFormed, AreWellFormed}
use Rattle.wkt_types.specs.declared.geometry_type.GeometryType.{GeometryType}
use Rattle.wkt_types.specs.declared.geometry_type.GeometryType.TheVariants as kind
use Rattle.wkt_machine.specs.declared.part.Part.{Part}
use Rattle.wkt_machine.specs.declared.part.Part.TheVariants as part
use Rattle.wkt_machine.specs.Events.{Event, numbers, further, listed, perhaps, geometries, members, events}
use Rattle.wkt_fill.specs.Arrays.{joined, numbers_in}
use Rattle.wkt_fill.specs.EventLists.{Told, add, ends, begins, whole, begin, begin_part, end_part, end_list, tell_all, tell-append, event_list, event_lists, number_list, number_lists}
use Rattle.wkt_fill.proofs.EventsToArrays.{point-fits}

-- More of both lists, and so many coordinates of a list that is open.
abbrev made_of : List ℕ → List ℤ → ℕ → Dimension → Told
made_of l k n d = record { list = l; numbers = k; coordinates = n; dimension = d }

abbrev told : List ℕ → List ℤ → Told → Told
told es ns w = made_of (w.list ++ es) (w.numbers ++ ns) 0 w.dimension

abbrev numbered : List ℤ → ℕ → Told → Told
numbered ns n w = made_of w.list (w.numbers ++ ns) n w.dimension

told-more : (es fs : List ℕ) (ns ms : List ℤ) (w : Told) → told fs ms (told es ns w) ≡ told (es ++ fs) (ns ++ ms) w
told-more es fs ns ms w = ap₂ (λ (l : List ℕ) (k : List ℤ). made_of l k 0 w.dimension) (append_assoc w.list es fs) (append_assoc w.numbers ns ms)

told-none : (w : Told) → w.coordinates ≡ 0 → told [] [] w ≡ w
told-none w z = ap₂ (λ (l : List ℕ) (k : List ℤ). made_of l k 0 w.dimension) (append-nil w.list) (append-nil w.numbers) ∙ ap (λ (n : ℕ). made_of w.list w.numbers n w.dimension) (sym z)

numbered-more : (ns ms : List ℤ) (k n m : ℕ) (w : Told) → n ≡ m → numbered ms n (numbered ns k w) ≡ numbered (ns ++ ms) m w
numbered-more ns ms k n m w e = ap₂ (λ (l : List ℤ) (c : ℕ). made_of w.list l c w.dimension) (append_assoc w.numbers ns ms) e

numbered-none : (n : ℕ) (w : Told) → n ≡ w.coordinates → numbered [] n w ≡ w
numbered-none n w e = ap₂ (λ (l : List ℤ) (c : ℕ). made_of w.list l c w.dimension) (append-nil w.numbers) e

-- a list of coordinates that ends
list-ends : (ns : List ℤ) (n : ℕ) (w : Told) → w.coordinates ≡ 0 → end_list (numbered ns (w.coordinates + n) w) ≡ told (n ∷ []) ns w
list-ends ns n w z = let same : w.coordinates + n ≡ n = omega (arith, z) in ap (λ (k : ℕ). told (k ∷ []) ns w) same

-- the numbers of a coordinate
joins : (ns : List ℤ) (c : List ℤ) (x : ℤ) → (ns ++ c) ++ (x ∷ []) ≡ ns ++ (c ++ (x ∷ []))
joins ns c x = append_assoc ns c (x ∷ [])

same-told : (w : Told) (n : ℕ) (l k : List ℤ) → l ≡ k → made_of w.list l n w.dimension ≡ made_of w.list k n w.dimension
same-told w n l k e = ap (λ (x : List ℤ). made_of w.list x n w.dimension) e

coordinate-told : (d : Dimension) (c : List ℤ) (w : Told) → length c ≡ size d → tell_all (numbers d c) w ≡ numbered c (w.coordinates + 1) w
coordinate-told XY (x ∷ y ∷ []) w e = same-told w (w.coordinates + 1) _ _ (joins w.numbers (x ∷ []) y)
coordinate-told XYZ (x ∷ y ∷ z ∷ []) w e = same-told w (w.coordinates + 1) _ _ (ap (λ l. l ++ (z ∷ [])) (joins w.numbers (x ∷ []) y) ∙ joins w.numbers (x ∷ y ∷ []) z)
coordinate-told XYM (x ∷ y ∷ z ∷ []) w e = same-told w (w.coordinates + 1) _ _ (ap (λ l. l ++ (z ∷ [])) (joins w.numbers (x ∷ []) y) ∙ joins w.numbers (x ∷ y ∷ []) z)
coordinate-told XYZM (x ∷ y ∷ z ∷ m ∷ []) w e =
    same-told w (w.coordinates + 1) _ _
    (ap (λ l. (l ++ (z ∷ [])) ++ (m ∷ [])) (joins w.numbers (x ∷ []) y) ∙ ap (λ l. l ++ (m ∷ [])) (joins w.numbers (x ∷ y ∷ []) z) ∙ joins w.numbers (x ∷ y ∷ z ∷ []) m)
coordinate-told d c w e = absurd (omega (arith, e))

-- Lists of coordinates.
module _ (P : ℤ → Type 0) (d : Dimension) (p : Part) (begins-none : (w : Told) → begin_part p w ≡ w) where
  coordinates-further : (cs : List (List ℤ)) → LineStringFits P d cs → (w : Told) → tell_all (further p (numbers d) cs) w ≡ end_part p (numbered (joined cs) (w.coordinates + length cs) w)
  coordinates-further [] fit w = ap (end_part p) (sym (numbered-none (w.coordinates + 0) w (omega arith)))
  coordinates-further (c ∷ cs) fit w =
      tell-append (numbers d c) (further p (numbers d) cs) w
      ∙ ap (tell_all (further p (numbers d) cs)) (coordinate-told d c w fit.0.1)
      ∙ coordinates-further cs fit.1 (numbered c (w.coordinates + 1) w)
      ∙ ap (end_part p) (numbered-more c (joined cs) (w.coordinates + 1) (w.coordinates + 1 + length cs) (w.coordinates + length (c ∷ cs)) w (omega arith))

  coordinates-told : (cs : List (List ℤ)) → LineStringFits P d cs → (w : Told) → tell_all (listed p (numbers d) cs) w ≡ end_part p (numbered (joined cs) (w.coordinates + length cs) w)
  coordinates-told [] fit w = ap (end_part p) (begins-none w ∙ sym (numbered-none (w.coordinates + 0) w (omega arith)))
  coordinates-told (c ∷ cs) fit w =
      ap (tell_all (numbers d c ++ further p (numbers d) cs)) (begins-none w)
      ∙ coordinates-further (c ∷ cs) fit w

  list-told : ((w : Told) → end_part p w ≡ end_list w) → (cs : List (List ℤ)) → LineStringFits P d cs → (w : Told) → w.coordinates ≡ 0 → tell_all (listed p (numbers d) cs) w ≡ told (length cs ∷ []) (joined cs) w
  list-told lists cs fit w z =
      coordinates-told cs fit w ∙ lists (numbered (joined cs) (w.coordinates + length cs) w) ∙ list-ends (joined cs) (length cs) w z

-- No list is open, and this is the dimension.
abbrev IsReady : Dimension → Told → Type 0
IsReady d w = (w.coordinates ≡ 0) × (w.dimension ≡ d)

-- Lists of items.
module _ {A : Type 0} (d : Dimension) (p : Part) (item : A → List (Event ℤ)) (es : A → List ℕ) (ns : A → List ℤ) (Fits : A → Type 0) (does : (x : A) → Fits x → (w : Told) → IsReady d w → tell_all (item x) w ≡ told (es x) (ns x) w) where
  items-further : (xs : List A) → AllByRecursion Fits xs → (w : Told) → IsReady d w → tell_all (further p item xs) w ≡ end_part p (told (flat_map es xs) (flat_map ns xs) w)
  items-further [] fit w r = ap (end_part p) (sym (told-none w r.0))
  items-further (x ∷ xs) fit w r =
      tell-append (item x) (further p item xs) w
      ∙ ap (tell_all (further p item xs)) (does x fit.0 w r)
      ∙ items-further xs fit.1 (told (es x) (ns x) w) (refl, r.1)
      ∙ ap (end_part p) (told-more (es x) (flat_map es xs) (ns x) (flat_map ns xs) w)

  items-told : (xs : List A) → AllByRecursion Fits xs → (w : Told) → IsReady d (begin_part p w) → tell_all (listed p item xs) w ≡ end_part p (told (flat_map es xs) (flat_map ns xs) (begin_part p w))
  items-told [] fit w r = ap (end_part p) (sym (told-none (begin_part p w) r.0))
  items-told (x ∷ xs) fit w r = items-further (x ∷ xs) fit (begin_part p w) r

-- one event for each item
ones : {A : Type 0} (f : A → ℕ) (xs : List A) → flat_map (λ x. f x ∷ []) xs ≡ map f xs
ones f [] = refl
ones f (x ∷ xs) = ap (λ l. f x ∷ l) (ones f xs)

-- The lists grew so.
pub record Tells (w : Told) (es : List ℕ) (ns : List ℤ) (u : Told) : Type 0 where
  pub list : u.list ≡ w.list ++ es
  pub numbers : u.numbers ≡ w.numbers ++ ns
  pub coordinates : u.coordinates ≡ 0

-- a geometry between its header and its end
closes : (l : List ℕ) (b : ℕ) (es : List ℕ) (e : ℕ) → ((l ++ (b ∷ [])) ++ es) ++ (e ∷ []) ≡ l ++ (b ∷ (es ++ (e ∷ [])))
closes l b es e = append_assoc (l ++ (b ∷ [])) es (e ∷ []) ∙ append_assoc l (b ∷ []) (es ++ (e ∷ []))

closed : (p : Part) (k : GeometryType) (d : Dimension) (es : List ℕ) (ns : List ℤ) (w u : Told) → begin p d w ≡ made_of (w.list ++ (begins k d ∷ [])) w.numbers w.coordinates d →
    u ≡ add ends (told es ns (begin p d w)) → Tells w (whole k d es) ns u
closed p k d es ns w u b e = record {
  list = ap (λ (t : Told). t.list) e ∙ ap (λ (t : Told). (t.list ++ es) ++ (ends ∷ [])) b ∙ closes w.list (begins k d) es ends;
  numbers = ap (λ (t : Told). t.numbers) e;
  coordinates = ap (λ (t : Told). t.coordinates) e;
}

module _ (P : ℤ → Type 0) (d : Dimension) where
  ring-told : (p : Part) → ((w : Told) → begin_part p w ≡ w) → ((w : Told) → end_part p w ≡ end_list w) → (cs : List (List ℤ)) → LineStringFits P d cs → (w : Told) → IsReady d w
      → tell_all (listed p (numbers d) cs) w ≡ told (length cs ∷ []) (joined cs) w
  ring-told p b l cs fit w r = list-told P d p b l cs fit w r.0

  member-told : (c : Option (List ℤ)) → PointFits P d c → (w : Told) → IsReady d w
      → tell_all (perhaps part.Member (numbers d) c) w ≡ told (length (option_to_list c) ∷ []) (joined (option_to_list c)) w
  member-told c fit w r = ring-told part.Member (λ w. refl) (λ w. refl) (option_to_list c) (point-fits P kind.Point refl d c fit) w r

  area-told : (rs : List (List (List ℤ))) → PolygonFits P d rs → (w : Told) → IsReady d w
      → tell_all (listed part.Area (listed part.AreaRing (numbers d)) rs) w ≡ told (whole kind.Polygon d (map length rs)) (numbers_in rs) w
  area-told rs fit w r =
      items-told d part.Area (listed part.AreaRing (numbers d)) (λ cs. length cs ∷ []) joined (LineStringFits P d) (ring-told part.AreaRing (λ w. refl) (λ w. refl)) rs fit w r
      ∙ ap (λ (l : List ℕ). made_of l (w.numbers ++ numbers_in rs) 0 w.dimension)
      (ap₂ (λ (b : Dimension) (l : List ℕ). ((w.list ++ (begins kind.Polygon b ∷ [])) ++ l) ++ (ends ∷ [])) r.1 (ones length rs) ∙ closes w.list (begins kind.Polygon d) (map length rs) ends)

-- the members of a collection, whose parenthesis tells nothing
geometries-same : (vs : Values ℤ) (w : Told) → tell_all (geometries vs) w ≡ tell_all (members vs) w
geometries-same Values.no_values w = refl
geometries-same (Values.more_values v vs) w = refl

mutual
  pub value-told : (P : ℤ → Type 0) (v : Value ℤ) → IsWellFormed P v → (w : Told) → w.coordinates ≡ 0 → Tells w (event_list v) (number_list v) (tell_all (events v) w)
  value-told P (Value.point d c) fit w z =
      closed part.Point kind.Point d (length (option_to_list c) ∷ []) (joined (option_to_list c)) w _ refl
      (coordinates-told P d part.Point (λ w. refl) (option_to_list c) (point-fits P kind.Point refl d c fit) (begin part.Point d w)
      ∙ ap (add ends) (list-ends (joined (option_to_list c)) (length (option_to_list c)) (begin part.Point d w) z))
  value-told P (Value.line_string d cs) fit w z =
      closed part.LineString kind.LineString d (length cs ∷ []) (joined cs) w _ refl
      (coordinates-told P d part.LineString (λ w. refl) cs fit (begin part.LineString d w)
      ∙ ap (add ends) (list-ends (joined cs) (length cs) (begin part.LineString d w) z))
  value-told P (Value.polygon d rs) fit w z =
      closed part.Polygon kind.Polygon d (map length rs) (numbers_in rs) w _ refl
      (items-told d part.Polygon (listed part.Ring (numbers d)) (λ cs. length cs ∷ []) joined (LineStringFits P d) (ring-told P d part.Ring (λ w. refl) (λ w. refl)) rs fit (begin part.Polygon d w) (z, refl)
      ∙ ap (λ es. add ends (told es (numbers_in rs) (begin part.Polygon d w))) (ones length rs))
  value-told P (Value.multi_point d ms) fit w z =
      closed part.MultiPoint kind.MultiPoint d (map (λ m. length (option_to_list m)) ms) (flat_map (λ m. joined (option_to_list m)) ms) w _ refl
      (items-told d part.MultiPoint (perhaps part.Member (numbers d)) (λ m. length (option_to_list m) ∷ []) (λ m. joined (option_to_list m)) (PointFits P d) (member-told P d) ms fit (begin part.MultiPoint d w) (z, refl)
      ∙ ap (λ es. add ends (told es (flat_map (λ m. joined (option_to_list m)) ms) (begin part.MultiPoint d w))) (ones (λ m. length (option_to_list m)) ms))
  value-told P (Value.multi_line_string d ls) fit w z =
      closed part.MultiLineString kind.MultiLineString d (map length ls) (numbers_in ls) w _ refl
      (items-told d part.MultiLineString (listed part.Line (numbers d)) (λ cs. length cs ∷ []) joined (LineStringFits P d) (ring-told P d part.Line (λ w. refl) (λ w. refl)) ls fit (begin part.MultiLineString d w) (z, refl)
      ∙ ap (λ es. add ends (told es (numbers_in ls) (begin part.MultiLineString d w))) (ones length ls))
  value-told P (Value.multi_polygon d ps) fit w z =
      closed part.MultiPolygon kind.MultiPolygon d (flat_map (λ rs. whole kind.Polygon d (map length rs)) ps) (flat_map numbers_in ps) w _ refl
      (items-told d part.MultiPolygon (listed part.Area (listed part.AreaRing (numbers d))) (λ rs. whole kind.Polygon d (map length rs)) numbers_in (PolygonFits P d) (area-told P d) ps fit (begin part.MultiPolygon d w) (z, refl))
  value-told P (Value.collection d vs) fit w z =
      let inner = members-told P vs fit (begin part.Collection d w) z in
      let same = geometries-same vs (begin part.Collection d w) in
      record {
        list = ap (λ (t : Told). t.list) same ∙ inner.list ∙ append_assoc w.list (begins kind.GeometryCollection d ∷ []) (event_lists vs ++ (ends ∷ []));
        numbers = ap (λ (t : Told). t.numbers) same ∙ inner.numbers;
        coordinates = ap (λ (t : Told). t.coordinates) same ∙ inner.coordinates;
      }

  members-told : (P : ℤ → Type 0) (vs : Values ℤ) → AreWellFormed P vs → (w : Told) → w.coordinates ≡ 0 → Tells w (event_lists vs ++ (ends ∷ [])) (number_lists vs) (tell_all (members vs) w)
  members-told P Values.no_values fit w z = record { list = refl; numbers = sym (append-nil w.numbers); coordinates = z }
  members-told P (Values.more_values v vs) fit w z =
      let first = value-told P v fit.0 w z in
      let rest = members-told P vs fit.1 (tell_all (events v) w) first.coordinates in
      let split = tell-append (events v) (members vs) w in
      record {
        list = ap (λ (t : Told). t.list) split ∙ rest.list ∙ ap (λ l. l ++ (event_lists vs ++ (ends ∷ []))) first.list ∙ append_assoc w.list (event_list v) (event_lists vs ++ (ends ∷ []))
            ∙ ap (λ l. w.list ++ l) (sym (append_assoc (event_list v) (event_lists vs) (ends ∷ [])));
        numbers = ap (λ (t : Told). t.numbers) split ∙ rest.numbers ∙ ap (λ l. l ++ number_lists vs) first.numbers ∙ append_assoc w.numbers (number_list v) (number_lists vs);
        coordinates = ap (λ (t : Told). t.coordinates) split ∙ rest.coordinates;
      }
