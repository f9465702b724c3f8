-- The events of a value write its canonical text.
use Rattle.std.proofs.Common.{◌≡◌, ℕ, zero, suc, ◌+◌, ◌<◌, List, [], ◌∷◌, ◌++◌, length, map, sym, refl, ap, subst, ◌∙◌, append_assoc, append-nil, arith, take, get_or, ap₂, length-append, Bool, true, false, Option, Some, None}
use Rattle.std.specs.Prelude.{codes, flat_map, ◌&&◌, ◌==◌, nat_le, option_map, option_to_list}
use Rattle.std.specs.List.{AllByRecursion}
use Rattle.std.proofs.Math.Seq.{take-append_seam, take-length}
use Rattle.std.proofs.lemmas.List.{get_or-append-add}
use Rattle.std.proofs.lemmas.Bool.{le-leb}
use Rattle.wkt_access.specs.declared.dimensions.Dimension.{Dimension}
use Rattle.wkt_access.specs.declared.dimensions.Dimension.TheVariants.{XY, XYZ, XYM, XYZM}
use Rattle.wkt_access.specs.Texts.{separated, space_if_empty, coordinate_text, listed as listed_text, headed, suffix, coordinates_text, polygon_text, text, texts}
use Rattle.wkt_access.specs.Values.{size, Value, Values}
use Rattle.wkt_machine.specs.Events.{Event, axis_of, numbers, further, listed, perhaps, events, geometries, members}
use Rattle.wkt_machine.specs.declared.part.Part.{Part}
use Rattle.wkt_canonical.specs.TextBuilderMaker.{write_append}
use Rattle.wkt_canonical.specs.Written.{EventsWritten, separator, empty_text, added, write, write_all, is_polygon, is_hollow, opened, closed, polygon_closed, kind_text}
use Rattle.wkt_access.specs.WellFormed.{CoordFits, LineStringFits, PolygonFits, PointFits, IsWellFormed, AreWellFormed}
use Rattle.wkt_access.specs.Shapes.{dimension, header_of, polygon_of, rings_of, canon, canons, shape_of, shapes_of}
use Rattle.wkt_access.proofs.Canonical.{header_back}
use Rattle.wkt_machine.specs.declared.part.Part.TheVariants as part

-- Events that add text.

pub added_twice : (bs cs : List ℕ) (w : EventsWritten) → added cs (added bs w) ≡ added (bs ++ cs) w
added_twice bs cs w = ap (λ l. record { bytes = l; polygon = w.polygon }) (append_assoc w.bytes bs cs)

added_none : (w : EventsWritten) → w ≡ added [] w
added_none w = ap (λ l. record { bytes = l; polygon = w.polygon }) (sym (append-nil w.bytes))

-- the axes after the first have a space before them
later : (d : Dimension) (n : ℕ) → n + 1 < size d → separator (axis_of d n) ≡ codes " "
later XY zero h = refl
later XY (suc n) h = absurd (omega (arith, h))
later XYZ zero h = refl
later XYZ (suc zero) h = refl
later XYZ (suc (suc n)) h = absurd (omega (arith, h))
later XYM zero h = refl
later XYM (suc zero) h = refl
later XYM (suc (suc n)) h = absurd (omega (arith, h))
later XYZM zero h = refl
later XYZM (suc zero) h = refl
later XYZM (suc (suc zero)) h = refl
later XYZM (suc (suc (suc n))) h = absurd (omega (arith, h))

first : (d : Dimension) (n : ℕ) → n + 1 ≡ size d → separator (axis_of d n) ≡ []
first XY zero h = absurd (omega (arith, h))
first XY (suc n) h = refl
first XYZ zero h = absurd (omega (arith, h))
first XYZ (suc zero) h = absurd (omega (arith, h))
first XYZ (suc (suc n)) h = refl
first XYM zero h = absurd (omega (arith, h))
first XYM (suc zero) h = absurd (omega (arith, h))
first XYM (suc (suc n)) h = refl
first XYZM zero h = absurd (omega (arith, h))
first XYZM (suc zero) h = absurd (omega (arith, h))
first XYZM (suc (suc zero)) h = absurd (omega (arith, h))
first XYZM (suc (suc (suc n))) h = refl

module _ {N : Type 0} (num : N → List ℕ) where
  -- events that add bytes, and leave the polygon's place
  abbrev pub Adds : List (Event N) → List ℕ → Type 0
  Adds es bs = (w : EventsWritten) → write_all num es w ≡ added bs w

  -- events that add bytes
  abbrev pub Writes : List (Event N) → List ℕ → Type 0
  Writes es bs = (w : EventsWritten) → (write_all num es w).bytes ≡ w.bytes ++ bs

  pub adds_both : (es fs : List (Event N)) (bs cs : List ℕ) → Adds es bs → Adds fs cs → Adds (es ++ fs) (bs ++ cs)
  adds_both es fs bs cs h k w = write_append num es fs w ∙ ap (write_all num fs) (h w) ∙ k (added bs w) ∙ added_twice bs cs w

  pub writes_both : (es fs : List (Event N)) (bs cs : List ℕ) → Writes es bs → Writes fs cs → Writes (es ++ fs) (bs ++ cs)
  writes_both es fs bs cs h k w =
      ap (λ x. x.bytes) (write_append num es fs w) ∙ k (write_all num es w) ∙ ap (λ l. l ++ cs) (h w) ∙ append_assoc w.bytes bs cs

  pub writes_added : (es : List (Event N)) (bs : List ℕ) → Adds es bs → Writes es bs
  writes_added es bs h w = ap (λ x. x.bytes) (h w)

  number_adds : (d : Dimension) (n : ℕ) (x : N) (bs : List ℕ) → separator (axis_of d n) ≡ bs → Adds (Event.Number (axis_of d n) x ∷ []) (bs ++ num x)
  number_adds d n x bs e w = ap (λ l. added (l ++ num x) w) e

  more_numbers : (d : Dimension) (xs : List N) → length xs < size d → Adds (numbers d xs) (flat_map (λ u. codes " " ++ u) (map num xs))
  more_numbers d [] h = added_none
  more_numbers d (x ∷ xs) h =
      adds_both (Event.Number (axis_of d (length xs)) x ∷ []) (numbers d xs) (codes " " ++ num x) (flat_map (λ u. codes " " ++ u) (map num xs))
      (number_adds d (length xs) x (codes " ") (later d (length xs) (omega (arith, h)))) (more_numbers d xs (omega (arith, h)))

  -- a coordinate
  pub numbers_add : (d : Dimension) (c : List N) → length c ≡ size d → Adds (numbers d c) (coordinate_text num c)
  unfolding separated
  numbers_add d [] h = added_none
  numbers_add d (x ∷ xs) h =
      adds_both (Event.Number (axis_of d (length xs)) x ∷ []) (numbers d xs) (num x) (flat_map (λ u. codes " " ++ u) (map num xs))
      (number_adds d (length xs) x [] (first d (length xs) (omega (arith, h)))) (more_numbers d xs (omega (arith, h)))

  -- The text of items, or of none.
  abbrev pub items_text : Part → List (List ℕ) → List ℕ
  items_text p [] = empty_text p
  items_text p (t ∷ ts) = listed_text (t ∷ ts)

  pub items_inner : (p : Part) (ts : List (List ℕ)) → empty_text p ≡ codes "EMPTY" → items_text p ts ≡ listed_text ts
  unfolding listed_text
  items_inner p [] e = e
  items_inner p (t ∷ ts) e = refl

  pub items_outer : (p : Part) (ts : List (List ℕ)) → empty_text p ≡ codes " EMPTY" → items_text p ts ≡ space_if_empty ts ++ listed_text ts
  unfolding listed_text
  items_outer p [] e = e
  items_outer p (t ∷ ts) e = refl

  -- Parts with their items, by a relation that holds of what adds and is kept as events follow each other.
  module _ (R : List (Event N) → List ℕ → Type 0) (both : (es fs : List (Event N)) (bs cs : List ℕ) → R es bs → R fs cs → R (es ++ fs) (bs ++ cs)) (plain : (es : List (Event N)) (bs : List ℕ) → Adds es bs → R es bs) where
    pub one : (e : Event N) (fs : List (Event N)) (bs cs : List ℕ) → Adds (e ∷ []) bs → R fs cs → R (e ∷ fs) (bs ++ cs)
    one e fs bs cs h k = both (e ∷ []) fs bs cs (plain (e ∷ []) bs h) k

    pub so : (es : List (Event N)) (bs cs : List ℕ) → bs ≡ cs → R es bs → R es cs
    so es bs cs e h = subst (R es) e h

    module _ {A : Type 0} (Good : A → Type 0) (item : A → List (Event N)) (t : A → List ℕ) (each : (x : A) → Good x → R (item x) (t x)) (p : Part)
        (closes : (w : EventsWritten) → write num (Event.Close p) w ≡ added (codes ")") w) (opens : (w : EventsWritten) → write num (Event.Open p) w ≡ added (codes "(") w) where
      further_is : (xs : List A) → AllByRecursion Good xs → R (further p item xs) (flat_map (λ u. codes "," ++ u) (map t xs) ++ codes ")")
      further_is [] g = plain (Event.Close p ∷ []) (codes ")") closes
      further_is (x ∷ xs) (g, gs) =
          let ts : List ℕ = flat_map (λ u. codes "," ++ u) (map t xs) in
          so (further p item (x ∷ xs)) (codes "," ++ (t x ++ (ts ++ codes ")"))) (((codes "," ++ t x) ++ ts) ++ codes ")") (sym (append_assoc (codes "," ++ t x) ts (codes ")")))
          (one (Event.Comma p) (item x ++ further p item xs) (codes ",") (t x ++ (ts ++ codes ")")) (λ w. refl)
          (both (item x) (further p item xs) (t x) (ts ++ codes ")") (each x g) (further_is xs gs)))

      -- a part with its items
      pub listed_is : (xs : List A) → AllByRecursion Good xs → R (listed p item xs) (items_text p (map t xs))
      unfolding listed_text separated
      listed_is [] g = plain (Event.Empty p ∷ []) (empty_text p) (λ w. refl)
      listed_is (x ∷ xs) (g, gs) =
          let ts : List ℕ = flat_map (λ u. codes "," ++ u) (map t xs) in
          so (listed p item (x ∷ xs)) (codes "(" ++ (t x ++ (ts ++ codes ")"))) (listed_text (t x ∷ map t xs)) (ap (λ l. 40 ∷ l) (sym (append_assoc (t x) ts (codes ")"))))
          (one (Event.Open p) (item x ++ further p item xs) (codes "(") (t x ++ (ts ++ codes ")")) opens
          (both (item x) (further p item xs) (t x) (ts ++ codes ")") (each x g) (further_is xs gs)))

  -- a line, a ring, or a point of a multipoint
  pub line_adds : {A : Type 0} (Good : A → Type 0) (item : A → List (Event N)) (t : A → List ℕ) → ((x : A) → Good x → Adds (item x) (t x)) → (p : Part)
      → ((w : EventsWritten) → write num (Event.Close p) w ≡ added (codes ")") w) → ((w : EventsWritten) → write num (Event.Open p) w ≡ added (codes "(") w) → empty_text p ≡ codes "EMPTY"
      → (xs : List A) → AllByRecursion Good xs → Adds (listed p item xs) (listed_text (map t xs))
  line_adds {A} Good item t each p closes opens empty xs g =
      so Adds adds_both (λ es bs h. h) (listed p item xs) (items_text p (map t xs)) (listed_text (map t xs)) (items_inner p (map t xs) empty) (listed_is Adds adds_both (λ es bs h. h) Good item t each p closes opens xs g)

  -- items behind a parenthesis, each after a comma, and what closes
  pub tail_is : {A : Type 0} (Good : A → Type 0) (item : A → List (Event N)) (t : A → List ℕ) → ((x : A) → Good x → Adds (item x) (t x)) → (p : Part) (xs : List A) (w : EventsWritten) → AllByRecursion Good xs
      → write_all num (further p item xs) w ≡ write num (Event.Close p) (added (flat_map (λ u. codes "," ++ u) (map t xs)) w)
  tail_is Good item t each p [] w g = ap (write num (Event.Close p)) (added_none w)
  tail_is Good item t each p (x ∷ xs) w (g, gs) =
      let ts : List ℕ = flat_map (λ u. codes "," ++ u) (map t xs) in
      write_append num (item x) (further p item xs) (added (codes ",") w)
      ∙ ap (write_all num (further p item xs)) (each x g (added (codes ",") w) ∙ added_twice (codes ",") (t x) w)
      ∙ tail_is Good item t each p xs (added (codes "," ++ t x) w) gs
      ∙ ap (write num (Event.Close p)) (added_twice (codes "," ++ t x) ts w)

-- The text of a polygon, which is EMPTY where its first ring is.

-- a polygon's parenthesis, and more behind it
abbrev begun : List ℕ → List ℕ → EventsWritten
begun bs more = record { bytes = (bs ++ codes "(") ++ more; polygon = length bs }

behind : (bs more : List ℕ) → get_or ((bs ++ codes "(") ++ more) (length bs + 1) 0 ≡ get_or more 0 0
behind bs more = ap (λ l. get_or l (length bs + 1) 0) (append_assoc bs (codes "(") more) ∙ get_or-append-add bs (codes "(" ++ more) 1 0

and_false : (b : Bool) → b && false ≡ false
and_false true = refl
and_false false = refl

hollow_is : (bs more : List ℕ) → is_hollow (begun bs (codes "EMPTY" ++ more)) ≡ true
hollow_is bs more =
    ap₂ (λ a b. a && b == 69)
    (le-leb (length bs + 6) (length ((bs ++ codes "(") ++ (codes "EMPTY" ++ more))) (omega (arith, length-append (bs ++ codes "(") (codes "EMPTY" ++ more), length-append bs (codes "("))))
    (behind bs (codes "EMPTY" ++ more))

full_is : (bs more : List ℕ) → is_hollow (begun bs (codes "(" ++ more)) ≡ false
full_is bs more =
    ap (λ b. nat_le (length bs + 6) (length ((bs ++ codes "(") ++ (codes "(" ++ more))) && b == 69) (behind bs (codes "(" ++ more))
    ∙ and_false (nat_le (length bs + 6) (length ((bs ++ codes "(") ++ (codes "(" ++ more))))

taken_back : (bs more : List ℕ) → take (length bs) ((bs ++ codes "(") ++ more) ≡ bs
taken_back bs more = ap (take (length bs)) (append_assoc bs (codes "(") more) ∙ take-append_seam bs (codes "(" ++ more)

-- the rings that are written
abbrev pub full : {A : Type 0} → List (List A) → List (List A)
full [] = []
full ([] ∷ rs) = []
full ((c ∷ cs) ∷ rs) = (c ∷ cs) ∷ rs

module _ {N : Type 0} (num : N → List ℕ) {A : Type 0} (Good : List A → Type 0) (item : List A → List (Event N)) (t : A → List ℕ)
    (each : (x : List A) → Good x → Adds num (item x) (listed_text (map t x))) (p : Part) (is : is_polygon p ≡ true) where
  abbrev ring : List A → List ℕ
  ring x = listed_text (map t x)

  -- up to the parenthesis that closes
  whole_is : (r : List A) (rs : List (List A)) (w : EventsWritten) → Good r → AllByRecursion Good rs
      → write_all num (listed p item (r ∷ rs)) w ≡ write num (Event.Close p) (begun w.bytes (ring r ++ flat_map (λ u. codes "," ++ u) (map ring rs)))
  whole_is r rs w g gs =
      let ts : List ℕ = flat_map (λ u. codes "," ++ u) (map ring rs) in
      let open_one : EventsWritten = record { bytes = w.bytes ++ codes "("; polygon = length w.bytes } in
      ap (λ b. write_all num (item r ++ further p item rs) (opened b w)) is
      ∙ write_append num (item r) (further p item rs) open_one
      ∙ ap (write_all num (further p item rs)) (each r g open_one)
      ∙ tail_is num Good item ring each p rs (begun w.bytes (ring r)) gs
      ∙ ap (write num (Event.Close p)) (added_twice (ring r) ts open_one)

  close_is : (b : Bool) (w : EventsWritten) → is_hollow w ≡ b → write num (Event.Close p) w ≡ polygon_closed b p w
  close_is b w e = ap (λ b. closed b p w) is ∙ ap (λ b. polygon_closed b p w) e

  pub polygon_is : (rs : List (List A)) → AllByRecursion Good rs → Writes num (listed p item rs) (items_text num p (map ring (full rs)))
  unfolding listed_text separated
  polygon_is [] g w = refl
  polygon_is ([] ∷ rs) (g, gs) w =
      let ts : List ℕ = flat_map (λ u. codes "," ++ u) (map ring rs) in
      ap (λ x. x.bytes) (whole_is [] rs w g gs ∙ close_is true (begun w.bytes (codes "EMPTY" ++ ts)) (hollow_is w.bytes ts))
      ∙ ap (λ l. l ++ empty_text p) (taken_back w.bytes (codes "EMPTY" ++ ts))
  polygon_is ((c ∷ cs) ∷ rs) (g, gs) w =
      let ts : List ℕ = flat_map (λ u. codes "," ++ u) (map ring rs) in
      let inner : List ℕ = separated (codes ",") (map t (c ∷ cs)) ++ codes ")" in
      ap (λ x. x.bytes) (whole_is (c ∷ cs) rs w g gs ∙ close_is false (begun w.bytes (codes "(" ++ (inner ++ ts))) (full_is w.bytes (inner ++ ts)))
      ∙ append_assoc (w.bytes ++ codes "(") (ring (c ∷ cs) ++ ts) (codes ")")
      ∙ append_assoc w.bytes (codes "(") ((ring (c ∷ cs) ++ ts) ++ codes ")")

fused : {A B C : Type 0} (g : B → C) (f : A → B) (xs : List A) → map g (map f xs) ≡ map (λ x. g (f x)) xs
fused g f [] = refl
fused g f (x ∷ xs) = ap (λ l. g (f x) ∷ l) (fused g f xs)

full_rings : {N : Type 0} (rs : List (List (List N))) → full rs ≡ rings_of (polygon_of rs)
full_rings [] = refl
full_rings ([] ∷ rs) = refl
full_rings ((c ∷ cs) ∷ rs) = refl

module _ {N : Type 0} (is_value : N → Type 0) (num : N → List ℕ) (d : Dimension) where
  -- the text of as many numbers as the header has
  abbrev cut_text : List N → List ℕ
  cut_text c = coordinate_text num (take (size d) c)

  coordinate_adds : (c : List N) → CoordFits is_value d c → Adds num (numbers d c) (cut_text c)
  coordinate_adds c (g, long) w =
      numbers_add num d c long w ∙ ap (λ l. added (coordinate_text num l) w) (sym (ap (λ (k : ℕ). take k c) (sym long) ∙ take-length c))

  abbrev line_text : List (List N) → List ℕ
  line_text cs = listed_text (map cut_text cs)

  ring_adds : (cs : List (List N)) → LineStringFits is_value d cs → Adds num (listed part.Ring (numbers d) cs) (line_text cs)
  ring_adds cs g = line_adds num (CoordFits is_value d) (numbers d) cut_text coordinate_adds part.Ring (λ w. refl) (λ w. refl) refl cs g

  area_ring_adds : (cs : List (List N)) → LineStringFits is_value d cs → Adds num (listed part.AreaRing (numbers d) cs) (line_text cs)
  area_ring_adds cs g = line_adds num (CoordFits is_value d) (numbers d) cut_text coordinate_adds part.AreaRing (λ w. refl) (λ w. refl) refl cs g

  several_adds : (cs : List (List N)) → LineStringFits is_value d cs → Adds num (listed part.Line (numbers d) cs) (line_text cs)
  several_adds cs g = line_adds num (CoordFits is_value d) (numbers d) cut_text coordinate_adds part.Line (λ w. refl) (λ w. refl) refl cs g

  point_fits : (c : Option (List N)) → PointFits is_value d c → AllByRecursion (CoordFits is_value d) (option_to_list c)
  point_fits None h = tt
  point_fits (Some c) h = (h, tt)

  member_adds : (c : Option (List N)) → PointFits is_value d c → Adds num (perhaps part.Member (numbers d) c) (line_text (option_to_list c))
  member_adds c h = line_adds num (CoordFits is_value d) (numbers d) cut_text coordinate_adds part.Member (λ w. refl) (λ w. refl) refl (option_to_list c) (point_fits c h)

  area_writes : (rs : List (List (List N))) → PolygonFits is_value d rs → Writes num (listed part.Area (listed part.AreaRing (numbers d)) rs) (listed_text (map line_text (rings_of (polygon_of rs))))
  area_writes rs g w =
      polygon_is num (LineStringFits is_value d) (listed part.AreaRing (numbers d)) cut_text area_ring_adds part.Area refl rs g w
      ∙ ap (λ l. w.bytes ++ l) (items_inner num part.Area (map line_text (full rs)) refl ∙ ap (λ rs. listed_text (map line_text rs)) (full_rings rs))

  -- a header and the items behind it
  headed_is : (p : Part) (es : List (Event N)) (e : Dimension) (ts us : List (List ℕ)) → e ≡ d → ts ≡ us → Writes num es (space_if_empty ts ++ listed_text ts) → Writes num (Event.Header p d ∷ es) (headed (kind_text p) e us)
  unfolding headed
  headed_is p es e ts us same items h w =
      h (added (kind_text p ++ suffix d) w)
      ∙ append_assoc w.bytes (kind_text p ++ suffix d) (space_if_empty ts ++ listed_text ts)
      ∙ ap (λ l. w.bytes ++ l) (append_assoc (kind_text p) (suffix d) (space_if_empty ts ++ listed_text ts)
      ∙ ap (λ x. kind_text p ++ (suffix x ++ (space_if_empty ts ++ listed_text ts))) (sym same)
      ∙ ap (λ l. kind_text p ++ (suffix e ++ (space_if_empty l ++ listed_text l))) items)

  outer_is : (p : Part) (es : List (Event N)) (ts : List (List ℕ)) → empty_text p ≡ codes " EMPTY" → Writes num es (items_text num p ts) → Writes num es (space_if_empty ts ++ listed_text ts)
  outer_is p es ts e h w = h w ∙ ap (λ l. w.bytes ++ l) (items_outer num p ts e)

module _ {N : Type 0} (is_value : N → Type 0) (num : N → List ℕ) where
  some_map : (d : Dimension) (c : Option (List N)) → map (cut_text is_value num d) (option_to_list c) ≡ map (coordinate_text num) (option_to_list (option_map (take (size d)) c))
  some_map d None = refl
  some_map d (Some c) = refl

  line_map : (d : Dimension) (cs : List (List N)) → map (cut_text is_value num d) cs ≡ map (coordinate_text num) (map (take (size d)) cs)
  line_map d cs = sym (fused (coordinate_text num) (take (size d)) cs)

  lines_map : (d : Dimension) (ls : List (List (List N))) → map (line_text is_value num d) ls ≡ map (coordinates_text num) (map (map (take (size d))) ls)
  lines_map d [] = refl
  lines_map d (cs ∷ ls) = ap₂ (λ x xs. listed_text x ∷ xs) (line_map d cs) (lines_map d ls)

  members_map : (d : Dimension) (ms : List (Option (List N))) → map (λ c. line_text is_value num d (option_to_list c)) ms ≡ map (λ c. coordinates_text num (option_to_list c)) (map (option_map (take (size d))) ms)
  members_map d [] = refl
  members_map d (c ∷ ms) = ap₂ (λ x xs. listed_text x ∷ xs) (some_map d c) (members_map d ms)

  areas_map : (d : Dimension) (ys : List (List (List (List N)))) → map (λ rs. listed_text (map (line_text is_value num d) (rings_of (polygon_of rs)))) ys
      ≡ map (polygon_text num) (map (λ p. map (map (take (size d))) (rings_of p)) (map polygon_of ys))
  areas_map d [] = refl
  areas_map d (rs ∷ ys) = ap₂ (λ x xs. listed_text x ∷ xs) (lines_map d (rings_of (polygon_of rs))) (areas_map d ys)

  none_write : Writes num (geometries Values.no_values) (space_if_empty [] ++ listed_text [])
  unfolding listed_text
  none_write w = refl

  some_write : (v : Value N) (vs : Values N) (t : List ℕ) (ts : List (List ℕ)) → Writes num (events v) t → Writes num (members vs) (flat_map (λ u. codes "," ++ u) ts ++ codes ")")
      → Writes num (geometries (Values.more_values v vs)) (space_if_empty (t ∷ ts) ++ listed_text (t ∷ ts))
  unfolding listed_text separated
  some_write v vs t ts h k =
      let more : List ℕ = flat_map (λ u. codes "," ++ u) ts in
      so num (Writes num) (writes_both num) (writes_added num) (geometries (Values.more_values v vs)) (codes "(" ++ (t ++ (more ++ codes ")"))) (listed_text (t ∷ ts)) (ap (λ l. 40 ∷ l) (sym (append_assoc t more (codes ")"))))
      (one num (Writes num) (writes_both num) (writes_added num) (Event.Open part.Collection) (events v ++ members vs) (codes "(") (t ++ (more ++ codes ")")) (λ w. refl)
      (writes_both num (events v) (members vs) t (more ++ codes ")") h k))

  mutual
    -- The events of a value write the text that the value is written as.
    pub events_write : (v : Value N) → IsWellFormed is_value v → Writes num (events v) (text num (canon (shape_of v)))
    events_write (Value.point d c) g = headed_is is_value num d part.Point (perhaps part.Point (numbers d) c) (dimension (header_of d)) (map (cut_text is_value num d) (option_to_list c)) _ (header_back d)
        (some_map d c ∙ ap (λ x. map (coordinate_text num) (option_to_list (option_map (take (size x)) c))) (sym (header_back d)))
        (outer_is is_value num d part.Point (perhaps part.Point (numbers d) c) (map (cut_text is_value num d) (option_to_list c)) refl
        (listed_is num (Writes num) (writes_both num) (writes_added num) (CoordFits is_value d) (numbers d) (cut_text is_value num d) (λ c h. writes_added num (numbers d c) (cut_text is_value num d c) (coordinate_adds is_value num d c h)) part.Point (λ w. refl) (λ w. refl) (option_to_list c) (point_fits is_value num d c g)))
    events_write (Value.line_string d cs) g = headed_is is_value num d part.LineString (listed part.LineString (numbers d) cs) (dimension (header_of d)) (map (cut_text is_value num d) cs) _ (header_back d)
        (line_map d cs ∙ ap (λ x. map (coordinate_text num) (map (take (size x)) cs)) (sym (header_back d)))
        (outer_is is_value num d part.LineString (listed part.LineString (numbers d) cs) (map (cut_text is_value num d) cs) refl
        (listed_is num (Writes num) (writes_both num) (writes_added num) (CoordFits is_value d) (numbers d) (cut_text is_value num d) (λ c h. writes_added num (numbers d c) (cut_text is_value num d c) (coordinate_adds is_value num d c h)) part.LineString (λ w. refl) (λ w. refl) cs g))
    events_write (Value.polygon d rs) g = headed_is is_value num d part.Polygon (listed part.Polygon (listed part.Ring (numbers d)) rs) (dimension (header_of d)) (map (line_text is_value num d) (full rs)) _ (header_back d)
        (ap (map (line_text is_value num d)) (full_rings rs) ∙ lines_map d (rings_of (polygon_of rs)) ∙ ap (λ x. map (coordinates_text num) (map (map (take (size x))) (rings_of (polygon_of rs)))) (sym (header_back d)))
        (outer_is is_value num d part.Polygon (listed part.Polygon (listed part.Ring (numbers d)) rs) (map (line_text is_value num d) (full rs)) refl
        (polygon_is num (LineStringFits is_value d) (listed part.Ring (numbers d)) (cut_text is_value num d) (ring_adds is_value num d) part.Polygon refl rs g))
    events_write (Value.multi_point d ms) g = headed_is is_value num d part.MultiPoint (listed part.MultiPoint (perhaps part.Member (numbers d)) ms) (dimension (header_of d)) (map (λ c. line_text is_value num d (option_to_list c)) ms) _ (header_back d)
        (members_map d ms ∙ ap (λ x. map (λ c. coordinates_text num (option_to_list c)) (map (option_map (take (size x))) ms)) (sym (header_back d)))
        (outer_is is_value num d part.MultiPoint (listed part.MultiPoint (perhaps part.Member (numbers d)) ms) (map (λ c. line_text is_value num d (option_to_list c)) ms) refl
        (listed_is num (Writes num) (writes_both num) (writes_added num) (PointFits is_value d) (perhaps part.Member (numbers d)) (λ c. line_text is_value num d (option_to_list c)) (λ c h. writes_added num (perhaps part.Member (numbers d) c) (line_text is_value num d (option_to_list c)) (member_adds is_value num d c h)) part.MultiPoint (λ w. refl) (λ w. refl) ms g))
    events_write (Value.multi_line_string d ls) g = headed_is is_value num d part.MultiLineString (listed part.MultiLineString (listed part.Line (numbers d)) ls) (dimension (header_of d)) (map (line_text is_value num d) ls) _ (header_back d)
        (lines_map d ls ∙ ap (λ x. map (coordinates_text num) (map (map (take (size x))) ls)) (sym (header_back d)))
        (outer_is is_value num d part.MultiLineString (listed part.MultiLineString (listed part.Line (numbers d)) ls) (map (line_text is_value num d) ls) refl
        (listed_is num (Writes num) (writes_both num) (writes_added num) (LineStringFits is_value d) (listed part.Line (numbers d)) (line_text is_value num d) (λ cs h. writes_added num (listed part.Line (numbers d) cs) (line_text is_value num d cs) (several_adds is_value num d cs h)) part.MultiLineString (λ w. refl) (λ w. refl) ls g))
    events_write (Value.multi_polygon d ys) g = headed_is is_value num d part.MultiPolygon (listed part.MultiPolygon (listed part.Area (listed part.AreaRing (numbers d))) ys) (dimension (header_of d)) (map (λ rs. listed_text (map (line_text is_value num d) (rings_of (polygon_of rs)))) ys) _ (header_back d)
        (areas_map d ys ∙ ap (λ x. map (polygon_text num) (map (λ p. map (map (take (size x))) (rings_of p)) (map polygon_of ys))) (sym (header_back d)))
        (outer_is is_value num d part.MultiPolygon (listed part.MultiPolygon (listed part.Area (listed part.AreaRing (numbers d))) ys) (map (λ rs. listed_text (map (line_text is_value num d) (rings_of (polygon_of rs)))) ys) refl
        (listed_is num (Writes num) (writes_both num) (writes_added num) (PolygonFits is_value d) (listed part.Area (listed part.AreaRing (numbers d))) (λ rs. listed_text (map (line_text is_value num d) (rings_of (polygon_of rs)))) (area_writes is_value num d) part.MultiPolygon (λ w. refl) (λ w. refl) ys g))
    events_write (Value.collection d vs) g = headed_is is_value num d part.Collection (geometries vs) (dimension (header_of d)) (texts num (canons (shapes_of vs))) _ (header_back d) refl (geometries_write vs g)

    -- The members of a collection.
    geometries_write : (vs : Values N) → AreWellFormed is_value vs → Writes num (geometries vs) (space_if_empty (texts num (canons (shapes_of vs))) ++ listed_text (texts num (canons (shapes_of vs))))
    geometries_write Values.no_values g = none_write
    geometries_write (Values.more_values v vs) (g, gs) = some_write v vs (text num (canon (shape_of v))) (texts num (canons (shapes_of vs))) (events_write v g) (members_write vs gs)

    members_write : (vs : Values N) → AreWellFormed is_value vs → Writes num (members vs) (flat_map (λ u. codes "," ++ u) (texts num (canons (shapes_of vs))) ++ codes ")")
    members_write Values.no_values g = λ w. refl
    members_write (Values.more_values v vs) (g, gs) =
        let t : List ℕ = text num (canon (shape_of v)) in
        let ts : List ℕ = flat_map (λ u. codes "," ++ u) (texts num (canons (shapes_of vs))) in
        so num (Writes num) (writes_both num) (writes_added num) (members (Values.more_values v vs)) (codes "," ++ (t ++ (ts ++ codes ")"))) (((codes "," ++ t) ++ ts) ++ codes ")") (sym (append_assoc (codes "," ++ t) ts (codes ")")))
        (one num (Writes num) (writes_both num) (writes_added num) (Event.Comma part.Collection) (events v ++ members vs) (codes ",") (t ++ (ts ++ codes ")")) (λ w. refl)
        (writes_both num (events v) (members vs) t (ts ++ codes ")") (events_write v g) (members_write vs gs)))
