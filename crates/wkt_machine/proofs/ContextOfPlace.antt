-- What the lexemes before a place say of it is what the machine knows there.
use Rattle.std.proofs.Common.{◌≡◌, ◌≢◌, ◌+◌, ◌-◌, ℕ, zero, suc, List, [], ◌∷◌, refl, sym, ap, ◌∙◌, subst, arith, Option, Some, None, Bool, true, false, cond, nat_le}
use Rattle.wkt_num.specs.Bytes.{Lexeme, Open, Close, Comma, Word, Num}
use Rattle.wkt_access.specs.declared.dimensions.Dimension.{Dimension}
use Rattle.wkt_access.specs.declared.dimensions.Dimension.TheVariants.{XY, XYZ, XYM, XYZM}
use Rattle.wkt_types.specs.declared.geometry_type.GeometryType.{GeometryType}
use Rattle.wkt_types.specs.declared.geometry_type.GeometryType.TheVariants as kind
use Rattle.wkt_read.specs.Context.{Context, no_context, or_else, after_word, after_lexeme, context_from, context, number_next, AtPoint, IsTurn}
use Rattle.wkt_read.specs.Grammar.{KindWord, kind_word, dim_word, is_empty_word}
use Rattle.wkt_read.proofs.KindWords.{empty_is, empty_no_dim, empty_no_kind, dim_no_kind}
use Rattle.wkt_machine.specs.declared.step.Action.{Action}
use Rattle.wkt_machine.specs.declared.step.Action.TheVariants as act
use Rattle.wkt_machine.specs.Machine.{start, Move, at, part_of, numbers_after, inside, outside, joined_step, kind_step, dimension_step, number_step, bare_step, comma_step, said, moved, move, run, Place, State}
use Rattle.wkt_machine.specs.Refusing.{number_expected, opening_expected, expected_at, outer_parens}
use Rattle.wkt_machine.specs.Machine as place
use Rattle.wkt_machine.specs.declared.part.Part.{Part}
use Rattle.wkt_machine.specs.declared.part.Part.TheVariants as part
use Rattle.wkt_machine.proofs.WholeRuns.{then_some}

-- The kind whose parentheses a part stands in, or behind whose header.
abbrev pub kind_in : Part → GeometryType
kind_in part.Point = kind.Point
kind_in part.LineString = kind.LineString
kind_in part.Polygon = kind.Polygon
kind_in part.MultiPoint = kind.MultiPoint
kind_in part.MultiLineString = kind.MultiLineString
kind_in part.MultiPolygon = kind.MultiPolygon
kind_in part.Collection = kind.GeometryCollection
kind_in part.Member = kind.MultiPoint
kind_in part.Bare = kind.MultiPoint
kind_in part.Ring = kind.Polygon
kind_in part.Line = kind.MultiLineString
kind_in part.Area = kind.MultiPolygon
kind_in part.AreaRing = kind.MultiPolygon

-- Whether a part stands in parentheses of its geometry.
abbrev pub is_inner : Part → Bool
is_inner p = nat_le 1 (outer_parens p)

-- A part that the machine is at, or behind an item of.
abbrev pub NotBare : Part → Type 0
NotBare part.Bare = ⊥
NotBare p = Unit {0}

abbrev pub HasKind : Context → Type 0
HasKind c = (k : GeometryType) × (c.kind ≡ Some k)

-- The kind and the dimension of a part.
abbrev pub Of : Part → Dimension → Context → Type 0
Of p d c = (c.kind ≡ Some (kind_in p)) × (c.dimension ≡ d)

-- What is known at each place.
abbrev pub Fits : Place → ℕ → Context → Type 0
Fits place.Kind zero c = c.kind ≡ None
Fits place.Kind (suc n) c = HasKind c
Fits (place.Alone p) n c = NotBare p × (is_inner p ≡ false) × Of p XY c × (c.opened ≡ false)
Fits (place.Opening p d) n c = NotBare p × Of p d c × (c.opened ≡ is_inner p) × (c.numbers ≡ 0)
Fits (place.Number p d more) n c = Of p d c × (c.opened ≡ true) × (c.numbers + more ≡ numbers_after d)
Fits (place.Item p d) n c = NotBare p × Of p d c × (c.opened ≡ true)
Fits place.Geometry n c = HasKind c

abbrev pub FitsState : State → Context → Type 0
FitsState s c = Fits s.place s.depth c

-- What is known after a move, if there is one.
abbrev FitsAfter : {N : Type 0} → Option (Move N) → Context → Type 0
FitsAfter None c = Unit {0}
FitsAfter (Some m) c = FitsState m.0 c

inside_fits : (p : Part) (d : Dimension) (n : ℕ) (c : Context) → Of p d c → c.opened ≡ true → c.numbers ≡ 0 → FitsState (inside p d n) c
inside_fits part.Polygon d n c h o z = (tt, h, o, z)
inside_fits part.MultiLineString d n c h o z = (tt, h, o, z)
inside_fits part.MultiPoint d n c h o z = (tt, h, o, z)
inside_fits part.MultiPolygon d n c h o z = (tt, h, o, z)
inside_fits part.Area d n c h o z = (tt, h, o, z)
inside_fits part.Collection d n c h o z = (kind.GeometryCollection, h.0)
inside_fits p d n c h o z = (h, o, omega (arith, z))

outside_fits : (p : Part) (d : Dimension) (n : ℕ) (c : Context) → NotBare p → Of p d c → (is_inner p ≡ true → c.opened ≡ true) → FitsState (outside p d n) c
outside_fits part.Ring d n c b h o = (tt, h, o refl)
outside_fits part.Line d n c b h o = (tt, h, o refl)
outside_fits part.Member d n c b h o = (tt, h, o refl)
outside_fits part.Bare d n c b h o = absurd b
outside_fits part.Area d n c b h o = (tt, h, o refl)
outside_fits part.AreaRing d n c b h o = (tt, h, o refl)
outside_fits p d n c b h o = (kind_in p, h.0)

some_kind : (c : Context) (o : Option KindWord) (d : Option Dimension) → HasKind c → HasKind (after_word c o d)
some_kind c (Some e) d h = (e.kind, refl)
some_kind c None d h = h

-- EMPTY says nothing
empty_word : (c : Context) (w : List ℕ) → is_empty_word w ≡ true → after_lexeme c (Word w) ≡ after_word c None None
empty_word c w e = ap (λ o. after_word c o (dim_word w)) (empty_no_kind w (empty_is w e)) ∙ ap (after_word c None) (empty_no_dim w (empty_is w e))

-- a part behind a header
whole : (k : GeometryType) → NotBare (part_of k) × (is_inner (part_of k) ≡ false) × (kind_in (part_of k) ≡ k)
whole kind.Point = (tt, refl, refl)
whole _ = (tt, refl, refl)

header_fits : (k : GeometryType) (j : Option Dimension) (n : ℕ) → FitsState (joined_step (part_of k) j n).0 (record { kind = Some k; dimension = or_else XY j; opened = false; numbers = 0 })
header_fits k (Some i) n = let (b, outer, same) = whole k in (b, (ap (λ k. Some k) (sym same), refl), sym outer, refl)
header_fits k None n = let (b, outer, same) = whole k in (b, outer, (ap (λ k. Some k) (sym same), refl), refl)

after_first : (d : Dimension) (k : ℕ) → k ≡ 0 → suc k + (numbers_after d - 1) ≡ numbers_after d
after_first XY k z = omega (arith, z)
after_first _ k z = omega (arith, z)

module _ {N : Type 0} (read : List ℕ → Option N) where
  no_fits : (o : Option (Option N)) (c : Context) → FitsAfter (moved read None o) c
  no_fits (Some x) c = tt
  no_fits None c = tt

  kind_fits : (o : Option KindWord) (d : Option Dimension) (c : Context) (n : ℕ) → FitsAfter (moved read (kind_step o n) (Some None)) (after_word c o d)
  kind_fits None d c n = tt
  kind_fits (Some e) d c n = header_fits e.kind e.joined n

  at_kind : (n : ℕ) (c : Context) (l : Lexeme) → FitsAfter (move read (at n place.Kind) l) (after_lexeme c l)
  at_kind n c (Word w) = kind_fits (kind_word w) (dim_word w) c n
  at_kind n c (Num run) = no_fits (said read (read run)) (after_lexeme c (Num run))
  at_kind n c _ = tt

  empty_fits : (b : Bool) (w : List ℕ) (s : State) (a : Action) (c : Context) → is_empty_word w ≡ b → FitsState s (after_word c None None) → FitsAfter (moved read (cond b (Some (s, a)) None) (Some None)) (after_lexeme c (Word w))
  empty_fits true w s a c e h = subst (FitsState s) (sym (empty_word c w e)) h
  empty_fits false w s a c e h = tt

  dimension_fits : (o : Option Dimension) (p : Part) (n : ℕ) (c : Context) (w : List ℕ) → dim_word w ≡ o → Fits (place.Alone p) n c → FitsAfter (moved read (dimension_step o p w n) (Some None)) (after_lexeme c (Word w))
  dimension_fits (Some d) p n c w e (b, outer, of, o) =
      let same : after_lexeme c (Word w) ≡ after_word c None (Some d) = ap (λ k. after_word c k (dim_word w)) (dim_no_kind w d e) ∙ ap (after_word c None) e in
      let fits : Fits (place.Opening p d) n (after_word c None (Some d)) = (b, (of.0, refl), o ∙ sym outer, refl) in
      subst (Fits (place.Opening p d) n) (sym same) fits
  dimension_fits None p n c w e (b, outer, of, o) = empty_fits (is_empty_word w) w (outside p XY n) (act.HeaderEmpty p) c refl (outside_fits p XY n _ b of (λ inner. o ∙ sym outer ∙ inner))

  at_alone : (p : Part) (n : ℕ) (c : Context) → Fits (place.Alone p) n c → (l : Lexeme) → FitsAfter (move read (at n (place.Alone p)) l) (after_lexeme c l)
  at_alone p n c (b, outer, of, o) Open = inside_fits p XY n _ of refl refl
  at_alone p n c h Close = tt
  at_alone p n c h Comma = tt
  at_alone p n c h (Word w) = dimension_fits (dim_word w) p n c w refl h
  at_alone p n c h (Num run) = no_fits (said read (read run)) (after_lexeme c (Num run))

  bare_fits : (p : Part) (d : Dimension) (n : ℕ) (c : Context) (run : List ℕ) (o : Option N) → Fits (place.Opening p d) n c → FitsAfter (moved read (bare_step p d n) (said read o)) (after_lexeme c (Num run))
  bare_fits part.Member d n c run (Some x) (b, of, o, z) = (of, o, after_first d c.numbers z)
  bare_fits part.Member d n c run None h = tt
  bare_fits p d n c run o h = no_fits (said read o) (after_lexeme c (Num run))

  at_opening : (p : Part) (d : Dimension) (n : ℕ) (c : Context) → Fits (place.Opening p d) n c → (l : Lexeme) → FitsAfter (move read (at n (place.Opening p d)) l) (after_lexeme c l)
  at_opening p d n c (b, of, o, z) Open = inside_fits p d n _ of refl refl
  at_opening p d n c h Close = tt
  at_opening p d n c h Comma = tt
  at_opening p d n c (b, of, o, z) (Word w) = empty_fits (is_empty_word w) w (outside p d n) (act.Empty p) c refl (outside_fits p d n _ b of (λ inner. o ∙ inner))
  at_opening p d n c h (Num run) = bare_fits p d n c run (read run) h

  last_fits : (p : Part) (d : Dimension) (n : ℕ) (c : Context) → Of p d c → c.opened ≡ true → FitsState (number_step p d 0 n).0 c
  last_fits part.Bare d n c of o = (tt, of, o)
  last_fits p d n c of o = (tt, of, o)

  next_fits : (o : Option N) (p : Part) (d : Dimension) (more n : ℕ) (c : Context) (run : List ℕ) → Fits (place.Number p d more) n c → FitsAfter (moved read (Some (number_step p d more n)) (said read o)) (after_lexeme c (Num run))
  next_fits None p d more n c run h = tt
  next_fits (Some x) p d zero n c run (of, o, count) = last_fits p d n _ of o
  next_fits (Some x) p d (suc more) n c run (of, o, count) = (of, o, omega (arith, count))

  at_number : (p : Part) (d : Dimension) (more n : ℕ) (c : Context) → Fits (place.Number p d more) n c → (l : Lexeme) → FitsAfter (move read (at n (place.Number p d more)) l) (after_lexeme c l)
  at_number p d more n c h (Num run) = next_fits (read run) p d more n c run h
  at_number p d more n c h _ = tt

  comma_fits : (p : Part) (d : Dimension) (n : ℕ) (c : Context) → Of p d c → c.opened ≡ true → c.numbers ≡ 0 → FitsAfter (moved read (comma_step p d n) (Some None)) c
  comma_fits part.Point d n c of o z = tt
  comma_fits part.Member d n c of o z = tt
  comma_fits p d n c of o z = inside_fits p d n c of o z

  at_item : (p : Part) (d : Dimension) (n : ℕ) (c : Context) → Fits (place.Item p d) n c → (l : Lexeme) → FitsAfter (move read (at n (place.Item p d)) l) (after_lexeme c l)
  at_item p d n c h Open = tt
  at_item p d n c (b, of, o) Close = outside_fits p d n _ b of (λ inner. o)
  at_item p d n c (b, of, o) Comma = comma_fits p d n _ of o refl
  at_item p d n c h (Word w) = tt
  at_item p d n c h (Num run) = no_fits (said read (read run)) (after_lexeme c (Num run))

  at_geometry : (n : ℕ) (c : Context) → HasKind c → (l : Lexeme) → FitsAfter (move read (at n place.Geometry) l) (after_lexeme c l)
  at_geometry (suc n) c h Close = h
  at_geometry (suc n) c h Comma = h
  at_geometry n c h (Num run) = geometry_number n run (after_lexeme c (Num run))
    where
      geometry_number : (n : ℕ) (run : List ℕ) (c : Context) → FitsAfter (move read (at n place.Geometry) (Num run)) c
      geometry_number zero run c = no_fits (said read (read run)) c
      geometry_number (suc n) run c = no_fits (said read (read run)) c
  at_geometry zero c h l = tt
  at_geometry (suc n) c h l = tt

  fits_at : (p : Place) (n : ℕ) (c : Context) → Fits p n c → (l : Lexeme) → FitsAfter (move read (at n p) l) (after_lexeme c l)
  fits_at place.Kind n c h = at_kind n c
  fits_at (place.Alone p) n c h = at_alone p n c h
  fits_at (place.Opening p d) n c h = at_opening p d n c h
  fits_at (place.Number p d more) n c h = at_number p d more n c h
  fits_at (place.Item p d) n c h = at_item p d n c h
  fits_at place.Geometry n c h = at_geometry n c h

  pub fits_next : (s : State) (c : Context) → FitsState s c → (l : Lexeme) (q : Move N) → move read s l ≡ Some q → FitsState q.0 (after_lexeme c l)
  fits_next s c h l q e = subst (λ o. FitsAfter o (after_lexeme c l)) e (fits_at s.place s.depth c h l)

  pub fits_run : (ls : List Lexeme) (s : State) (c : Context) (m : Move N) → FitsState s c → run read s ls ≡ Some m → FitsState m.0 (context_from c ls)
  fits_run [] s c m h e = let same : s ≡ m.0 = cc in subst (λ (t : State). FitsState t c) same h
  fits_run (l ∷ ls) s c m h e =
      let (q, r, moves, runs, split) = then_some read (move read s l) (λ t. run read t ls) m e in
      let same : r.0 ≡ m.0 = sym (ap (λ (m : Move N). m.0) split) in
      subst (λ (t : State). FitsState t (context_from c (l ∷ ls))) same (fits_run ls q.0 (after_lexeme c l) r (fits_next s c h l q moves) runs)

-- Which number comes next, by how many there are after it.
next_is : (d : Dimension) (k more : ℕ) → k + more ≡ numbers_after d → number_next d k ≡ number_expected d more
next_is XY zero more e = let is : 1 ≡ more = omega (arith, e) in ap (number_expected XY) is
next_is XY (suc zero) more e = let is : 0 ≡ more = omega (arith, e) in ap (number_expected XY) is
next_is XY (suc (suc k)) more e = absurd (omega (arith, e))
next_is XYZ zero more e = let is : 2 ≡ more = omega (arith, e) in ap (number_expected XYZ) is
next_is XYZ (suc zero) more e = let is : 1 ≡ more = omega (arith, e) in ap (number_expected XYZ) is
next_is XYZ (suc (suc zero)) more e = let is : 0 ≡ more = omega (arith, e) in ap (number_expected XYZ) is
next_is XYZ (suc (suc (suc k))) more e = absurd (omega (arith, e))
next_is XYM zero more e = let is : 2 ≡ more = omega (arith, e) in ap (number_expected XYM) is
next_is XYM (suc zero) more e = let is : 1 ≡ more = omega (arith, e) in ap (number_expected XYM) is
next_is XYM (suc (suc zero)) more e = let is : 0 ≡ more = omega (arith, e) in ap (number_expected XYM) is
next_is XYM (suc (suc (suc k))) more e = absurd (omega (arith, e))
next_is XYZM zero more e = let is : 3 ≡ more = omega (arith, e) in ap (number_expected XYZM) is
next_is XYZM (suc zero) more e = let is : 2 ≡ more = omega (arith, e) in ap (number_expected XYZM) is
next_is XYZM (suc (suc zero)) more e = let is : 1 ≡ more = omega (arith, e) in ap (number_expected XYZM) is
next_is XYZM (suc (suc (suc zero))) more e = let is : 0 ≡ more = omega (arith, e) in ap (number_expected XYZM) is
next_is XYZM (suc (suc (suc (suc k)))) more e = absurd (omega (arith, e))

same_next : (c : Context) (d : Dimension) (k : ℕ) → c.dimension ≡ d → c.numbers ≡ k → number_next c.dimension c.numbers ≡ number_next d k
same_next c d k ed ek = ap (λ d. number_next d c.numbers) ed ∙ ap (number_next d) ek

next_turn : (c : Context) (d : Dimension) (k : ℕ) → c.dimension ≡ d → c.numbers ≡ k → IsTurn (number_next d k) c
next_turn c d zero ed ek = same_next c d zero ed ek
next_turn c d (suc zero) ed ek = same_next c d (suc zero) ed ek
next_turn c XY (suc (suc zero)) ed ek = same_next c XY (suc (suc zero)) ed ek
next_turn c XYZ (suc (suc zero)) ed ek = same_next c XYZ (suc (suc zero)) ed ek
next_turn c XYM (suc (suc zero)) ed ek = same_next c XYM (suc (suc zero)) ed ek
next_turn c XYZM (suc (suc zero)) ed ek = same_next c XYZM (suc (suc zero)) ed ek
next_turn c XY (suc (suc (suc k))) ed ek = same_next c XY (suc (suc (suc k))) ed ek
next_turn c XYZ (suc (suc (suc k))) ed ek = same_next c XYZ (suc (suc (suc k))) ed ek
next_turn c XYM (suc (suc (suc k))) ed ek = same_next c XYM (suc (suc (suc k))) ed ek
next_turn c XYZM (suc (suc (suc k))) ed ek = same_next c XYZM (suc (suc (suc k))) ed ek

number_turn : (d : Dimension) (more : ℕ) (c : Context) → c.dimension ≡ d → c.numbers + more ≡ numbers_after d → IsTurn (number_expected d more) c
number_turn d more c ed count = subst (λ e. IsTurn e c) (next_is d c.numbers more count) (next_turn c d c.numbers ed refl)

other_kind : (c : Context) (k : GeometryType) → c.kind ≡ Some k → k ≢ kind.MultiPoint → AtPoint c → ⊥
other_kind c k is other (at_point, o) = let same : ◌≡◌ {A = Option GeometryType} (Some k) (Some kind.MultiPoint) = sym is ∙ at_point in other (cc)

opening_turn : (p : Part) (d : Dimension) (n : ℕ) (c : Context) → Fits (place.Opening p d) n c → IsTurn (opening_expected p) c
opening_turn part.Member d n c (b, of, o, z) = (of.0, o)
opening_turn part.MultiPoint d n c (b, of, o, z) = λ (k, opened). let clash : false ≡ true = sym o ∙ opened in cc
opening_turn part.Bare d n c (b, of, o, z) = absurd b
opening_turn part.Point d n c (b, of, o, z) = other_kind c kind.Point of.0 (λ e. cc)
opening_turn part.LineString d n c (b, of, o, z) = other_kind c kind.LineString of.0 (λ e. cc)
opening_turn part.Polygon d n c (b, of, o, z) = other_kind c kind.Polygon of.0 (λ e. cc)
opening_turn part.MultiLineString d n c (b, of, o, z) = other_kind c kind.MultiLineString of.0 (λ e. cc)
opening_turn part.Collection d n c (b, of, o, z) = other_kind c kind.GeometryCollection of.0 (λ e. cc)
opening_turn part.Ring d n c (b, of, o, z) = other_kind c kind.Polygon of.0 (λ e. cc)
opening_turn part.Line d n c (b, of, o, z) = other_kind c kind.MultiLineString of.0 (λ e. cc)
opening_turn _ d n c (b, of, o, z) = other_kind c kind.MultiPolygon of.0 (λ e. cc)

turn_at : (p : Place) (n : ℕ) (c : Context) → Fits p n c → IsTurn (expected_at p n) c
turn_at place.Kind zero c h = h
turn_at place.Kind (suc n) c (k, is) = λ e. let clash : ◌≡◌ {A = Option GeometryType} None (Some k) = sym e ∙ is in cc
turn_at (place.Opening p d) n c h = opening_turn p d n c h
turn_at (place.Number p d more) n c (of, o, count) = number_turn d more c of.1 count
turn_at (place.Item part.Point d) n c h = tt
turn_at _ n c h = tt

-- What is expected where the machine is is the one whose turn it is.
pub turn : {N : Type 0} (read : List ℕ → Option N) (before : List Lexeme) (m : Move N) → run read start before ≡ Some m → IsTurn (expected_at m.0.place m.0.depth) (context before)
turn read before m e = turn_at m.0.place m.0.depth (context before) (fits_run read before start no_context m refl e)
