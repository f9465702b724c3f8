-- Kind words, alone and with the letters of a dimension, and the words EMPTY, Z, M and ZM.
use Rattle.std.proofs.Common.{◌≡◌, ℕ, zero, suc, List, [], ◌∷◌, ◌++◌, length, drop, refl, sym, ap, ◌∙◌, subst, Bool, true, false, cond, ◌&&◌, ◌==◌, nat_eq, Option, Some, None, codes, eqb-true, eq-eqb, arith, inl, inr, take, get_or, length-append, ◌-◌, ◌+◌, ◌<◌, ◌≤◌, nat_le, append_assoc, append-nil}
use Rattle.std.specs.Prelude.{◌⊎◌}
use Rattle.std.specs.List.{AllByRecursion}
use Rattle.std.specs.Char.{to_ascii_uppercase}
use Rattle.std.proofs.lemmas.Bool.{cases_lt, ne_eqb, lt-leb, leb-true}
use Rattle.std.proofs.lemmas.List.{take-map, drop-map, take-append-drop, length-take-le}
use Rattle.std.proofs.Math.Seq.{take-append-add}
use Rattle.std.proofs.lemmas.Str.Ascii.{uppercase_is}
use Rattle.std.specs.Str.{bytes_eq, str_to_ascii_uppercase}
use Rattle.std.proofs.lemmas.Slice.Eq.{bytes_eq-Decides}
use Rattle.wkt_access.specs.declared.dimensions.Dimension.{Dimension}
use Rattle.wkt_access.specs.declared.dimensions.Dimension.TheVariants.{XYZ, XYM, XYZM}
use Rattle.wkt_types.specs.declared.geometry_type.GeometryType.{GeometryType}
use Rattle.wkt_read.specs.Grammar.{KindWord, kind_words, entry, with_joined, entry_in, dim_in, kind_word, dim_word, is_empty_word}
use Rattle.wkt_read.specs.Header.{begins, named_in}
use Rattle.wkt_read.specs.Stream.{Names, IsCapital, BeginsWith}
use Rattle.wkt_read.specs.Lexemes.{starts_number}
use Rattle.wkt_num.specs.Bytes.{AllRun}
use Rattle.wkt_read.proofs.Placings.{late-run}
use Rattle.wkt_read.proofs.HeaderPlaces.{upper-length}
use Rattle.wkt_types.specs.declared.geometry_type.GeometryType.TheVariants as kind

-- A kind word is one that stands alone and the letters of a dimension or none after it.

-- what a kind and the letters after its word say
abbrev pub joined : GeometryType → Option Dimension → Option (GeometryType × Option Dimension)
joined k None = None
joined k (Some d) = Some (k, Some d)

abbrev pub said : Bool → GeometryType → List ℕ → Option (GeometryType × Option Dimension)
said ring k r = cond (bytes_eq r []) (Some (k, None)) (cond ring None (joined k (dim_in r)))

not-both : false ≡ true → ⊥
not-both h = cc

not-begun : (w s u : List ℕ) → begins w u ≡ false → bytes_eq u (w ++ s) ≡ false
not-begun [] s u e = cc
not-begun (a ∷ w) s [] e = refl
not-begun (a ∷ w) s (b ∷ u) e = go (nat_eq a b) (nat_eq b a) refl refl e (not-begun w s u)
  where
    go : (x y : Bool) → nat_eq a b ≡ x → nat_eq b a ≡ y → x && begins w u ≡ false → (begins w u ≡ false → bytes_eq u (w ++ s) ≡ false) → y && bytes_eq u (w ++ s) ≡ false
    go x false f g h ih = refl
    go true true f g h ih = ih h
    go false true f g h ih = absurd (not-both (sym f ∙ eq-eqb a b (sym (eqb-true b a g))))

not-word : (w u : List ℕ) → begins w u ≡ false → bytes_eq u w ≡ false
not-word w u e = subst (λ v. bytes_eq u v ≡ false) (append-nil w) (not-begun w [] u e)

both : (x y : Bool) → x && y ≡ true → (x ≡ true) × (y ≡ true)
both true y e = (refl, e)
both false y e = cc

begun : (w u : List ℕ) → begins w u ≡ true → u ≡ w ++ drop (length w) u
begun [] u e = refl
begun (a ∷ w) [] e = cc
begun (a ∷ w) (b ∷ u) e =
    let p = both (nat_eq a b) (begins w u) e in
    ap (λ x. x ∷ u) (sym (eqb-true a b p.0)) ∙ ap (λ l. a ∷ l) (begun w u p.1)

four : (b z m zm : Bool) (k : GeometryType) (e f g h : KindWord) → e.kind ≡ k → e.joined ≡ None → f.kind ≡ k → f.joined ≡ Some XYZ → g.kind ≡ k → g.joined ≡ Some XYM → h.kind ≡ k → h.joined ≡ Some XYZM
    → Names (cond b (Some (k, None)) (joined k (cond z (Some XYZ) (cond m (Some XYM) (cond zm (Some XYZM) None))))) (cond b (Some e) (cond z (Some f) (cond m (Some g) (cond zm (Some h) None))))
four true z m zm k e f g h p q r s t u v w = (e, refl, p, q)
four false true m zm k e f g h p q r s t u v w = (f, refl, r, s)
four false false true zm k e f g h p q r s t u v w = (g, refl, t, u)
four false false false true k e f g h p q r s t u v w = (h, refl, v, w)
four false false false false k e f g h p q r s t u v w = refl

one : (b : Bool) (k : GeometryType) (e : KindWord) → e.kind ≡ k → e.joined ≡ None → Names (cond b (Some (k, None)) None) (cond b (Some e) None)
one true k e p q = (e, refl, p, q)
one false k e p q = refl

-- a word of the table, and what is after it
abbrev Says : GeometryType → List ℕ → List ℕ → Type 0
Says k r u = Names (said (begins (codes "LINEARRING") u) k r) (entry_in kind_words u)

-- the word of a kind
abbrev pub kind_text : GeometryType → List ℕ
kind_text kind.Point = codes "POINT"
kind_text kind.LineString = codes "LINESTRING"
kind_text kind.Polygon = codes "POLYGON"
kind_text kind.MultiPoint = codes "MULTIPOINT"
kind_text kind.MultiLineString = codes "MULTILINESTRING"
kind_text kind.MultiPolygon = codes "MULTIPOLYGON"
kind_text kind.GeometryCollection = codes "GEOMETRYCOLLECTION"

-- Something is known of each kind word of rows: a header that begins with one begins with what is known, and one that begins with none isn't in them.
abbrev Begun : (GeometryType → List ℕ → Type 0) → GeometryType → List ℕ → List ℕ → Type 0
Begun P k r u = (w : List ℕ) × (u ≡ w ++ r) × P k w

record Known (P : GeometryType → List ℕ → Type 0) (u : List ℕ) (es : List KindWord) : Type 0 where
  some : (k : GeometryType) (r : List ℕ) → named_in es u ≡ Some (k, r) → Begun P k r u
  none : named_in es u ≡ None → entry_in es u ≡ None

module _ (P : GeometryType → List ℕ → Type 0) (u : List ℕ) where
  known-none : Known P u []
  known-none = record { some = λ k r e. cc; none = λ e. refl }

  -- the first word, or a later one
  found : (w : List ℕ) (j k : GeometryType) (r : List ℕ) (o : Option (GeometryType × List ℕ)) → P j w → (o ≡ Some (k, r) → Begun P k r u) → (b : Bool) → begins w u ≡ b → cond b (Some (j, drop (length w) u)) o ≡ Some (k, r) → Begun P k r u
  found w j k r o p later true f h =
      let same : ◌≡◌ {A = GeometryType × List ℕ} (j, drop (length w) u) (k, r) = cc in
      (w, begun w u f ∙ ap (λ l. w ++ l) (ap (λ q. q.1) same), subst (λ k. P k w) (ap (λ q. q.0) same) p)
  found w j k r o p later false f h = later h

  -- neither is there
  passed : (w : List ℕ) (x : GeometryType × List ℕ) (o : Option (GeometryType × List ℕ)) → cond (begins w u) (Some x) o ≡ None → (begins w u ≡ false) × (o ≡ None)
  passed w x o e = go (begins w u) e
    where
      go : (b : Bool) → cond b (Some x) o ≡ None → (b ≡ false) × (o ≡ None)
      go true h = cc
      go false h = (refl, h)

  known-one : (w : List ℕ) (k : GeometryType) {more : List KindWord} → P k w → Known P u more → Known P u (entry w k None ∷ more)
  known-one w k p later = record {
    some = λ j r e. found w k j r _ p (later.some j r) (begins w u) refl e;
    none = λ e. let (other, rest) = passed w _ _ e in rw (not-word w u other) (later.none rest);
  }

  known-four : (w : List ℕ) (k : GeometryType) {more : List KindWord} → P k w → Known P u more → Known P u (with_joined w k ++ more)
  known-four w k p later = record {
    some = λ j r e. found w k j r _ p (later.some j r) (begins w u) refl e;
    none = λ e. let (other, rest) = passed w _ _ e in rw (not-word w u other, not-begun w (codes "Z") u other, not-begun w (codes "M") u other, not-begun w (codes "ZM") u other) (later.none rest);
  }

  by-word : ((k : GeometryType) → P k (kind_text k)) → P kind.LineString (codes "LINEARRING") → Known P u kind_words
  unfolding kind_words
  by-word each ring =
      known-four (codes "POINT") kind.Point (each kind.Point)
      (known-four (codes "LINESTRING") kind.LineString (each kind.LineString)
      (known-one (codes "LINEARRING") kind.LineString ring
      (known-four (codes "POLYGON") kind.Polygon (each kind.Polygon)
      (known-four (codes "MULTIPOINT") kind.MultiPoint (each kind.MultiPoint)
      (known-four (codes "MULTILINESTRING") kind.MultiLineString (each kind.MultiLineString)
      (known-four (codes "MULTIPOLYGON") kind.MultiPolygon (each kind.MultiPolygon)
      (known-four (codes "GEOMETRYCOLLECTION") kind.GeometryCollection (each kind.GeometryCollection) known-none)))))))

each-says : (k : GeometryType) (r : List ℕ) → Says k r (kind_text k ++ r)
unfolding kind_words
each-says kind.Point r = four (bytes_eq r []) (bytes_eq r (codes "Z")) (bytes_eq r (codes "M")) (bytes_eq r (codes "ZM")) kind.Point _ _ _ _ refl refl refl refl refl refl refl refl
each-says k r = four (bytes_eq r []) (bytes_eq r (codes "Z")) (bytes_eq r (codes "M")) (bytes_eq r (codes "ZM")) k _ _ _ _ refl refl refl refl refl refl refl refl

ring-says : (r : List ℕ) → Says kind.LineString r (codes "LINEARRING" ++ r)
unfolding kind_words
ring-says r = one (bytes_eq r []) kind.LineString _ refl refl

-- the header's word and the letters after it are what the table says of the whole word
pub some-named : (u : List ℕ) (k : GeometryType) (r : List ℕ) → named_in kind_words u ≡ Some (k, r) → Says k r u
some-named u k r e =
    let b = (by-word (λ k w. (r : List ℕ) → Says k r (w ++ r)) u each-says ring-says).some k r e in
    subst (Says k r) (sym b.1) (b.2 r)

-- a header that begins with no word is none
pub none-named : (u : List ℕ) → named_in kind_words u ≡ None → entry_in kind_words u ≡ None
none-named u e = (by-word (λ k w. Unit {0}) u (λ k. tt) tt).none e

pub alone : (u : List ℕ) (k : GeometryType) (r : List ℕ) → named_in kind_words u ≡ Some (k, r) → r ≡ [] → Names (Some (k, None)) (entry_in kind_words u)
alone u k r e none = subst (λ s. Names s (entry_in kind_words u)) (ap (λ l. said (begins (codes "LINEARRING") u) k l) none) (some-named u k r e)

pub after : (ring : Bool) (u : List ℕ) (k : GeometryType) (r : List ℕ) → named_in kind_words u ≡ Some (k, r) → (r ≡ [] → ⊥) → begins (codes "LINEARRING") u ≡ ring → Names (cond ring None (joined k (dim_in r))) (entry_in kind_words u)
after ring u k [] e more is = absurd (more refl)
after ring u k (c ∷ r) e more is = subst (λ b. Names (said b k (c ∷ r)) (entry_in kind_words u)) is (some-named u k (c ∷ r) e)

pub no-letters : (l : List ℕ) → (length l == 0) ≡ true → str_to_ascii_uppercase l ≡ []
no-letters [] e = refl
no-letters (c ∷ l) e = absurd (omega (arith, eqb-true (length (c ∷ l)) 0 e))

pub some-letters : (l : List ℕ) → (length l == 0) ≡ false → str_to_ascii_uppercase l ≡ [] → ⊥
some-letters [] e h = not-both (sym e)
some-letters (c ∷ l) e h = cc

-- The words EMPTY, Z, M and ZM are four, and none of them is a kind word.

-- the word EMPTY, by its test
pub empty_is : (w : List ℕ) → is_empty_word w ≡ true → str_to_ascii_uppercase w ≡ codes "EMPTY"
unfolding is_empty_word
empty_is w e = (bytes_eq-Decides (str_to_ascii_uppercase w) (codes "EMPTY")).0 e

pub is_empty : (w : List ℕ) → str_to_ascii_uppercase w ≡ codes "EMPTY" → is_empty_word w ≡ true
unfolding is_empty_word
is_empty w e = (bytes_eq-Decides (str_to_ascii_uppercase w) (codes "EMPTY")).1 e

pub empty_no_dim : (w : List ℕ) → str_to_ascii_uppercase w ≡ codes "EMPTY" → dim_word w ≡ None
unfolding dim_word
empty_no_dim w e = ap dim_in e

pub empty_no_kind : (w : List ℕ) → str_to_ascii_uppercase w ≡ codes "EMPTY" → kind_word w ≡ None
unfolding kind_word kind_words
empty_no_kind w e = ap (entry_in kind_words) e

z_no_kind : (w : List ℕ) → str_to_ascii_uppercase w ≡ codes "Z" → kind_word w ≡ None
unfolding kind_word kind_words
z_no_kind w e = ap (entry_in kind_words) e

m_no_kind : (w : List ℕ) → str_to_ascii_uppercase w ≡ codes "M" → kind_word w ≡ None
unfolding kind_word kind_words
m_no_kind w e = ap (entry_in kind_words) e

zm_no_kind : (w : List ℕ) → str_to_ascii_uppercase w ≡ codes "ZM" → kind_word w ≡ None
unfolding kind_word kind_words
zm_no_kind w e = ap (entry_in kind_words) e

some_dim : (w : List ℕ) (d : Dimension) (z m zm : Bool) → bytes_eq (str_to_ascii_uppercase w) (codes "Z") ≡ z → bytes_eq (str_to_ascii_uppercase w) (codes "M") ≡ m → bytes_eq (str_to_ascii_uppercase w) (codes "ZM") ≡ zm
    → cond z (Some XYZ) (cond m (Some XYM) (cond zm (Some XYZM) None)) ≡ Some d → kind_word w ≡ None
some_dim w d true m zm ez em ezm e = z_no_kind w ((bytes_eq-Decides (str_to_ascii_uppercase w) (codes "Z")).0 ez)
some_dim w d false true zm ez em ezm e = m_no_kind w ((bytes_eq-Decides (str_to_ascii_uppercase w) (codes "M")).0 em)
some_dim w d false false true ez em ezm e = zm_no_kind w ((bytes_eq-Decides (str_to_ascii_uppercase w) (codes "ZM")).0 ezm)
some_dim w d false false false ez em ezm e = let never : ⊥ = cc in absurd never

pub dim_no_kind : (w : List ℕ) (d : Dimension) → dim_word w ≡ Some d → kind_word w ≡ None
unfolding dim_word
dim_no_kind w d e = some_dim w d (bytes_eq (str_to_ascii_uppercase w) (codes "Z")) (bytes_eq (str_to_ascii_uppercase w) (codes "M")) (bytes_eq (str_to_ascii_uppercase w) (codes "ZM")) refl refl refl e

-- The word of a kind that bytes begin with, and the letters of a dimension behind it.

-- A word of the table, with no dimension joined to it.
abbrev pub IsAlone : GeometryType → List ℕ → Type 0
IsAlone k w = ((x : List ℕ) → named_in kind_words (w ++ x) ≡ Some (k, x)) × AllByRecursion IsCapital w × (0 < length w) × ((x y : List ℕ) → begins (codes "LINEARRING") (w ++ x) ≡ begins (codes "LINEARRING") (w ++ y))

abbrev are-capitals : List ℕ → Bool
are-capitals [] = true
are-capitals (c ∷ w) = nat_le 65 c && (nat_le c 90 && are-capitals w)

capitals : (w : List ℕ) → are-capitals w ≡ true → AllByRecursion IsCapital w
capitals [] e = tt
capitals (c ∷ w) e =
    let (low, rest) = both (nat_le 65 c) (nat_le c 90 && are-capitals w) e in
    let (high, more) = both (nat_le c 90) (are-capitals w) rest in
    ((leb-true 65 c low, leb-true c 90 high), capitals w more)

each-alone : (k : GeometryType) → IsAlone k (kind_text k)
unfolding kind_words
each-alone kind.Point = ((λ x. refl), capitals (codes "POINT") refl, omega arith, λ x y. refl)
each-alone k = ((λ x. refl), capitals (kind_text k) refl, omega arith, λ x y. refl)

ring-alone : IsAlone kind.LineString (codes "LINEARRING")
unfolding kind_words
ring-alone = ((λ x. refl), capitals (codes "LINEARRING") refl, omega arith, λ x y. refl)

front-word : (u : List ℕ) (k : GeometryType) (r : List ℕ) → named_in kind_words u ≡ Some (k, r) → Begun IsAlone k r u
front-word u = (by-word IsAlone u each-alone ring-alone).some

-- the letters of a dimension are capitals
dim-capitals : (v : List ℕ) (d : Dimension) → dim_in v ≡ Some d → AllByRecursion IsCapital v × (0 < length v)
dim-capitals v d e = go (bytes_eq v (codes "Z")) (bytes_eq v (codes "M")) (bytes_eq v (codes "ZM")) refl refl refl e
  where
    go : (z m zm : Bool) → bytes_eq v (codes "Z") ≡ z → bytes_eq v (codes "M") ≡ m → bytes_eq v (codes "ZM") ≡ zm → cond z (Some XYZ) (cond m (Some XYM) (cond zm (Some XYZM) None)) ≡ Some d
        → AllByRecursion IsCapital v × (0 < length v)
    go true m zm ez em ezm h = subst (λ v. AllByRecursion IsCapital v × (0 < length v)) (sym ((bytes_eq-Decides v (codes "Z")).0 ez)) (((omega arith, omega arith), tt), omega arith)
    go false true zm ez em ezm h = subst (λ v. AllByRecursion IsCapital v × (0 < length v)) (sym ((bytes_eq-Decides v (codes "M")).0 em)) (((omega arith, omega arith), tt), omega arith)
    go false false true ez em ezm h = subst (λ v. AllByRecursion IsCapital v × (0 < length v)) (sym ((bytes_eq-Decides v (codes "ZM")).0 ezm)) (((omega arith, omega arith), ((omega arith, omega arith), tt)), omega arith)
    go false false false ez em ezm h = let never : ⊥ = cc in absurd never

-- no dimension begins with a byte that isn't a letter
pub unlettered : (l : List ℕ) (i : ℕ) → 0 < i → get_or l 0 0 < 65 → dim_word (take i l) ≡ None
unfolding dim_word
unlettered [] (suc i) some low = refl
unlettered (b ∷ l) (suc i) some low =
    let same : to_ascii_uppercase b ≡ b = (uppercase_is b).1 (omega (arith, low)) in
    rw (same, ne_eqb b 90 (λ e. omega (arith, e, low)), ne_eqb b 77 (λ e. omega (arith, e, low))) refl
unlettered l zero some low = absurd (omega (arith, some))

-- a letter is of a run, and no number begins with it
capital-late : (b : ℕ) → IsCapital (to_ascii_uppercase b) → 57 < b
capital-late b h = elim (cases_lt b 97) [
  | inl low ↦ let same = (uppercase_is b).1 low in omega (arith, same, h.0)
  | inr high ↦ omega (arith, high)
]

capitals-run : (w : List ℕ) → AllByRecursion IsCapital (str_to_ascii_uppercase w) → AllRun w
capitals-run [] h = tt
capitals-run (b ∷ w) h = (late-run b (let late = capital-late b h.0 in omega (arith, late)), capitals-run w h.1)

never-both : (x : Bool) → x && false ≡ false
never-both true = refl
never-both false = refl

capitals-word : (w : List ℕ) → AllByRecursion IsCapital (str_to_ascii_uppercase w) → starts_number (get_or w 0 0) ≡ false
capitals-word [] h = refl
capitals-word (b ∷ w) h = let late = capital-late b h.0 in rw (lt-leb b 57 late, never-both (nat_le 48 b), ne_eqb b 46 (λ e. omega (arith, e, late)), ne_eqb b 45 (λ e. omega (arith, e, late)), ne_eqb b 43 (λ e. omega (arith, e, late))) refl

-- the word of a dimension, and EMPTY, are runs that are no numbers
abbrev pub IsWord : List ℕ → Type 0
IsWord w = AllRun w × (starts_number (get_or w 0 0) ≡ false) × (0 < length w)

pub dim-is-word : (w : List ℕ) (d : Dimension) → dim_word w ≡ Some d → IsWord w
unfolding dim_word
dim-is-word w d e =
    let letters = dim-capitals (str_to_ascii_uppercase w) d e in
    let long = upper-length w in
    let some = letters.1 in
    (capitals-run w letters.0, capitals-word w letters.0, omega (arith, long, some))

pub empty-is-word : (w : List ℕ) → is_empty_word w ≡ true → IsWord w
empty-is-word w e =
    let is = empty_is w e in
    let letters : AllByRecursion IsCapital (str_to_ascii_uppercase w) = subst (AllByRecursion IsCapital) (sym is) ((omega arith, omega arith), ((omega arith, omega arith), ((omega arith, omega arith), ((omega arith, omega arith), ((omega arith, omega arith), tt))))) in
    let long = upper-length w in
    let five = ap length is in
    (capitals-run w letters, capitals-word w letters, omega (arith, long, five))

all-capitals : (v w : List ℕ) → AllByRecursion IsCapital v → AllByRecursion IsCapital w → AllByRecursion IsCapital (v ++ w)
all-capitals [] w h k = k
all-capitals (b ∷ v) w h k = (h.0, all-capitals v w h.1 k)

begins-more : (w u v : List ℕ) → begins w u ≡ true → begins w (u ++ v) ≡ true
begins-more [] u v e = refl
begins-more (a ∷ w) [] v e = cc
begins-more (a ∷ w) (b ∷ u) v e = let p = both (nat_eq a b) (begins w u) e in ap (λ x. x && begins w (u ++ v)) p.0 ∙ begins-more w u v p.1

module _ (text rest : List ℕ) (k : GeometryType) (e : named_in kind_words (str_to_ascii_uppercase text) ≡ Some (k, str_to_ascii_uppercase rest)) where
  front : Begun IsAlone k (str_to_ascii_uppercase rest) (str_to_ascii_uppercase text)
  front = front-word (str_to_ascii_uppercase text) k (str_to_ascii_uppercase rest) e

  front-long : length text ≡ length front.0 + length rest
  front-long = sym (upper-length text) ∙ ap length front.1 ∙ length-append front.0 (str_to_ascii_uppercase rest) ∙ ap (λ n. length front.0 + n) (upper-length rest)

  pub front-shorter : length rest ≤ length text
  front-shorter = let long = front-long in omega (arith, long)

  -- the word, and as many letters more
  front-upper : (j : ℕ) → str_to_ascii_uppercase (take (length text - length rest + j) text) ≡ front.0 ++ str_to_ascii_uppercase (take j rest)
  front-upper j =
      let long = front-long in
      let n : length text - length rest + j ≡ length front.0 + j = omega (arith, long) in
      sym (take-map to_ascii_uppercase (length text - length rest + j) text) ∙ ap (λ u. take (length text - length rest + j) u) front.1 ∙ ap (λ m. take m (front.0 ++ str_to_ascii_uppercase rest)) n
      ∙ take-append-add front.0 (str_to_ascii_uppercase rest) j ∙ ap (λ u. front.0 ++ u) (take-map to_ascii_uppercase j rest)

  -- the word comes next, whatever is said of the letters behind it
  stands : (j : ℕ) (d : Option Dimension) → j ≤ length rest → AllByRecursion IsCapital (str_to_ascii_uppercase (take j rest)) → Names (Some (k, d)) (kind_word (take (length text - length rest + j) text)) → BeginsWith text k d (length text - length rest + j)
  stands j d within capitals names =
      let long = front-long in
      let some = front.2.2 in
      let all : AllByRecursion IsCapital (str_to_ascii_uppercase (take (length text - length rest + j) text)) = subst (AllByRecursion IsCapital) (sym (front-upper j)) (all-capitals front.0 (str_to_ascii_uppercase (take j rest)) front.2.1 capitals) in
      record {
        inside = omega (arith, long, within);
        some = omega (arith, long, some);
        names = names;
        letters = capitals-run (take (length text - length rest + j) text) all;
        begins = capitals-word (take (length text - length rest + j) text) all;
      }

  pub front-alone : BeginsWith text k None (length text - length rest)
  unfolding kind_word
  front-alone =
      let none : length text - length rest + 0 ≡ length text - length rest = omega arith in
      subst (BeginsWith text k None) none
      (stands 0 None (omega arith) tt (subst (λ u. Names (Some (k, None)) (entry_in kind_words u)) (sym (front-upper 0)) (alone (front.0 ++ []) k [] (front.2.0 []) refl)))

  pub front-joined : (j : ℕ) (d : Dimension) → j ≤ length rest → dim_word (take j rest) ≡ Some d → begins (codes "LINEARRING") (str_to_ascii_uppercase text) ≡ false → BeginsWith text k (Some d) (length text - length rest + j)
  unfolding kind_word dim_word
  front-joined j d within says other =
      let v = str_to_ascii_uppercase (take j rest) in
      let letters = dim-capitals v d says in
      let some = letters.1 in
      let ring : begins (codes "LINEARRING") (front.0 ++ v) ≡ false = by_test (begins (codes "LINEARRING") (front.0 ++ v)) refl in
      let names : Names (cond false None (joined k (dim_in v))) (entry_in kind_words (front.0 ++ v)) = after false (front.0 ++ v) k v (front.2.0 v) (λ none. let short = ap length none in omega (arith, some, short)) ring in
      stands j (Some d) within letters.0 (subst (λ u. Names (Some (k, Some d)) (entry_in kind_words u)) (sym (front-upper j)) (subst (λ o. Names (joined k o) (entry_in kind_words (front.0 ++ v))) says names))
    where
      v : List ℕ
      v = str_to_ascii_uppercase (take j rest)

      whole : str_to_ascii_uppercase text ≡ (front.0 ++ v) ++ str_to_ascii_uppercase (drop j rest)
      whole = front.1 ∙ ap (λ u. front.0 ++ u) (sym (take-append-drop j (str_to_ascii_uppercase rest)) ∙ ap (λ x. x ++ drop j (str_to_ascii_uppercase rest)) (take-map to_ascii_uppercase j rest) ∙ ap (λ x. v ++ x) (drop-map to_ascii_uppercase j rest))
          ∙ sym (append_assoc front.0 v (str_to_ascii_uppercase (drop j rest)))

      by_test : (b : Bool) → begins (codes "LINEARRING") (front.0 ++ v) ≡ b → begins (codes "LINEARRING") (front.0 ++ v) ≡ false
      by_test false h = h
      by_test true h = absurd (not-both (sym other ∙ ap (begins (codes "LINEARRING")) whole ∙ begins-more (codes "LINEARRING") (front.0 ++ v) (str_to_ascii_uppercase (drop j rest)) h))

  -- no longer word comes next, where no dimension goes on with more letters, or none is joined to the word
  pub front-longest : (at : ℕ) → length text - length rest ≤ at → ((i : ℕ) → at - (length text - length rest) < i → i ≤ length rest → (begins (codes "LINEARRING") (str_to_ascii_uppercase text) ≡ true) ⊎ (dim_word (take i rest) ≡ None))
      → (j : ℕ) → at < j → j ≤ length text → kind_word (take j text) ≡ None
  unfolding kind_word dim_word
  front-longest at from none j more within =
      let long = front-long in
      let i : ℕ = j - (length text - length rest) in
      let n : length text - length rest + i ≡ j = omega (arith, more, from) in
      let v : List ℕ = str_to_ascii_uppercase (take i rest) in
      let some : v ≡ [] → ⊥ = λ is. (let short = sym (upper-length (take i rest)) ∙ ap length is in let full = length-take-le i rest (omega (arith, within, long)) in omega (arith, short, full, more, from)) in
      let upper : str_to_ascii_uppercase (take j text) ≡ front.0 ++ v = ap (λ m. str_to_ascii_uppercase (take m text)) (sym n) ∙ front-upper i in
      ap (entry_in kind_words) upper ∙ elim (none i (omega (arith, more, from)) (omega (arith, within, long))) [
        | inl ring ↦ after true (front.0 ++ v) k v (front.2.0 v) some (front.2.3 v (str_to_ascii_uppercase rest) ∙ ap (begins (codes "LINEARRING")) (sym front.1) ∙ ring)
        | inr says ↦ other v some says (begins (codes "LINEARRING") (front.0 ++ v)) refl
      ]
    where
      other : (v : List ℕ) → (v ≡ [] → ⊥) → dim_in v ≡ None → (b : Bool) → begins (codes "LINEARRING") (front.0 ++ v) ≡ b → entry_in kind_words (front.0 ++ v) ≡ None
      other v some says true ring = after true (front.0 ++ v) k v (front.2.0 v) some ring
      other v some says false ring = subst (λ o. Names (joined k o) (entry_in kind_words (front.0 ++ v))) says (after false (front.0 ++ v) k v (front.2.0 v) some ring)
