-- Lines that are UTF-8, up to their line feed.
use Rattle.std.proofs.Common.{◌≡◌, ℕ, zero, suc, ◌+◌, ◌≤◌, Bool, true, false, ◌==◌, if◌then◌else◌, List, [], ◌∷◌, length, drop, refl, sym, ap, ◌∙◌, arith, ◌≢◌, ◌++◌, get_or, inl, inr, ◌⊎◌, subst, length-append, ◌<◌, cond, ◌&&◌, nat_lt, Option, Some, None, codes, IsUtf8, append_assoc}
use Rattle.std.proofs.lemmas.Bool.{cases_lt, eqb-true, ltb-true}
use Rattle.std.proofs.lemmas.List.{length-drop, get_or_past, drop_at}
use Rattle.std.specs.Str.{bytes_eq, str_to_ascii_uppercase}
use Rattle.std.specs.Char.{to_ascii_uppercase}
use Rattle.std.specs.List.{AllByRecursion}
use Rattle.std.proofs.lemmas.Slice.Eq.{bytes_eq-Decides}
use Rattle.std.proofs.lemmas.Str.{IsUtf8-append, IsUtf8-nil, IsUtf8-encode, encode_ascii}
use Rattle.std.proofs.lemmas.Str.Ascii.{uppercase_is}
use Rattle.wkt_events.specs.Remaining.{before_feed, line_of, Legible, class_in, remaining_spanned, TakesOne}
use Rattle.wkt_num.specs.Bytes.{Lexeme, Nul, class_of, Open, Close, Comma, Word, Num, White, Mark, Run, AllWhite}
use Rattle.wkt_read.specs.Spanned.{Spanned}
use Rattle.wkt_read.proofs.Placings.{Stands, stands}
use Rattle.wkt_access.specs.declared.dimensions.Dimension.{Dimension}
use Rattle.wkt_access.specs.declared.dimensions.Dimension.TheVariants.{XYZ, XYM, XYZM}
use Rattle.wkt_access.specs.Values.{Value, Values}
use Rattle.wkt_types.specs.declared.geometry_type.GeometryType.{GeometryType}
use Rattle.wkt_read.specs.Lexemes.{starts_number, without_plus, SpellsLexeme, Takes, AreCharacters}
use Rattle.wkt_read.specs.Grammar.{KindWord, kind_words, entry_in, kind_word, dim_word, DimPart, Header, IsEmptyWord, More, Listed, Perhaps, Numbers, Coord, Ring, Poly, Member, StandFor, Geometries, Further}
use Rattle.wkt_read.specs.Front.{Front}
use Rattle.wkt_read.proofs.HeaderPlaces.{run_or_ascii, characters}

-- What stands before the first line feed.

-- from a place of it on
pub drop-line : (bs : List ℕ) (from : ℕ) → from ≤ length (before_feed bs) → (drop from (before_feed bs) ≡ before_feed (drop from bs)) × (length (before_feed bs) ≡ from + length (before_feed (drop from bs)))
drop-line bs zero h = (refl, omega arith)
drop-line [] (suc from) h = absurd (omega (arith, h))
drop-line (b ∷ bs) (suc from) h = go (b == 10) refl (drop-line bs from)
  where
    go : (t : Bool) → (b == 10) ≡ t
        → (from ≤ length (before_feed bs) → (drop from (before_feed bs) ≡ before_feed (drop from bs)) × (length (before_feed bs) ≡ from + length (before_feed (drop from bs))))
        → (drop (suc from) (before_feed (b ∷ bs)) ≡ before_feed (drop from bs)) × (length (before_feed (b ∷ bs)) ≡ suc from + length (before_feed (drop from bs)))
    go true e rec = let none : length (before_feed (b ∷ bs)) ≡ 0 = ap (λ t. length (if t then [] else b ∷ before_feed bs)) e in absurd (omega (arith, h, none))
    go false e rec =
        let o : before_feed (b ∷ bs) ≡ b ∷ before_feed bs = ap (λ t. if t then [] else b ∷ before_feed bs) e in
        let within : from ≤ length (before_feed bs) = let len = ap length o in omega (arith, h, len) in
        let more = rec within in
        let count = ap length o in let rest = more.1 in
        (ap (drop (suc from)) o ∙ more.0, omega (arith, count, rest))

pub line-within : (bs : List ℕ) → length (before_feed bs) ≤ length bs
line-within [] = omega arith
line-within (b ∷ bs) = let more = line-within bs in elim (b == 10) as (λ t. length (if t then [] else b ∷ before_feed bs) ≤ length (b ∷ bs)) [ true ↦ omega arith | false ↦ omega (arith, more) ]

-- Places in a line that is UTF-8.

-- the first lexeme ends within the bytes
first-within : (at : ℕ) (bytes : List ℕ) (first : Spanned) (later : List Spanned) → Stands at bytes (first ∷ later) → first.end ≤ at + length bytes
first-within at bytes first later (gap, body, after, e, w, s, n, st) =
    let count = ap length e ∙ length-append gap (body ++ after) in let more = length-append body after in omega (arith, n, count, more)

line-length : (feed : Bool) (text : List ℕ) (at : ℕ) → at ≤ length (line_of feed text) → at + length (line_of feed (drop at text)) ≡ length (line_of feed text)
line-length false text at h = let count = length-drop at text in omega (arith, h, count)
line-length true text at h = let d = drop-line text at h in let count = d.1 in omega (arith, count)

-- behind a lexeme
pub legible-one : (feed : Bool) (text : List ℕ) (at : ℕ) (l : Lexeme) (to : ℕ) → TakesOne feed text at l to → Legible feed text at → Legible feed text to
unfolding remaining_spanned
legible-one feed text at l to t h =
    let within = first-within at (line_of feed (drop at text)) (record { lexeme = l; end = to }) (remaining_spanned feed text to) (subst (Stands at (line_of feed (drop at text))) t.next (stands at (line_of feed (drop at text)))) in
    let count = line-length feed text at h.1 in
    (h.0, omega (arith, within, count))

-- the line ends at LF or at a byte that is none
feed-or-end : (bs : List ℕ) → (get_or bs (length (before_feed bs)) 0 ≡ 10) ⊎ (length (before_feed bs) ≡ length bs)
feed-or-end [] = inr refl
feed-or-end (b ∷ bs) = go (b == 10) refl (feed-or-end bs)
  where
    go : (t : Bool) → (b == 10) ≡ t → (get_or bs (length (before_feed bs)) 0 ≡ 10) ⊎ (length (before_feed bs) ≡ length bs)
        → (get_or (b ∷ bs) (length (if t then [] else b ∷ before_feed bs)) 0 ≡ 10) ⊎ (length (if t then [] else b ∷ before_feed bs) ≡ length (b ∷ bs))
    go true e rest = inl (eqb-true b 10 e)
    go false e (inl h) = inl h
    go false e (inr h) = inr (omega (arith, h))

class-end : (feed : Bool) (text : List ℕ) → class_in feed (get_or text (length (line_of feed text)) 0) ≡ Nul
unfolding class_in class_of
class-end false text = ap class_of (get_or_past text (length text) 0 (omega arith))
class-end true text = elim (feed-or-end text) [
  | inl h ↦ ap (class_in true) h
  | inr h ↦ ap (class_in true) (get_or_past text (length (before_feed text)) 0 (omega (arith, h)))
]

pub class-in-line : (feed : Bool) (text : List ℕ) (at : ℕ) → class_in feed (get_or text at 0) ≢ Nul → at ≤ length (line_of feed text) → at + 1 ≤ length (line_of feed text)
class-in-line feed text at other h = elim (cases_lt at (length (line_of feed text))) [
  | inl less ↦ omega (arith, less)
  | inr more ↦ let same : at ≡ length (line_of feed text) = omega (arith, more, h) in absurd (other (ap (λ n. class_in feed (get_or text n 0)) same ∙ class-end feed text))
]

-- A line is UTF-8 if what stands behind its front is.

-- ---- ASCII

abbrev IsLow : ℕ → Type 0
IsLow b = b < 128

one-character : (b : ℕ) → b < 128 → IsUtf8 (b ∷ [])
one-character b h = subst IsUtf8 (encode_ascii b h) (IsUtf8-encode b (grind arith))

low-text : (bs : List ℕ) → AllByRecursion IsLow bs → IsUtf8 bs
low-text [] all = IsUtf8-nil
low-text (b ∷ bs) all = IsUtf8-append (b ∷ []) bs (one-character b all.0) (low-text bs all.1)

upper-low : (b : ℕ) → to_ascii_uppercase b < 128 → b < 128
upper-low b h = elim (cases_lt b 97) [
  | inl low ↦ omega (arith, low)
  | inr high ↦ elim (cases_lt 122 b) [
    | inl over ↦ let e = (uppercase_is b).2 over in omega (arith, e, h)
    | inr within ↦ omega (arith, within)
  ]
]

abbrev all_low : List ℕ → Bool
all_low [] = true
all_low (b ∷ bs) = nat_lt b 128 && all_low bs

both : (x y : Bool) → (x && y) ≡ true → (x ≡ true) × (y ≡ true)
both true y e = (refl, e)
both false y e = cc

low-word : (run : List ℕ) → all_low (str_to_ascii_uppercase run) ≡ true → AllByRecursion IsLow run
low-word [] h = tt
low-word (b ∷ run) h =
    let p = both (nat_lt (to_ascii_uppercase b) 128) (all_low (str_to_ascii_uppercase run)) h in
    (upper-low b (ltb-true (to_ascii_uppercase b) 128 p.0), low-word run p.1)

word-text : (run w : List ℕ) → str_to_ascii_uppercase run ≡ w → all_low w ≡ true → IsUtf8 run
word-text run w e h = low-text run (low-word run (ap all_low e ∙ h))

-- ---- the words that have a meaning

abbrev low_rows : List KindWord → Bool
low_rows [] = true
low_rows (e ∷ es) = all_low e.word && low_rows es

rows-low : low_rows kind_words ≡ true
unfolding kind_words
rows-low = refl

row-low : (es : List KindWord) (w : List ℕ) (e : KindWord) → low_rows es ≡ true → entry_in es w ≡ Some e → all_low w ≡ true
row-low [] w e low h = cc
row-low (f ∷ es) w e low h = let p = both (all_low f.word) (low_rows es) low in go (bytes_eq w f.word) refl h p.0 (λ q. row-low es w e p.1 q)
  where
    go : (b : Bool) → bytes_eq w f.word ≡ b → cond b (Some f) (entry_in es w) ≡ Some e → all_low f.word ≡ true → (entry_in es w ≡ Some e → all_low w ≡ true) → all_low w ≡ true
    go true eb q g rec = ap all_low ((bytes_eq-Decides w f.word).0 eb) ∙ g
    go false eb q g rec = rec q

kind-text : (run : List ℕ) (e : KindWord) → kind_word run ≡ Some e → IsUtf8 run
unfolding kind_word
kind-text run e is = low-text run (low-word run (row-low kind_words (str_to_ascii_uppercase run) e rows-low is))

dim-text : (run : List ℕ) (d : Dimension) → dim_word run ≡ Some d → IsUtf8 run
unfolding dim_word
dim-text run d is = three (bytes_eq (str_to_ascii_uppercase run) (codes "Z")) (bytes_eq (str_to_ascii_uppercase run) (codes "M")) (bytes_eq (str_to_ascii_uppercase run) (codes "ZM")) refl refl refl is
  where
    three : (x y z : Bool) → bytes_eq (str_to_ascii_uppercase run) (codes "Z") ≡ x → bytes_eq (str_to_ascii_uppercase run) (codes "M") ≡ y → bytes_eq (str_to_ascii_uppercase run) (codes "ZM") ≡ z
        → cond x (Some XYZ) (cond y (Some XYM) (cond z (Some XYZM) None)) ≡ Some d → IsUtf8 run
    three true y z e f g h = word-text run (codes "Z") ((bytes_eq-Decides (str_to_ascii_uppercase run) (codes "Z")).0 e) refl
    three false true z e f g h = word-text run (codes "M") ((bytes_eq-Decides (str_to_ascii_uppercase run) (codes "M")).0 f) refl
    three false false true e f g h = word-text run (codes "ZM") ((bytes_eq-Decides (str_to_ascii_uppercase run) (codes "ZM")).0 g) refl
    three false false false e f g h = cc

-- ---- lexemes that are text

abbrev IsTextLexeme : Lexeme → Type 0
IsTextLexeme Open = Unit {0}
IsTextLexeme Close = Unit {0}
IsTextLexeme Comma = Unit {0}
IsTextLexeme (Word run) = IsUtf8 run
IsTextLexeme (Num run) = IsUtf8 run

abbrev AreTexts : List Lexeme → Type 0
AreTexts = AllByRecursion IsTextLexeme

texts-append : (a b : List Lexeme) → AreTexts a → AreTexts b → AreTexts (a ++ b)
texts-append [] b p q = q
texts-append (l ∷ a) b p q = (p.0, texts-append a b p.1 q)

texts-empty : (ls : List Lexeme) → IsEmptyWord ls → AreTexts ls
texts-empty ls (run, e, is) = subst AreTexts (sym e) (word-text run (codes "EMPTY") is refl, tt)

texts-within : (ls body : List Lexeme) → ls ≡ Open ∷ (body ++ Close ∷ []) → AreTexts body → AreTexts ls
texts-within ls body e t = subst AreTexts (sym e) (tt, texts-append body (Close ∷ []) t (tt, tt))

texts-dim : (o : Option Dimension) (d : Dimension) (ls : List Lexeme) → DimPart o d ls → AreTexts ls
texts-dim (Some j) d ls (e, none) = subst AreTexts (sym none) tt
texts-dim None d ls (inl (e, none)) = subst AreTexts (sym none) tt
texts-dim None d ls (inr (run, e, is)) = subst AreTexts (sym e) (dim-text run d is, tt)

texts-header : (k : GeometryType) (d : Dimension) (ls : List Lexeme) → Header k d ls → AreTexts ls
texts-header k d ls (run, e, more, el, is, ek, dp) = subst AreTexts (sym el) (kind-text run e is, texts-dim e.joined d more dp)

module _ {A : Type 0} (P : List Lexeme → A → Type 0) (one : (ls : List Lexeme) (x : A) → P ls x → AreTexts ls) where
  texts-more : (xs : List A) (ls : List Lexeme) → More P ls xs → AreTexts ls
  texts-more [] ls none = subst AreTexts (sym none) tt
  texts-more (x ∷ xs) ls (a, b, e, p, m) = subst AreTexts (sym e) (tt, texts-append a b (one a x p) (texts-more xs b m))

  texts-listed : (xs : List A) (ls : List Lexeme) → Listed P ls xs → AreTexts ls
  texts-listed [] ls h = texts-empty ls h
  texts-listed (x ∷ xs) ls (body, e, (a, b, e', p, m)) = texts-within ls body e (subst AreTexts (sym e') (texts-append a b (one a x p) (texts-more xs b m)))

  texts-perhaps : (o : Option A) (ls : List Lexeme) → Perhaps P ls o → AreTexts ls
  texts-perhaps None ls h = texts-empty ls h
  texts-perhaps (Some x) ls (body, e, p) = texts-within ls body e (one body x p)

module _ {N : Type 0} (read : List ℕ → Option N) (utf8 : (run : List ℕ) (x : N) → read run ≡ Some x → IsUtf8 run) where
  texts-numbers : (xs : List N) (ls : List Lexeme) → Numbers read ls xs → AreTexts ls
  texts-numbers [] ls none = subst AreTexts (sym none) tt
  texts-numbers (x ∷ xs) ls (run, more, e, r, n) = subst AreTexts (sym e) (utf8 run x r, texts-numbers xs more n)

  module _ (d : Dimension) where
    texts-coord : (ls : List Lexeme) (xs : List N) → Coord read d ls xs → AreTexts ls
    texts-coord ls xs (n, l) = texts-numbers xs ls n

    texts-ring : (ls : List Lexeme) (r : List (List N)) → Ring read d ls r → AreTexts ls
    texts-ring ls r h = texts-listed (Coord read d) texts-coord r ls h

    texts-poly : (ls : List Lexeme) (rs : List (List (List N))) → Poly read d ls rs → AreTexts ls
    texts-poly ls rs h = texts-listed (Ring read d) texts-ring rs ls h

    texts-member : (ls : List Lexeme) (m : Option (List N)) → Member read d ls m → AreTexts ls
    texts-member ls None h = texts-empty ls h
    texts-member ls (Some c) (inl h) = texts-coord ls c h
    texts-member ls (Some c) (inr (body, e, h)) = texts-within ls body e (texts-coord body c h)

  headed : (k : GeometryType) (d : Dimension) (ls h b : List Lexeme) → ls ≡ h ++ b → Header k d h → AreTexts b → AreTexts ls
  headed k d ls h b e hd t = subst AreTexts (sym e) (texts-append h b (texts-header k d h hd) t)

  mutual
    texts-geometry : (v : Value N) (ls : List Lexeme) → StandFor read ls v → AreTexts ls
    texts-geometry (Value.point d c) ls (h, b, e, hd, p) = headed _ d ls h b e hd (texts-perhaps (Coord read d) (texts-coord d) c b p)
    texts-geometry (Value.line_string d cs) ls (h, b, e, hd, p) = headed _ d ls h b e hd (texts-listed (Coord read d) (texts-coord d) cs b p)
    texts-geometry (Value.polygon d rs) ls (h, b, e, hd, p) = headed _ d ls h b e hd (texts-listed (Ring read d) (texts-ring d) rs b p)
    texts-geometry (Value.multi_point d ms) ls (h, b, e, hd, p) = headed _ d ls h b e hd (texts-listed (Member read d) (texts-member d) ms b p)
    texts-geometry (Value.multi_line_string d rs) ls (h, b, e, hd, p) = headed _ d ls h b e hd (texts-listed (Ring read d) (texts-ring d) rs b p)
    texts-geometry (Value.multi_polygon d ps) ls (h, b, e, hd, p) = headed _ d ls h b e hd (texts-listed (Poly read d) (texts-poly d) ps b p)
    texts-geometry (Value.collection d vs) ls (h, b, e, hd, p) = headed _ d ls h b e hd (texts-geometries vs b p)

    texts-geometries : (vs : Values N) (ls : List Lexeme) → Geometries read ls vs → AreTexts ls
    texts-geometries Values.no_values ls h = texts-empty ls h
    texts-geometries (Values.more_values v vs) ls (a, b, e, p, m) = texts-within ls (a ++ b) e (texts-append a b (texts-geometry v a p) (texts-further vs b m))

    texts-further : (vs : Values N) (ls : List Lexeme) → Further read ls vs → AreTexts ls
    texts-further Values.no_values ls none = subst AreTexts (sym none) tt
    texts-further (Values.more_values v vs) ls (a, b, e, p, m) = subst AreTexts (sym e) (tt, texts-append a b (texts-geometry v a p) (texts-further vs b m))

-- ---- the bytes of lexemes that are text

gap-text : (gap : List ℕ) → AllWhite gap → IsUtf8 gap
gap-text [] w = IsUtf8-nil
gap-text (b ∷ gap) w = IsUtf8-append (b ∷ []) gap (one-character b (run_or_ascii b (λ z. let q : White ≡ Run = sym w.0 ∙ z in cc))) (gap-text gap w.1)

plus-text : (t : Bool) (b : ℕ) (bs : List ℕ) → (b == 43) ≡ t → IsUtf8 (if t then bs else b ∷ bs) → IsUtf8 (b ∷ bs)
plus-text true b bs e u = IsUtf8-append (b ∷ []) bs (one-character b (let q = eqb-true b 43 e in omega (arith, q))) u
plus-text false b bs e u = u

run-text : (t : Bool) (b : ℕ) (bs : List ℕ) → IsTextLexeme (if t then Num (without_plus (b ∷ bs)) else Word (b ∷ bs)) → IsUtf8 (b ∷ bs)
run-text true b bs u = plus-text (b == 43) b bs refl u
run-text false b bs u = u

body-text : (body after : List ℕ) (l : Lexeme) → SpellsLexeme body after l → IsTextLexeme l → IsUtf8 body
body-text body after l (inl (b, e, h)) t = subst IsUtf8 (sym e) (one-character b (run_or_ascii b (λ z. let q : Mark l ≡ Run = sym h ∙ z in cc)))
body-text [] after l (inr (r, bd, el)) t = IsUtf8-nil
body-text (b ∷ bs) after l (inr (r, bd, el)) t = run-text (starts_number b) b bs (subst IsTextLexeme el t)

taken-text : (ls : List Lexeme) (text rest : List ℕ) → Takes text ls rest → AreTexts ls → IsUtf8 rest → IsUtf8 text
taken-text [] text rest e t u = subst IsUtf8 (sym e) u
taken-text (l ∷ ls) text rest (gap, body, after, e, w, s, more) t u =
    subst IsUtf8 (sym e) (IsUtf8-append gap (body ++ after) (gap-text gap w) (IsUtf8-append body after (body-text body after l s t.0) (taken-text ls after rest more t.1 u)))

characters-rest : (ls : List Lexeme) (text rest : List ℕ) (t : Takes text ls rest) → AreCharacters text ls rest t → IsUtf8 rest
characters-rest [] text rest t c = c
characters-rest (l ∷ ls) text rest (gap, body, after, e, w, s, more) c = characters-rest ls after rest more c.1

-- ---- what stands behind the taken lexemes

-- the bytes of the lexemes and of the white space between them
taken-split : (ls : List Lexeme) (text rest : List ℕ) → Takes text ls rest → (before : List ℕ) × (text ≡ before ++ rest)
taken-split [] text rest e = ([], e)
taken-split (l ∷ ls) text rest (gap, body, after, e, w, s, more) =
    let s' = taken-split ls after rest more in
    (gap ++ (body ++ s'.0), e ∙ ap (λ a. gap ++ (body ++ a)) s'.1 ∙ ap (λ a. gap ++ a) (sym (append_assoc body s'.0 rest)) ∙ sym (append_assoc gap (body ++ s'.0) rest))

behind : (ls : List Lexeme) (text rest : List ℕ) (end : ℕ) → Takes text ls rest → length rest + end ≡ length text → drop end text ≡ rest
behind ls text rest end t e =
    let s = taken-split ls text rest t in
    let count : length s.0 ≡ end = let len = ap length s.1 ∙ length-append s.0 rest in omega (arith, len, e) in
    ap (drop end) s.1 ∙ drop_at s.0 rest end count

-- A line with a front is UTF-8 if and only if what stands behind the front is.
module _ {N : Type 0} (read : List ℕ → Option N) (utf8 : (run : List ℕ) (x : N) → read run ≡ Some x → IsUtf8 run) (text : List ℕ) (v : Value N) (end : ℕ) (front : Front read text v end) where
  pub text-with-front : IsUtf8 (drop end text) → IsUtf8 text
  text-with-front u =
      taken-text front.lexemes text front.rest front.taken (texts-geometry read utf8 v front.lexemes front.reads) (subst IsUtf8 (behind front.lexemes text front.rest end front.taken front.ends) u)

  pub text-behind-front : IsUtf8 text → IsUtf8 (drop end text)
  text-behind-front u =
      subst IsUtf8 (sym (behind front.lexemes text front.rest end front.taken front.ends))
      (characters-rest front.lexemes text front.rest front.taken (characters front.lexemes text front.rest front.taken u))
