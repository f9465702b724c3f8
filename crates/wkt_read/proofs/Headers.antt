-- The header rule agrees with the front.
use Rattle.std.proofs.Common.{◌≡◌, ℕ, ◌≤◌, ◌<◌, List, [], ◌∷◌, ◌++◌, Bool, true, false, cond, not, ◌&&◌, ◌||◌, ◌==◌, nat_eq, nat_le, Option, Some, None, ◌⊎◌, inl, inr, refl, sym, ap, ◌∙◌, append_assoc, append-nil, subst, arith, codes, bytes_eq, eqb-true, IsUtf8}
use Rattle.std.specs.List.{AllByRecursion}
use Rattle.std.specs.Str.{str_to_ascii_uppercase, trim_start}
use Rattle.std.specs.Char.{to_ascii_uppercase, is_whitespace}
use Rattle.wkt_num.specs.Bytes.{Lexeme, Open, Close, Comma, Word, Num, Nul, White, Mark, Run, class_of, AllWhite, IsRun}
use Rattle.wkt_read.specs.Lexemes.{IsBoundary, starts_number, without_plus, lexeme_of, SpellsLexeme, Takes}
use Rattle.wkt_access.specs.declared.dimensions.Dimension.{Dimension}
use Rattle.wkt_access.specs.declared.dimensions.Dimension.TheVariants.{XY, XYZ, XYM, XYZM}
use Rattle.wkt_access.specs.Values.{Value}
use Rattle.wkt_types.specs.declared.geometry_type.GeometryType.{GeometryType}
use Rattle.wkt_types.specs.declared.geometry_type.GeometryType.TheVariants as kind
use Rattle.wkt_read.specs.Header.{kind_of, dim_of, Named, begins, holds, Cut, with_byte, header_cut, has_space, named_in, dim_said, cut_answer, header_rule}
use Rattle.wkt_read.specs.Grammar.{KindWord, entry, with_joined, entry_in, kind_words, kind_word, dim_word, DimPart, Header}
use Rattle.std.proofs.lemmas.Slice.Eq.{bytes_eq-Decides}
use Rattle.std.specs.Str.{chars, encode_utf8_all, skip_leading_whitespace}
use Rattle.std.specs.Char.{encode_utf8}
use Rattle.std.proofs.lemmas.Str.{IsUtf8-past_char, chars_past_char, encodes-chars, encode_ascii}
use Rattle.std.proofs.lemmas.Str.Ascii.{uppercase_is}
use Rattle.std.proofs.lemmas.Bool.Decides.{nat_tests}
use Rattle.wkt_read.specs.Front.{Front}
use Rattle.wkt_read.proofs.OneForm.{BeginsBody, geometry_begins}

-- the letters of a joined dimension
abbrev pub suffix : Option Dimension → List ℕ
suffix None = []
suffix (Some XY) = []
suffix (Some XYZ) = codes "Z"
suffix (Some XYM) = codes "M"
suffix (Some XYZM) = codes "ZM"

-- no suffix of the word goes on to EMPTY after the word
abbrev pub plain : List ℕ → Bool
plain [] = true
plain (a ∷ []) = not (nat_eq 69 a)
plain (a ∷ b ∷ t) = not (nat_eq 69 a && nat_eq 77 b) && plain (b ∷ t)

-- the first byte is a capital
abbrev pub capital_first : List ℕ → Bool
capital_first [] = false
capital_first (a ∷ t) = nat_le 65 a && nat_le a 90

-- what is asked of each kind word
pub record IsKindWord (e : KindWord) : Type 0 where
  pub named : (x : List ℕ) → named_in kind_words (e.word ++ x) ≡ Some (e.kind, suffix e.joined ++ x)
  pub plain_word : plain e.word ≡ true
  pub capital : capital_first e.word ≡ true

-- entries that are all as is asked
pub record KindWords (es : List KindWord) : Type 0 where
  pub all : AllByRecursion IsKindWord es

no_more : KindWords []
no_more = record { all = tt }

and_more : (e : KindWord) {more : List KindWord} → IsKindWord e → KindWords more → KindWords (e ∷ more)
and_more e one rest = record { all = (one, rest.all) }

capital_more : (w x : List ℕ) → capital_first w ≡ true → capital_first (w ++ x) ≡ true
capital_more [] x h = cc
capital_more (a ∷ t) x h = h

module _ (w : List ℕ) (k : GeometryType) (named : (x : List ℕ) → named_in kind_words (w ++ x) ≡ Some (k, x)) (capital : capital_first w ≡ true) where
  joined_is : (j : Dimension) → plain (w ++ suffix (Some j)) ≡ true → IsKindWord (entry (w ++ suffix (Some j)) k (Some j))
  joined_is j p = record {
    named = λ x. ap (named_in kind_words) (append_assoc w (suffix (Some j)) x) ∙ named (suffix (Some j) ++ x);
    plain_word = p;
    capital = capital_more w (suffix (Some j)) capital;
  }

  four_are : {more : List KindWord} → plain w ≡ true → plain (w ++ codes "Z") ≡ true → plain (w ++ codes "M") ≡ true → plain (w ++ codes "ZM") ≡ true → KindWords more → KindWords (with_joined w k ++ more)
  four_are p z m zm rest =
      and_more (entry w k None) (record { named = named; plain_word = p; capital = capital })
      (and_more (entry (w ++ codes "Z") k (Some XYZ)) (joined_is XYZ z)
      (and_more (entry (w ++ codes "M") k (Some XYM)) (joined_is XYM m)
      (and_more (entry (w ++ codes "ZM") k (Some XYZM)) (joined_is XYZM zm) rest)))

pub kind_words_all : KindWords kind_words
unfolding kind_words
kind_words_all =
    four_are (codes "POINT") kind.Point (λ x. refl) refl refl refl refl refl
    (four_are (codes "LINESTRING") kind.LineString (λ x. refl) refl refl refl refl refl
    (and_more (entry (codes "LINEARRING") kind.LineString None) (record { named = λ x. refl; plain_word = refl; capital = refl })
    (four_are (codes "POLYGON") kind.Polygon (λ x. refl) refl refl refl refl refl
    (four_are (codes "MULTIPOINT") kind.MultiPoint (λ x. refl) refl refl refl refl refl
    (four_are (codes "MULTILINESTRING") kind.MultiLineString (λ x. refl) refl refl refl refl refl
    (four_are (codes "MULTIPOLYGON") kind.MultiPolygon (λ x. refl) refl refl refl refl refl
    (four_are (codes "GEOMETRYCOLLECTION") kind.GeometryCollection (λ x. refl) refl refl refl refl refl no_more)))))))

-- an entry that is found is in the table, and its word is the one that was looked up
pub found_is : (es : List KindWord) (w : List ℕ) (e : KindWord) → AllByRecursion IsKindWord es → entry_in es w ≡ Some e → IsKindWord e × (w ≡ e.word)
found_is [] w e all h = cc
found_is (f ∷ es) w e all h = go (bytes_eq w f.word) refl h (λ q. found_is es w e all.1 q)
  where
    go : (b : Bool) → bytes_eq w f.word ≡ b → cond b (Some f) (entry_in es w) ≡ Some e → (entry_in es w ≡ Some e → IsKindWord e × (w ≡ e.word)) → IsKindWord e × (w ≡ e.word)
    go true eb q rec =
        let same : f ≡ e = cc in
        let ew : w ≡ f.word = (bytes_eq-Decides w f.word).0 eb in
        (subst IsKindWord same all.0, ew ∙ ap (λ (x : KindWord). x.word) same)
    go false eb q rec = rec q

pub upper_append : (a b : List ℕ) → str_to_ascii_uppercase (a ++ b) ≡ str_to_ascii_uppercase a ++ str_to_ascii_uppercase b
upper_append [] b = refl
upper_append (x ∷ a) b = ap (λ w. to_ascii_uppercase x ∷ w) (upper_append a b)

-- white space is one of four bytes
pub other_class : (p q r : Bool) → cond p (Mark Open) (cond q (Mark Close) (cond r (Mark Comma) Run)) ≡ White → ⊥
other_class true q r h = cc
other_class false true r h = cc
other_class false false true h = cc
other_class false false false h = cc

pub white_test : (z w p q r : Bool) → cond z Nul (cond w White (cond p (Mark Open) (cond q (Mark Close) (cond r (Mark Comma) Run)))) ≡ White → w ≡ true
white_test true w p q r h = cc
white_test false true p q r h = refl
white_test false false p q r h = absurd (other_class p q r h)

pub one_of_four : (p q r s : Bool) → (p || q || r || s) ≡ true → (p ≡ true) ⊎ (q ≡ true) ⊎ (r ≡ true) ⊎ (s ≡ true)
one_of_four true q r s h = inl refl
one_of_four false true r s h = inr (inl refl)
one_of_four false false true s h = inr (inr (inl refl))
one_of_four false false false true h = inr (inr (inr refl))
one_of_four false false false false h = cc

pub white_elim : (P : ℕ → Type 0) → P 32 → P 10 → P 13 → P 9 → (b : ℕ) → class_of b ≡ White → P b
unfolding class_of
white_elim P p32 p10 p13 p9 b h =
    go (one_of_four (b == 32) (b == 10) (b == 13) (b == 9) (white_test (b == 0) (b == 32 || b == 10 || b == 13 || b == 9) (b == 40) (b == 41) (b == 44) h))
  where
    go : ((b == 32) ≡ true) ⊎ ((b == 10) ≡ true) ⊎ ((b == 13) ≡ true) ⊎ ((b == 9) ≡ true) → P b
    go (inl e) = subst P (sym (eqb-true b 32 e)) p32
    go (inr (inl e)) = subst P (sym (eqb-true b 10 e)) p10
    go (inr (inr (inl e))) = subst P (sym (eqb-true b 13 e)) p13
    go (inr (inr (inr e))) = subst P (sym (eqb-true b 9 e)) p9

-- the header of a text
abbrev pub with_bytes : List ℕ → Option Cut → Option Cut
with_bytes [] o = o
with_bytes (b ∷ bs) o = with_byte b (with_bytes bs o)

pub with_bytes_is : (a : List ℕ) (f : Bool) → with_bytes a (Some (record { header = []; by_empty = f })) ≡ Some (record { header = a; by_empty = f })
with_bytes_is [] f = refl
with_bytes_is (b ∷ a) f = ap (with_byte b) (with_bytes_is a f)

pub with_bytes_append : (a b : List ℕ) (o : Option Cut) → with_bytes (a ++ b) o ≡ with_bytes a (with_bytes b o)
with_bytes_append [] b o = refl
with_bytes_append (x ∷ a) b o = ap (with_byte x) (with_bytes_append a b o)

pub header_white : (t : List ℕ) (b : ℕ) → class_of b ≡ White → header_cut (b ∷ t) ≡ with_byte b (header_cut t)
unfolding header_cut
header_white t = white_elim (λ b. header_cut (b ∷ t) ≡ with_byte b (header_cut t)) refl refl refl refl

pub header_gap : (gap t : List ℕ) → AllWhite gap → header_cut (gap ++ t) ≡ with_bytes gap (header_cut t)
header_gap [] t w = refl
header_gap (b ∷ gap) t w = header_white (gap ++ t) b w.0 ∙ ap (with_byte b) (header_gap gap t w.1)

pub run_not_paren : (b : ℕ) → class_of b ≡ Run → (b == 40) ≡ false
unfolding class_of
run_not_paren b h = go (b == 40) refl
  where
    go : (z : Bool) → (b == 40) ≡ z → z ≡ false
    go true e = let q : class_of 40 ≡ Run = rw (eqb-true b 40 e) at h in cc
    go false e = refl

pub not_and : (a b c : Bool) → not (a && b) ≡ true → (a && (b && c)) ≡ false
not_and true true c h = cc
not_and true false c h = refl
not_and false b c h = refl

pub not_first : (a c : Bool) → not a ≡ true → (a && c) ≡ false
not_first true c h = cc
not_first false c h = refl

pub both_true : (a b : Bool) → (a && b) ≡ true → (a ≡ true) × (b ≡ true)
both_true true true h = (refl, refl)
both_true true false h = cc
both_true false b h = cc

pub header_step : (b : ℕ) (t : List ℕ) → (b == 40) ≡ false → begins (codes "EMPTY") (str_to_ascii_uppercase (b ∷ t)) ≡ false → header_cut (b ∷ t) ≡ with_byte b (header_cut t)
unfolding header_cut
header_step b t p e = rw (p, e) refl

pub header_run : (run x : List ℕ) → AllByRecursion (λ b. class_of b ≡ Run) run → plain (str_to_ascii_uppercase run) ≡ true → header_cut (run ++ x) ≡ with_bytes run (header_cut x)
header_run [] x r p = refl
header_run (a ∷ []) x r p = header_step a x (run_not_paren a r.0) (not_first (nat_eq 69 (to_ascii_uppercase a)) _ p)
header_run (a ∷ b ∷ t) x r p =
    let q = both_true (not (nat_eq 69 (to_ascii_uppercase a) && nat_eq 77 (to_ascii_uppercase b))) (plain (str_to_ascii_uppercase (b ∷ t))) p in
    header_step a ((b ∷ t) ++ x) (run_not_paren a r.0) (not_and (nat_eq 69 (to_ascii_uppercase a)) (nat_eq 77 (to_ascii_uppercase b)) _ q.0)
    ∙ ap (with_byte a) (header_run (b ∷ t) x r.1 q.1)

pub header_paren : (t : List ℕ) → header_cut (40 ∷ t) ≡ Some (record { header = []; by_empty = false })
unfolding header_cut
header_paren t = refl

pub header_empty : (run x : List ℕ) → IsRun run → str_to_ascii_uppercase run ≡ codes "EMPTY" → header_cut (run ++ x) ≡ Some (record { header = []; by_empty = true })
unfolding header_cut
header_empty [] x r u = absurd (r.0 refl)
header_empty (b ∷ bs) x r u =
    let e : str_to_ascii_uppercase (b ∷ (bs ++ x)) ≡ codes "EMPTY" ++ str_to_ascii_uppercase x = upper_append (b ∷ bs) x ∙ ap (λ w. w ++ str_to_ascii_uppercase x) u in
    let f : begins (codes "EMPTY") (str_to_ascii_uppercase (b ∷ (bs ++ x))) ≡ true = ap (begins (codes "EMPTY")) e in
    rw (run_not_paren b r.1.0, f) refl

-- the dimension that the header says
pub said_white : (t : List ℕ) (b : ℕ) → class_of b ≡ White → dim_said (to_ascii_uppercase b ∷ t) ≡ dim_said t
said_white t = white_elim (λ b. dim_said (to_ascii_uppercase b ∷ t) ≡ dim_said t) refl refl refl refl

pub said_gap : (gap t : List ℕ) → AllWhite gap → dim_said (str_to_ascii_uppercase gap ++ t) ≡ dim_said t
said_gap [] t w = refl
said_gap (b ∷ gap) t w = said_white (str_to_ascii_uppercase gap ++ t) b w.0 ∙ said_gap gap t w.1

pub holds_white : (w : List ℕ) → holds w [] ≡ false → ((t : List ℕ) (b : ℕ) → class_of b ≡ White → begins w (to_ascii_uppercase b ∷ t) ≡ false) → (gap : List ℕ) → AllWhite gap → holds w (str_to_ascii_uppercase gap) ≡ false
holds_white w n f [] g = n
holds_white w n f (b ∷ gap) g = rw (f (str_to_ascii_uppercase gap) b g.0) (holds_white w n f gap g.1)

pub holds_zm : (gap : List ℕ) → AllWhite gap → holds (codes "ZM") (str_to_ascii_uppercase gap) ≡ false
holds_zm = holds_white (codes "ZM") refl (λ t. white_elim (λ b. begins (codes "ZM") (to_ascii_uppercase b ∷ t) ≡ false) refl refl refl refl)

pub holds_z : (gap : List ℕ) → AllWhite gap → holds (codes "Z") (str_to_ascii_uppercase gap) ≡ false
holds_z = holds_white (codes "Z") refl (λ t. white_elim (λ b. begins (codes "Z") (to_ascii_uppercase b ∷ t) ≡ false) refl refl refl refl)

pub holds_m : (gap : List ℕ) → AllWhite gap → holds (codes "M") (str_to_ascii_uppercase gap) ≡ false
holds_m = holds_white (codes "M") refl (λ t. white_elim (λ b. begins (codes "M") (to_ascii_uppercase b ∷ t) ≡ false) refl refl refl refl)

pub begins_m : (gap : List ℕ) → AllWhite gap → begins (codes "M") (str_to_ascii_uppercase gap) ≡ false
begins_m [] w = refl
begins_m (b ∷ gap) w = white_elim (λ b. begins (codes "M") (to_ascii_uppercase b ∷ str_to_ascii_uppercase gap) ≡ false) refl refl refl refl b w.0

abbrev pub said_of : Option Dimension → Dimension
said_of None = XY
said_of (Some d) = d

pub dim_said_is : (j : Option Dimension) (gap : List ℕ) → AllWhite gap → dim_said (suffix j ++ str_to_ascii_uppercase gap) ≡ said_of j
dim_said_is None gap w = rw (holds_zm gap w, holds_z gap w, holds_m gap w) refl
dim_said_is (Some XY) gap w = rw (holds_zm gap w, holds_z gap w, holds_m gap w) refl
dim_said_is (Some XYZ) gap w = rw (begins_m gap w, holds_zm gap w) refl
dim_said_is (Some XYM) gap w = rw (holds_zm gap w, holds_z gap w) refl
dim_said_is (Some XYZM) gap w = refl

-- which bytes are which marks
pub open_test : (z w p q r : Bool) → cond z Nul (cond w White (cond p (Mark Open) (cond q (Mark Close) (cond r (Mark Comma) Run)))) ≡ Mark Open → p ≡ true
open_test true w p q r h = cc
open_test false true p q r h = cc
open_test false false true q r h = refl
open_test false false false true r h = cc
open_test false false false false true h = cc
open_test false false false false false h = cc

pub open_byte : (b : ℕ) → class_of b ≡ Mark Open → b ≡ 40
unfolding class_of
open_byte b h = eqb-true b 40 (open_test (b == 0) (b == 32 || b == 10 || b == 13 || b == 9) (b == 40) (b == 41) (b == 44) h)

pub word_test : (run : List ℕ) (z w p q r : Bool) → cond z Nul (cond w White (cond p (Mark Open) (cond q (Mark Close) (cond r (Mark Comma) Run)))) ≡ Mark (Word run) → ⊥
word_test run true w p q r h = cc
word_test run false true p q r h = cc
word_test run false false true q r h = cc
word_test run false false false true r h = cc
word_test run false false false false true h = cc
word_test run false false false false false h = cc

pub no_word_mark : (run : List ℕ) (b : ℕ) → class_of b ≡ Mark (Word run) → ⊥
unfolding class_of
no_word_mark run b h = word_test run (b == 0) (b == 32 || b == 10 || b == 13 || b == 9) (b == 40) (b == 41) (b == 44) h

pub run_not_open : (body : List ℕ) → Open ≡ lexeme_of body → ⊥
run_not_open [] h = cc
run_not_open (b ∷ bs) h = go (starts_number b) h
  where
    go : (c : Bool) → Open ≡ cond c (Num (without_plus (b ∷ bs))) (Word (b ∷ bs)) → ⊥
    go true h = cc
    go false h = cc

pub word_run : (run body : List ℕ) → Word run ≡ lexeme_of body → run ≡ body
word_run run [] h = cc
word_run run (b ∷ bs) h = go (starts_number b) h
  where
    go : (c : Bool) → Word run ≡ cond c (Num (without_plus (b ∷ bs))) (Word (b ∷ bs)) → run ≡ b ∷ bs
    go true h = cc
    go false h = cc

-- a word at the front
pub record FirstWord (text run : List ℕ) (ls : List Lexeme) (rest : List ℕ) : Type 0 where
  pub gap : List ℕ
  pub mid : List ℕ
  pub is : text ≡ gap ++ (run ++ mid)
  pub white : AllWhite gap
  pub a_run : IsRun run
  pub boundary : IsBoundary mid
  pub more : Takes mid ls rest

pub first_word : (text run : List ℕ) (ls : List Lexeme) (rest : List ℕ) → Takes text (Word run ∷ ls) rest → FirstWord text run ls rest
first_word text run ls rest (gap, body, after, e, w, inl (b, eb, h), t) = absurd (no_word_mark run b h)
first_word text run ls rest (gap, body, after, e, w, inr (r, bd, el), t) =
    let same : body ≡ run = sym (word_run run body el) in
    record { gap = gap; mid = after; is = e ∙ ap (λ x. gap ++ (x ++ after)) same; white = w; a_run = subst IsRun same r; boundary = bd; more = t }

-- white space in front of a run, where no run goes on
pub space_first : (b : ℕ) → class_of b ≡ White → (b == 32 || b == 10 || b == 13 || b == 9) ≡ true
space_first = white_elim (λ b. (b == 32 || b == 10 || b == 13 || b == 9) ≡ true) refl refl refl refl

pub gap_space : (gap run x y : List ℕ) → AllWhite gap → IsRun run → IsBoundary (gap ++ (run ++ x)) → has_space (gap ++ y) ≡ true
gap_space [] [] x y w r b = absurd (r.0 refl)
gap_space [] (c ∷ run) x y w r b = absurd (b r.1.0)
gap_space (c ∷ gap) run x y w r b = rw (space_first c w.0) refl

pub space_after : (a b : List ℕ) → has_space b ≡ true → has_space (a ++ b) ≡ true
space_after [] b h = h
space_after (x ∷ a) b h = or_true (x == 32 || x == 10 || x == 13 || x == 9) (has_space (a ++ b)) (space_after a b h)
  where
    or_true : (p q : Bool) → q ≡ true → (p || q) ≡ true
    or_true true q h = refl
    or_true false q h = h

-- where the header ends
pub record Stop (mid : List ℕ) : Type 0 where
  pub gap : List ℕ
  pub white : AllWhite gap
  pub by_empty : Bool
  pub header : header_cut mid ≡ with_bytes gap (Some (record { header = []; by_empty = by_empty }))
  pub spaced : (by_empty ≡ false) ⊎ (has_space gap ≡ true)

pub stop_paren : (mid gap bs after : List ℕ) → mid ≡ gap ++ (bs ++ after) → AllWhite gap → SpellsLexeme bs after Open → Stop mid
stop_paren mid gap bs after e w (inl (b, eb, h)) =
    let eo : bs ≡ 40 ∷ [] = eb ∙ ap (λ x. x ∷ []) (open_byte b h) in
    let em : mid ≡ gap ++ (40 ∷ after) = e ∙ ap (λ x. gap ++ (x ++ after)) eo in
    record { gap = gap; white = w; by_empty = false; header = ap header_cut em ∙ header_gap gap (40 ∷ after) w ∙ ap (with_bytes gap) (header_paren after); spaced = inl refl }
stop_paren mid gap bs after e w (inr (r, bd, el)) = absurd (run_not_open bs el)

pub stop_at : (mid rest : List ℕ) (b : List Lexeme) → BeginsBody b → IsBoundary mid → Takes mid b rest → Stop mid
stop_at mid rest b (inl (body, e)) bd t =
    let t2 : Takes mid (Open ∷ body) rest = subst (λ x. Takes mid x rest) e t in
    stop_paren mid t2.0 t2.1 t2.2 t2.3 t2.4 t2.5
stop_at mid rest b (inr (run, more, e, u)) bd t =
    let f = first_word mid run more rest (subst (λ x. Takes mid x rest) e t) in
    let sp : has_space (f.gap ++ []) ≡ true = gap_space f.gap run f.mid [] f.white f.a_run (subst IsBoundary f.is bd) in
    record {
      gap = f.gap;
      white = f.white;
      by_empty = true;
      header = ap header_cut f.is ∙ header_gap f.gap (run ++ f.mid) f.white ∙ ap (with_bytes f.gap) (header_empty run f.mid f.a_run u);
      spaced = inr (rw (append-nil f.gap) at sp);
    }

-- the header after the kind word
pub record AfterKind (mid : List ℕ) (j : Option Dimension) (d : Dimension) : Type 0 where
  pub bytes : List ℕ
  pub by_empty : Bool
  pub header : header_cut mid ≡ with_bytes bytes (Some (record { header = []; by_empty = by_empty }))
  pub spaced : (by_empty ≡ false) ⊎ (has_space bytes ≡ true)
  pub said : dim_said (suffix j ++ str_to_ascii_uppercase bytes) ≡ d

pub dim_letters : (run : List ℕ) (d : Dimension) → dim_word run ≡ Some d → str_to_ascii_uppercase run ≡ suffix (Some d)
unfolding dim_word
dim_letters run d h = go (bytes_eq w (codes "Z")) (bytes_eq w (codes "M")) (bytes_eq w (codes "ZM")) refl refl refl h
  where
    w : List ℕ
    w = str_to_ascii_uppercase run

    go : (x y z : Bool) → bytes_eq w (codes "Z") ≡ x → bytes_eq w (codes "M") ≡ y → bytes_eq w (codes "ZM") ≡ z → cond x (Some XYZ) (cond y (Some XYM) (cond z (Some XYZM) None)) ≡ Some d → w ≡ suffix (Some d)
    go true y z ex ey ez h = let e : XYZ ≡ d = cc in (bytes_eq-Decides w (codes "Z")).0 ex ∙ ap (λ k. suffix (Some k)) e
    go false true z ex ey ez h = let e : XYM ≡ d = cc in (bytes_eq-Decides w (codes "M")).0 ey ∙ ap (λ k. suffix (Some k)) e
    go false false true ex ey ez h = let e : XYZM ≡ d = cc in (bytes_eq-Decides w (codes "ZM")).0 ez ∙ ap (λ k. suffix (Some k)) e
    go false false false ex ey ez h = cc

pub plain_suffix : (d : Dimension) → plain (suffix (Some d)) ≡ true
plain_suffix XY = refl
plain_suffix _ = refl

pub after_white : (mid : List ℕ) (j : Option Dimension) (d : Dimension) → said_of j ≡ d → Stop mid → AfterKind mid j d
after_white mid j d e s = record { bytes = s.gap; by_empty = s.by_empty; header = s.header; spaced = s.spaced; said = dim_said_is j s.gap s.white ∙ e }

pub after_word : (mid : List ℕ) (d : Dimension) (run : List ℕ) (ls : List Lexeme) (rest : List ℕ) → dim_word run ≡ Some d → IsBoundary mid → (f : FirstWord mid run ls rest) → Stop f.mid → AfterKind mid None d
after_word mid d run ls rest h bd f s =
    let letters = dim_letters run d h in
    let pl : plain (str_to_ascii_uppercase run) ≡ true = ap plain letters ∙ plain_suffix d in
    let o : Option Cut = Some (record { header = []; by_empty = s.by_empty }) in
    let e : header_cut mid ≡ with_bytes f.gap (with_bytes run (with_bytes s.gap o)) =
    ap header_cut f.is ∙ header_gap f.gap (run ++ f.mid) f.white ∙ ap (with_bytes f.gap) (header_run run f.mid f.a_run.1 pl ∙ ap (with_bytes run) s.header) in
    let up : str_to_ascii_uppercase (f.gap ++ (run ++ s.gap)) ≡ str_to_ascii_uppercase f.gap ++ (suffix (Some d) ++ str_to_ascii_uppercase s.gap) =
    upper_append f.gap (run ++ s.gap) ∙ ap (λ w. str_to_ascii_uppercase f.gap ++ w) (upper_append run s.gap ∙ ap (λ w. w ++ str_to_ascii_uppercase s.gap) letters) in
    record {
      bytes = f.gap ++ (run ++ s.gap);
      by_empty = s.by_empty;
      header = e ∙ sym (with_bytes_append f.gap (run ++ s.gap) o ∙ ap (with_bytes f.gap) (with_bytes_append run s.gap o));
      spaced = inr (gap_space f.gap run f.mid (run ++ s.gap) f.white f.a_run (subst IsBoundary f.is bd));
      said = ap dim_said up ∙ said_gap f.gap (suffix (Some d) ++ str_to_ascii_uppercase s.gap) f.white ∙ dim_said_is (Some d) s.gap s.white;
    }

pub past : (mid rest : List ℕ) (j : Option Dimension) (d : Dimension) (more b : List Lexeme) → DimPart j d more → BeginsBody b → IsBoundary mid → Takes mid (more ++ b) rest → AfterKind mid j d
past mid rest (Some j) d more b (ed, em) bb bd t =
    after_white mid (Some j) d (sym ed) (stop_at mid rest b bb bd (subst (λ x. Takes mid (x ++ b) rest) em t))
past mid rest None d more b (inl (ed, em)) bb bd t =
    after_white mid None d (sym ed) (stop_at mid rest b bb bd (subst (λ x. Takes mid (x ++ b) rest) em t))
past mid rest None d more b (inr (run, em, h)) bb bd t =
    let f = first_word mid run b rest (subst (λ x. Takes mid (x ++ b) rest) em t) in
    after_word mid d run b rest h bd f (stop_at f.mid rest b bb f.boundary f.more)

-- the white space at the start
pub skip_white : (t : List ℕ) (b : ℕ) → class_of b ≡ White → IsUtf8 (b ∷ t) → IsUtf8 t × (skip_leading_whitespace (chars (b ∷ t)) ≡ skip_leading_whitespace (chars t))
unfolding encode_utf8
skip_white t = white_elim (λ b. IsUtf8 (b ∷ t) → IsUtf8 t × (skip_leading_whitespace (chars (b ∷ t)) ≡ skip_leading_whitespace (chars t)))
    (λ u. (IsUtf8-past_char (32 ∷ t) t 32 u refl, ap skip_leading_whitespace (chars_past_char (32 ∷ t) t 32 u refl)))
    (λ u. (IsUtf8-past_char (10 ∷ t) t 10 u refl, ap skip_leading_whitespace (chars_past_char (10 ∷ t) t 10 u refl)))
    (λ u. (IsUtf8-past_char (13 ∷ t) t 13 u refl, ap skip_leading_whitespace (chars_past_char (13 ∷ t) t 13 u refl)))
    (λ u. (IsUtf8-past_char (9 ∷ t) t 9 u refl, ap skip_leading_whitespace (chars_past_char (9 ∷ t) t 9 u refl)))

pub skip_gap : (gap t : List ℕ) → AllWhite gap → IsUtf8 (gap ++ t) → IsUtf8 t × (skip_leading_whitespace (chars (gap ++ t)) ≡ skip_leading_whitespace (chars t))
skip_gap [] t w u = (u, refl)
skip_gap (b ∷ gap) t w u =
    let s = skip_white (gap ++ t) b w.0 u in
    let r = skip_gap gap t w.1 s.0 in
    (r.0, s.1 ∙ r.1)

-- a byte whose capital is a letter
pub letter_range : (b : ℕ) → nat_le 65 (to_ascii_uppercase b) ≡ true → nat_le (to_ascii_uppercase b) 90 ≡ true → (65 ≤ b) × (b < 123)
letter_range b p q = grind (arith, nat_tests, uppercase_is b, p, q)

pub letter_not_white : (b : ℕ) → 65 ≤ b → b < 123 → is_whitespace b ≡ false
letter_not_white b p q = grind (arith, nat_tests)

pub trim_letter : (gap t : List ℕ) (b : ℕ) → AllWhite gap → 65 ≤ b → b < 123 → IsUtf8 (gap ++ (b ∷ t)) → trim_start (gap ++ (b ∷ t)) ≡ b ∷ t
unfolding trim_start
trim_letter gap t b w lo hi u =
    let s = skip_gap gap (b ∷ t) w u in
    let c : chars (b ∷ t) ≡ b ∷ chars t = chars_past_char (b ∷ t) t b s.0 (ap (λ x. x ++ t) (sym (encode_ascii b (omega arith)))) in
    let k : skip_leading_whitespace (b ∷ chars t) ≡ b ∷ chars t = ap (λ x. cond x (skip_leading_whitespace (chars t)) (b ∷ chars t)) (letter_not_white b lo hi) in
    ap encode_utf8_all (s.1 ∙ ap skip_leading_whitespace c ∙ k ∙ sym c) ∙ encodes-chars (b ∷ t) s.0

pub trim_run : (gap run mid : List ℕ) → AllWhite gap → capital_first (str_to_ascii_uppercase run) ≡ true → IsUtf8 (gap ++ (run ++ mid)) → trim_start (gap ++ (run ++ mid)) ≡ run ++ mid
trim_run gap [] mid w h u = cc
trim_run gap (b ∷ bs) mid w h u =
    let k = both_true (nat_le 65 (to_ascii_uppercase b)) (nat_le (to_ascii_uppercase b) 90) h in
    let r = letter_range b k.0 k.1 in
    trim_letter gap (bs ++ mid) b w r.0 r.1 u

pub spaced_test : (f s : Bool) → (f ≡ false) ⊎ (s ≡ true) → (f && not s) ≡ false
spaced_test f true h = and_false f
  where
    and_false : (f : Bool) → (f && false) ≡ false
    and_false true = refl
    and_false false = refl
spaced_test f false (inl h) = rw h refl
spaced_test f false (inr h) = cc

pub answer_is : (e : KindWord) (run bytes : List ℕ) (f : Bool) (d : Dimension) → IsKindWord e → str_to_ascii_uppercase run ≡ e.word → (f ≡ false) ⊎ (has_space bytes ≡ true) → dim_said (suffix e.joined ++ str_to_ascii_uppercase bytes) ≡ d → cut_answer (Some (record { header = run ++ bytes; by_empty = f })) ≡ Named e.kind d
answer_is e run bytes f d is ew sp said =
    let up : str_to_ascii_uppercase (run ++ bytes) ≡ e.word ++ str_to_ascii_uppercase bytes = upper_append run bytes ∙ ap (λ w. w ++ str_to_ascii_uppercase bytes) ew in
    let n : named_in kind_words (str_to_ascii_uppercase (run ++ bytes)) ≡ Some (e.kind, suffix e.joined ++ str_to_ascii_uppercase bytes) = ap (named_in kind_words) up ∙ is.named (str_to_ascii_uppercase bytes) in
    let t : (f && not (has_space (run ++ bytes))) ≡ false = spaced_test f (has_space (run ++ bytes)) (after_run sp) in
    rw (t, n, said) refl
  where
    after_run : (f ≡ false) ⊎ (has_space bytes ≡ true) → (f ≡ false) ⊎ (has_space (run ++ bytes) ≡ true)
    after_run (inl h) = inl h
    after_run (inr h) = inr (space_after run bytes h)

pub header_agrees : (text rest : List ℕ) (k : GeometryType) (d : Dimension) (h b : List Lexeme) → IsUtf8 text → Header k d h → BeginsBody b → Takes text (h ++ b) rest → header_rule text ≡ Named k d
unfolding header_rule kind_word
header_agrees text rest k d h b u (run, e, more, eh, ew, ek, dp) bb t =
    let f = first_word text run (more ++ b) rest (subst (λ x. Takes text (x ++ b) rest) eh t) in
    let found = found_is kind_words (str_to_ascii_uppercase run) e kind_words_all.all ew in
    let is = found.0 in
    let bh = past f.mid rest e.joined d more b dp bb f.boundary f.more in
    let cap : capital_first (str_to_ascii_uppercase run) ≡ true = ap capital_first found.1 ∙ is.capital in
    let pl : plain (str_to_ascii_uppercase run) ≡ true = ap plain found.1 ∙ is.plain_word in
    let tr : trim_start text ≡ run ++ f.mid = ap trim_start f.is ∙ trim_run f.gap run f.mid f.white cap (subst IsUtf8 f.is u) in
    let o : Option Cut = Some (record { header = []; by_empty = bh.by_empty }) in
    let hd : header_cut (trim_start text) ≡ Some (record { header = run ++ bh.bytes; by_empty = bh.by_empty }) =
    ap header_cut tr ∙ header_run run f.mid f.a_run.1 pl ∙ ap (with_bytes run) bh.header ∙ sym (with_bytes_append run bh.bytes o) ∙ with_bytes_is (run ++ bh.bytes) bh.by_empty in
    ap cut_answer hd ∙ answer_is e run bh.bytes bh.by_empty d is found.1 bh.spaced bh.said ∙ ap (λ x. Named x d) ek

pub front_header : {N : Type 0} (read : List ℕ → Option N) (text : List ℕ) (v : Value N) (end : ℕ) → IsUtf8 text → Front read text v end → header_rule text ≡ Named (kind_of v) (dim_of v)
front_header read text v end u f =
    let (h, b, e, hh, bb) = geometry_begins read f.lexemes v f.reads in
    header_agrees text f.rest (kind_of v) (dim_of v) h b u hh bb (subst (λ x. Takes text x f.rest) e f.taken)
