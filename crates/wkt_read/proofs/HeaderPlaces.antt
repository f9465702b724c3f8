-- Words at a place of a text, and the header up to there; a run never splits a character, nor does a front.
use Rattle.std.proofs.Common.{◌≡◌, ℕ, zero, suc, ◌+◌, ◌≤◌, ◌<◌, List, [], ◌∷◌, length, take, drop, get_or, Bool, true, false, cond, ◌&&◌, ◌||◌, ◌==◌, nat_eq, Some, None, refl, sym, ap, ◌∙◌, arith, codes, add-one, eqb-true, eq-eqb, ◌-◌, ◌≢◌, ◌++◌, ◌⊎◌, inl, inr, append-nil, subst, IsUtf8, length-append, IsCharBoundary, Option}
use Rattle.std.specs.Prelude.{slice_range}
use Rattle.std.proofs.lemmas.Bool.Decides.{nat_tests}
use Rattle.std.proofs.lemmas.List.{take_rest, drop-map, length-map}
use Rattle.std.proofs.Math.Seq.{drop-cons, drop-length, take-suc, take-append_seam, drop-append_seam, get_or-append_seam}
use Rattle.std.specs.Str.{str_to_ascii_uppercase, bytes_eq}
use Rattle.std.specs.Char.{to_ascii_uppercase}
use Rattle.std.specs.List.{AllByRecursion}
use Rattle.std.proofs.lemmas.Str.Ascii.{uppercase_is}
use Rattle.std.proofs.lemmas.Slice.Eq.{bytes_eq-Decides}
use Rattle.std.proofs.lemmas.Str.{IsUtf8-past_char, IsUtf8-take, IsUtf8-drop, encode_ascii, IsUtf8-nil, IsUtf8-encode, IsCharBoundary-at_seam}
use Rattle.wkt_read.specs.Stream.{IsCapital}
use Rattle.wkt_read.specs.Header.{begins, holds, has_space, with_byte, header_cut}
use Rattle.wkt_read.proofs.Headers.{with_bytes, with_bytes_is, with_bytes_append, one_of_four}
use Rattle.wkt_read.specs.Grammar.{is_empty_word, Header, StandFor}
use Rattle.wkt_num.specs.Bytes.{Lexeme, Open, Close, Comma, Nul, White, Mark, Run, class_of, AllWhite}
use Rattle.wkt_read.specs.Lexemes.{IsBoundary, SpellsLexeme, Takes, AreCharacters}
use Rattle.wkt_access.specs.declared.dimensions.Dimension.{Dimension}
use Rattle.wkt_access.specs.Values.{Value}
use Rattle.wkt_types.specs.declared.geometry_type.GeometryType.{GeometryType}
use Rattle.wkt_read.specs.Spanned.{Spanned, lexemes_of, end_after, AreEnds}
use Rattle.wkt_read.specs.Front.{Front}
use Rattle.wkt_read.proofs.Splits.{prefix}
use Rattle.wkt_read.proofs.OneForm.{geometry_body}

-- Words at a place of a text, and the header up to there.

pub upper_at : (text : List ℕ) (i : ℕ) → i < length text → str_to_ascii_uppercase (drop i text) ≡ to_ascii_uppercase (get_or text i 0) ∷ str_to_ascii_uppercase (drop (i + 1) text)
upper_at text i h = ap str_to_ascii_uppercase (drop-cons text i 0 h) ∙ ap (λ j. to_ascii_uppercase (get_or text i 0) ∷ str_to_ascii_uppercase (drop j text)) (sym (add-one i))

pub holds_at : (word text : List ℕ) (i : ℕ) → i < length text → holds word (str_to_ascii_uppercase (drop i text)) ≡ (begins word (str_to_ascii_uppercase (drop i text)) || holds word (str_to_ascii_uppercase (drop (i + 1) text)))
holds_at word text i h = ap (holds word) (upper_at text i h) ∙ ap (λ w. begins word w || holds word (str_to_ascii_uppercase (drop (i + 1) text))) (sym (upper_at text i h))

-- the header of a text, some of whose first bytes are in it
pub with_bytes_none : (a : List ℕ) → with_bytes a None ≡ None
with_bytes_none [] = refl
with_bytes_none (b ∷ a) = ap (with_byte b) (with_bytes_none a)

pub header_at : (text : List ℕ) (i : ℕ) → i < length text → header_cut (drop i text) ≡ cond (get_or text i 0 == 40) (Some (record { header = []; by_empty = false })) (cond (begins (codes "EMPTY") (str_to_ascii_uppercase (drop i text))) (Some (record { header = []; by_empty = true })) (with_byte (get_or text i 0) (header_cut (drop (i + 1) text))))
unfolding header_cut
header_at text i h =
    ap header_cut (drop-cons text i 0 h)
    ∙ ap (λ j. cond (get_or text i 0 == 40) (Some (record { header = []; by_empty = false })) (cond (begins (codes "EMPTY") (str_to_ascii_uppercase (get_or text i 0 ∷ drop (suc i) text))) (Some (record { header = []; by_empty = true })) (with_byte (get_or text i 0) (header_cut (drop j text))))) (sym (add-one i))
    ∙ ap (λ l. cond (get_or text i 0 == 40) (Some (record { header = []; by_empty = false })) (cond (begins (codes "EMPTY") (str_to_ascii_uppercase l)) (Some (record { header = []; by_empty = true })) (with_byte (get_or text i 0) (header_cut (drop (i + 1) text))))) (sym (drop-cons text i 0 h))

pub header_step : (text : List ℕ) (i : ℕ) → i < length text → (get_or text i 0 == 40) ≡ false → begins (codes "EMPTY") (str_to_ascii_uppercase (drop i text)) ≡ false → with_bytes (take i text) (header_cut (drop i text)) ≡ with_bytes (take (i + 1) text) (header_cut (drop (i + 1) text))
header_step text i h shut word =
    ap (with_bytes (take i text)) (header_at text i h ∙ ap (λ b. cond b (Some (record { header = []; by_empty = false })) (cond (begins (codes "EMPTY") (str_to_ascii_uppercase (drop i text))) (Some (record { header = []; by_empty = true })) (with_byte (get_or text i 0) (header_cut (drop (i + 1) text))))) shut ∙ ap (λ b. cond b (Some (record { header = []; by_empty = true })) (with_byte (get_or text i 0) (header_cut (drop (i + 1) text)))) word)
    ∙ sym (with_bytes_append (take i text) (get_or text i 0 ∷ []) (header_cut (drop (i + 1) text)))
    ∙ ap (λ l. with_bytes l (header_cut (drop (i + 1) text))) (sym (take-suc text i 0 h) ∙ ap (λ j. take j text) (sym (add-one i)))

pub header_paren : (text : List ℕ) (i : ℕ) → i < length text → (get_or text i 0 == 40) ≡ true → with_bytes (take i text) (header_cut (drop i text)) ≡ Some (record { header = take i text; by_empty = false })
header_paren text i h paren = ap (with_bytes (take i text)) (header_at text i h ∙ ap (λ b. cond b (Some (record { header = []; by_empty = false })) (cond (begins (codes "EMPTY") (str_to_ascii_uppercase (drop i text))) (Some (record { header = []; by_empty = true })) (with_byte (get_or text i 0) (header_cut (drop (i + 1) text))))) paren) ∙ with_bytes_is (take i text) false

pub header_empty : (text : List ℕ) (i : ℕ) → i < length text → (get_or text i 0 == 40) ≡ false → begins (codes "EMPTY") (str_to_ascii_uppercase (drop i text)) ≡ true → with_bytes (take i text) (header_cut (drop i text)) ≡ Some (record { header = take i text; by_empty = true })
header_empty text i h shut word = ap (with_bytes (take i text)) (header_at text i h ∙ ap (λ b. cond b (Some (record { header = []; by_empty = false })) (cond (begins (codes "EMPTY") (str_to_ascii_uppercase (drop i text))) (Some (record { header = []; by_empty = true })) (with_byte (get_or text i 0) (header_cut (drop (i + 1) text))))) shut ∙ ap (λ b. cond b (Some (record { header = []; by_empty = true })) (with_byte (get_or text i 0) (header_cut (drop (i + 1) text)))) word) ∙ with_bytes_is (take i text) true

pub header_none : (text : List ℕ) (i : ℕ) → i ≡ length text → with_bytes (take i text) (header_cut (drop i text)) ≡ None
unfolding header_cut
header_none text i e = ap (λ l. with_bytes (take i text) (header_cut l)) (ap (λ j. drop j text) e ∙ drop-length text) ∙ with_bytes_none (take i text)

-- the letter E is ASCII
upper_ascii : (b : ℕ) → to_ascii_uppercase b ≡ 69 → b < 128
upper_ascii b e = grind (arith, nat_tests)

first_true : (a b : Bool) → (a && b) ≡ true → a ≡ true
first_true true b e = refl
first_true false b e = cc

pub empty_ascii : (text : List ℕ) (i : ℕ) → i < length text → begins (codes "EMPTY") (str_to_ascii_uppercase (drop i text)) ≡ true → get_or text i 0 < 128
empty_ascii text i h e =
    let f : nat_eq 69 (to_ascii_uppercase (get_or text i 0)) ≡ true = first_true _ _ (ap (begins (codes "EMPTY")) (sym (upper_at text i h)) ∙ e) in
    upper_ascii (get_or text i 0) (sym (eqb-true 69 (to_ascii_uppercase (get_or text i 0)) f))

-- the same tests, as a slice of the text shows them
pub rest_text : (text : List ℕ) (i : ℕ) → str_to_ascii_uppercase (take (length text - i) (drop i text)) ≡ str_to_ascii_uppercase (drop i text)
rest_text text i = ap str_to_ascii_uppercase (take_rest text i)

pub not_test : (a b : ℕ) → (a ≡ b → ⊥) → (a == b) ≡ false
not_test a b h = by_test (a == b) refl
  where
    by_test : (r : Bool) → (a == b) ≡ r → (a == b) ≡ false
    by_test true e = absurd (h (eqb-true a b e))
    by_test false e = e

pub is_test : (a b : ℕ) → a ≡ b → (a == b) ≡ true
is_test a b e = eq-eqb a b e

pub holds_next : (word text : List ℕ) (i : ℕ) → i < length text → begins word (str_to_ascii_uppercase (take (length text - i) (drop i text))) ≡ false → holds word (str_to_ascii_uppercase (drop i text)) ≡ holds word (str_to_ascii_uppercase (drop (i + 1) text))
holds_next word text i h other = holds_at word text i h ∙ ap (λ b. b || holds word (str_to_ascii_uppercase (drop (i + 1) text))) (ap (begins word) (sym (rest_text text i)) ∙ other)

-- a word that begins the text is no longer than it
pub begins_long : (word text : List ℕ) → begins word text ≡ true → length word ≤ length text
begins_long [] text e = omega arith
begins_long (a ∷ word) [] e = cc
begins_long (a ∷ word) (b ∷ text) e = let h = begins_long word text (second (nat_eq a b) (begins word text) e) in omega (arith, h)
  where
    second : (x y : Bool) → (x && y) ≡ true → y ≡ true
    second true y e = e
    second false y e = cc

pub upper_long : (word text : List ℕ) → begins word (str_to_ascii_uppercase text) ≡ true → length word ≤ length text
upper_long word text e = let h = begins_long word (str_to_ascii_uppercase text) e in omega (arith, h, length-map {A = ℕ} {B = ℕ} text)

pub upper_short : (word text : List ℕ) → length text < length word → begins word (str_to_ascii_uppercase text) ≡ false
upper_short word text h = by_test (begins word (str_to_ascii_uppercase text)) refl
  where
    by_test : (r : Bool) → begins word (str_to_ascii_uppercase text) ≡ r → begins word (str_to_ascii_uppercase text) ≡ false
    by_test true e = let k = upper_long word text e in absurd (omega (arith, k, h))
    by_test false e = e

pub upper_rest : (text : List ℕ) (i : ℕ) → drop i (str_to_ascii_uppercase text) ≡ str_to_ascii_uppercase (take (length text - i) (drop i text))
upper_rest text i = drop-map to_ascii_uppercase i text ∙ sym (rest_text text i)

pub range_take : (text : List ℕ) (n : ℕ) → slice_range text 0 n ≡ take n text
range_take text n = let e : n - 0 ≡ n = omega arith in ap (λ m. take m text) e

-- A run is a word where it begins with it and is as long.

swap : (a b : ℕ) → nat_eq a b ≡ nat_eq b a
swap a b = grind (arith, nat_tests)

one-length : (word run : List ℕ) → length run ≡ length word → begins word run ≡ bytes_eq run word
one-length [] [] h = refl
one-length [] (b ∷ run) h = cc
one-length (a ∷ word) [] h = cc
one-length (a ∷ word) (b ∷ run) h = ap (λ s. s && begins word run) (swap a b) ∙ ap (λ s. nat_eq b a && s) (one-length word run (omega (arith, h)))

other-length : (word run : List ℕ) → (length run ≡ length word → ⊥) → bytes_eq run word ≡ false
other-length word run h = by_test (bytes_eq run word) refl
  where
    by_test : (s : Bool) → bytes_eq run word ≡ s → bytes_eq run word ≡ false
    by_test true e = absurd (h (ap length ((bytes_eq-Decides run word).0 e)))
    by_test false e = e

pub upper-length : (run : List ℕ) → length (str_to_ascii_uppercase run) ≡ length run
upper-length run = length-map run to_ascii_uppercase

pub empty-word : (run : List ℕ) → length run ≡ 5 → begins (codes "EMPTY") (str_to_ascii_uppercase run) ≡ is_empty_word run
unfolding is_empty_word
empty-word run h = one-length (codes "EMPTY") (str_to_ascii_uppercase run) (upper-length run ∙ h)

pub not-empty-word : (run : List ℕ) → (length run ≡ 5 → ⊥) → (length run == 5) ≡ is_empty_word run
unfolding is_empty_word
not-empty-word run h = not_test (length run) 5 h ∙ sym (other-length (codes "EMPTY") (str_to_ascii_uppercase run) (λ e. h (sym (upper-length run) ∙ e)))

-- A run never splits a character.

-- a byte past ASCII is a byte of a run
pub run_or_ascii : (b : ℕ) → class_of b ≢ Run → b < 128
unfolding class_of
run_or_ascii b h = go (b == 0) (b == 32 || b == 10 || b == 13 || b == 9) (b == 40) (b == 41) (b == 44) refl refl refl refl refl h
  where
    white : ((b == 32) ≡ true) ⊎ ((b == 10) ≡ true) ⊎ ((b == 13) ≡ true) ⊎ ((b == 9) ≡ true) → b < 128
    white (inl e) = let q : b ≡ 32 = eqb-true b 32 e in omega arith
    white (inr (inl e)) = let q : b ≡ 10 = eqb-true b 10 e in omega arith
    white (inr (inr (inl e))) = let q : b ≡ 13 = eqb-true b 13 e in omega arith
    white (inr (inr (inr e))) = let q : b ≡ 9 = eqb-true b 9 e in omega arith

    go : (z w p q r : Bool) → (b == 0) ≡ z → (b == 32 || b == 10 || b == 13 || b == 9) ≡ w → (b == 40) ≡ p → (b == 41) ≡ q → (b == 44) ≡ r → cond z Nul (cond w White (cond p (Mark Open) (cond q (Mark Close) (cond r (Mark Comma) Run)))) ≢ Run → b < 128
    go true w p q r ez ew ep eq er h = let e : b ≡ 0 = eqb-true b 0 ez in omega arith
    go false true p q r ez ew ep eq er h = white (one_of_four (b == 32) (b == 10) (b == 13) (b == 9) ew)
    go false false true q r ez ew ep eq er h = let e : b ≡ 40 = eqb-true b 40 ep in omega arith
    go false false false true r ez ew ep eq er h = let e : b ≡ 41 = eqb-true b 41 eq in omega arith
    go false false false false true ez ew ep eq er h = let e : b ≡ 44 = eqb-true b 44 er in omega arith
    go false false false false false ez ew ep eq er h = absurd (h refl)

-- a byte of ASCII is a character
pub past_ascii : (b : ℕ) (t : List ℕ) → b < 128 → IsUtf8 (b ∷ t) → IsUtf8 t
past_ascii b t h u = IsUtf8-past_char (b ∷ t) t b u (ap (λ x. x ++ t) (sym (encode_ascii b h)))

pub past_gap : (gap t : List ℕ) → AllWhite gap → IsUtf8 (gap ++ t) → IsUtf8 t
past_gap [] t w u = u
past_gap (b ∷ gap) t w u =
    past_gap gap t w.1 (past_ascii b (gap ++ t) (run_or_ascii b (λ z. let q : White ≡ Run = sym w.0 ∙ z in cc)) u)

pub seam : (a b : List ℕ) → IsBoundary b → IsUtf8 (a ++ b) → IsUtf8 a × IsUtf8 b
seam a [] bd u = (rw (append-nil a) at u, IsUtf8-nil)
seam a (x ∷ b) bd u =
    let h : x < 128 = run_or_ascii x bd in
    let first : get_or (a ++ (x ∷ b)) (length a) 0 ≡ x = get_or-append_seam a x b 0 in
    let cut : IsCharBoundary (a ++ (x ∷ b)) (length a) = (omega (arith, length-append a (x ∷ b)), λ p q. absurd (omega arith)) in
    (rw (take-append_seam a (x ∷ b)) at (IsUtf8-take (a ++ (x ∷ b)) (length a) u cut), rw (drop-append_seam a (x ∷ b)) at (IsUtf8-drop (a ++ (x ∷ b)) (length a) u cut))

pub body_characters : (body after : List ℕ) (l : Lexeme) → SpellsLexeme body after l → IsUtf8 (body ++ after) → IsUtf8 body × IsUtf8 after
body_characters body after l (inl (b, e, h)) u =
    let lt : b < 128 = run_or_ascii b (λ z. let q : Mark l ≡ Run = sym h ∙ z in cc) in
    let u2 : IsUtf8 (b ∷ after) = subst (λ x. IsUtf8 (x ++ after)) e u in
    (subst IsUtf8 (sym e) (subst IsUtf8 (encode_ascii b lt) (IsUtf8-encode b (grind arith))), past_ascii b after lt u2)
body_characters body after l (inr (r, bd, el)) u = seam body after bd u

pub characters : (ls : List Lexeme) (text rest : List ℕ) (t : Takes text ls rest) → IsUtf8 text → AreCharacters text ls rest t
characters [] text rest t u = subst IsUtf8 t u
characters (l ∷ ls) text rest (gap, body, after, e, w, s, more) u =
    let b = body_characters body after l s (past_gap gap (body ++ after) w (subst IsUtf8 e u)) in
    (b.0, characters ls after rest more b.1)

-- Where a front ends in its text.

pub header_long : (k : GeometryType) (d : Dimension) (h : List Lexeme) → Header k d h → 0 < length h
header_long k d h (run, e, more, eh, is, ek, dp) = omega (arith, ap length eh)

long : (bs : List ℕ) → (bs ≡ [] → ⊥) → 0 < length bs
long [] some = absurd (some refl)
long (b ∷ bs) some = omega arith

rest-characters : (ls : List Lexeme) (text rest : List ℕ) (t : Takes text ls rest) → AreCharacters text ls rest t → IsUtf8 rest
rest-characters [] text rest t u = u
rest-characters (l ∷ ls) text rest (gap, body, after, e, w, s, more) u = rest-characters ls after rest more u.1

module _ {N : Type 0} (read : List ℕ → Option N) where
  -- no geometry stands for no lexeme
  pub geometry-some : (f : List Lexeme) (v : Value N) → StandFor read f v → f ≡ [] → ⊥
  geometry-some f v g e =
      let (h, b, split, header, body) = geometry_body read f v g in
      let far : 0 < length h = header_long _ _ h header in
      absurd (omega (arith, far, ap length (sym e ∙ split), length-append h b))

  pub front-some : (text : List ℕ) (v : Value N) (end : ℕ) → Front read text v end → 0 < end
  front-some text v end f =
      let p = prefix f.lexemes text f.rest f.taken in
      let some : 0 < length p.bytes = long p.bytes (λ e. geometry-some f.lexemes v f.reads (p.empty_only e)) in
      let ends = f.ends in
      omega (arith, some, ends, ap length p.is, length-append p.bytes f.rest)

  pub front-within : (text : List ℕ) (v : Value N) (end : ℕ) → Front read text v end → end ≤ length text
  front-within text v end f = let ends = f.ends in omega (arith, ends)

  pub front-boundary : (text : List ℕ) (v : Value N) (end : ℕ) → IsUtf8 text → Front read text v end → IsCharBoundary text end
  front-boundary text v end u f =
      let p = prefix f.lexemes text f.rest f.taken in
      let ends = f.ends in
      let same : length p.bytes ≡ end = omega (arith, ends, ap length p.is, length-append p.bytes f.rest) in
      let whole : IsUtf8 f.rest = rest-characters f.lexemes text f.rest f.taken (characters f.lexemes text f.rest f.taken u) in
      subst (IsCharBoundary text) same (IsCharBoundary-at_seam text p.bytes f.rest p.is whole)

  -- where lexemes that stand for a value begin those of the text
  pub front-of-lexemes : (text : List ℕ) (given later : List Spanned) (v : Value N) → AreEnds text (given ++ later) → StandFor read (lexemes_of given) v → Front read text v (end_after 0 given)
  front-of-lexemes text given later v are g =
      let (after, taken, ends) = are given later refl in
      record { lexemes = lexemes_of given; rest = after; taken = taken; reads = g; ends = ends }

pub ruleset empty_word = (empty-word, not-empty-word)
