-- The SRID in front of a text is one.
use Rattle.std.proofs.Common.{◌≡◌, ◌≢◌, inl, inr, ℕ, suc, ◌+◌, ◌-◌, ◌*◌, ◌^◌, ◌<◌, ◌≤◌, Bool, true, false, List, [], ◌∷◌, ◌++◌, length, take, drop, get_or, codes, refl, sym, ap, subst, ◌∙◌, arith, length-append, length-take, length-drop, drop-cons, if◌then◌else◌, Option, None, append_assoc, IsUtf8}
use Rattle.std.specs.Prelude.{bytes_eq}
use Rattle.std.specs.Char.{is_ascii_digit, digit_value, to_ascii_uppercase}
use Rattle.std.specs.Str.{str_to_ascii_uppercase}
use Rattle.std.specs.Str.Parse.{IsNumeral, AllDigits, digits_value}
use Rattle.std.proofs.lemmas.Bool.Decides.{nat_tests}
use Rattle.std.proofs.lemmas.Slice.Eq.{bytes_eq-Decides}
use Rattle.std.proofs.lemmas.Bool.{cases_lt}
use Rattle.std.proofs.lemmas.List.{take-append-drop, get_or-take, get_or-drop, drop-drop}
use Rattle.std.proofs.lemmas.Str.Parse.{digit_from_value, digit_at}
use Rattle.std.proofs.Math.ListN.{drop_of_length-le}
use Rattle.std.proofs.Math.Nat.{pow-suc, pow-le-pow_right}
use Rattle.wkt_num.specs.DecimalLaws.{digits_append, value_append}
use Rattle.wkt_num.proofs.FirstTextFound.{test-range}
use Rattle.std.proofs.lemmas.Str.{IsUtf8-drop, IsCharBoundary-after_ascii}
use Rattle.std.proofs.Math.Seq.{take-suc, take-append_seam, drop-append_seam, get_or-append-add, get_or-append_seam}
use Rattle.std.proofs.lemmas.List.{length-map}
use Rattle.wkt_num.specs.Bytes.{White, Run, Mark, Word, Num, AllWhite, class_of}
use Rattle.wkt_read.specs.Lexemes.{StartsOther, SpellsLexeme, Takes, starts_number, without_plus}
use Rattle.wkt_access.specs.Values.{Value}
use Rattle.wkt_read.specs.Front.{Front}
use Rattle.wkt_read.specs.Grammar.{kind_word, kind_words, entry_in}
use Rattle.wkt_read.proofs.OneForm.{geometry_begins}
use Rattle.wkt_read.proofs.Splits.{span, spells_first, first_append, first_other}
use Rattle.wkt_events.proofs.Runs.{late-run}
use Rattle.wkt_events.specs.Remaining.{class_in}
use Rattle.wkt_events.proofs.RemainingLexemes.{late-byte}
use Rattle.wkt_dialects.specs.Dialects.{HasSrid}
use Rattle.wkt_dialects.specs.Srids.{IsFrontNumber}

-- Digits up to a semicolon.

digits-seam : (a b x y : List ℕ) → AllDigits 10 a → AllDigits 10 b → a ++ (59 ∷ x) ≡ b ++ (59 ∷ y) → (a ≡ b) × (x ≡ y)
digits-seam [] [] x y p q e = (refl, cc)
digits-seam [] (c ∷ b) x y p q e = let h : 59 ≡ c = cc in let r = digit_from_value c q.0 in absurd (omega (arith, h, r))
digits-seam (c ∷ a) [] x y p q e = let h : c ≡ 59 = cc in let r = digit_from_value c p.0 in absurd (omega (arith, h, r))
digits-seam (c ∷ a) (d ∷ b) x y p q e =
    let r = digits-seam a b x y p.1 q.1 cc in
    let h : c ≡ d = cc in
    let r0 : a ≡ b = r.0 in
    (cc, r.1)

not-digit : (b : ℕ) → 48 ≤ b → b ≤ 57 → is_ascii_digit b ≡ false → ⊥
not-digit b low high e = grind (arith, nat_tests)

-- So many digits stand in front of a semicolon where so many were found.
pub count-seam : (ds rest bs : List ℕ) (n count : ℕ) → AllDigits 10 ds → length ds ≤ 9 → bs ≡ ds ++ (59 ∷ rest) → IsFrontNumber bs n count → length ds ≡ count
count-seam ds rest bs n count digits few is f = elim (cases_lt (length ds) count) [
  | inl less ↦ absurd (omega (arith, digit_at (take count bs) (length ds) f.digits (omega (arith, length-take count bs, f.inside, less)), get_or-take count bs (length ds) 0 less, ap (λ l. get_or l (length ds) 0) is, semicolon))
  | inr more ↦ elim (cases_lt count (length ds)) [
    | inl less ↦ absurd (late less)
    | inr other ↦ omega (arith, more, other)
  ]
]
  where
    semicolon : get_or (ds ++ (59 ∷ rest)) (length ds) 0 ≡ 59
    semicolon = ap (λ k. get_or (ds ++ (59 ∷ rest)) k 0) {x = length ds} {y = length ds + 0} (omega arith) ∙ get_or-append-add ds (59 ∷ rest) 0 0

    at : count < length ds → get_or bs count 0 ≡ get_or ds count 0
    at less = ap (λ l. get_or l count 0) is ∙ sym (ap (λ l. get_or l count 0) (sym (take-append_seam ds (59 ∷ rest))) ∙ get_or-take (length ds) (ds ++ (59 ∷ rest)) count 0 less)

    late : count < length ds → ⊥
    late less = let r = digit_at ds count digits less in let e = at less in not-digit (get_or bs count 0) (omega (arith, r, e)) (omega (arith, r, e)) (f.stops (omega (arith, less, few)))

-- What an SRID makes of a text, behind white space up to `start`.

pub record Shape (text : List ℕ) (start srid : ℕ) (rest : List ℕ) : Type 0 where
  pub digits : List ℕ
  pub long : start + 5 ≤ length text
  pub says : str_to_ascii_uppercase (take 5 (drop start text)) ≡ codes "SRID="
  pub behind : drop (start + 5) text ≡ digits ++ (59 ∷ rest)
  pub numeral : IsNumeral 10 digits
  pub few : length digits ≤ 9
  pub value : srid ≡ digits_value 10 digits

above-space : (c : ℕ) → to_ascii_uppercase c ≡ 83 → 32 < c
above-space c e = grind (arith, nat_tests)

capital-s : (c : ℕ) → to_ascii_uppercase c ≡ 83 → class_of c ≢ White
unfolding class_in
capital-s c e = late-byte false c (above-space c e)

starts-dark : (word more : List ℕ) → str_to_ascii_uppercase word ≡ codes "SRID=" → StartsOther White (word ++ more)
starts-dark [] more e = cc
starts-dark (c ∷ cs) more e = let h : to_ascii_uppercase c ≡ 83 = cc in capital-s c h

pub shape : (text rest : List ℕ) (start srid : ℕ) → start ≤ length text → AllWhite (take start text) → StartsOther White (drop start text) → HasSrid text srid rest → Shape text start srid rest
shape text rest start srid inside white dark h = record {
  digits = h.digits;
  long = omega (arith, long, length-drop start text, ap (λ l. length l) parts.1, length-append h.word more);
  says = ap (λ l. str_to_ascii_uppercase (take 5 l)) (sym parts.1) ∙ ap (λ k. str_to_ascii_uppercase (take k (h.word ++ more))) (sym long) ∙ ap str_to_ascii_uppercase (take-append_seam h.word more) ∙ h.says;
  behind = sym (drop-drop 5 start text) ∙ ap (drop 5) (sym parts.1) ∙ ap (λ k. drop k (h.word ++ more)) (sym long) ∙ drop-append_seam h.word more;
  numeral = h.numeral;
  few = h.few;
  value = h.value;
}
  where
    more : List ℕ
    more = h.digits ++ (59 ∷ rest)

    parts : (h.gap ≡ take start text) × (h.word ++ more ≡ drop start text)
    parts = span White h.gap (take start text) (h.word ++ more) (drop start text) h.white white (starts-dark h.word more h.says) dark (sym h.split ∙ sym (take-append-drop start text))

    long : length h.word ≡ 5
    long = sym (length-map h.word to_ascii_uppercase) ∙ ap (λ l. length l) h.says

pub one-srid : (text rest other : List ℕ) (m n : ℕ) → HasSrid text m rest → HasSrid text n other → (m ≡ n) × (rest ≡ other)
one-srid text rest other m n h k =
    let start : ℕ = length h.gap in
    let front : take start text ≡ h.gap = ap (take start) h.split ∙ take-append_seam h.gap (h.word ++ (h.digits ++ (59 ∷ rest))) in
    let behind : drop start text ≡ h.word ++ (h.digits ++ (59 ∷ rest)) = ap (drop start) h.split ∙ drop-append_seam h.gap (h.word ++ (h.digits ++ (59 ∷ rest))) in
    let inside : start ≤ length text = omega (arith, ap (λ l. length l) h.split, length-append h.gap (h.word ++ (h.digits ++ (59 ∷ rest)))) in
    let white : AllWhite (take start text) = subst AllWhite (sym front) h.white in
    let dark : StartsOther White (drop start text) = subst (StartsOther White) (sym behind) (starts-dark h.word (h.digits ++ (59 ∷ rest)) h.says) in
    let a = shape text rest start m inside white dark h in
    let b = shape text other start n inside white dark k in
    let same = digits-seam a.digits b.digits rest other a.numeral.1 b.numeral.1 (sym a.behind ∙ b.behind) in
    (a.value ∙ ap (digits_value 10) same.0 ∙ sym b.value, same.1)

-- A geometry doesn't begin with one.

above-comma : (c : ℕ) → to_ascii_uppercase c ≡ 83 → 44 < c
above-comma c e = grind (arith, nat_tests)

no-kind : (c : ℕ) (run : List ℕ) → to_ascii_uppercase c ≡ 83 → kind_word (c ∷ run) ≡ None
unfolding kind_word kind_words
no-kind c run e = ap (λ u. entry_in kind_words (u ∷ str_to_ascii_uppercase run)) e

no-kind-first : (body after word more run : List ℕ) → SpellsLexeme body after (Word run) → str_to_ascii_uppercase word ≡ codes "SRID=" → body ++ after ≡ word ++ more → kind_word run ≡ None
no-kind-first body after [] more run s u e = cc
no-kind-first body after (c ∷ cs) more run (inl (b, is, mark)) u e =
    let h : to_ascii_uppercase c ≡ 83 = cc in
    let q : b ∷ after ≡ c ∷ (cs ++ more) = sym (ap (λ l. l ++ after) is) ∙ e in
    let same : b ≡ c = cc in
    let k : Run ≡ Mark (Word run) = sym (late-run c (above-comma c h)) ∙ ap class_of (sym same) ∙ mark in
    cc
no-kind-first [] after (c ∷ cs) more run (inr (r, bd, is)) u e = absurd (r.0 refl)
no-kind-first (b ∷ body) after (c ∷ cs) more run (inr (r, bd, is)) u e = go (starts_number b) is
  where
    big : to_ascii_uppercase b ≡ 83
    big = let h : to_ascii_uppercase c ≡ 83 = cc in let same : b ≡ c = cc in ap to_ascii_uppercase same ∙ h

    go : (t : Bool) → Word run ≡ (if t then Num (without_plus (b ∷ body)) else Word (b ∷ body)) → kind_word run ≡ None
    go true k = cc
    go false k = let w : run ≡ b ∷ body = cc in ap kind_word w ∙ no-kind b body big

pub no-srid : {N : Type 0} (read : List ℕ → Option N) (text rest : List ℕ) (v : Value N) (end srid : ℕ) → Front read text v end → HasSrid text srid rest → ⊥
no-srid read text rest v end srid f h =
    let (hd, b, e, (run, entry, more, eh, ew, ek, dp), bb) = geometry_begins read f.lexemes v f.reads in
    let t : Takes text (Word run ∷ (more ++ b)) f.rest = subst (λ l. Takes text l f.rest) (e ∙ ap (λ l. l ++ b) eh) f.taken in
    let (gap, body, after, split, white, spelled, later) = t in
    let behind : List ℕ = h.digits ++ (59 ∷ rest) in
    let dark : StartsOther White (body ++ after) = first_other White (λ x. x) (body ++ after) (first_append body after (spells_first body after (Word run) spelled)) in
    let seam = span White h.gap gap (h.word ++ behind) (body ++ after) h.white white (starts-dark h.word behind h.says) dark (sym h.split ∙ split) in
    let none : kind_word run ≡ None = no-kind-first body after h.word behind run spelled h.says (sym seam.1) in
    cc

-- Its number, one digit more.
pub small-number : (n count : ℕ) → n < 10 ^ count → count < 9 → n < 10 ^ 8
small-number n count h few = let le : 10 ^ count ≤ 10 ^ 8 = pow-le-pow_right {n = 10} (omega arith) {i = count} {j = 8} (omega arith) in omega (arith, h, le)

pub record NumberOn (bs : List ℕ) (n count : ℕ) : Type 0 where
  pub inside : count ≤ length bs
  pub digits : AllDigits 10 (take count bs)
  pub value : n ≡ digits_value 10 (take count bs)
  pub small : n < 10 ^ count

pub number-on : (bs : List ℕ) (n count b m : ℕ) → AllDigits 10 (take count bs) → n ≡ digits_value 10 (take count bs) → n < 10 ^ count → count < length bs → b ≡ get_or bs count 0 → is_ascii_digit b ≡ true → m ≡ n * 10 + (b - 48) → NumberOn bs m (count + 1)
number-on bs n count b m digits value small inside is digit sum =
    let r = test-range b digit in
    let d : digit_value b < 10 = digit-small b r.0 r.1 in
    let more : take (count + 1) bs ≡ take count bs ++ (b ∷ []) = ap (λ k. take k bs) {x = count + 1} {y = suc count} (omega arith) ∙ take-suc bs count 0 inside ∙ ap (λ x. take count bs ++ (x ∷ [])) (sym is) in
    record {
      inside = omega (arith, inside);
      digits = subst (AllDigits 10) (sym more) (digits_append (take count bs) (b ∷ []) digits (d, tt));
      value = sum ∙ ap (λ x. x * 10 + (b - 48)) value ∙ ap (λ k. digits_value 10 (take count bs) * 10 + k) (sym (digit-value b r.0 r.1)) ∙ sym (ap (digits_value 10) more ∙ value_append 0 (take count bs) (b ∷ []));
      small = omega (arith, small, r, sum, ap (λ k. 10 ^ k) {x = count + 1} {y = suc count} (omega arith), pow-suc 10 count);
    }
  where
    digit-small : (b : ℕ) → 48 ≤ b → b ≤ 57 → digit_value b < 10
    digit-small b low high = grind (arith, nat_tests)

    digit-value : (b : ℕ) → 48 ≤ b → b ≤ 57 → digit_value b ≡ b - 48
    digit-value b low high = grind (arith, nat_tests)

pub digit-most : (b : ℕ) → is_ascii_digit b ≡ true → b ≤ 57
digit-most b e = let r = test-range b e in omega (arith, r)

pub digit-some : (b : ℕ) → is_ascii_digit b ≡ true → 0 < b
digit-some b e = let r = test-range b e in omega (arith, r)

-- Before a place that white space was skipped to.
all-white : (xs : List ℕ) → ((k : ℕ) → k < length xs → class_of (get_or xs k 0) ≡ White) → AllWhite xs
all-white [] h = tt
all-white (x ∷ xs) h = (h 0 (omega arith), all-white xs (λ k l. h (suc k) (omega (arith, l))))

class-same : (b : ℕ) → class_in false b ≡ class_of b
unfolding class_in
class-same b = refl

pub record Skipped (text : List ℕ) (start : ℕ) : Type 0 where
  pub white : AllWhite (take start text)
  pub dark : StartsOther White (drop start text)

pub skipped : (text : List ℕ) (start : ℕ) → start ≤ length text → ((k : ℕ) → 0 ≤ k → k < start → class_in false (get_or text k 0) ≡ White) → class_in false (get_or text start 0) ≢ White → Skipped text start
skipped text start inside white stops = record {
  white = all-white (take start text) (λ k l. let less : k < start = omega (arith, l, length-take start text) in ap class_of (get_or-take start text k 0 less) ∙ sym (class-same (get_or text k 0)) ∙ white k (omega arith) less);
  dark = elim (cases_lt start (length text)) [
    | inl less ↦ subst (StartsOther White) (sym (drop-cons text start 0 less)) (λ e. stops (class-same (get_or text start 0) ∙ e))
    | inr past ↦ subst (StartsOther White) (sym (drop_of_length-le text past)) tt
  ];
}

pub names-true : (w : List ℕ) → str_to_ascii_uppercase w ≡ codes "SRID=" → bytes_eq (str_to_ascii_uppercase w) (codes "SRID=") ≡ true
names-true w e = (bytes_eq-Decides (str_to_ascii_uppercase w) (codes "SRID=")).1 e

pub names-says : (w : List ℕ) → bytes_eq (str_to_ascii_uppercase w) (codes "SRID=") ≡ true → str_to_ascii_uppercase w ≡ codes "SRID="
names-says w e = (bytes_eq-Decides (str_to_ascii_uppercase w) (codes "SRID=")).0 e

pub semicolon-at : (text digits rest : List ℕ) (at count : ℕ) → drop at text ≡ digits ++ (59 ∷ rest) → length digits ≡ count → get_or text (at + count) 0 ≡ 59
semicolon-at text digits rest at count e same =
    sym (get_or-drop at text count 0)
    ∙ ap (λ l. get_or l count 0) e
    ∙ ap (λ k. get_or (digits ++ (59 ∷ rest)) k 0) {x = count} {y = length digits + 0} (omega (arith, same))
    ∙ get_or-append-add digits (59 ∷ rest) 0 0

pub has-srid : (text : List ℕ) (start n count : ℕ) → AllWhite (take start text) → str_to_ascii_uppercase (take 5 (drop start text)) ≡ codes "SRID="
    → IsFrontNumber (drop (start + 5) text) n count → 0 < count → start + 5 + count < length text → get_or text (start + 5 + count) 0 ≡ 59 → HasSrid text n (drop (start + 5 + count + 1) text)
has-srid text start n count white says f some inside semicolon = record {
  gap = take start text;
  word = take 5 (drop start text);
  digits = take count (drop (start + 5) text);
  split =
      sym (take-append-drop start text)
      ∙ ap (λ l. take start text ++ l) (sym (take-append-drop 5 (drop start text))
      ∙ ap (λ l. take 5 (drop start text) ++ l) (drop-drop 5 start text ∙ sym (take-append-drop count (drop (start + 5) text))
      ∙ ap (λ l. take count (drop (start + 5) text) ++ l) (drop-drop count (start + 5) text ∙ drop-cons text (start + 5 + count) 0 inside ∙ ap (λ b. b ∷ drop (suc (start + 5 + count)) text) semicolon ∙ ap (λ k. 59 ∷ drop k text) {x = suc (start + 5 + count)} {y = start + 5 + count + 1} (omega arith))));
  white = white;
  says = says;
  numeral = (omega (arith, length-take count (drop (start + 5) text), f.inside, some), f.digits);
  few = omega (arith, length-take count (drop (start + 5) text), f.few);
  value = f.value;
}

-- What stands behind it is text, where all is.
past-byte : (p : List ℕ) (b : ℕ) (rest : List ℕ) → b < 128 → IsUtf8 (p ++ (b ∷ rest)) → IsUtf8 rest
past-byte p b rest low u =
    let bs : List ℕ = p ++ (b ∷ rest) in
    let there : get_or bs (length p) 0 < 128 = omega (arith, low, get_or-append_seam p b rest 0) in
    let cut = IsCharBoundary-after_ascii bs (length p) u (omega (arith, length-append p (b ∷ rest))) there in
    subst IsUtf8 (sym (drop-drop 1 (length p) bs) ∙ ap (drop 1) (drop-append_seam p (b ∷ rest))) (IsUtf8-drop bs (length p + 1) u cut)

pub rest_text : (text : List ℕ) (n : ℕ) (rest : List ℕ) → HasSrid text n rest → IsUtf8 text → IsUtf8 rest
rest_text text n rest h u =
    past-byte (h.gap ++ (h.word ++ h.digits)) 59 rest (omega arith)
    (subst IsUtf8 (h.split ∙ ap (λ l. h.gap ++ l) (sym (append_assoc h.word h.digits (59 ∷ rest))) ∙ sym (append_assoc h.gap (h.word ++ h.digits) (59 ∷ rest))) u)
