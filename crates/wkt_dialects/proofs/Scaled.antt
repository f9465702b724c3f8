-- A number without its exponent is read as the same.
use Rattle.std.proofs.Common.{◌≡◌, ◌⊎◌, inl, inr, ℕ, ◌+◌, ◌-◌, ◌*◌, ◌^◌, ◌<◌, ◌≤◌, Bool, true, false, cond, ◌==◌, ◌||◌, nat_le, min, if◌then◌else◌, List, [], ◌∷◌, ◌++◌, length, take, drop, get_or, Option, Some, None, refl, sym, ap, subst, ◌∙◌, arith, length-append, length-take, length-drop, append_assoc, ℤ, IsTrue, Result, Ok, Err, IfOk, IsUtf8, codes}
use lib.Utf8.{encode}
use Rattle.std.specs.Fmt.{sign_text}
use Rattle.std.proofs.lemmas.Fmt.{IsAscii-from_digits}
use Rattle.std.proofs.lemmas.Str.{IsUtf8-append, IsUtf8-from_ascii}
use Rattle.std.specs.Char.{digit_value}
use Rattle.std.specs.Str.Parse.{AllDigits, digits_value, starts_with_minus, without_leading_sign}
use Rattle.std.proofs.lemmas.List.{append-nil, take_all, take-append-drop}
use Rattle.std.proofs.Math.ListN.{drop_of_length-le}
use Rattle.std.proofs.lemmas.Nat.{pow-add}
use Rattle.std.proofs.lemmas.Str.Parse.{digit_from_value}
use borrow.Author.Tests.{leb-true, leb-false, le-leb, lt-leb, ne_eqb}
use Rattle.wkt_num.specs.Bytes.{AllRun, IsRun}
use Rattle.wkt_num.specs.Number.{begins_number}
use Rattle.wkt_num.specs.Whole.{is_numeral}
use Rattle.wkt_num.specs.WholeLaws.{numeral_from, digits_are_run, digit_begins, minus_run, point_run}
use Rattle.wkt_num.specs.Decimal.{before_point, after_point, units_of, read_magnitude, read_decimal, with_sign, and_then, zeros, StandsFor}
use Rattle.wkt_num.specs.DecimalLaws.{digits_append, read-near}
use Rattle.wkt_num.proofs.ReadNumbers.{read-far}
use Rattle.wkt_num.proofs.NumberLaws.{stands_from}
use Rattle.wkt_num.proofs.Scan.{after_small}
use Rattle.wkt_num.proofs.DecimalParts.{digits-parts}
use Rattle.wkt_num.proofs.TextInsideText.{digits-zeros}
use Rattle.wkt_dialects.specs.Exponents.{is_e, before_e, after_e, scaled_units, scaled_magnitude, read_scaled, read_by_e, read_exponents, ExponentsKeep, IsSameNumber}
use Rattle.wkt_dialects.specs.declared.exponents.Scaled.{Scaled}
use Rattle.wkt_dialects.specs.Numbers.{moved_left, moved_right, moved, digits_of, IsE, IsPoint, IsScaled, IsWrittenNumber}
use Rattle.wkt_read.specs.Lexemes.{without_plus, starts_number}
use Rattle.wkt_num.proofs.TextInsideText.{length-zeros}
use Rattle.wkt_dialects.proofs.Units.{units_equal, enough_right, enough_left, point_between, value-front, value-behind}

-- What is read without exponents has none.

no-e : (d : ℕ) → digit_value d < 10 → is_e d ≡ false
no-e d h = let r = digit_from_value d h in ap (λ a. a || d == 69) (ne_eqb d 101 (λ e. omega (arith, r, e))) ∙ ne_eqb d 69 (λ e. omega (arith, r, e))

digits-no-e : (ds rest : List ℕ) → AllDigits 10 ds → after_e (ds ++ rest) ≡ after_e rest
digits-no-e [] rest h = refl
digits-no-e (d ∷ ds) rest h = ap (λ b. if b then Some (ds ++ rest) else after_e (ds ++ rest)) (no-e d h.0) ∙ digits-no-e ds rest h.1

kept : (k most D : ℕ) (bs : List ℕ) (u : ℤ) → read_decimal k most D bs ≡ Some u → after_e bs ≡ None
kept k most D bs u e = signed h.spells.sign
  where
    h : StandsFor k most D bs u
    h = stands_from k most D bs u e

    digits : AllDigits 10 h.whole × AllDigits 10 h.fraction
    digits = digits-parts h.whole h.fraction h.spells.digits.1

    all : (ds : List ℕ) → AllDigits 10 ds → after_e ds ≡ None
    all ds d = ap after_e (sym (append-nil ds)) ∙ digits-no-e ds [] d

    body : ((h.fraction ≡ []) × (h.spells.body ≡ h.whole)) ⊎ (h.spells.body ≡ h.whole ++ 46 ∷ h.fraction) → after_e h.spells.body ≡ None
    body (inl p) = ap after_e p.1 ∙ all h.whole digits.0
    body (inr p) = ap after_e p ∙ digits-no-e h.whole (46 ∷ h.fraction) digits.0 ∙ all h.fraction digits.1

    signed : ((h.negative ≡ true) × (bs ≡ 45 ∷ h.spells.body)) ⊎ ((h.negative ≡ false) × ((bs ≡ h.spells.body) ⊎ (bs ≡ 43 ∷ h.spells.body))) → after_e bs ≡ None
    signed (inl p) = ap after_e p.1 ∙ body h.spells.point
    signed (inr p) = elim p.1 as (λ _. after_e bs ≡ None) [ inl q ↦ ap after_e q ∙ body h.spells.point | inr q ↦ ap after_e q ∙ body h.spells.point ]

pub without_e : (bs : List ℕ) → after_e bs ≡ None → (k most D : ℕ) → read_exponents k most D bs ≡ read_decimal k most D bs
unfolding read_exponents
without_e bs e k most D = ap (λ o. read_by_e o k most D bs) e

pub exponents_keep : ExponentsKeep
exponents_keep k most D bs u e = without_e bs (kept k most D bs u e) k most D ∙ e

with_e : (bs x : List ℕ) → after_e bs ≡ Some x → (k most D : ℕ) → read_decimal k most D bs ≡ None
with_e bs x e k most D = go (read_decimal k most D bs) refl
  where
    go : (o : Option ℤ) → read_decimal k most D bs ≡ o → o ≡ None
    go None f = refl
    go (Some u) f = let none : after_e bs ≡ None = kept k most D bs u f in cc

-- A run that is no number is read as none, with exponents or without.

pub same_without : (bs : List ℕ) → after_e bs ≡ None → IsSameNumber bs bs
same_without bs e = λ D. sym (without_e bs e 127 36 D)

-- With more than 36 places nothing is read.
exponents-far : (D : ℕ) (bs : List ℕ) → 36 < D → read_exponents 127 36 D bs ≡ None
unfolding read_exponents
exponents-far D bs far = go (after_e bs)
  where
    go : (o : Option (List ℕ)) → read_by_e o 127 36 D bs ≡ None
    go None = read-far 127 36 D bs far
    go (Some x) = ap (λ b. if b then read_scaled 127 D (before_e bs) x else None) (lt-leb D 36 far)

everywhere : (run other : List ℕ) → ((D : ℕ) → D ≤ 36 → read_decimal 127 36 D other ≡ read_exponents 127 36 D run) → IsSameNumber run other
everywhere run other h = λ D. go D (nat_le D 36) refl
  where
    go : (D : ℕ) (b : Bool) → nat_le D 36 ≡ b → read_decimal 127 36 D other ≡ read_exponents 127 36 D run
    go D true e = h D (leb-true D 36 e)
    go D false e = let far : 36 < D = omega (arith, leb-false D 36 e) in read-far 127 36 D other far ∙ sym (exponents-far D run far)

abbrev pub body_digits : List ℕ → List ℕ
body_digits body = before_point body ++ after_point body

pub same_no_number : (bs x : List ℕ) → after_e bs ≡ Some x → (is_numeral (without_leading_sign x) ≡ false) ⊎ (is_numeral (body_digits (without_leading_sign (before_e bs))) ≡ false) → IsSameNumber bs bs
unfolding read_exponents
same_no_number bs x e bad = everywhere bs bs (λ D few. with_e bs x e 127 36 D ∙ sym (ap (λ o. read_by_e o 127 36 D bs) e ∙ near D few ∙ none D bad))
  where
    body : List ℕ
    body = without_leading_sign (before_e bs)

    near : (D : ℕ) → D ≤ 36 → (if nat_le D 36 then read_scaled 127 D (before_e bs) x else None) ≡ read_scaled 127 D (before_e bs) x
    near D few = ap (λ b. if b then read_scaled 127 D (before_e bs) x else None) (le-leb D 36 few)

    found : (D : ℕ) → Bool → Option ℕ
    found D b = if b then scaled_units (2 ^ 127) D (digits_value 10 (body_digits body)) (length (after_point body)) (starts_with_minus x) (digits_value 10 (without_leading_sign x)) else None

    none : (D : ℕ) → (is_numeral (without_leading_sign x) ≡ false) ⊎ (is_numeral (body_digits body) ≡ false) → read_scaled 127 D (before_e bs) x ≡ None
    none D (inl f) = ap (λ b. if b then and_then (scaled_magnitude (2 ^ 127) D body (starts_with_minus x) (digits_value 10 (without_leading_sign x))) (with_sign 127 (starts_with_minus (before_e bs))) else None) f
    none D (inr f) =
        ap (λ b. if is_numeral (without_leading_sign x) then and_then (found D b) (with_sign 127 (starts_with_minus (before_e bs))) else None) f
        ∙ either (is_numeral (without_leading_sign x))
      where
        either : (b : Bool) → (if b then and_then None (with_sign 127 (starts_with_minus (before_e bs))) else None) ≡ None
        either true = refl
        either false = refl

-- The point moved to the left.

digits-cut : (k : ℕ) (ds : List ℕ) → AllDigits 10 ds → AllDigits 10 (take k ds) × AllDigits 10 (drop k ds)
digits-cut k ds h = digits-parts (take k ds) (drop k ds) (subst (AllDigits 10) (sym (take-append-drop k ds)) h)

left-value : (k z : ℕ) (w f : List ℕ) → (z ≡ 0) ⊎ (k ≡ 0) → digits_value 10 (take k w ++ (zeros z ++ (drop k w ++ f))) ≡ digits_value 10 (w ++ f)
left-value k z w f (inl e) =
    ap (λ n. digits_value 10 (take k w ++ (zeros n ++ (drop k w ++ f)))) e
    ∙ ap (digits_value 10) (sym (append_assoc (take k w) (drop k w) f) ∙ ap (λ l. l ++ f) (take-append-drop k w))
left-value k z w f (inr e) =
    ap (λ n. digits_value 10 (take n w ++ (zeros z ++ (drop n w ++ f)))) e
    ∙ value-front z (w ++ f)

read-left : (limit D x : ℕ) (w f : List ℕ) → AllDigits 10 w → AllDigits 10 f → 0 < length (w ++ f) → read_magnitude limit D (moved_left x w f) ≡ units_of limit D (digits_value 10 (w ++ f)) (length f + x)
read-left limit D x w f a b some =
    point_between limit D xs ys (digits-cut k w a).0 (digits_append (zeros z) (drop k w ++ f) (digits-zeros z) (digits_append (drop k w) f (digits-cut k w a).1 b)) long
    ∙ ap (λ n. units_of limit D n (length ys)) (left-value k z w f zero-or)
    ∙ ap (λ n. units_of limit D (digits_value 10 (w ++ f)) n) behind
  where
    k : ℕ
    k = length w - x

    z : ℕ
    z = x - length w

    xs : List ℕ
    xs = take k w

    ys : List ℕ
    ys = zeros z ++ (drop k w ++ f)

    zero-or : (z ≡ 0) ⊎ (k ≡ 0)
    zero-or = elim (nat_le x (length w)) as (λ b. nat_le x (length w) ≡ b → (z ≡ 0) ⊎ (k ≡ 0)) [
      | true ↦ λ e. inl (omega (arith, leb-true x (length w) e))
      | false ↦ λ e. inr (omega (arith, leb-false x (length w) e))
    ] refl

    behind : length ys ≡ length f + x
    behind = omega (arith, length-append (zeros z) (drop k w ++ f), length-append (drop k w) f, length-zeros z, length-drop k w)

    long : 0 < length (xs ++ ys)
    long = omega (arith, length-append xs ys, behind, length-append w f, some, length-take k w, length-append (zeros z) (drop k w ++ f), length-append (drop k w) f, length-zeros z, length-drop k w)

-- And to the right.

right-value : (x : ℕ) (w f : List ℕ) → digits_value 10 ((w ++ (take x f ++ zeros (x - length f))) ++ drop x f) ≡ digits_value 10 (w ++ f) * 10 ^ (x - length f)
right-value x w f = elim (nat_le x (length f)) as (λ b. nat_le x (length f) ≡ b → digits_value 10 ((w ++ (take x f ++ zeros (x - length f))) ++ drop x f) ≡ digits_value 10 (w ++ f) * 10 ^ (x - length f)) [
  | true ↦ λ e. within (leb-true x (length f) e)
  | false ↦ λ e. past (omega (arith, leb-false x (length f) e))
] refl
  where
    n : ℕ
    n = digits_value 10 (w ++ f)

    within : x ≤ length f → digits_value 10 ((w ++ (take x f ++ zeros (x - length f))) ++ drop x f) ≡ n * 10 ^ (x - length f)
    within le =
        let z : x - length f ≡ 0 = omega arith in
        ap (λ k. digits_value 10 ((w ++ (take x f ++ zeros k)) ++ drop x f)) z
        ∙ ap (λ l. digits_value 10 ((w ++ l) ++ drop x f)) (append-nil (take x f))
        ∙ ap (digits_value 10) (append_assoc w (take x f) (drop x f) ∙ ap (λ l. w ++ l) (take-append-drop x f))
        ∙ omega (arith, ap (λ k. n * 10 ^ k) z)

    past : length f ≤ x → digits_value 10 ((w ++ (take x f ++ zeros (x - length f))) ++ drop x f) ≡ n * 10 ^ (x - length f)
    past le =
        ap (λ l. digits_value 10 ((w ++ (l ++ zeros (x - length f))) ++ drop x f)) (take_all x f le)
        ∙ ap (λ l. digits_value 10 ((w ++ (f ++ zeros (x - length f))) ++ l)) (drop_of_length-le f le)
        ∙ ap (digits_value 10) (append-nil (w ++ (f ++ zeros (x - length f))) ∙ sym (append_assoc w f (zeros (x - length f))))
        ∙ value-behind (x - length f) (w ++ f)

read-right : (limit D x : ℕ) (w f : List ℕ) → AllDigits 10 w → AllDigits 10 f → 0 < length (w ++ f) → read_magnitude limit D (moved_right x w f) ≡ units_of limit (D + x) (digits_value 10 (w ++ f)) (length f)
read-right limit D x w f a b some =
    point_between limit D xs ys (digits_append w (take x f ++ zeros z) a (digits_append (take x f) (zeros z) (digits-cut x f b).0 (digits-zeros z))) (digits-cut x f b).1 long
    ∙ ap (λ m. units_of limit D m (length ys)) (right-value x w f)
    ∙ units_equal limit D (n * 10 ^ z) (length ys) (D + x) n (length f) same
  where
    z : ℕ
    z = x - length f

    n : ℕ
    n = digits_value 10 (w ++ f)

    xs : List ℕ
    xs = w ++ (take x f ++ zeros z)

    ys : List ℕ
    ys = drop x f

    long : 0 < length (xs ++ ys)
    long = omega (arith, length-append xs ys, length-append w (take x f ++ zeros z), length-append (take x f) (zeros z), length-zeros z, length-take x f, length-drop x f, length-append w f, some)

    moves : 10 ^ z * 10 ^ length f ≡ 10 ^ x * 10 ^ length ys
    moves = sym (pow-add 10 z (length f)) ∙ ap (λ (k : ℕ). 10 ^ k) {x = z + length f} {y = x + length ys} (omega (arith, length-drop x f)) ∙ pow-add 10 x (length ys)

    join : (a b c d e : ℕ) → b * d ≡ e * c → n * b * a * d ≡ n * (a * e) * c
    join a b c d e h = omega (arith, ap (λ q. n * a * q) h)

    same : n * 10 ^ z * 10 ^ D * 10 ^ length f ≡ n * 10 ^ (D + x) * 10 ^ length ys
    same = join (10 ^ D) (10 ^ z) (10 ^ length ys) (10 ^ length f) (10 ^ x) moves ∙ ap (λ q. n * q * 10 ^ length ys) (sym (pow-add 10 D x))

-- With the exponent cut to 40 places past the digits.

pub read-moved : (D v : ℕ) (left : Bool) (w f : List ℕ) → D ≤ 36 → AllDigits 10 w → AllDigits 10 f → 0 < length (w ++ f)
    → read_magnitude (2 ^ 127) D (moved left (min v (length (digits_of left w f) + 40)) w f) ≡ scaled_units (2 ^ 127) D (digits_value 10 (w ++ f)) (length f) left v
read-moved D v true w f few a b some = read-left (2 ^ 127) D (min v (length w + 40)) w f a b some ∙ cut (nat_le v (length w + 40)) refl
  where
    n : ℕ
    n = digits_value 10 (w ++ f)

    small : n < 10 ^ (length w + length f)
    small = subst (λ k. n < 10 ^ k) (length-append w f) (after_small (w ++ f) (digits_append w f a b))

    cut : (t : Bool) → nat_le v (length w + 40) ≡ t → units_of (2 ^ 127) D n (length f + min v (length w + 40)) ≡ units_of (2 ^ 127) D n (length f + v)
    cut true e = ap (λ k. units_of (2 ^ 127) D n (length f + k)) (omega (arith, leb-true _ _ e))
    cut false e = ap (λ k. units_of (2 ^ 127) D n (length f + k)) {x = min v (length w + 40)} {y = length w + 40} (omega (arith, leb-false _ _ e)) ∙ sym (enough_left (2 ^ 127) D n (length f) (length w) v few small (omega (arith, leb-false _ _ e)))
read-moved D v false w f few a b some = read-right (2 ^ 127) D (min v (length f + 40)) w f a b some ∙ cut (nat_le v (length f + 40)) refl
  where
    n : ℕ
    n = digits_value 10 (w ++ f)

    cut : (t : Bool) → nat_le v (length f + 40) ≡ t → units_of (2 ^ 127) (D + min v (length f + 40)) n (length f) ≡ units_of (2 ^ 127) (D + v) n (length f)
    cut true e = ap (λ k. units_of (2 ^ 127) (D + k) n (length f)) (omega (arith, leb-true _ _ e))
    cut false e = ap (λ k. units_of (2 ^ 127) (D + k) n (length f)) {x = min v (length f + 40)} {y = length f + 40} (omega (arith, leb-false _ _ e)) ∙ sym (enough_right (2 ^ 127) D n (length f) v (omega arith) (omega (arith, leb-false _ _ e)))

-- Written, it is a sign and digits with a point.

pub record HasPoint (left : Bool) (x : ℕ) (w f : List ℕ) : Type 0 where
  pub before : List ℕ
  pub behind : List ℕ
  pub split : moved left x w f ≡ before ++ (46 ∷ behind)
  pub digits : AllDigits 10 before
  pub more : AllDigits 10 behind

pub has-point : (left : Bool) (x : ℕ) (w f : List ℕ) → AllDigits 10 w → AllDigits 10 f → HasPoint left x w f
has-point true x w f a b = record {
  before = take (length w - x) w;
  behind = zeros (x - length w) ++ (drop (length w - x) w ++ f);
  split = refl;
  digits = (digits-cut (length w - x) w a).0;
  more = digits_append (zeros (x - length w)) (drop (length w - x) w ++ f) (digits-zeros (x - length w)) (digits_append (drop (length w - x) w) f (digits-cut (length w - x) w a).1 b);
}
has-point false x w f a b = record {
  before = w ++ (take x f ++ zeros (x - length f));
  behind = drop x f;
  split = refl;
  digits = digits_append w (take x f ++ zeros (x - length f)) a (digits_append (take x f) (zeros (x - length f)) (digits-cut x f b).0 (digits-zeros (x - length f)));
  more = (digits-cut x f b).1;
}

record Signed (negative : Bool) (text body : List ℕ) : Type 0 where
  minus : starts_with_minus text ≡ negative
  rest : without_leading_sign text ≡ body

plain : (c : ℕ) (cs : List ℕ) → 46 ≤ c → Signed false (c ∷ cs) (c ∷ cs)
plain c cs h = record {
  minus = ne_eqb c 45 (λ e. omega arith);
  rest = ap (λ b. cond b cs (drop (cond (c == 43) 1 0) (c ∷ cs))) (ne_eqb c 45 (λ e. omega arith)) ∙ ap (λ b. drop (cond b 1 0) (c ∷ cs)) (ne_eqb c 43 (λ e. omega arith));
}

signed : (negative : Bool) (xs ys : List ℕ) → AllDigits 10 xs → Signed negative (sign_text negative ++ (xs ++ (46 ∷ ys))) (xs ++ (46 ∷ ys))
signed true xs ys h = record { minus = refl; rest = refl }
signed false [] ys h = plain 46 ys (omega arith)
signed false (x ∷ xs) ys h = let r = digit_from_value x h.0 in plain x (xs ++ (46 ∷ ys)) (omega (arith, r))

run-append : (xs ys : List ℕ) → AllRun xs → AllRun ys → AllRun (xs ++ ys)
run-append [] ys h k = k
run-append (x ∷ xs) ys h k = (h.0, run-append xs ys h.1 k)

pub written-run : (negative : Bool) (xs ys : List ℕ) → AllDigits 10 xs → AllDigits 10 ys → IsRun (sign_text negative ++ (xs ++ (46 ∷ ys))) × IsTrue (begins_number (get_or (sign_text negative ++ (xs ++ (46 ∷ ys))) 0 0))
written-run true xs ys a b = ((λ e. cc, (minus_run, run-append xs (46 ∷ ys) (digits_are_run xs a) (point_run, digits_are_run ys b))), refl)
written-run false [] ys a b = ((λ e. cc, (point_run, digits_are_run ys b)), refl)
written-run false (x ∷ xs) ys a b = ((λ e. cc, run-append (x ∷ xs) (46 ∷ ys) (digits_are_run (x ∷ xs) a) (point_run, digits_are_run ys b)), digit_begins x (digit_from_value x a.0))

-- A number with an exponent is read as it is written without.
pub same_moved : (bs : List ℕ) (s : Scaled) → IsScaled bs s → IsSameNumber bs (sign_text s.negative ++ moved s.left s.by s.whole.now s.fraction.now)
unfolding read_exponents
same_moved bs s is = everywhere bs text (λ D few.
    read-near 127 36 D text few
    ∙ ap (λ l. and_then (read_magnitude (2 ^ 127) D l) (with_sign 127 (starts_with_minus text))) (ap without_leading_sign as-split ∙ sign.rest ∙ sym p.split)
    ∙ ap (λ b. and_then (read_magnitude (2 ^ 127) D (moved s.left s.by s.whole.now s.fraction.now)) (with_sign 127 b)) (ap starts_with_minus as-split ∙ sign.minus)
    ∙ ap (λ n. and_then (read_magnitude (2 ^ 127) D (moved s.left n s.whole.now s.fraction.now)) (with_sign 127 s.negative)) is.by
    ∙ ap (λ o. and_then o (with_sign 127 s.negative)) (read-moved D v s.left s.whole.now s.fraction.now few parts.0 parts.1 (numeral_from _ is.digits).0)
    ∙ sym (ap (λ o. read_by_e o 127 36 D bs) is.has_e ∙ near D few ∙ numeral D ∙ magnitude D))
  where
    text : List ℕ
    text = sign_text s.negative ++ moved s.left s.by s.whole.now s.fraction.now

    v : ℕ
    v = digits_value 10 (without_leading_sign is.exponent)

    parts : AllDigits 10 s.whole.now × AllDigits 10 s.fraction.now
    parts = digits-parts s.whole.now s.fraction.now (numeral_from (s.whole.now ++ s.fraction.now) is.digits).1

    p : HasPoint s.left s.by s.whole.now s.fraction.now
    p = has-point s.left s.by s.whole.now s.fraction.now parts.0 parts.1

    as-split : text ≡ sign_text s.negative ++ (p.before ++ (46 ∷ p.behind))
    as-split = ap (λ l. sign_text s.negative ++ l) p.split

    sign : Signed s.negative (sign_text s.negative ++ (p.before ++ (46 ∷ p.behind))) (p.before ++ (46 ∷ p.behind))
    sign = signed s.negative p.before p.behind p.digits

    number : List ℕ
    number = before_e bs

    body : List ℕ
    body = without_leading_sign number

    near : (D : ℕ) → D ≤ 36 → (if nat_le D 36 then read_scaled 127 D number is.exponent else None) ≡ read_scaled 127 D number is.exponent
    near D few = ap (λ b. if b then read_scaled 127 D number is.exponent else None) (le-leb D 36 few)

    numeral : (D : ℕ) → read_scaled 127 D number is.exponent ≡ and_then (scaled_magnitude (2 ^ 127) D body (starts_with_minus is.exponent) v) (with_sign 127 (starts_with_minus number))
    numeral D = ap (λ b. if b then and_then (scaled_magnitude (2 ^ 127) D body (starts_with_minus is.exponent) v) (with_sign 127 (starts_with_minus number)) else None) is.numeral

    scaled : ℕ → List ℕ → List ℕ → Bool → Option ℕ
    scaled D w f left = if is_numeral (w ++ f) then scaled_units (2 ^ 127) D (digits_value 10 (w ++ f)) (length f) left v else None

    magnitude : (D : ℕ) → and_then (scaled_magnitude (2 ^ 127) D body (starts_with_minus is.exponent) v) (with_sign 127 (starts_with_minus number))
        ≡ and_then (scaled_units (2 ^ 127) D (digits_value 10 (s.whole.now ++ s.fraction.now)) (length s.fraction.now) s.left v) (with_sign 127 s.negative)
    magnitude D =
        ap (λ b. and_then (scaled D (before_point body) (after_point body) (starts_with_minus is.exponent)) (with_sign 127 b)) (sym is.negative)
        ∙ ap (λ w. and_then (scaled D w (after_point body) (starts_with_minus is.exponent)) (with_sign 127 s.negative)) (sym is.whole)
        ∙ ap (λ f. and_then (scaled D s.whole.now f (starts_with_minus is.exponent)) (with_sign 127 s.negative)) (sym is.fraction)
        ∙ ap (λ b. and_then (scaled D s.whole.now s.fraction.now b) (with_sign 127 s.negative)) (sym is.left)
        ∙ ap (λ b. and_then (if b then scaled_units (2 ^ 127) D (digits_value 10 (s.whole.now ++ s.fraction.now)) (length s.fraction.now) s.left v else None) (with_sign 127 s.negative)) is.digits

-- The answers of the two functions over these parts.

pub no-exponent : (bs x : List ℕ) (e : ℕ) → IsE bs e → x ≡ without_leading_sign (drop (e + 1) bs) → is_numeral x ≡ false → IsSameNumber bs bs
no-exponent bs x e is same bad = same_no_number bs (drop (e + 1) bs) is.after (inl (ap is_numeral (sym same) ∙ bad))

pub no-digits : (bs body : List ℕ) (e point : ℕ) → IsE bs e → body ≡ without_leading_sign (take e bs) → IsPoint body point → is_numeral (take point body ++ drop (point + 1) body) ≡ false → IsSameNumber bs bs
no-digits bs body e point is same p bad =
    same_no_number bs (drop (e + 1) bs) is.after (inr (ap (λ l. is_numeral (body_digits (without_leading_sign l))) is.before ∙ ap (λ l. is_numeral (body_digits l)) (sym same) ∙ ap (λ l. is_numeral (l ++ after_point body)) p.before ∙ ap (λ l. is_numeral (take point body ++ l)) p.after ∙ bad))

pub are-parts : (bs body x : List ℕ) (e point : ℕ) (s : Scaled) → IsE bs e
    → s.negative ≡ starts_with_minus (take e bs) → body ≡ without_leading_sign (take e bs)
    → s.left ≡ starts_with_minus (drop (e + 1) bs) → x ≡ without_leading_sign (drop (e + 1) bs)
    → IsPoint body point → s.whole.now ≡ take point body → s.fraction.now ≡ drop (point + 1) body
    → is_numeral x ≡ true → is_numeral (s.whole.now ++ s.fraction.now) ≡ true
    → s.by ≡ min (digits_value 10 x) (length (digits_of s.left s.whole.now s.fraction.now) + 40) → IsScaled bs s
are-parts bs body x e point s is minus rest left exponent p whole fraction numeral digits by = record {
  exponent = drop (e + 1) bs;
  has_e = is.after;
  numeral = ap is_numeral (sym exponent) ∙ numeral;
  left = left;
  negative = minus ∙ ap starts_with_minus (sym is.before);
  whole = whole ∙ sym p.before ∙ ap before_point rest ∙ ap (λ l. before_point (without_leading_sign l)) (sym is.before);
  fraction = fraction ∙ sym p.after ∙ ap after_point rest ∙ ap (λ l. after_point (without_leading_sign l)) (sym is.before);
  digits = digits;
  by = by ∙ ap (λ l. min (digits_value 10 l) (length (digits_of s.left s.whole.now s.fraction.now) + 40)) exponent;
}

plus-first : (negative : Bool) (xs ys : List ℕ) → AllDigits 10 xs → without_plus (sign_text negative ++ (xs ++ (46 ∷ ys))) ≡ sign_text negative ++ (xs ++ (46 ∷ ys))
plus-first true xs ys h = refl
plus-first false [] ys h = refl
plus-first false (x ∷ xs) ys h = let r = digit_from_value x h.0 in ap (λ b. if b then xs ++ (46 ∷ ys) else x ∷ (xs ++ (46 ∷ ys))) (ne_eqb x 43 (λ e. omega (arith, r, e)))

starts : (b : ℕ) → IsTrue (begins_number b) → starts_number b ≡ true
starts b h = ap (λ t. t || b == 43) h

sign-text : (negative : Bool) → IsUtf8 (sign_text negative)
unfolding encode
sign-text true = (codes "-", (refl, refl))
sign-text false = ([], (refl, refl))

point-text : IsUtf8 (46 ∷ [])
unfolding encode
point-text = (codes ".", (refl, refl))

digits-text : (ds : List ℕ) → AllDigits 10 ds → IsUtf8 ds
digits-text ds h = IsUtf8-from_ascii ds (IsAscii-from_digits ds h)

pub written-number : {A E : Type 0} (r : Result A E) (run out new : List ℕ) (s : Scaled) → IsScaled (without_plus run) s
    → IfOk r (λ _. new ≡ out ++ (sign_text s.negative ++ moved s.left s.by s.whole.now s.fraction.now)) → IfOk r (λ _. IsWrittenNumber run out new)
written-number (Err b) run out new s is h = tt
written-number (Ok a) run out new s is h =
    let parts = digits-parts s.whole.now s.fraction.now (numeral_from (s.whole.now ++ s.fraction.now) is.digits).1 in
    let p = has-point s.left s.by s.whole.now s.fraction.now parts.0 parts.1 in
    let split : sign_text s.negative ++ moved s.left s.by s.whole.now s.fraction.now ≡ sign_text s.negative ++ (p.before ++ (46 ∷ p.behind)) = ap (λ l. sign_text s.negative ++ l) p.split in
    let w = written-run s.negative p.before p.behind p.digits p.more in
    record {
      written = sign_text s.negative ++ (p.before ++ (46 ∷ p.behind));
      split = h ∙ ap (λ l. out ++ l) split;
      run_written = w.0;
      utf8 = λ u. IsUtf8-append (sign_text s.negative) (p.before ++ (46 ∷ p.behind)) (sign-text s.negative) (IsUtf8-append p.before (46 ∷ p.behind) (digits-text p.before p.digits) (IsUtf8-append (46 ∷ []) p.behind point-text (digits-text p.behind p.more)));
      begins = starts (get_or (sign_text s.negative ++ (p.before ++ (46 ∷ p.behind))) 0 0) w.1;
      same = λ D. ap (read_decimal 127 36 D) (plus-first s.negative p.before p.behind p.digits ∙ sym split) ∙ same_moved (without_plus run) s is D;
    }
