-- What numbers are read from: the bytes that they are made of, and the answers of their readers.
use Rattle.std.proofs.Common.{◌≡◌, ℕ, true, List, length, nat_lt, zero, suc, ◌<◌, ◌≤◌, Bool, false, ◌==◌, if◌then◌else◌, [], ◌∷◌, ◌++◌, get_or, None, refl, ap, arith, ◌^◌, cond, ◌&&◌, nat_le, ℤ, pos, neg_ℤ, Option, Some, IfSome, negsuc, Result, Ok, Err, OkIff, sym, ◌∙◌}
use Rattle.std.specs.Str.{IsUtf8, IsAscii}
use Rattle.std.specs.Str.Parse.{IsNumeral, AllDigits, digits_value, starts_with_minus, without_leading_plus, without_leading_sign, ParsesUnsigned, ParsesSigned}
use Rattle.std.specs.Char.{is_ascii_digit}
use Rattle.std.proofs.lemmas.Bool.Decides.{nat_tests}
use Rattle.std.proofs.lemmas.Str.Parse.{digit_from_value}
use Rattle.std.proofs.lemmas.Str.{IsUtf8-from_ascii}
use Rattle.std.specs.Result.{result_ok}
use Rattle.std.specs.Int.RustNames.{FitsSigned}
use borrow.Author.Tests.{ltb-true, eqb-true, lt-ltb, le-leb, leb-true, lt-leb}
use mir.Syntax.{Width}
use mir.Val.{hbits}
use Rattle.wkt_num.specs.Whole.{is_numeral, keep_if, read_unsigned, read_signed, IsSigned}
use Rattle.wkt_num.specs.WholeLaws.{both_true, numeral_from, ascii-more, digits-ascii, sign-ascii, numeral_fits, negative_signed}
use Rattle.wkt_num.specs.Decimal.{before_point, after_point, units_of, read_magnitude, with_sign, and_then, read_decimal}
use Rattle.wkt_num.specs.DecimalLaws.{read-near}

-- A byte of a number's digits is a digit or a point.

not_digit : (d : ℕ) → 48 ≤ d → d ≤ 57 → is_ascii_digit d ≡ false → ⊥
not_digit d a b e = grind (arith, nat_tests)

digits-at : (ds : List ℕ) (i : ℕ) → AllDigits 10 ds → i < length ds → is_ascii_digit (get_or ds i 0) ≡ false → ⊥
digits-at [] i h l e = omega (arith, l)
digits-at (d ∷ ds) zero h l e = let r = digit_from_value d h.0 in not_digit d r.0 r.1 e
digits-at (d ∷ ds) (suc i) h l e = digits-at ds i h.1 (omega (arith, l)) e

body-at : (body : List ℕ) (i : ℕ) → AllDigits 10 (before_point body ++ after_point body) → i < length body → (get_or body i 0 ≡ 46 → ⊥) → is_ascii_digit (get_or body i 0) ≡ false → ⊥
body-at [] i h l p e = omega (arith, l)
body-at (c ∷ cs) i h l p e = go (body-at cs) i l p e (c == 46) refl h
  where
    Rest : Type 0
    Rest = (k : ℕ) → AllDigits 10 (before_point cs ++ after_point cs) → k < length cs → (get_or cs k 0 ≡ 46 → ⊥) → is_ascii_digit (get_or cs k 0) ≡ false → ⊥

    go : Rest → (j : ℕ) → j < length (c ∷ cs) → (get_or (c ∷ cs) j 0 ≡ 46 → ⊥) → is_ascii_digit (get_or (c ∷ cs) j 0) ≡ false → (b : Bool) → (c == 46) ≡ b → AllDigits 10 ((if b then [] else c ∷ before_point cs) ++ (if b then cs else after_point cs)) → ⊥
    go ih zero m q f true g k = q (eqb-true c 46 g)
    go ih (suc j) m q f true g k = digits-at cs j k (omega (arith, m)) f
    go ih zero m q f false g k = let r = digit_from_value c k.0 in not_digit c r.0 r.1 f
    go ih (suc j) m q f false g k = ih j k.1 (omega (arith, m)) q f

-- A body that has another byte stands for no units.
pub none-at : (limit D : ℕ) (body : List ℕ) (i : ℕ) → i < length body → (get_or body i 0 ≡ 46 → ⊥) → is_ascii_digit (get_or body i 0) ≡ false → None ≡ read_magnitude limit D body
unfolding read_magnitude
none-at limit D body i l p e = go (is_numeral (before_point body ++ after_point body)) refl
  where
    go : (b : Bool) → is_numeral (before_point body ++ after_point body) ≡ b → None ≡ (if b then units_of limit D (digits_value 10 (before_point body ++ after_point body)) (length (after_point body)) else None)
    go true g = absurd (body-at body i (numeral_from (before_point body ++ after_point body) g).1 l p e)
    go false g = refl

-- Nor does an empty one.
pub none-of-none : (limit D : ℕ) (body : List ℕ) → length body ≡ 0 → None ≡ read_magnitude limit D body
unfolding read_magnitude
none-of-none limit D [] e = refl
none-of-none limit D (c ∷ cs) e = absurd (omega (arith, e))

-- With any sign.
pub signed-none : (limit D k : ℕ) (negative : Bool) (body : List ℕ) → None ≡ read_magnitude limit D body → None ≡ and_then (read_magnitude limit D body) (with_sign k negative)
signed-none limit D k negative body e = ap (λ o. and_then o (with_sign k negative)) e

-- Only ASCII is read as a decimal.

body-ascii : (body : List ℕ) → AllDigits 10 (before_point body ++ after_point body) → IsAscii body
body-ascii [] h = λ i. omega arith
body-ascii (c ∷ cs) h = go (body-ascii cs) (c == 46) refl h
  where
    go : (AllDigits 10 (before_point cs ++ after_point cs) → IsAscii cs) → (b : Bool) → (c == 46) ≡ b → AllDigits 10 ((if b then [] else c ∷ before_point cs) ++ (if b then cs else after_point cs)) → IsAscii (c ∷ cs)
    go ih true e k = ascii-more c cs (omega (arith, eqb-true c 46 e)) (digits-ascii cs k)
    go ih false e k = ascii-more c cs (let r = digit_from_value c k.0 in omega (arith, r)) (ih k.1)

magnitude-ascii : (D : ℕ) (body : List ℕ) (m : ℕ) → read_magnitude (2 ^ 127) D body ≡ Some m → IsAscii body
unfolding read_magnitude
magnitude-ascii D body m e = go (is_numeral (before_point body ++ after_point body)) refl e
  where
    go : (b : Bool) → is_numeral (before_point body ++ after_point body) ≡ b → (if b then units_of (2 ^ 127) D (digits_value 10 (before_point body ++ after_point body)) (length (after_point body)) else None) ≡ Some m → IsAscii body
    go true g h = body-ascii body (numeral_from (before_point body ++ after_point body) g).1
    go false g h = cc

-- Only texts are read as decimals.
pub decimal_utf8 : (D : ℕ) (bs : List ℕ) → IfSome (read_decimal 127 36 D bs) (λ u. IsUtf8 bs)
unfolding read_decimal
decimal_utf8 D bs = go (nat_le D 36) (read_magnitude (2 ^ 127) D (without_leading_sign bs)) (λ m e. IsUtf8-from_ascii bs (sign-ascii bs (magnitude-ascii D (without_leading_sign bs) m e)))
  where
    all : (o : Option ℤ) → IsUtf8 bs → IfSome o (λ u. IsUtf8 bs)
    all (Some u) h = h
    all None h = tt

    go : (a : Bool) (o : Option ℕ) → ((m : ℕ) → o ≡ Some m → IsUtf8 bs) → IfSome (if a then and_then o (with_sign 127 (starts_with_minus bs)) else None) (λ u. IsUtf8 bs)
    go true (Some m) h = all (with_sign 127 (starts_with_minus bs) m) (h m refl)
    go true None h = tt
    go false o h = tt

-- What `parse` of the standard library answers.

-- An answer that decides a fact is the test's.
pub ok_iff_keeps : {A E P : Type 0} (r : Result A E) (b : Bool) (x : A) → OkIff r P x → (b ≡ true → P) → (P → b ≡ true) → result_ok r ≡ keep_if b x
ok_iff_keeps (Ok y) b x h to from = ap (λ z. Some z) h.1 ∙ sym (ap (λ c. keep_if c x) (from h.0))
ok_iff_keeps (Err e) true x h to from = absurd (h (to refl))
ok_iff_keeps (Err e) false x h to from = refl

-- What `parse` answers at an unsigned type is the reading.
pub parse_read_unsigned : {E : Type 0} (k : ℕ) (bs : List ℕ) (r : Result ℕ E) → ParsesUnsigned k 10 bs r → result_ok r ≡ read_unsigned k bs
parse_read_unsigned k bs r h =
    let ds : List ℕ = without_leading_plus bs in
    let v : ℕ = digits_value 10 ds in
    ok_iff_keeps r (is_numeral ds && nat_lt v (2 ^ k)) v h
    (λ e. let p = both_true (is_numeral ds) (nat_lt v (2 ^ k)) e in (numeral_from ds p.0, ltb-true v (2 ^ k) p.1))
    (λ q. numeral_fits ds _ q.0 (lt-ltb v (2 ^ k) q.1))

-- A number of the type fits its width.
signed_fits : (w : Width) (z : ℤ) → IsSigned (hbits w) z → FitsSigned w z
signed_fits w (pos n) h = record { sfits = h }
signed_fits w (negsuc n) h = record { sfits = h }

-- The magnitude of a negative number that fits is within the limit.
fits_negative : (w : Width) (v : ℕ) → FitsSigned w (neg_ℤ (pos v)) → v ≤ 2 ^ hbits w
fits_negative w zero h = omega arith
fits_negative w (suc v) h = omega (arith, h.sfits)

-- What `parse` answers at a signed type is the reading.
pub parse_read_signed : {E : Type 0} (w : Width) (bs : List ℕ) (r : Result ℤ E) → ParsesSigned w 10 bs r → result_ok r ≡ read_signed (hbits w) bs
parse_read_signed {E} w bs r h = go (starts_with_minus bs) h
  where
    ds : List ℕ
    ds = without_leading_sign bs

    v : ℕ
    v = digits_value 10 ds

    k : ℕ
    k = hbits w

    go : (s : Bool) → OkIff r (IsNumeral 10 ds × FitsSigned w (cond s (neg_ℤ (pos v)) (pos v))) (cond s (neg_ℤ (pos v)) (pos v)) → result_ok r ≡ (if s then keep_if (is_numeral ds && nat_le v (2 ^ k)) (neg_ℤ (pos v)) else keep_if (is_numeral ds && nat_lt v (2 ^ k)) (pos v))
    go true q = ok_iff_keeps r (is_numeral ds && nat_le v (2 ^ k)) (neg_ℤ (pos v)) q
        (λ e. let p = both_true (is_numeral ds) (nat_le v (2 ^ k)) e in (numeral_from ds p.0, signed_fits w _ (negative_signed k v (leb-true v (2 ^ k) p.1))))
        (λ p. numeral_fits ds _ p.0 (le-leb v (2 ^ k) (fits_negative w v p.1)))
    go false q = ok_iff_keeps r (is_numeral ds && nat_lt v (2 ^ k)) (pos v) q
        (λ e. let p = both_true (is_numeral ds) (nat_lt v (2 ^ k)) e in (numeral_from ds p.0, record { sfits = ltb-true v (2 ^ k) p.1 }))
        (λ p. numeral_fits ds _ p.0 (lt-ltb v (2 ^ k) p.1.sfits))

-- The reading with its sign, from the parts that the code makes.

-- With too many places no text is read.
pub read-far : (k most D : ℕ) (bs : List ℕ) → most < D → read_decimal k most D bs ≡ None
unfolding read_decimal
read-far k most D bs h = ap (λ b. if b then and_then (read_magnitude (2 ^ k) D (without_leading_sign bs)) (with_sign k (starts_with_minus bs)) else None) (lt-leb D most h)

-- The reading from the parts that the code makes.
pub read-by : (D : ℕ) (bs b body : List ℕ) (negative : Bool) (o : Option ℤ) → D ≤ 36 → b ≡ bs → negative ≡ starts_with_minus b → body ≡ without_leading_sign b → o ≡ and_then (read_magnitude (2 ^ 127) D body) (with_sign 127 negative) → read_decimal 127 36 D bs ≡ o
read-by D bs b body negative o h e f i k =
    read-near 127 36 D bs h
    ∙ ap (λ x. and_then (read_magnitude (2 ^ 127) D (without_leading_sign x)) (with_sign 127 (starts_with_minus x))) (sym e)
    ∙ ap (λ x. and_then (read_magnitude (2 ^ 127) D x) (with_sign 127 (starts_with_minus b))) (sym i)
    ∙ ap (λ n. and_then (read_magnitude (2 ^ 127) D body) (with_sign 127 n)) (sym f)
    ∙ sym k

pub ruleset read_far = (read-far, read-by)
