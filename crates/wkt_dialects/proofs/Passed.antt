-- What a loop over the bytes of a number has passed.
use Rattle.std.proofs.Common.{◌≡◌, ◌≢◌, ℕ, zero, suc, ◌+◌, ◌-◌, ◌*◌, ◌<◌, ◌≤◌, Bool, true, false, ◌&&◌, if◌then◌else◌, List, [], ◌∷◌, ◌++◌, length, take, drop, get_or, Some, None, refl, sym, ap, ◌∙◌, arith, nat_lt, ◌^◌, length-append, Result, Ok, Err, IfOk, not, append_assoc, drop-cons}
use Rattle.std.specs.Char.{digit_value, is_ascii_digit}
use Rattle.std.specs.Str.{all_ascii_digits}
use Rattle.std.specs.Str.Parse.{AllDigits, digits_value}
use Rattle.std.proofs.lemmas.List.{append-nil}
use Rattle.std.proofs.lemmas.Str.Parse.{digit_at}
use Rattle.std.proofs.lemmas.Bool.Decides.{nat_tests}
use Rattle.std.proofs.Math.Seq.{take-suc}
use Rattle.std.proofs.Math.ListN.{drop_of_length-le}
use borrow.Author.Tests.{ne_eqb, eq-eqb, lt-ltb}
use Rattle.wkt_num.specs.Whole.{is_numeral}
use Rattle.wkt_num.specs.DecimalLaws.{value_append}
use Rattle.wkt_num.specs.Decimal.{before_point, after_point, zeros}
use Rattle.wkt_dialects.specs.Exponents.{is_e, before_e, after_e}
use Rattle.wkt_dialects.specs.Numbers.{HasNoE, HasNoPoint, IsE, IsPoint}

-- the rest from a place on begins with the byte there
at-drop : (bs : List ℕ) (i : ℕ) → i < length bs → drop i bs ≡ get_or bs i 0 ∷ drop (i + 1) bs
at-drop bs i h = drop-cons bs i 0 h ∙ ap (λ k. get_or bs i 0 ∷ drop k bs) {x = suc i} {y = i + 1} (omega arith)

take-more : (bs : List ℕ) (i : ℕ) → i < length bs → take (i + 1) bs ≡ take i bs ++ (get_or bs i 0 ∷ [])
take-more bs i h = ap (λ k. take k bs) {x = i + 1} {y = suc i} (omega arith) ∙ take-suc bs i 0 h

-- Digits.
pub digits-none : (bs : List ℕ) (i : ℕ) → i < length bs → all_ascii_digits (drop i bs) ≡ all_ascii_digits bs → is_ascii_digit (get_or bs i 0) ≡ false → all_ascii_digits bs ≡ false
digits-none bs i h e f = sym e ∙ ap all_ascii_digits (at-drop bs i h) ∙ ap (λ b. b && all_ascii_digits (drop (i + 1) bs)) f

-- An exponent.
pub no-e-on : (bs : List ℕ) (i : ℕ) → i < length bs → HasNoE bs i → is_e (get_or bs i 0) ≡ false → HasNoE bs (i + 1)
no-e-on bs i h k f = record {
  before =
      k.before
      ∙ ap (λ l. take i bs ++ before_e l) (at-drop bs i h)
      ∙ ap (λ b. take i bs ++ (if b then [] else get_or bs i 0 ∷ before_e (drop (i + 1) bs))) f
      ∙ sym (append_assoc (take i bs) (get_or bs i 0 ∷ []) (before_e (drop (i + 1) bs)))
      ∙ ap (λ l. l ++ before_e (drop (i + 1) bs)) (sym (take-more bs i h));
  after = k.after ∙ ap after_e (at-drop bs i h) ∙ ap (λ b. if b then Some (drop (i + 1) bs) else after_e (drop (i + 1) bs)) f;
}

pub e-there : (bs : List ℕ) (i : ℕ) → i < length bs → HasNoE bs i → is_e (get_or bs i 0) ≡ true → IsE bs i
e-there bs i h k f = record {
  inside = h;
  before = k.before ∙ ap (λ l. take i bs ++ before_e l) (at-drop bs i h) ∙ ap (λ b. take i bs ++ (if b then [] else get_or bs i 0 ∷ before_e (drop (i + 1) bs))) f ∙ append-nil (take i bs);
  after = k.after ∙ ap after_e (at-drop bs i h) ∙ ap (λ b. if b then Some (drop (i + 1) bs) else after_e (drop (i + 1) bs)) f;
}

pub no-e-all : (bs : List ℕ) (i : ℕ) → length bs ≤ i → HasNoE bs i → after_e bs ≡ None
no-e-all bs i h k = k.after ∙ ap after_e (drop_of_length-le bs h)

-- A point.
pub no-point-on : (bs : List ℕ) (i : ℕ) → i < length bs → HasNoPoint bs i → get_or bs i 0 ≢ 46 → HasNoPoint bs (i + 1)
no-point-on bs i h k f = record {
  before =
      k.before
      ∙ ap (λ l. take i bs ++ before_point l) (at-drop bs i h)
      ∙ ap (λ b. take i bs ++ (if b then [] else get_or bs i 0 ∷ before_point (drop (i + 1) bs))) (ne_eqb _ 46 f)
      ∙ sym (append_assoc (take i bs) (get_or bs i 0 ∷ []) (before_point (drop (i + 1) bs)))
      ∙ ap (λ l. l ++ before_point (drop (i + 1) bs)) (sym (take-more bs i h));
  after = k.after ∙ ap after_point (at-drop bs i h) ∙ ap (λ b. if b then drop (i + 1) bs else after_point (drop (i + 1) bs)) (ne_eqb _ 46 f);
}

pub point-there : (bs : List ℕ) (i : ℕ) → i < length bs → HasNoPoint bs i → get_or bs i 0 ≡ 46 → IsPoint bs i
point-there bs i h k f = record {
  inside = omega arith;
  before = k.before ∙ ap (λ l. take i bs ++ before_point l) (at-drop bs i h) ∙ ap (λ b. take i bs ++ (if b then [] else get_or bs i 0 ∷ before_point (drop (i + 1) bs))) (eq-eqb _ 46 f) ∙ append-nil (take i bs);
  after = k.after ∙ ap after_point (at-drop bs i h) ∙ ap (λ b. if b then drop (i + 1) bs else after_point (drop (i + 1) bs)) (eq-eqb _ 46 f);
}

pub no-point-all : (bs : List ℕ) (i : ℕ) → i ≡ length bs → HasNoPoint bs i → IsPoint bs i
no-point-all bs i h k = record {
  inside = omega arith;
  before = k.before ∙ ap (λ l. take i bs ++ before_point l) (drop_of_length-le bs (omega arith)) ∙ append-nil (take i bs);
  after = k.after ∙ ap after_point (drop_of_length-le bs (omega arith)) ∙ sym (drop_of_length-le bs (omega arith));
}

-- A value.
pub digit_low : (bs : List ℕ) (i : ℕ) → AllDigits 10 bs → i < length bs → 48 ≤ get_or bs i 0
digit_low bs i d h = (digit_at bs i d h).0

pub value_more : (bs : List ℕ) (i : ℕ) → i < length bs → AllDigits 10 bs → digits_value 10 (take (i + 1) bs) ≡ digits_value 10 (take i bs) * 10 + (get_or bs i 0 - 48)
value_more bs i h d =
    let r = digit_at bs i d h in
    ap (digits_value 10) (take-more bs i h) ∙ value_append 0 (take i bs) (get_or bs i 0 ∷ []) ∙ ap (λ k. digits_value 10 (take i bs) * 10 + k) (value-of (get_or bs i 0) r.0 r.1)
  where
    value-of : (b : ℕ) → 48 ≤ b → b ≤ 57 → digit_value b ≡ b - 48
    value-of b low high = grind (arith, nat_tests)

pub ruleset passed_e = (no-e-on, e-there, no-e-all)

pub ruleset passed_point = (no-point-on, point-there, no-point-all)

-- What was written.
pub appended : {A E : Type 0} (r : Result A E) (new x y : List ℕ) → x ≡ y → IfOk r (λ _. new ≡ x) → IfOk r (λ _. new ≡ y)
appended (Ok a) new x y e h = h ∙ e
appended (Err b) new x y e h = tt

-- Zeros.
pub zeros-put : (out : List ℕ) (n : ℕ) → 0 < n → (out ++ (48 ∷ [])) ++ zeros (n - 1) ≡ out ++ zeros n
zeros-put out zero h = absurd (omega (arith, h))
zeros-put out (suc n) h = ap (λ k. (out ++ (48 ∷ [])) ++ zeros k) {x = suc n - 1} {y = n} (omega arith) ∙ append_assoc out (48 ∷ []) (zeros n)

pub zeros-none : (out : List ℕ) (n : ℕ) → n ≡ 0 → out ++ zeros n ≡ out
zeros-none out n e = ap (λ k. out ++ zeros k) e ∙ append-nil out

pub ruleset passed_zeros = (zeros-put, zeros-none)

-- Two parts of digits.
parts-digits : (a b : List ℕ) → all_ascii_digits (a ++ b) ≡ all_ascii_digits a && all_ascii_digits b
parts-digits [] b = refl
parts-digits (x ∷ a) b = ap (λ t. is_ascii_digit x && t) (parts-digits a b) ∙ sym (and-assoc (is_ascii_digit x) (all_ascii_digits a) (all_ascii_digits b))
  where
    and-assoc : (p q r : Bool) → (p && q) && r ≡ p && (q && r)
    and-assoc true q r = refl
    and-assoc false q r = refl

and-false : (b : Bool) → b && false ≡ false
and-false true = refl
and-false false = refl

pub first-not : (a b : List ℕ) → all_ascii_digits a ≡ false → is_numeral (a ++ b) ≡ false
first-not a b e = ap (λ t. nat_lt 0 (length (a ++ b)) && t) (parts-digits a b ∙ ap (λ t. t && all_ascii_digits b) e) ∙ and-false (nat_lt 0 (length (a ++ b)))

pub none-first : (a b : List ℕ) → length a ≡ 0 → is_numeral (a ++ b) ≡ is_numeral b
none-first [] b e = refl
none-first (x ∷ a) b e = absurd (omega (arith, e))

pub some-first : (a b : List ℕ) → (length a ≡ 0 → ⊥) → all_ascii_digits a ≡ true → is_numeral (a ++ b) ≡ all_ascii_digits b
some-first a b some e = ap (λ t. t && all_ascii_digits (a ++ b)) (lt-ltb 0 (length (a ++ b)) (omega (arith, length-append a b, some))) ∙ parts-digits a b ∙ ap (λ t. t && all_ascii_digits b) e

pub ruleset both_parts = (first-not, none-first, some-first)

pub not-true : (b : Bool) → not b ≡ true → b ≡ false
not-true true e = cc
not-true false e = refl

pub not-false : (b : Bool) → not b ≡ false → b ≡ true
not-false true e = refl
not-false false e = cc
