-- The parts of a number of units, and their text around the point at place 40: its digits are put last first, and padded.
use Rattle.std.proofs.Common.{◌≡◌, ℕ, zero, suc, ◌+◌, ◌-◌, ◌<◌, ◌≤◌, ◌^◌, Bool, true, false, List, [], ◌∷◌, ◌++◌, length, take, drop, sym, ap, ◌∙◌, arith, length-append, length-drop, ◌*◌, ◌/◌, ◌%◌, set, append_assoc, get_or-set_same, drop-cons, length-set, ◌==◌, if◌then◌else◌, get_or, drop_of_length-le, refl, ℤ, pos, negsuc, neg_ℤ, ◌*ℤ◌, subst}
use Rattle.std.specs.Fmt.{decimal, sign_text}
use Rattle.std.specs.Str.{IsAscii, IsUtf8}
use Rattle.std.proofs.lemmas.Fmt.{IsAscii-decimal_wide, decimal_digit, decimal_step_wide, IsAscii-from_digits, decimal_step}
use Rattle.std.proofs.lemmas.Str.{IsAscii-append, IsUtf8-from_ascii}
use Rattle.std.proofs.lemmas.List.{drop-take, take_at, drop-append-le, length-take-le, append-nil, take-take, get_or-take}
use Rattle.std.proofs.Math.Seq.{take-append-add, drop-set-lt, take-append_seam, get_or-append_seam}
use Rattle.std.proofs.Math.Nat.{pow-suc, div-div-eq-div-mul, pow-le-pow_right, mod-lt, div-le_self, div-lt_iff_lt-mul, div-eq_of_lt, mod-eq_of_lt, mul-le-mul_right, mul-div-mul_right}
use Rattle.std.proofs.lemmas.Nat.{mul-pow, div-add-mod', pow-add}
use borrow.Author.Tests.{eq-eqb, ne_eqb, eqb-true, eqb-false}
use Rattle.wkt_num.specs.Decimal.{fraction_digits, fraction_text, magnitude_text, decimal_text, zeros, EndsInDigit, padded}
use Rattle.wkt_num.specs.DecimalLaws.{ten_pos, fraction-bytes, fraction-none, not_negative}

-- A part of an array, as the text that was put there.

-- what stands from the start to the end: what was put before place 40, and then what stood after it
pub piece : (out before text : List ℕ) (start end : ℕ) → drop start out ≡ text ++ drop 40 before → length out ≡ 80 → length before ≡ 80 → start ≤ 40 → 40 ≤ end
    → take (end - start) (drop start out) ≡ text ++ drop 40 (take end before)
piece out before text start end e l k low high =
    let long : length text + start ≡ 40 = omega (arith, ap length e, length-drop start out, length-append text (drop 40 before), length-drop 40 before, l, k) in
    ap (take (end - start)) e
    ∙ ap (λ (n : ℕ). take n (text ++ drop 40 before)) {x = end - start} {y = length text + (end - 40)} (omega (arith, long))
    ∙ take-append-add text (drop 40 before) (end - 40)
    ∙ ap (λ l. text ++ l) (sym (drop-take 40 (end - 40) before))
    ∙ ap (λ (n : ℕ). text ++ drop 40 (take n before)) {x = 40 + (end - 40)} {y = end} (omega arith)

-- the same where the text ends at place 40
pub whole-piece : (out rest text : List ℕ) (start : ℕ) → drop start out ≡ text ++ rest → length out ≡ 80 → length rest ≡ 40 → start ≤ 40
    → take (40 - start) (drop start out) ≡ text
whole-piece out rest text start e l k low =
    ap (take (40 - start)) e ∙ take_at text rest (40 - start) (omega (arith, ap length e, length-drop start out, length-append text rest, l, k))

minus-ascii : IsAscii (45 ∷ [])
minus-ascii zero = omega arith
minus-ascii (suc i) = omega arith

-- a sign and digits
pub whole-ascii : (negative : Bool) (n : ℕ) → n < 10 ^ 64 → IsAscii (sign_text negative ++ decimal n)
whole-ascii true n h = IsAscii-append (45 ∷ []) (decimal n) minus-ascii (IsAscii-decimal_wide n h)
whole-ascii false n h = IsAscii-decimal_wide n h

-- Digits that a loop puts, last first.

-- a byte before what is dropped
pub drop-set-at : (out : List ℕ) (i x : ℕ) → i < length out → drop i (set out i x) ≡ x ∷ drop (i + 1) out
drop-set-at out i x h =
    drop-cons (set out i x) i 0 (omega (arith, length-set out i x))
    ∙ (λ t. get_or-set_same out i x 0 h t ∷ drop-set-lt (suc i) out i x (omega arith) t)
    ∙ ap (λ (j : ℕ). x ∷ drop j out) {x = suc i} {y = i + 1} (omega arith)

-- a number of two digits or more has a place for each but the last
pub fewer : (j n : ℕ) → 10 ≤ n → n < 10 ^ j → (2 ≤ j) × (n / 10 < 10 ^ (j - 1))
fewer zero n h k = absurd (omega arith)
fewer (suc zero) n h k = absurd (omega arith)
fewer (suc (suc j)) n h k = (omega arith, omega (arith, k, pow-suc 10 (suc j), ap (λ (i : ℕ). 10 ^ i) {x = suc (suc j) - 1} {y = suc j} (omega arith)))

-- one digit more
pub put-more : (out whole : List ℕ) (at rest x : ℕ) → 10 ≤ rest → rest < 10 ^ 64 → at < length out → x ≡ 48 + rest % 10
    → decimal rest ++ drop (at + 1) out ≡ whole → decimal (rest / 10) ++ drop at (set out at x) ≡ whole
put-more out whole at rest x h wide room e inv =
    ap (λ l. decimal (rest / 10) ++ l) (drop-set-at out at x room ∙ ap (λ d. d ∷ drop (at + 1) out) e)
    ∙ sym (append_assoc (decimal (rest / 10)) ((48 + rest % 10) ∷ []) (drop (at + 1) out))
    ∙ ap (λ l. l ++ drop (at + 1) out) (sym (decimal_step_wide rest h wide))
    ∙ inv

-- the first digit
pub put-first : (out whole : List ℕ) (at rest x : ℕ) → rest < 10 → at < length out → x ≡ 48 + rest
    → decimal rest ++ drop (at + 1) out ≡ whole → drop at (set out at x) ≡ whole
put-first out whole at rest x h room e inv =
    drop-set-at out at x room ∙ ap (λ d. d ∷ drop (at + 1) out) e ∙ ap (λ l. l ++ drop (at + 1) out) (sym (decimal_digit rest h)) ∙ inv

-- the same where the place is one below
pub put-before : (out whole : List ℕ) (end rest x : ℕ) → 0 < end → 10 ≤ rest → rest < 10 ^ 64 → end ≤ length out → x ≡ 48 + rest % 10
    → decimal rest ++ drop end out ≡ whole → decimal (rest / 10) ++ drop (end - 1) (set out (end - 1) x) ≡ whole
put-before out whole end rest x p h wide room e inv =
    put-more out whole (end - 1) rest x h wide (omega arith) e (ap (λ (i : ℕ). decimal rest ++ drop i out) {x = end - 1 + 1} {y = end} (omega arith) ∙ inv)

-- the same of a small number, of which a tenth is known
pub put-next : (out whole : List ℕ) (end rest x tens : ℕ) → 10 ≤ rest → rest < 1000 → (0 < end) × (end ≤ length out) → tens ≡ rest / 10 → x ≡ 48 + rest % 10
    → decimal rest ++ drop end out ≡ whole → decimal tens ++ drop (end - 1) (set out (end - 1) x) ≡ whole
put-next out whole end rest x tens h less room t e inv =
    ap (λ n. decimal n ++ drop (end - 1) (set out (end - 1) x)) t ∙ put-before out whole end rest x room.0 h (omega (arith, less)) room.1 e inv

-- tenths by multiplications
pub tenth : (n : ℕ) → n < 1000 → n * 6554 / 65536 ≡ n / 10
tenth n h = omega (arith, h)

pub hundredth : (n : ℕ) → n < 100 → n * 205 / 2048 ≡ n / 10
hundredth n h = omega (arith, h)

-- The parts of a number of units, and their text around the point at place 40.

-- a shift, and a division by the power of five
pub whole-is : (u D : ℕ) → u / 2 ^ D / 5 ^ D ≡ u / 10 ^ D
whole-is u D = div-div-eq-div-mul u (2 ^ D) (5 ^ D) ∙ ap (λ p. u / p) (sym (mul-pow 2 5 D))

-- what is left without the whole part
pub fraction-is : (u D w t : ℕ) → w ≡ u / 10 ^ D → t ≡ 10 ^ D → (w * t ≤ u) × (u - w * t ≡ u % 10 ^ D)
fraction-is u D w t e f =
    let split : u / 10 ^ D * 10 ^ D + u % 10 ^ D ≡ u = div-add-mod' u (10 ^ D) in
    let same : w * t ≡ u / 10 ^ D * 10 ^ D = ap (λ x. x * t) e ∙ ap (λ x. u / 10 ^ D * x) f in
    (omega (arith, split, same), omega (arith, split, same))

-- ten to the places fits 128 bits
pub ten-fits : (j : ℕ) → j ≤ 36 → 10 ^ j < 2 ^ 128
ten-fits j h = omega (arith, pow-le-pow_right {n = 10} (omega arith) {i = j} {j = 36} h)

-- ten times a rest fits
pub next-fits : (rest j most : ℕ) → j ≤ most → rest < 10 ^ j → rest * 10 < 10 ^ most * 10
next-fits rest j most h k = omega (arith, k, pow-le-pow_right {n = 10} (omega arith) {i = j} {j = most} h)

-- no fraction
pub no-fraction : (D f : ℕ) (out : List ℕ) → f ≡ 0 → length out ≡ 80 → drop 40 (take 40 out) ≡ fraction_text D f
no-fraction D f out e l =
    drop_of_length-le (take 40 out) {i = 40} (omega (arith, length-take-le 40 out (omega (arith, l)))) ∙ sym (ap (λ b. if b then [] else 46 ∷ fraction_digits D f) (eq-eqb f 0 e))

-- the point and the digits after it
pub some-fraction : (D f end : ℕ) (out old : List ℕ) → (f ≡ 0 → ⊥) → length old ≡ 80 → get_or old 40 0 ≡ 46 → take end out ≡ take 41 old ++ fraction_digits D f → drop 40 (take end out) ≡ fraction_text D f
some-fraction D f end out old some l point e =
    let ds : List ℕ = fraction_digits D f in
    let long : length (take 41 old) ≡ 41 = length-take-le 41 old (omega (arith, l)) in
    ap (drop 40) e
    ∙ drop-append-le 40 (take 41 old) ds (omega (arith, long))
    ∙ ap (λ l. l ++ ds) (drop-take 40 1 old ∙ ap (take 1) (drop-cons old 40 0 (omega (arith, l))) ∙ ap (λ b. b ∷ []) point)
    ∙ sym (ap (λ b. if b then [] else 46 ∷ ds) (ne_eqb f 0 some))

pub fraction_less : (D u f : ℕ) → f ≡ u % 10 ^ D → f < 10 ^ D
fraction_less D u f e = omega (arith, e, mod-lt u (ten_pos D))

-- both parts
pub units-piece : (D u : ℕ) (negative : Bool) (out before : List ℕ) (start end : ℕ) {w f : ℕ} → w ≡ u / 10 ^ D → f ≡ u % 10 ^ D → drop start out ≡ sign_text negative ++ decimal w ++ drop 40 before → length out ≡ 80 → length before ≡ 80
    → start ≤ 40 → 40 ≤ end → drop 40 (take end before) ≡ fraction_text D f → take (end - start) (drop start out) ≡ magnitude_text D negative u
units-piece D u negative out before start end {w} {f} e g put l k low high after =
    piece out before (sign_text negative ++ decimal w) start end put l k low high
    ∙ ap (λ t. sign_text negative ++ decimal w ++ t) after
    ∙ ap (λ x. sign_text negative ++ decimal x ++ fraction_text D f) e
    ∙ ap (λ x. sign_text negative ++ decimal (u / 10 ^ D) ++ fraction_text D x) g

-- a point before ASCII text
point-ascii : (ds : List ℕ) → IsAscii ds → IsAscii (46 ∷ ds)
point-ascii ds h zero = omega arith
point-ascii ds h (suc i) = h i

fraction-ascii : (D f : ℕ) → f < 10 ^ D → IsAscii (fraction_text D f)
fraction-ascii D f h = go (f == 0)
  where
    go : (b : Bool) → IsAscii (if b then [] else 46 ∷ fraction_digits D f)
    go true = λ i. omega arith
    go false = point-ascii (fraction_digits D f) (IsAscii-from_digits (fraction_digits D f) (fraction-bytes D f h))

pub magnitude-ascii : (D u : ℕ) (negative : Bool) → u < 10 ^ 64 → IsAscii (magnitude_text D negative u)
magnitude-ascii D u negative h =
    let small : u / 10 ^ D < 10 ^ 64 = omega (arith, h, div-le_self u (10 ^ D)) in
    IsAscii-append (sign_text negative ++ decimal (u / 10 ^ D)) (fraction_text D (u % 10 ^ D)) (whole-ascii negative (u / 10 ^ D) small) (fraction-ascii D (u % 10 ^ D) (mod-lt u (ten_pos D)))

-- What was put is UTF-8, for its bytes are ASCII.

pub whole_utf8 : (out rest : List ℕ) (start n : ℕ) (negative : Bool) → n < 2 ^ 128 → drop start out ≡ sign_text negative ++ decimal n ++ rest → length out ≡ 80 → length rest ≡ 40 → start ≤ 40
    → IsUtf8 (take (40 - start) (drop start out))
whole_utf8 out rest start n negative h e l k low =
    subst IsUtf8 (sym (whole-piece out rest (sign_text negative ++ decimal n) start e l k low)) (IsUtf8-from_ascii _ (whole-ascii negative n (omega (arith, h))))

pub ruleset ten_fits = (ten-fits, ten_pos)

pub ruleset no_fraction = (no-fraction, some-fraction)

pub ruleset units_piece = units-piece

-- The digits of a fraction, padded with zeros.

pub length-padded : (j f : ℕ) → length (padded j f) ≡ j
length-padded zero f = refl
length-padded (suc j) f = ap suc (length-padded j (f % 10 ^ j))

digit-less : (j f : ℕ) → f < 10 ^ suc j → f / 10 ^ j < 10
digit-less j f h = (div-lt_iff_lt-mul (ten_pos j)).1 (omega (arith, h, pow-suc 10 j))

-- a digit more after q
decimal-one : (q d : ℕ) → 0 < q → d < 10 → q * 10 + d < 2 ^ 64 → decimal (q * 10 + d) ≡ decimal q ++ (48 + d) ∷ []
decimal-one q d some less fits =
    let a : (q * 10 + d) / 10 ≡ q = omega (arith, less) in
    let b : (q * 10 + d) % 10 ≡ d = omega (arith, less) in
    decimal_step (q * 10 + d) (omega (arith, some)) fits ∙ ap (λ n. decimal n ++ (48 + (q * 10 + d) % 10) ∷ []) a ∙ ap (λ n. decimal q ++ (48 + n) ∷ []) b

padded-zero : (j : ℕ) → padded j 0 ≡ zeros j
padded-zero zero = refl
padded-zero (suc j) =
    ap (λ n. (48 + n) ∷ padded j (0 % 10 ^ j)) (div-eq_of_lt (ten_pos j)) ∙ ap (λ n. 48 ∷ padded j n) (mod-eq_of_lt (ten_pos j)) ∙ ap (λ l. 48 ∷ l) (padded-zero j)

pub step : (j f : ℕ) → (f ≡ 0 → ⊥) → fraction_digits (suc j) f ≡ (48 + f / 10 ^ j) ∷ fraction_digits j (f % 10 ^ j)
step j f e = ap (λ b. if b then [] else (48 + f / 10 ^ j) ∷ fraction_digits j (f % 10 ^ j)) (ne_eqb f 0 e)

-- they are those of the fraction, and zeros
pub pads : (j f : ℕ) → (m : ℕ) × (padded j f ≡ fraction_digits j f ++ zeros m)
pads zero f = (0, refl)
pads (suc j) f = elim (f == 0) as (λ b. (f == 0) ≡ b → (m : ℕ) × (padded (suc j) f ≡ fraction_digits (suc j) f ++ zeros m)) [
  | true ↦ λ e. let z = eqb-true f 0 e in (suc j, ap (padded (suc j)) z ∙ padded-zero (suc j) ∙ ap (λ l. l ++ zeros (suc j)) (sym (fraction-none (suc j) f z)))
  | false ↦ λ e. let more = pads j (f % 10 ^ j) in (more.0, ap (λ l. (48 + f / 10 ^ j) ∷ l) more.1 ∙ ap (λ l. l ++ zeros more.0) (sym (step j f (eqb-false f 0 e))))
] refl

-- the last digit of a fraction isn't 0
pub last-digit : (j f : ℕ) → f < 10 ^ j → (f ≡ 0 → ⊥) → EndsInDigit (fraction_digits j f)
last-digit zero f h some = absurd (some (omega (arith, h)))
last-digit (suc j) f h some = elim (f % 10 ^ j == 0) as (λ b. (f % 10 ^ j == 0) ≡ b → EndsInDigit (fraction_digits (suc j) f)) [
  | true ↦ λ e. let z = eqb-true (f % 10 ^ j) 0 e in ([], f / 10 ^ j, step j f some ∙ ap (λ l. (48 + f / 10 ^ j) ∷ l) (fraction-none j (f % 10 ^ j) z), first z)
  | false ↦ λ e. let more = last-digit j (f % 10 ^ j) (mod-lt f (ten_pos j)) (eqb-false (f % 10 ^ j) 0 e) in ((48 + f / 10 ^ j) ∷ more.0, more.1, step j f some ∙ ap (λ l. (48 + f / 10 ^ j) ∷ l) more.2, more.3)
] refl
  where
    first : f % 10 ^ j ≡ 0 → 0 < f / 10 ^ j
    first z = elim (f / 10 ^ j == 0) as (λ b. (f / 10 ^ j == 0) ≡ b → 0 < f / 10 ^ j) [
      | true ↦ λ e. absurd (some (sym (div-add-mod' f (10 ^ j)) ∙ ap (λ d. d * 10 ^ j + f % 10 ^ j) (eqb-true (f / 10 ^ j) 0 e) ∙ omega (arith, z)))
      | false ↦ λ e. omega (arith, eqb-false (f / 10 ^ j) 0 e)
    ] refl

pub zeros-snoc : (k : ℕ) → zeros (suc k) ≡ zeros k ++ 48 ∷ []
zeros-snoc zero = refl
zeros-snoc (suc k) = ap (λ l. 48 ∷ l) (zeros-snoc k)

-- the last byte of what ends at `at`
snoc : (at b : ℕ) (out xs : List ℕ) → at ≤ length out → take at out ≡ xs ++ b ∷ [] → (take (at - 1) out ≡ xs) × (get_or out (at - 1) 0 ≡ b)
snoc at b out xs h e =
    let len : at ≡ length xs + 1 = omega (arith, length-take-le at out h, ap length e, length-append xs (b ∷ [])) in
    let place : at - 1 ≡ length xs = omega (arith, len) in (
      sym (take-take (at - 1) at out (omega (arith, len))) ∙ ap (take (at - 1)) e ∙ ap (λ (n : ℕ). take n (xs ++ b ∷ [])) place ∙ take-append_seam xs (b ∷ []),
      sym (get_or-take at out (at - 1) 0 (omega (arith, len))) ∙ ap (λ l. get_or l (at - 1) 0) e ∙ ap (λ (n : ℕ). get_or (xs ++ b ∷ []) n 0) place ∙ get_or-append_seam xs b [] 0,
    )

zero-last : (at : ℕ) (out kept : List ℕ) (k : ℕ) → at ≤ length out → take at out ≡ kept ++ zeros (suc k) → (take (at - 1) out ≡ kept ++ zeros k) × (get_or out (at - 1) 0 ≡ 48)
zero-last at out kept k h e = snoc at 48 out (kept ++ zeros k) h (e ∙ ap (λ l. kept ++ l) (zeros-snoc k) ∙ sym (append_assoc kept (zeros k) (48 ∷ [])))

pub kept-step : (at : ℕ) (out kept : List ℕ) (k : ℕ) → EndsInDigit kept → at ≤ length out → get_or out (at - 1) 0 ≡ 48 → take at out ≡ kept ++ zeros k → (m : ℕ) × (take (at - 1) out ≡ kept ++ zeros m)
kept-step at out kept zero ends h b e =
    let s = snoc at (48 + ends.1) out ends.0 h (e ∙ append-nil kept ∙ ends.2) in
    absurd (omega (arith, s.1, b, ends.3))
kept-step at out kept (suc k) ends h b e = (k, (zero-last at out kept k h e).0)

pub kept-end : (at : ℕ) (out kept : List ℕ) (k : ℕ) → at ≤ length out → (get_or out (at - 1) 0 ≡ 48 → ⊥) → take at out ≡ kept ++ zeros k → take at out ≡ kept
kept-end at out kept zero h b e = e ∙ append-nil kept
kept-end at out kept (suc k) h b e = absurd (b (zero-last at out kept k h e).1)

pub kept-all : (at : ℕ) (out kept : List ℕ) (k : ℕ) → at ≤ length out → at ≤ 41 → 41 < length kept → take at out ≡ kept ++ zeros k → take at out ≡ kept
kept-all at out kept k h low long e = absurd (omega (arith, length-take-le at out h, ap length e, length-append kept (zeros k), low, long))

-- what a loop over the zeros keeps
pub record Trims (out : List ℕ) (end at : ℕ) : Type 0 where
  pub low : 41 ≤ at
  pub high : at ≤ end
  pub keeps : (kept : List ℕ) (m : ℕ) → EndsInDigit kept → 41 < length kept → take end out ≡ kept ++ zeros m → (k : ℕ) × (take at out ≡ kept ++ zeros k)

-- More places: the same number prints the same.

-- zeros after both
finer_div : (m j e : ℕ) → m * 10 ^ e / 10 ^ (j + e) ≡ m / 10 ^ j
finer_div m j e = ap (λ x. m * 10 ^ e / x) (pow-add 10 j e) ∙ mul-div-mul_right m (10 ^ j) (ten_pos e)

finer_mod : (m j e : ℕ) → m * 10 ^ e % 10 ^ (j + e) ≡ m % 10 ^ j * 10 ^ e
finer_mod m j e = ap (λ x. m * 10 ^ e % x) (pow-add 10 j e) ∙ rest m (10 ^ j) (10 ^ e) (ten_pos e)
  where
    rest : (n P E : ℕ) → 0 < E → n * E % (P * E) ≡ n % P * E
    rest n P E h =
        let q : n * E / (P * E) ≡ n / P = mul-div-mul_right n P h in
        let one : n * E / (P * E) * (P * E) + n * E % (P * E) ≡ n * E = div-add-mod' (n * E) (P * E) in
        let two : n / P * P + n % P ≡ n = div-add-mod' n P in
        omega (arith, one, ap (λ x. x * (P * E)) q, ap (λ x. x * E) two)

same_zero : (f e : ℕ) → (f * 10 ^ e == 0) ≡ (f == 0)
same_zero f e = go (f == 0) refl
  where
    go : (b : Bool) → (f == 0) ≡ b → (f * 10 ^ e == 0) ≡ b
    go true h = eq-eqb _ 0 (omega (arith, ap (λ x. x * 10 ^ e) (eqb-true f 0 h)))
    go false h = ne_eqb _ 0 (λ z. eqb-false f 0 h (zero_of f z))
      where
        zero_of : (x : ℕ) → x * 10 ^ e ≡ 0 → x ≡ 0
        zero_of zero q = refl
        zero_of (suc x) q = absurd (omega (arith, q, ten_pos e, mul-le-mul_right {m = 1} {n = suc x} (10 ^ e) (omega arith)))

finer_digits : (e j f : ℕ) → f < 10 ^ j → fraction_digits (j + e) (f * 10 ^ e) ≡ fraction_digits j f
finer_digits e zero f h = fraction-none (0 + e) (f * 10 ^ e) (omega (arith, ap (λ x. x * 10 ^ e) {x = f} {y = 0} (omega arith)))
finer_digits e (suc j) f h =
    ap (λ (n : ℕ). fraction_digits n (f * 10 ^ e)) {x = suc j + e} {y = suc (j + e)} (omega arith)
    ∙ ap (λ b. if b then [] else (48 + f * 10 ^ e / 10 ^ (j + e)) ∷ fraction_digits (j + e) (f * 10 ^ e % 10 ^ (j + e))) (same_zero f e)
    ∙ ap (λ x. if f == 0 then [] else (48 + x) ∷ fraction_digits (j + e) (f * 10 ^ e % 10 ^ (j + e))) (finer_div f j e)
    ∙ ap (λ x. if f == 0 then [] else (48 + f / 10 ^ j) ∷ fraction_digits (j + e) x) (finer_mod f j e)
    ∙ ap (λ l. if f == 0 then [] else (48 + f / 10 ^ j) ∷ l) (finer_digits e j (f % 10 ^ j) (mod-lt f (ten_pos j)))

finer_magnitude : (D e m : ℕ) (negative : Bool) → magnitude_text (D + e) negative (m * 10 ^ e) ≡ magnitude_text D negative m
finer_magnitude D e m negative =
    ap (λ q. sign_text negative ++ decimal q ++ fraction_text (D + e) (m * 10 ^ e % 10 ^ (D + e))) (finer_div m D e)
    ∙ ap (λ f. sign_text negative ++ decimal (m / 10 ^ D) ++ fraction_text (D + e) f) (finer_mod m D e)
    ∙ ap (λ l. sign_text negative ++ decimal (m / 10 ^ D) ++ l) (ap (λ b. if b then [] else 46 ∷ fraction_digits (D + e) (f * 10 ^ e)) (same_zero f e) ∙ ap (λ l. if f == 0 then [] else 46 ∷ l) (finer_digits e D f (mod-lt m (ten_pos D))))
  where
    f : ℕ
    f = m % 10 ^ D

minus_text : (D x : ℕ) → 0 < x → decimal_text D (neg_ℤ (pos x)) ≡ magnitude_text D true x
minus_text D zero h = absurd (omega arith)
minus_text D (suc x) h = refl

pub finer_text : (D e : ℕ) (u : ℤ) → decimal_text (D + e) (u *ℤ pos (10 ^ e)) ≡ decimal_text D u
finer_text D e (pos n) = ap (λ b. magnitude_text (D + e) b (n * 10 ^ e)) (not_negative (n * 10 ^ e)) ∙ finer_magnitude D e n false ∙ sym (ap (λ b. magnitude_text D b n) (not_negative n))
finer_text D e (negsuc n) = minus_text (D + e) (suc n * 10 ^ e) (omega (arith, ten_pos e, mul-le-mul_right {m = 1} {n = suc n} (10 ^ e) (omega arith))) ∙ finer_magnitude D e (suc n) true
