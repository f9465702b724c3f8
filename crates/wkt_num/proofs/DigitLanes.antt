-- Digits in the lanes of a vector, and those in its first lanes as its last lanes.
use Rattle.std.proofs.Common.{◌≡◌, ℕ, zero, suc, ◌+◌, ◌-◌, ◌*◌, ◌/◌, ◌%◌, ◌^◌, ◌<◌, ◌≤◌, Bool, true, false, cond, List, [], ◌∷◌, ◌++◌, length, take, drop, map, replicate, bit_and, nat_lt, refl, sym, ap, ap₂, subst, ◌∙◌, arith, Fits, w8, get_or, length-append, length-drop, slice_range}
use Rattle.std.specs.Prelude.{not}
use Rattle.std.specs.Char.{digit_value}
use Rattle.std.specs.Str.Parse.{AllDigits, digits_value, digits_value_after}
use Rattle.std.proofs.lemmas.Bool.Decides.{nat_tests}
use Rattle.std.proofs.lemmas.Grind.{and_numeral}
use Rattle.std.proofs.lemmas.List.{take-replicate, drop-replicate, drop-append-le, drop-drop, take-take, take_all, length-replicate, length-map, take-append-drop, length-take-le, take-map}
use Rattle.std.proofs.lemmas.Simd.{chunk-fits, tops_compared, zip2_splat_left, mask_l-mod, trailing_mask_l, zip2_splat}
use Rattle.std.specs.Int.Bits.{and_zero_r}
use Rattle.std.proofs.Math.Nat.{pow-suc}
use Rattle.std.specs.List.{prefix_len}
use Rattle.std.specs.Int.{IsInRange}
use Rattle.std.proofs.lemmas.Str.Parse.{digit_from_value}
use Rattle.std.proofs.lemmas.Nat.{pow-add}
use borrow.Author.Tests.{ltb-false}
use lib.Lanes.{zip2, Each1, chunk, mask_l, number_l, digits_l, top}
use mir.Val.{bits, hbits}
use lib.Count.{count_trailing_zeros}
use Rattle.wkt_num.specs.DigitParts.{DigitLanes, lanes_after, lanes_value, last_lanes}

-- Digits in the lanes of a vector.

-- a byte less 48
abbrev pub digit : ℕ → ℕ
digit b = (b + 208) % 256

abbrev less : ℕ → ℕ → ℕ
less a b = (a + (256 - b)) % 256

-- the lanes that are kept
hidden : (xs : List ℕ) (k n : ℕ) → length xs ≡ k + n
    → zip2 bit_and (zip2 less xs (replicate (length xs) 48)) (replicate k 0 ++ replicate n 255) ≡ replicate k 0 ++ map digit (drop k xs)
hidden [] zero n e = refl
hidden [] (suc k) n e = absurd (omega (arith, e))
hidden (x ∷ xs) zero zero e = absurd (omega (arith, e))
hidden (x ∷ xs) zero (suc n) e = ap₂ (λ d l. d ∷ l) (and_numeral (digit x) 254 refl ∙ omega arith) (hidden xs zero n (omega (arith, e)))
hidden (x ∷ xs) (suc k) n e = ap₂ (λ d l. d ∷ l) (and_zero_r (digit x)) (hidden xs k n (omega (arith, e)))

take-two : (a r q : ℕ) → r ≤ q → take {A = ℕ} (a + r) (replicate a 0 ++ replicate q 255) ≡ replicate a 0 ++ replicate r 255
take-two zero r q h = ap (λ n. take {A = ℕ} n (replicate q 255)) {x = 0 + r} {y = r} (omega arith) ∙ take-replicate r q 255 h
take-two (suc a) r q h = ap (λ n. take {A = ℕ} n (replicate (suc a) 0 ++ replicate q 255)) {x = suc a + r} {y = suc (a + r)} (omega arith) ∙ ap (λ l. 0 ∷ l) (take-two a r q h)

-- what is loaded of the lanes to hide and to keep
pub kept : (n count i : ℕ) → count ≤ n → n ≤ 16 → i + n ≡ 16 + count
    → take {A = ℕ} n (take (32 - i) (drop i (replicate 16 0 ++ replicate 16 255))) ≡ replicate (n - count) 0 ++ replicate count 255
kept n count i h k e =
    take-take n (32 - i) _ (omega (arith, h, k, e))
    ∙ ap (take n) (drop-append-le i (replicate 16 0) (replicate 16 255) (omega (arith, h, e, length-replicate 16 zero)) ∙ ap (λ l. l ++ replicate 16 255) (drop-replicate i 16 0))
    ∙ ap (λ a. take {A = ℕ} n (replicate a 0 ++ replicate 16 255)) {x = 16 - i} {y = n - count} (omega (arith, h, e))
    ∙ ap (λ m. take {A = ℕ} m (replicate (n - count) 0 ++ replicate 16 255)) {x = n} {y = n - count + count} (omega (arith, h))
    ∙ take-two (n - count) count 16 (omega (arith, h, k))

-- the last bytes of a text
tail-is : (n count : ℕ) (bs : List ℕ) → count ≤ n → n ≤ length bs → drop (n - count) (chunk (length bs - n) n bs) ≡ drop (length bs - count) bs
tail-is n count bs h k =
    ap (drop (n - count)) (take_all n (drop (length bs - n) bs) (omega (arith, k, length-drop (length bs - n) bs)))
    ∙ drop-drop (n - count) (length bs - n) bs
    ∙ ap (λ (i : ℕ). drop i bs) {x = length bs - n + (n - count)} {y = length bs - count} (omega (arith, h, k))

pub lanes-are : (n count : ℕ) (bs keep : List ℕ) → count ≤ n → n ≤ length bs → keep ≡ replicate (n - count) 0 ++ replicate count 255
    → zip2 bit_and (zip2 less (chunk (length bs - n) n bs) (replicate n 48)) keep ≡ last_lanes n count bs
lanes-are n count bs keep h k e =
    let xs : List ℕ = chunk (length bs - n) n bs in
    let long : length xs ≡ n = ap length (take_all n (drop (length bs - n) bs) (omega (arith, k, length-drop (length bs - n) bs))) ∙ omega (arith, k, length-drop (length bs - n) bs) in
    ap (λ l. zip2 bit_and (zip2 less xs (replicate n 48)) l) e
    ∙ ap (λ m. zip2 bit_and (zip2 less xs (replicate m 48)) (replicate (n - count) 0 ++ replicate count 255)) (sym long)
    ∙ hidden xs (n - count) count (omega (arith, long, h))
    ∙ ap (λ l. replicate (n - count) 0 ++ map digit l) (tail-is n count bs h k)

-- lanes of which none is over 9
none-over : (xs : List ℕ) → mask_l (map (λ x. nat_lt 9 x) xs) ≡ 0 → DigitLanes xs
none-over [] e = tt
none-over (x ∷ xs) e = go (nat_lt 9 x) refl e (none-over xs)
  where
    go : (b : Bool) → nat_lt 9 x ≡ b → cond b 1 0 + 2 * mask_l (map (λ y. nat_lt 9 y) xs) ≡ 0 → (mask_l (map (λ y. nat_lt 9 y) xs) ≡ 0 → DigitLanes xs) → DigitLanes (x ∷ xs)
    go true f e more = absurd (omega (arith, e))
    go false f e more = (ltb-false 9 x f, more (omega (arith, e)))

pub over-mask : (n : ℕ) (lanes : List ℕ) → length lanes ≡ n → n ≤ 64
    → mask_l (map (top (hbits w8)) (zip2 (λ a b. cond (nat_lt a b) (2 ^ bits w8 - 1) 0) (replicate n 9) lanes)) % 2 ^ 64 ≡ mask_l (map (λ x. nat_lt 9 x) lanes)
over-mask n lanes e h =
    ap (λ ms. mask_l ms % 2 ^ 64) (tops_compared w8 nat_lt (replicate n 9) lanes ∙ zip2_splat_left nat_lt 9 n lanes e)
    ∙ mask_l-mod _ 64 (omega (arith, length-map lanes (λ x. nat_lt 9 x), e, h))

after-zeros : (k : ℕ) (ds : List ℕ) → DigitLanes (replicate k 0 ++ ds) → DigitLanes ds
after-zeros zero ds h = h
after-zeros (suc k) ds h = after-zeros k ds h.1

pub value-after-zeros : (k : ℕ) (ds : List ℕ) → lanes_value (replicate k 0 ++ ds) ≡ lanes_value ds
value-after-zeros zero ds = refl
value-after-zeros (suc k) ds = value-after-zeros k ds

pub byte-digit : (b : ℕ) → b < 256 → digit b ≤ 9 → (digit_value b ≡ digit b) × (digit_value b < 10)
byte-digit b h k = let r : (48 ≤ b) × (b ≤ 57) = (omega (arith, h, k), omega (arith, h, k)) in go r.0 r.1
  where
    value : 48 ≤ b → b ≤ 57 → digit_value b ≡ b - 48
    value low high = grind (arith, nat_tests)

    go : 48 ≤ b → b ≤ 57 → (digit_value b ≡ digit b) × (digit_value b < 10)
    go low high = (omega (arith, value low high, low, high), omega (arith, value low high, low, high))

pub all-digits : (bs : List ℕ) → Each1 (Fits w8) bs → DigitLanes (map digit bs) → AllDigits 10 bs
all-digits [] f h = tt
all-digits (b ∷ bs) f h = let less : b < 256 = f.0.fits in ((byte-digit b less h.0).1, all-digits bs f.1 h.1)

pub same-value : (n : ℕ) (bs : List ℕ) → Each1 (Fits w8) bs → DigitLanes (map digit bs) → lanes_after n (map digit bs) ≡ digits_value_after 10 n bs
same-value n [] f h = refl
same-value n (b ∷ bs) f h =
    let less : b < 256 = f.0.fits in
    same-value (n * 10 + digit b) bs f.1 h.1 ∙ ap (λ d. digits_value_after 10 (n * 10 + d) bs) (sym (byte-digit b less h.0).0)

length-last : (n count : ℕ) (bs : List ℕ) → count ≤ n → n ≤ length bs → length (last_lanes n count bs) ≡ n
length-last n count bs h k =
    length-append (replicate (n - count) 0) _
    ∙ omega (arith, length-replicate (n - count) zero, length-map (drop (length bs - count) bs) digit, length-drop (length bs - count) bs, h, k)

-- the last bytes of a text are bytes
last-fits : (i : ℕ) (bs : List ℕ) → ((k : ℕ) → Fits w8 (get_or bs k 0)) → Each1 (Fits w8) (drop i bs)
last-fits i bs f = subst (Each1 (Fits w8)) (take_all (length bs) (drop i bs) (omega (arith, length-drop i bs))) (chunk-fits w8 i (length bs) bs f)

-- of the last bytes no lane is over 9
-- the lanes of the last bytes, none of which is past 9
module _ (n count : ℕ) (bs lanes : List ℕ) (fits : (k : ℕ) → Fits w8 (get_or bs k 0)) (e : lanes ≡ last_lanes n count bs) (h : (n ≤ length bs) × (count ≤ n)) (most : n ≤ 64)
    (none : mask_l (map (top (hbits w8)) (zip2 (λ a b. cond (nat_lt a b) (2 ^ bits w8 - 1) 0) (replicate n 9) lanes)) % 2 ^ 64 ≡ 0) where
  none-last : DigitLanes lanes
  none-last = none-over lanes (sym (over-mask n lanes (ap length e ∙ length-last n count bs h.1 h.0) most) ∙ none)

  pub last-digits : AllDigits 10 (drop (length bs - count) bs)
  last-digits = all-digits _ (last-fits _ bs fits) (after-zeros (n - count) _ (subst DigitLanes e none-last))

  pub last-value : lanes_value lanes ≡ digits_value 10 (drop (length bs - count) bs)
  last-value = ap lanes_value e ∙ value-after-zeros (n - count) _ ∙ same-value 0 _ (last-fits _ bs fits) (after-zeros (n - count) _ (subst DigitLanes e none-last))

-- ---- two digits in 16 bits

abbrev pub pair : ℕ → ℕ
pair v = v % 65536 * 2561 % 65536 / 256

pair-is : (a b r : ℕ) → a ≤ 9 → b ≤ 9 → pair (a + 256 * (b + 256 * r)) ≡ a * 10 + b
pair-is a b r h k = ap (λ v. v * 2561 % 65536 / 256) {x = (a + 256 * (b + 256 * r)) % 65536} {y = a + 256 * b} (omega (arith, h, k)) ∙ omega (arith, h, k)

rest-is : (a b r : ℕ) → a ≤ 9 → b ≤ 9 → (a + 256 * (b + 256 * r)) / 65536 ≡ r
rest-is a b r h k = omega (arith, h, k)

sum-is : (p q r s a b c d : ℕ) → p ≡ a → q ≡ b → r ≡ c → s ≡ d → p * 1000000 + q * 10000 + r * 100 + s ≡ a * 1000000 + b * 10000 + c * 100 + d
sum-is p q r s a b c d e f g h = omega (arith, e, f, g, h)

two-less : (v a b : ℕ) → pair v ≡ a * 10 + b → a ≤ 9 → b ≤ 9 → pair v < 100
two-less v a b e h k = subst (λ n. n < 100) (sym e) (omega (arith, h, k))

-- the first eight of so many more lanes
pub record Pairs (ds : List ℕ) (n : ℕ) (v : ℕ) : Type 0 where
  pub l : List ℕ
  pub left : length l ≡ n
  pub digits : DigitLanes l
  pub first : pair v < 100
  pub second : pair (v / 65536) < 100
  pub third : pair (v / 65536 / 65536) < 100
  pub fourth : pair (v / 65536 / 65536 / 65536) < 100
  pub rest : v / 65536 / 65536 / 65536 / 65536 ≡ number_l 256 l
  pub value : (k : ℕ) → lanes_after k ds ≡ lanes_after (k * 100000000 + (pair v * 1000000 + pair (v / 65536) * 10000 + pair (v / 65536 / 65536) * 100 + pair (v / 65536 / 65536 / 65536))) l

pub pairs-of : (ds : List ℕ) (n : ℕ) → length ds ≡ 8 + n → DigitLanes ds → Pairs ds n (number_l 256 ds)
pairs-of [] n z s = absurd (omega (arith, z))
pairs-of (a ∷ []) n z s = absurd (omega (arith, z))
pairs-of (a ∷ b ∷ []) n z s = absurd (omega (arith, z))
pairs-of (a ∷ b ∷ c ∷ []) n z s = absurd (omega (arith, z))
pairs-of (a ∷ b ∷ c ∷ d ∷ []) n z s = absurd (omega (arith, z))
pairs-of (a ∷ b ∷ c ∷ d ∷ e ∷ []) n z s = absurd (omega (arith, z))
pairs-of (a ∷ b ∷ c ∷ d ∷ e ∷ f ∷ []) n z s = absurd (omega (arith, z))
pairs-of (a ∷ b ∷ c ∷ d ∷ e ∷ f ∷ g ∷ []) n z s = absurd (omega (arith, z))
pairs-of (a ∷ b ∷ c ∷ d ∷ e ∷ f ∷ g ∷ h ∷ l) n z s =
    let sb = s.1 in
    let sc = sb.1 in
    let sd = sc.1 in
    let se = sd.1 in
    let sf = se.1 in
    let sg = sf.1 in
    let sh = sg.1 in
    let v : ℕ = number_l 256 (a ∷ b ∷ c ∷ d ∷ e ∷ f ∷ g ∷ h ∷ l) in
    let u : ℕ = number_l 256 (c ∷ d ∷ e ∷ f ∷ g ∷ h ∷ l) in
    let t : ℕ = number_l 256 (e ∷ f ∷ g ∷ h ∷ l) in
    let w : ℕ = number_l 256 (g ∷ h ∷ l) in
    let one : v / 65536 ≡ u = rest-is a b u s.0 sb.0 in
    let two : v / 65536 / 65536 ≡ t = ap (λ x. x / 65536) one ∙ rest-is c d t sc.0 sd.0 in
    let three : v / 65536 / 65536 / 65536 ≡ w = ap (λ x. x / 65536) two ∙ rest-is e f w se.0 sf.0 in
    let p : pair v ≡ a * 10 + b = pair-is a b u s.0 sb.0 in
    let q : pair (v / 65536) ≡ c * 10 + d = ap pair one ∙ pair-is c d t sc.0 sd.0 in
    let r : pair (v / 65536 / 65536) ≡ e * 10 + f = ap pair two ∙ pair-is e f w se.0 sf.0 in
    let o : pair (v / 65536 / 65536 / 65536) ≡ g * 10 + h = ap pair three ∙ pair-is g h (number_l 256 l) sg.0 sh.0 in
    let sum = sum-is _ _ _ _ _ _ _ _ p q r o in
    record {
      l = l;
      left = omega (arith, z);
      digits = sh.1;
      first = two-less v a b p s.0 sb.0;
      second = two-less _ c d q sc.0 sd.0;
      third = two-less _ e f r se.0 sf.0;
      fourth = two-less _ g h o sg.0 sh.0;
      rest = ap (λ x. x / 65536) three ∙ rest-is g h (number_l 256 l) sg.0 sh.0;
      value = λ k. ap (λ x. lanes_after x l) (all-digits-of k a b c d e f g h) ∙ ap (λ x. lanes_after (k * 100000000 + x) l) (sym sum);
    }
  where
    all-digits-of : (k a b c d e f g h : ℕ)
        → (((((((k * 10 + a) * 10 + b) * 10 + c) * 10 + d) * 10 + e) * 10 + f) * 10 + g) * 10 + h ≡ k * 100000000 + ((a * 10 + b) * 1000000 + (c * 10 + d) * 10000 + (e * 10 + f) * 100 + (g * 10 + h))
    all-digits-of k a b c d e f g h = omega arith

-- the number of four pairs
abbrev pub quads : ℕ → ℕ
quads v = pair v * 1000000 + pair (v / 65536) * 10000 + pair (v / 65536 / 65536) * 100 + pair (v / 65536 / 65536 / 65536)

pub alone : (n : ℕ) → n ≡ 0 * 100000000 + n
alone n = omega arith

pub joined : (m n x y : ℕ) → m ≡ x → n ≡ y → m * 100000000 + n ≡ (0 * 100000000 + x) * 100000000 + y
joined m n x y e f = omega (arith, e, f)

pub no-more : (n : ℕ) (l : List ℕ) → length l ≡ 0 → lanes_after n l ≡ n
no-more n [] e = refl
no-more n (d ∷ l) e = absurd (omega (arith, e))

-- ---- four digits in 32 bits

abbrev pub four : ℕ → ℕ
four v = v % 4294967296 * 6553601 % 4294967296 / 65536

four-is : (p q r : ℕ) → p < 100 → q < 100 → four (p + 65536 * (q + 65536 * r)) ≡ p * 100 + q
four-is p q r h k = ap (λ v. v * 6553601 % 4294967296 / 65536) {x = (p + 65536 * (q + 65536 * r)) % 4294967296} {y = p + 65536 * q} (omega (arith, h, k)) ∙ omega (arith, h, k)

-- bytes of a number make it again
number-digits : (n x : ℕ) → x < 256 ^ n → number_l 256 (digits_l 256 n x) ≡ x
number-digits zero x h = omega (arith, h)
number-digits (suc n) x h = ap (λ r. x % 256 + 256 * r) (number-digits n (x / 256) (omega (arith, h, pow-suc 256 n))) ∙ omega arith

-- the bytes of four pairs
abbrev pub bytes_of : ℕ → ℕ → ℕ → ℕ → ℕ
bytes_of p q r s = number_l 256 (digits_l 256 8 (number_l 65536 (p ∷ q ∷ r ∷ s ∷ [])))

pub fours-are : (p q r s : ℕ) → p < 100 → q < 100 → r < 100 → s < 100
    → four (bytes_of p q r s) * 10000 + four (bytes_of p q r s / 4294967296) ≡ p * 1000000 + q * 10000 + r * 100 + s
fours-are p q r s a b c d =
    let all : bytes_of p q r s ≡ p + 65536 * (q + 65536 * (r + 65536 * (s + 65536 * 0))) = number-digits 8 _ (omega (arith, a, b, c, d)) in
    let one : four (bytes_of p q r s) ≡ p * 100 + q = ap four all ∙ four-is p q (r + 65536 * (s + 65536 * 0)) a b in
    let two : four (bytes_of p q r s / 4294967296) ≡ r * 100 + s =
    ap (λ x. four (x / 4294967296)) all
    ∙ ap four {x = (p + 65536 * (q + 65536 * (r + 65536 * (s + 65536 * 0)))) / 4294967296} {y = r + 65536 * (s + 65536 * 0)} (omega (arith, a, b, c, d))
    ∙ four-is r s 0 c d in
    omega (arith, one, two)

-- Digits in the first lanes of a vector, and these as its last lanes.

-- ---- lanes as a number

number-append : (xs ys : List ℕ) → number_l 256 (xs ++ ys) ≡ number_l 256 xs + 256 ^ length xs * number_l 256 ys
number-append [] ys = omega arith
number-append (x ∷ xs) ys = ap (λ n. x + 256 * n) (number-append xs ys) ∙ omega (arith, ap (λ p. p * number_l 256 ys) (pow-suc 256 (length xs)))

number-zeros : (k : ℕ) (xs : List ℕ) → number_l 256 (replicate k 0 ++ xs) ≡ 256 ^ k * number_l 256 xs
number-zeros zero xs = omega arith
number-zeros (suc k) xs = ap (λ n. 0 + 256 * n) (number-zeros k xs) ∙ omega (arith, ap (λ p. p * number_l 256 xs) (pow-suc 256 k))

number-less : (xs : List ℕ) → Each1 (Fits w8) xs → number_l 256 xs < 256 ^ length xs
number-less [] f = omega arith
number-less (x ∷ xs) f = omega (arith, f.0.fits, number-less xs f.1, pow-suc 256 (length xs))

-- a number has the lanes that it was made of
lanes-again : (n : ℕ) (xs : List ℕ) → length xs ≡ n → Each1 (Fits w8) xs → digits_l 256 n (number_l 256 xs) ≡ xs
lanes-again zero [] e f = refl
lanes-again zero (x ∷ xs) e f = absurd (omega (arith, e))
lanes-again (suc n) [] e f = absurd (omega (arith, e))
lanes-again (suc n) (x ∷ xs) e f =
    let low : (x + 256 * number_l 256 xs) % 256 ≡ x = omega (arith, f.0.fits) in
    let high : (x + 256 * number_l 256 xs) / 256 ≡ number_l 256 xs = omega (arith, f.0.fits) in
    ap₂ (λ d l. d ∷ l) low (ap (digits_l 256 n) high ∙ lanes-again n xs (omega (arith, e)) f.1)

fits-take : (n : ℕ) (xs : List ℕ) → Each1 (Fits w8) xs → Each1 (Fits w8) (take n xs)
fits-take zero xs f = tt
fits-take (suc n) [] f = tt
fits-take (suc n) (x ∷ xs) f = (f.0, fits-take n xs f.1)

fits-zeros : (k : ℕ) (xs : List ℕ) → Each1 (Fits w8) xs → Each1 (Fits w8) (replicate k 0 ++ xs)
fits-zeros zero xs f = f
fits-zeros (suc k) xs f = (record { fits = omega arith }, fits-zeros k xs f)

digits-zeros : (k : ℕ) (ds : List ℕ) → DigitLanes ds → DigitLanes (replicate k 0 ++ ds)
digits-zeros zero ds h = h
digits-zeros (suc k) ds h = (omega arith, digits-zeros k ds h)

two-powers : (k : ℕ) → 2 ^ (8 * k) ≡ 256 ^ k
two-powers zero = refl
two-powers (suc k) =
    ap (λ n. 2 ^ n) {x = 8 * suc k} {y = 8 * k + 8} (omega arith)
    ∙ pow-add 2 (8 * k) 8
    ∙ ap (λ n. n * 2 ^ 8) (two-powers k)
    ∙ omega (arith, pow-suc 256 k)

-- ---- the first lanes, moved to the last, after lanes of 0

module _ (ds : List ℕ) (count : ℕ) (long : length ds ≡ 8) (fits : Each1 (Fits w8) ds) (most : count ≤ 8) where
  abbrev first : List ℕ
  first = take count ds

  abbrev lasts : List ℕ
  lasts = replicate (8 - count) 0 ++ take count ds

  long-first : length first ≡ count
  long-first = length-take-le count ds (omega (arith, long, most))

  long-lasts : length lasts ≡ 8
  long-lasts = length-append (replicate (8 - count) 0) first ∙ omega (arith, length-replicate (8 - count) zero, long-first, most)

  fits-lasts : Each1 (Fits w8) lasts
  fits-lasts = fits-zeros (8 - count) first (fits-take count ds fits)

  abbrev rest : ℕ
  rest = number_l 256 (drop count ds)

  parts : number_l 256 ds ≡ number_l 256 first + 256 ^ count * rest
  parts =
      ap (number_l 256) (sym (take-append-drop count ds))
      ∙ number-append first (drop count ds)
      ∙ ap (λ n. number_l 256 first + 256 ^ n * rest) long-first

  scale : 256 ^ count * 256 ^ (8 - count) ≡ 256 ^ 8
  scale = sym (pow-add 256 count (8 - count)) ∙ ap (λ n. 256 ^ n) {x = count + (8 - count)} {y = 8} (omega (arith, most))

  raised : (number_l 256 first + 256 ^ count * rest) * 256 ^ (8 - count) ≡ number_l 256 lasts + 256 ^ 8 * rest
  raised = omega (arith, number-zeros (8 - count) first, ap (λ p. p * rest) scale)

  below : number_l 256 lasts < 256 ^ 8
  below = omega (arith, number-less lasts fits-lasts, ap (λ n. 256 ^ n) long-lasts)

  moved : number_l 256 ds % 2 ^ 64 * 2 ^ (64 - 8 * count) % 2 ^ 64 + 0 ≡ number_l 256 lasts
  moved =
      ap (λ n. n * 2 ^ (64 - 8 * count) % 2 ^ 64 + 0) {x = number_l 256 ds % 2 ^ 64} {y = number_l 256 ds} (omega (arith, number-less ds fits, ap (λ n. 256 ^ n) long))
      ∙ ap (λ n. n * 2 ^ (64 - 8 * count) % 2 ^ 64 + 0) parts
      ∙ ap (λ n. (number_l 256 first + 256 ^ count * rest) * n % 2 ^ 64 + 0) (ap (λ n. 2 ^ n) {x = 64 - 8 * count} {y = 8 * (8 - count)} (omega (arith, most)) ∙ two-powers (8 - count))
      ∙ ap (λ n. n % 2 ^ 64 + 0) raised
      ∙ omega (arith, below)

  lanes-moved : digits_l 256 8 (number_l 256 ds % 2 ^ 64 * 2 ^ (64 - 8 * count) % 2 ^ 64 + 0) ≡ lasts
  lanes-moved = ap (digits_l 256 8) moved ∙ lanes-again 8 lasts long-lasts fits-lasts

  pub moved-digits : DigitLanes (take count ds) → DigitLanes (digits_l 256 8 (number_l 256 ds % 2 ^ 64 * 2 ^ (64 - 8 * count) % 2 ^ 64 + 0))
  moved-digits h = subst DigitLanes (sym lanes-moved) (digits-zeros (8 - count) (take count ds) h)

  pub moved-value : lanes_value (digits_l 256 8 (number_l 256 ds % 2 ^ 64 * 2 ^ (64 - 8 * count) % 2 ^ 64 + 0)) ≡ lanes_value (take count ds)
  moved-value = ap lanes_value lanes-moved ∙ value-after-zeros (8 - count) (take count ds)

-- ---- the lanes before the first that is past 9

before-first : (xs : List ℕ) → DigitLanes (take (prefix_len (λ x. not (nat_lt 9 x)) xs) xs)
before-first [] = tt
before-first (x ∷ xs) = go (nat_lt 9 x) refl (before-first xs)
  where
    go : (b : Bool) → nat_lt 9 x ≡ b → DigitLanes (take (prefix_len (λ y. not (nat_lt 9 y)) xs) xs) → DigitLanes (take (cond (not b) (1 + prefix_len (λ y. not (nat_lt 9 y)) xs) 0) (x ∷ xs))
    go true e more = tt
    go false e more =
        subst (λ (n : ℕ). DigitLanes (take n (x ∷ xs))) {x = suc (prefix_len (λ y. not (nat_lt 9 y)) xs)} {y = 1 + prefix_len (λ y. not (nat_lt 9 y)) xs} (omega arith)
        (ltb-false 9 x e, more)

-- the lowest bit is at the first lane past 9
lowest-is : (xs : List ℕ) → length xs ≤ 64 → count_trailing_zeros 64 (mask_l (map (λ x. nat_lt 9 x) xs)) ≤ 7 → count_trailing_zeros 64 (mask_l (map (λ x. nat_lt 9 x) xs)) ≡ prefix_len (λ x. not (nat_lt 9 x)) xs
unfolding count_trailing_zeros
lowest-is xs few some = go (mask_l (map (λ x. nat_lt 9 x) xs)) refl
  where
    go : (m : ℕ) → mask_l (map (λ x. nat_lt 9 x) xs) ≡ m → count_trailing_zeros 64 (mask_l (map (λ x. nat_lt 9 x) xs)) ≡ prefix_len (λ x. not (nat_lt 9 x)) xs
    go zero e = let none : count_trailing_zeros 64 0 ≡ 64 = refl in absurd (omega (arith, some, ap (count_trailing_zeros 64) e, none))
    go (suc m) e = trailing_mask_l (λ x. nat_lt 9 x) 64 xs few (omega (arith, e))

-- ---- the bytes from a place on, in eight lanes

digit-low : (b : ℕ) → digit_value b < 10 → digit b ≤ 9
digit-low b h = let r : IsInRange 48 57 b = digit_from_value b h in omega (arith, r)

digits-lanes : (bs : List ℕ) → AllDigits 10 bs → DigitLanes (map digit bs)
digits-lanes [] h = tt
digits-lanes (b ∷ bs) h = (digit-low b h.0, digits-lanes bs h.1)

module _ (bs : List ℕ) (from count : ℕ) (lanes : List ℕ) (fits : (k : ℕ) → Fits w8 (get_or bs k 0)) (window : from + 8 ≤ length bs)
    (e : lanes ≡ zip2 (λ a b. (a + (256 - b)) % 256) (chunk from 8 bs) (replicate 8 48)) (few : count ≤ 8) where
  abbrev bytes : List ℕ
  bytes = take count (chunk from 8 bs)

  long-eight : length (chunk from 8 bs) ≡ 8
  long-eight = length-take-le 8 (drop from bs) (omega (arith, length-drop from bs, window))

  eight-lanes-are : lanes ≡ map digit (chunk from 8 bs)
  eight-lanes-are = e ∙ zip2_splat (λ a b. (a + (256 - b)) % 256) (chunk from 8 bs) 8 48 long-eight

  long-lanes : length lanes ≡ 8
  long-lanes = ap length eight-lanes-are ∙ length-map (chunk from 8 bs) digit ∙ long-eight

  first-are : take count lanes ≡ map digit bytes
  first-are = ap (take count) eight-lanes-are ∙ take-map digit count (chunk from 8 bs)

  range-is : bytes ≡ slice_range bs from (from + count)
  range-is = take-take count 8 (drop from bs) few ∙ ap (λ (n : ℕ). take n (drop from bs)) {x = count} {y = from + count - from} (omega arith)

  bytes-fit : Each1 (Fits w8) bytes
  bytes-fit = fits-take count (chunk from 8 bs) (chunk-fits w8 from 8 bs fits)

  -- digits as lanes, and back
  pub given-lanes : AllDigits 10 (slice_range bs from (from + count)) → DigitLanes (take count lanes)
  given-lanes h = subst DigitLanes (sym first-are) (digits-lanes bytes (subst (AllDigits 10) (sym range-is) h))

  given-digits : DigitLanes (take count lanes) → AllDigits 10 (slice_range bs from (from + count))
  given-digits h = subst (AllDigits 10) range-is (all-digits bytes bytes-fit (subst DigitLanes first-are h))

  pub given-value : DigitLanes (take count lanes) → lanes_value (take count lanes) ≡ digits_value 10 (slice_range bs from (from + count))
  given-value h = ap lanes_value first-are ∙ same-value 0 bytes bytes-fit (subst DigitLanes first-are h) ∙ ap (digits_value 10) range-is

-- ---- the digits that begin there

module _ (bs : List ℕ) (from count m : ℕ) (lanes : List ℕ) (fits : (k : ℕ) → Fits w8 (get_or bs k 0)) (window : from + 8 ≤ length bs)
    (e : lanes ≡ zip2 (λ a b. (a + (256 - b)) % 256) (chunk from 8 bs) (replicate 8 48))
    (mask : m ≡ mask_l (map (top (hbits w8)) (zip2 (λ a b. cond (nat_lt a b) (2 ^ bits w8 - 1) 0) (replicate 8 9) lanes)) % 2 ^ 64)
    (is : count ≡ count_trailing_zeros 64 m) (few : count ≤ 7) where
  lowest : count ≡ prefix_len (λ x. not (nat_lt 9 x)) lanes
  lowest =
      let long : length lanes ≡ 8 = long-lanes bs from count lanes fits window e (omega (arith, few)) in
      let bit : count ≡ count_trailing_zeros 64 (mask_l (map (λ x. nat_lt 9 x) lanes)) = is ∙ ap (count_trailing_zeros 64) (mask ∙ over-mask 8 lanes long (omega arith)) in
      bit ∙ lowest-is lanes (omega (arith, long)) (omega (arith, bit, few))

  -- these lanes are digits
  pub first-lanes : DigitLanes (take count lanes)
  first-lanes = subst (λ (n : ℕ). DigitLanes (take n lanes)) (sym lowest) (before-first lanes)

  pub first-digits : AllDigits 10 (slice_range bs from (from + count))
  first-digits = given-digits bs from count lanes fits window e (omega (arith, few)) first-lanes

  pub first-value : lanes_value (take count lanes) ≡ digits_value 10 (slice_range bs from (from + count))
  first-value = given-value bs from count lanes fits window e (omega (arith, few)) first-lanes

pub ruleset first_lanes = (first-lanes, first-digits, first-value)

pub ruleset given_lanes = (given-lanes, given-value)

pub ruleset moved_digits = (moved-digits, moved-value)
