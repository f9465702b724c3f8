-- A fraction of 18 places, put as eight digits, or as sixteen and two, and these by fours.
use Rattle.std.proofs.Common.{◌≡◌, ℕ, ◌+◌, ◌-◌, ◌*◌, ◌/◌, ◌%◌, ◌<◌, List, [], ◌∷◌, ◌++◌, ap, ap₂, ◌∙◌, arith, zero, suc, ◌^◌, ◌≤◌, true, false, not, ◌==◌, length, reverse, get_or, take, set, cond, eqb, map, replicate, w8, refl, sym, subst, append_assoc, length-append, length-set}
use Rattle.std.specs.List.{prefix_len}
use Rattle.std.proofs.lemmas.List.{reverse-append, length-take-le, take-take}
use Rattle.std.proofs.Math.Seq.{take-append_seam, take-suc, take-suc-set}
use Rattle.std.proofs.lemmas.Nat.{pow-add, mod-mul-add}
use Rattle.std.proofs.Math.Arith.{mod-mul}
use Rattle.std.proofs.Math.Nat.{mod-lt, mod-eq_of_lt, div-div-eq-div-mul, mul-div-mul_right, mul-mod_left, add-mul-div_left, mul_comm, le-mul_of_pos_right, div-eq_of_lt}
use Rattle.std.proofs.lemmas.Slice.{take-put_mid}
use Rattle.std.proofs.lemmas.Simd.{put_chunk_whole, length-put_chunk, bitmask_splat, first_set_mask_l}
use lib.Lanes.{mask_l, top, zip2, put_chunk}
use mir.Val.{bits, hbits}
use borrow.Rule.Slice.PartMut.{put_mid, mid_of, mid_len, same_len_mid}
use lib.Arith.{digits_lt}
use borrow.Author.Tests.{ne_eqb, eqb-true, eqb-false}
use Rattle.wkt_num.specs.Decimal.{padded, zeros, EndsInDigit, fraction_digits}
use Rattle.wkt_num.specs.DigitParts.{lowest}
use Rattle.wkt_num.specs.DecimalLaws.{ten_pos, fraction-none}
use Rattle.wkt_num.proofs.Printed.{step, pads, last-digit, length-padded, zeros-snoc}

-- Four digits by two multiplications.

abbrev hundreds : ℕ → ℕ
hundreds v = v * 5243 % 4294967296 / 524288

abbrev rest : ℕ → ℕ → ℕ
rest v h = (v + (4294967296 - h * 100 % 4294967296)) % 4294967296

abbrev tens : ℕ → ℕ
tens p = p * 103 % 65536 / 1024

abbrev ones : ℕ → ℕ → ℕ
ones p t = (p + (65536 - t * 10 % 65536)) % 65536

abbrev byte : ℕ → ℕ
byte x = (x + 48) % 256

-- the bytes that the vectors hold of v
abbrev pub four : ℕ → List ℕ
four v =
    byte (tens (hundreds v)) ∷ byte (ones (hundreds v) (tens (hundreds v)))
    ∷ byte (tens (rest v (hundreds v))) ∷ byte (ones (rest v (hundreds v)) (tens (rest v (hundreds v)))) ∷ []

hundreds-is : (v : ℕ) → v < 10000 → hundreds v ≡ v / 100
hundreds-is v less = omega (arith, less)

rest-is : (v : ℕ) → v < 10000 → rest v (v / 100) ≡ v % 100
rest-is v less = omega (arith, less)

tens-is : (p : ℕ) → p < 100 → tens p ≡ p / 10
tens-is p less = omega (arith, less)

ones-is : (p : ℕ) → p < 100 → ones p (p / 10) ≡ p % 10
ones-is p less = omega (arith, less)

byte-is : (x : ℕ) → x < 10 → byte x ≡ 48 + x
byte-is x less = omega (arith, less)

first-is : (p q : ℕ) → p ≡ q → q < 100 → byte (tens p) ≡ 48 + q / 10
first-is p q e less = ap (λ n. byte (tens n)) e ∙ ap byte (tens-is q less) ∙ byte-is (q / 10) (omega (arith, less))

second-is : (p q : ℕ) → p ≡ q → q < 100 → byte (ones p (tens p)) ≡ 48 + q % 10
second-is p q e less =
    ap (λ n. byte (ones n (tens n))) e
    ∙ ap (λ t. byte (ones q t)) (tens-is q less) ∙ ap byte (ones-is q less) ∙ byte-is (q % 10) (omega (arith, less))

pub four-is : (v : ℕ) → v < 10000 → four v ≡ padded 4 v
four-is v less =
    let h = hundreds-is v less in
    let r = ap (rest v) h ∙ rest-is v less in
    ap₂ (λ x l. x ∷ l) (first-is _ (v / 100) h (omega (arith, less)) ∙ ap (λ n. 48 + n) {x = v / 100 / 10} {y = v / 1000} (omega (arith, less)))
    (ap₂ (λ x l. x ∷ l) (second-is _ (v / 100) h (omega (arith, less)) ∙ ap (λ n. 48 + n) {x = v / 100 % 10} {y = v % 1000 / 100} (omega (arith, less)))
    (ap₂ (λ x l. x ∷ l) (first-is _ (v % 100) r (omega (arith, less)) ∙ ap (λ n. 48 + n) {x = v % 100 / 10} {y = v % 1000 % 100 / 10} (omega (arith, less)))
    (ap (λ x. x ∷ []) (second-is _ (v % 100) r (omega (arith, less)) ∙ ap (λ n. 48 + n) {x = v % 100 % 10} {y = v % 1000 % 100 % 10 / 1} (omega (arith, less))))))

pub four-fours : (a b c d : ℕ) → a < 10000 → b < 10000 → c < 10000 → d < 10000
    → four a ++ (four b ++ (four c ++ four d)) ≡ padded 4 a ++ (padded 4 b ++ (padded 4 c ++ padded 4 d))
four-fours a b c d p q r s = ap₂ (λ x y. x ++ y) (four-is a p) (ap₂ (λ x y. x ++ y) (four-is b q) (ap₂ (λ x y. x ++ y) (four-is c r) (four-is d s)))

pub two-fours : (a b : ℕ) → a < 10000 → b < 10000 → four a ++ four b ≡ padded 4 a ++ padded 4 b
two-fours a b p q = ap₂ (λ x y. x ++ y) (four-is a p) (four-is b q)

pub ruleset four_fours = four-fours

pub ruleset two_fours = two-fours

-- A fraction of 18 places, put as eight digits, or as sixteen and two.

quotient : (a w b : ℕ) → b < w → (a * w + b) / w ≡ a
quotient a w b less =
    ap (λ m. m / w) {x = a * w + b} {y = b + w * a} (omega (arith, mul_comm a w)) ∙ add-mul-div_left b a (omega (arith, less)) ∙ omega (arith, div-eq_of_lt less)

-- the digits of two parts
pub padded-two : (j k n f : ℕ) → n ≡ j + k → f < 10 ^ n → padded n f ≡ padded j (f / 10 ^ k) ++ padded k (f % 10 ^ k)
padded-two zero k n f e less =
    let same : n ≡ k = omega (arith, e) in
    ap (λ m. padded m f) same ∙ ap (padded k) (sym (mod-eq_of_lt (subst (λ m. f < 10 ^ m) same less)))
padded-two (suc j) k zero f e less = absurd (omega (arith, e))
padded-two (suc j) k (suc n) f e less =
    let both : 10 ^ n ≡ 10 ^ j * 10 ^ k = ap (λ m. 10 ^ m) {x = n} {y = j + k} (omega (arith, e)) ∙ pow-add 10 j k in
    let head : f / 10 ^ n ≡ f / 10 ^ k / 10 ^ j = ap (λ p. f / p) (both ∙ mul_comm (10 ^ j) (10 ^ k)) ∙ sym (div-div-eq-div-mul f (10 ^ k) (10 ^ j)) in
    let low : f % 10 ^ n ≡ (f / 10 ^ k % 10 ^ j) * 10 ^ k + f % 10 ^ k = ap (λ p. f % p) both ∙ mod-mul f (ten_pos j) (ten_pos k) in
    let less-back = mod-lt f (ten_pos k) in
    ap (λ d. (48 + d) ∷ padded n (f % 10 ^ n)) head
    ∙ ap (λ l. (48 + f / 10 ^ k / 10 ^ j) ∷ l) (padded-two j k n (f % 10 ^ n) (omega (arith, e)) (mod-lt f (ten_pos n))
    ∙ ap (λ m. padded j (m / 10 ^ k) ++ padded k (m % 10 ^ k)) low
    ∙ ap (λ m. padded j m ++ padded k (((f / 10 ^ k % 10 ^ j) * 10 ^ k + f % 10 ^ k) % 10 ^ k)) (quotient (f / 10 ^ k % 10 ^ j) (10 ^ k) (f % 10 ^ k) less-back)
    ∙ ap (λ m. padded j (f / 10 ^ k % 10 ^ j) ++ padded k m) (mod-mul-add (f / 10 ^ k % 10 ^ j) (10 ^ k) (f % 10 ^ k) less-back))

-- a fraction of more places
pub digits-scaled : (j e n f : ℕ) → n ≡ j + e → f < 10 ^ j → fraction_digits n (f * 10 ^ e) ≡ fraction_digits j f
digits-scaled zero e n f same less = let none : f ≡ 0 = omega (arith, less) in fraction-none n (f * 10 ^ e) (ap (λ m. m * 10 ^ e) none ∙ omega arith)
digits-scaled (suc j) e zero f same less = absurd (omega (arith, same))
digits-scaled (suc j) e (suc n) f same less = elim (f == 0) as (λ b. (f == 0) ≡ b → fraction_digits (suc n) (f * 10 ^ e) ≡ fraction_digits (suc j) f) [
  | true ↦ λ z. let none = eqb-true f 0 z in fraction-none (suc n) (f * 10 ^ e) (ap (λ m. m * 10 ^ e) none ∙ omega arith) ∙ sym (fraction-none (suc j) f none)
  | false ↦ λ z.
      let some = eqb-false f 0 z in
      let both : 10 ^ n ≡ 10 ^ j * 10 ^ e = ap (λ m. 10 ^ m) {x = n} {y = j + e} (omega (arith, same)) ∙ pow-add 10 j e in
      let more = le-mul_of_pos_right f (ten_pos e) in
      let back : f * 10 ^ e % 10 ^ n ≡ (f % 10 ^ j) * 10 ^ e =
      ap (λ p. f * 10 ^ e % p) both ∙ mod-mul (f * 10 ^ e) (ten_pos j) (ten_pos e)
      ∙ ap (λ m. (m % 10 ^ j) * 10 ^ e + f * 10 ^ e % 10 ^ e) (ap (λ m. m / 10 ^ e) {x = f * 10 ^ e} {y = f * 10 ^ e + 0} (omega arith) ∙ quotient f (10 ^ e) 0 (ten_pos e))
      ∙ ap (λ m. (f % 10 ^ j) * 10 ^ e + m) (mul-mod_left f (10 ^ e)) ∙ omega arith in
      step n (f * 10 ^ e) (λ h. some (omega (arith, more, h)))
      ∙ ap (λ d. (48 + d) ∷ fraction_digits n (f * 10 ^ e % 10 ^ n)) (ap (λ p. f * 10 ^ e / p) both ∙ mul-div-mul_right f (10 ^ j) (ten_pos e))
      ∙ ap (λ m. (48 + f / 10 ^ j) ∷ fraction_digits n m) back
      ∙ ap (λ l. (48 + f / 10 ^ j) ∷ l) (digits-scaled j e n (f % 10 ^ j) (omega (arith, same)) (mod-lt f (ten_pos j)))
      ∙ sym (step j f some)
] refl

-- how many zeros stand last
zeros-back : (m : ℕ) → reverse (zeros m) ≡ zeros m
zeros-back zero = refl
zeros-back (suc m) = reverse-append (48 ∷ []) (zeros m) ∙ ap (λ l. l ++ 48 ∷ []) (zeros-back m) ∙ sym (zeros-snoc m)

zeros-first : (m d : ℕ) (l : List ℕ) → 0 < d → prefix_len (λ b. not (not (b == 48))) (zeros m ++ (48 + d) ∷ l) ≡ m
zeros-first zero d l some = ap (λ b. cond (not (not b)) (1 + prefix_len (λ b. not (not (b == 48))) l) 0) (ne_eqb (48 + d) 48 (λ e. omega (arith, some, e)))
zeros-first (suc m) d l some = ap (λ n. 1 + n) (zeros-first m d l some) ∙ omega arith

pub zeros-last : (kept : List ℕ) (m : ℕ) → EndsInDigit kept → prefix_len (λ b. not (not (b == 48))) (reverse (kept ++ zeros m)) ≡ m
zeros-last kept m ends =
    ap (prefix_len (λ b. not (not (b == 48)))) (reverse-append kept (zeros m) ∙ ap (λ l. l ++ reverse kept) (zeros-back m) ∙ ap (λ l. zeros m ++ l) (ap reverse ends.2 ∙ reverse-append ends.0 ((48 + ends.1) ∷ [])))
    ∙ zeros-first m ends.1 (reverse ends.0) ends.3

-- the first n, last first
abbrev pub down : ℕ → List ℕ → List ℕ
down zero v = []
down (suc n) v = get_or v n 0 ∷ down n v

down-take : (n : ℕ) (v : List ℕ) → n ≤ length v → down n v ≡ reverse (take n v)
down-take zero v h = refl
down-take (suc n) v h = ap (λ l. get_or v n 0 ∷ l) (down-take n v (omega (arith, h))) ∙ sym (ap reverse (take-suc v n 0 (omega (arith, h))) ∙ reverse-append (take n v) (get_or v n 0 ∷ []))

pub down-reverse : (n : ℕ) (v : List ℕ) → length v ≡ n → down n (v ++ v) ≡ reverse v
down-reverse n v long = down-take n (v ++ v) (omega (arith, long, length-append v v)) ∙ ap reverse (ap (λ (k : ℕ). take k (v ++ v)) (sym long) ∙ take-append_seam v v)

length-down : (n : ℕ) (v : List ℕ) → length (down n v) ≡ n
length-down zero v = refl
length-down (suc n) v = ap suc (length-down n v)

-- the zeros that stand last are counted by the lowest bit of the others
pub zeros-lowest : (n : ℕ) (digits : List ℕ) → length digits ≡ n → n ≤ 64
    → lowest n (mask_l (map (top (hbits w8)) (zip2 (λ a b. cond (not (eqb a b)) (2 ^ bits w8 - 1) 0) (down n (digits ++ digits)) (replicate n 48))) % 2 ^ 64) ≡ prefix_len (λ b. not (not (b == 48))) (reverse digits)
zeros-lowest n digits long most =
    let v : List ℕ = down n (digits ++ digits) in
    let same : length v ≡ n = length-down n (digits ++ digits) in
    ap (lowest n) (bitmask_splat w8 (λ a b. not (eqb a b)) v n 48 same most)
    ∙ first_set_mask_l (λ x. not (eqb x 48)) v n same most
    ∙ ap (prefix_len (λ b. not (not (eqb b 48)))) (down-reverse n digits long)

length-zeros : (m : ℕ) → length (zeros m) ≡ m
length-zeros zero = refl
length-zeros (suc m) = ap suc (length-zeros m)

-- n bytes are copied to place 41
abbrev pub copied : ℕ → List ℕ → List ℕ → List ℕ
copied n old lanes = put_mid 41 n old (put_chunk 0 (mid_of 41 n old) lanes)

pub copied-there : (n : ℕ) (old lanes : List ℕ) → n ≤ 16 → length old ≡ 80 → length lanes ≡ n → take (41 + n) (copied n old lanes) ≡ take 41 old ++ lanes
copied-there n old lanes few long lasts =
    ap (λ l. take (41 + n) (put_mid 41 n old l)) (put_chunk_whole (mid_of 41 n old) lanes (ap (λ (k : ℕ). length (mid_of 41 k old)) {x = n} {y = 41 + n - 41} (omega arith) ∙ mid_len 41 (41 + n) old (omega (arith, few, long)) ∙ omega (arith, lasts)))
    ∙ take-put_mid 41 n old lanes (41 + n) (omega (arith, lasts)) (omega (arith, few, long))

module _ (D F T : ℕ) (few : D ≤ 18) (less : F < 10 ^ D) (some : F ≡ 0 → ⊥) (ten : T ≡ 10 ^ (18 - D)) where
  same : F * T ≡ F * 10 ^ (18 - D)
  same = ap (λ n. F * n) ten

  pub small : F * T < 10 ^ 18
  small =
      let p : 10 ^ 18 ≡ 10 ^ D * 10 ^ (18 - D) = ap (λ n. 10 ^ n) {x = 18} {y = D + (18 - D)} (omega (arith, few)) ∙ pow-add 10 D (18 - D) in
      omega (arith, same, p, digits_lt {q = F} {m = 10 ^ D} {r = 0} {c = 10 ^ (18 - D)} less (ten_pos (18 - D)))

  some-all : F * T ≡ 0 → ⊥
  some-all h = some (omega (arith, same, h, le-mul_of_pos_right F (ten_pos (18 - D))))

  pub scaled : fraction_digits 18 (F * T) ≡ fraction_digits D F
  scaled = ap (fraction_digits 18) same ∙ digits-scaled D (18 - D) 18 F (omega (arith, few)) less

  -- the first n digits G are put, of which r are zeros after the others, and the rest are 0
  module _ (n e G r : ℕ) (out old lanes : List ℕ) (full : 18 ≡ n + e) (less-front : G < 10 ^ n) (front : G * 10 ^ e ≡ F * T) (long : length old ≡ 80)
      (there : take (41 + n) out ≡ take 41 old ++ lanes) (digits : lanes ≡ padded n G) (count : r ≡ prefix_len (λ b. not (not (b == 48))) (reverse lanes)) where
    kept-is : fraction_digits n G ≡ fraction_digits D F
    kept-is = sym (digits-scaled n e 18 G full less-front) ∙ ap (fraction_digits 18) front ∙ scaled

    r-is : r ≡ (pads n G).0
    r-is =
        count ∙ ap (λ l. prefix_len (λ b. not (not (b == 48))) (reverse l)) (digits ∙ (pads n G).1)
        ∙ zeros-last (fraction_digits n G) (pads n G).0 (last-digit n G less-front (λ h. some-all (sym front ∙ ap (λ m. m * 10 ^ e) h ∙ omega arith)))

    text : take (41 + n) out ≡ (take 41 old ++ fraction_digits n G) ++ zeros (pads n G).0
    text = there ∙ ap (λ l. take 41 old ++ l) (digits ∙ (pads n G).1) ∙ sym (append_assoc (take 41 old) (fraction_digits n G) (zeros (pads n G).0))

    place : 41 + n - r ≡ length (take 41 old ++ fraction_digits n G)
    place = omega (arith, r-is, length-take-le 41 old (omega (arith, long)), length-append (take 41 old) (fraction_digits n G), ap length (pads n G).1, length-append (fraction_digits n G) (zeros (pads n G).0), length-zeros (pads n G).0, length-padded n G)

    cut : take (41 + n - r) out ≡ take 41 old ++ fraction_digits D F
    cut =
        sym (take-take (41 + n - r) (41 + n) out (omega arith)) ∙ ap (take (41 + n - r)) text
        ∙ ap (λ (k : ℕ). take k ((take 41 old ++ fraction_digits n G) ++ zeros (pads n G).0)) place
        ∙ take-append_seam (take 41 old ++ fraction_digits n G) (zeros (pads n G).0)
        ∙ ap (λ l. take 41 old ++ l) kept-is

  -- the same of lanes that are put behind the point
  pub put : (n e G r : ℕ) (old lanes : List ℕ) → n ≤ 16 → 18 ≡ n + e → G < 10 ^ n → G * 10 ^ e ≡ F * T → length old ≡ 80 → lanes ≡ padded n G
      → r ≡ prefix_len (λ b. not (not (b == 48))) (reverse lanes) → take (41 + n - r) (copied n old lanes) ≡ take 41 old ++ fraction_digits D F
  put n e G r old lanes within full less-front front long digits count =
      cut n e G r (copied n old lanes) old lanes full less-front front long (copied-there n old lanes within long (ap length digits ∙ length-padded n G)) digits count

  -- sixteen digits are put, and two more
  module _ (out old lanes : List ℕ) (long : length old ≡ 80) (within : 59 ≤ length out) (there : take 57 out ≡ take 41 old ++ lanes) (digits : lanes ≡ padded 16 (F * T / 100)) where
    before : length (take 41 old) ≡ 41
    before = length-take-le 41 old (omega (arith, long))

    abbrev pub whole : List ℕ
    whole = take 41 old ++ fraction_digits 18 (F * T)

    pub all : take 59 (set (set out 57 (48 + F * T % 100 / 10)) 58 (48 + F * T % 100 % 10)) ≡ whole ++ zeros (pads 18 (F * T)).0
    all =
        let x = 48 + F * T % 100 / 10 in
        let y = 48 + F * T % 100 % 10 in
        take-suc-set (set out 57 x) 58 y (omega (arith, within, length-set out 57 x))
        ∙ ap (λ l. l ++ y ∷ []) (take-suc-set out 57 x (omega (arith, within)) ∙ ap (λ l. l ++ x ∷ []) there)
        ∙ append_assoc (take 41 old ++ lanes) (x ∷ []) (y ∷ [])
        ∙ append_assoc (take 41 old) lanes (x ∷ y ∷ [])
        ∙ ap (λ l. take 41 old ++ l) (ap (λ l. l ++ x ∷ y ∷ []) digits
        ∙ ap (λ n. padded 16 (F * T / 100) ++ x ∷ (48 + n) ∷ []) {x = F * T % 100 % 10} {y = F * T % 100 % 10 / 1} (omega arith)
        ∙ sym (padded-two 16 2 18 (F * T) refl small) ∙ (pads 18 (F * T)).1)
        ∙ sym (append_assoc (take 41 old) (fraction_digits 18 (F * T)) (zeros (pads 18 (F * T)).0))

    pub whole-ends : EndsInDigit whole
    whole-ends = let e = last-digit 18 (F * T) small some-all in
        (take 41 old ++ e.0, e.1, ap (λ l. take 41 old ++ l) e.2 ∙ sym (append_assoc (take 41 old) e.0 ((48 + e.1) ∷ [])), e.3)

    pub whole-long : 41 < length whole
    whole-long = let e = last-digit 18 (F * T) small some-all in
        omega (arith, length-append (take 41 old) (fraction_digits 18 (F * T)), before, ap length e.2, length-append e.0 ((48 + e.1) ∷ []))

pub copied-long : (n : ℕ) (old lanes : List ℕ) → length old ≡ 80 → length (copied n old lanes) ≡ 80
copied-long n old lanes long = same_len_mid 41 n old (put_chunk 0 (mid_of 41 n old) lanes) (length-put_chunk 0 (mid_of 41 n old) lanes) ∙ long

pub ruleset padded_two = padded-two
