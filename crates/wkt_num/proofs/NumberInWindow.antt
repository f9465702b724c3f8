-- A number that a window shows whole, by its digits, around a point or without one.
use Rattle.std.proofs.Common.{◌≡◌, ℕ, zero, suc, ◌+◌, ◌-◌, ◌*◌, ◌^◌, ◌<◌, ◌≤◌, Bool, true, false, cond, ◌==◌, List, [], ◌∷◌, ◌++◌, length, take, drop, get_or, slice_range, ℤ, pos, negsuc, Some, None, Option, IfSome, refl, sym, ap, subst, ◌∙◌, arith, append_assoc, length-append, FitsSigned, to_z, of_z}
use Rattle.std.specs.Fmt.{sign_text}
use Rattle.std.specs.Int.{w64, IsInRange, w128}
use Rattle.std.specs.Str.Parse.{IsNumeral, AllDigits, digits_value, digits_value_after, starts_with_minus, without_leading_plus}
use Rattle.std.proofs.lemmas.Str.Parse.{without_leading_plus_none}
use Rattle.std.proofs.lemmas.List.{append-nil, take_more}
use Rattle.std.proofs.lemmas.Nat.{pow-add}
use Rattle.std.proofs.lemmas.Int.{to_z-of_z}
use Rattle.std.proofs.lemmas.Int.Digits.{digits_value-lt}
use Rattle.std.proofs.Math.Nat.{mul-le-mul_right, pow-le-pow_right}
use Rattle.std.proofs.Math.Seq.{take-length}
use borrow.Author.Tests.{ne_eqb, lt-ltb}
use Rattle.wkt_num.specs.Whole.{keep_if, IsSigned, signed, WholeForm, IsWholeForm}
use Rattle.wkt_num.specs.Bytes.{class_of, Run, AllRun}
use Rattle.wkt_num.specs.Number.{IsNumberText, BeginsNumber}
use Rattle.wkt_num.specs.WholeLaws.{digits_are_run, point_run}
use Rattle.wkt_num.specs.Decimal.{read_magnitude, read_decimal, with_sign, and_then}
use Rattle.wkt_num.specs.DecimalLaws.{first_of, digits_append, value_append, read-near, after_split, ten_pos}
use Rattle.wkt_num.proofs.DecimalParts.{take-range, length-range, stops-at, text-run, digits-parts, range-split}
use Rattle.wkt_num.proofs.TextInsideText.{reads-fraction, reads-whole}
use Rattle.wkt_num.specs.DigitParts.{BeginsUnits, ShowsWhole, SpellsAll}

-- Digits around a point, or without one, are read as their units.

-- the magnitude and the sign
reads-signed : (D m : ℕ) (negative : Bool) (body : List ℕ) → D ≤ 36 → m < 2 ^ 127 → IsInRange 48 57 (get_or body 0 0) → read_magnitude (2 ^ 127) D body ≡ Some m
    → read_decimal 127 36 D (sign_text negative ++ body) ≡ Some (signed negative m)
reads-signed D m true body few fits range reads = read-near 127 36 D (45 ∷ body) few ∙ ap (λ o. and_then o (with_sign 127 true)) reads
reads-signed D m false body few fits range reads =
    let plain : starts_with_minus body ≡ false = ne_eqb (get_or body 0 0) 45 (λ e. omega (arith, range, e)) in
    let same : without_leading_plus body ≡ body = without_leading_plus_none body (λ e. omega (arith, range, e)) in
    read-near 127 36 D body few
    ∙ ap (λ b. and_then (read_magnitude (2 ^ 127) D (cond b (drop 1 body) (without_leading_plus body))) (with_sign 127 b)) plain
    ∙ ap (λ l. and_then (read_magnitude (2 ^ 127) D l) (with_sign 127 false)) same
    ∙ ap (λ o. and_then o (with_sign 127 false)) reads
    ∙ ap (λ b. keep_if b (pos m)) (lt-ltb m (2 ^ 127) fits)

-- magnitudes that fit
pub signed-small : (negative : Bool) (m k : ℕ) → m < 2 ^ k → IsSigned k (signed negative m)
signed-small false m k h = h
signed-small true zero k h = h
signed-small true (suc n) k h = omega (arith, h)

-- units of 64 bits as they are held
pub held-is : (u : ℤ) → IsSigned 63 u → to_z w64 (of_z w64 u) ≡ u
held-is u h = to_z-of_z w64 u (fits u h)
  where
    fits : (z : ℤ) → IsSigned 63 z → FitsSigned w64 z
    fits (pos n) h = record { sfits = h }
    fits (negsuc n) h = record { sfits = h }

pub held : (D : ℕ) (bs : List ℕ) (end : ℕ) (units : ℤ) → BeginsUnits D bs units end → BeginsUnits D bs (to_z w64 (of_z w64 units)) end
held D bs end units b = subst (λ u. BeginsUnits D bs u end) (sym (held-is units b.fits)) b

-- so many digits and zeros
pub product-less : (n t a b k : ℕ) → n < 10 ^ a → t ≡ 10 ^ b → a + b ≤ k → n * t < 10 ^ k
product-less n t a b k less ten few =
    let one : (n + 1) * t ≤ 10 ^ a * t = mul-le-mul_right {m = n + 1} {n = 10 ^ a} t (omega (arith, less)) in
    let all : 10 ^ a * t ≡ 10 ^ (a + b) = ap (λ y. 10 ^ a * y) ten ∙ sym (pow-add 10 a b) in
    let most : 10 ^ (a + b) ≤ 10 ^ k = pow-le-pow_right {n = 10} (omega arith) {i = a + b} {j = k} few in
    omega (arith, one, all, most, ten, ten_pos b)

-- few fit 64 bits
product-small : (n t a b : ℕ) → n < 10 ^ a → t ≡ 10 ^ b → a + b ≤ 19 → n * t < 2 ^ 64
product-small n t a b less ten few = omega (arith, product-less n t a b 19 less ten few)

product : (w f P T : ℕ) → (w * P + f) * T ≡ w * (P * T) + f * T
product w f P T = omega arith

module _ (D : ℕ) (bs : List ℕ) (first point : ℕ) (few : D ≤ 18) (sign : take first bs ≡ sign_text (first == 1)) (some : first < point) (within : point ≤ length bs) (whole : AllDigits 10 (slice_range bs first point)) where
  abbrev ws : List ℕ
  ws = slice_range bs first point

  abbrev negative : Bool
  negative = first == 1

  numeral : IsNumeral 10 ws
  numeral = (omega (arith, length-range bs first point (omega (arith, some)) within, some), whole)

  begins : (end m : ℕ) (rest : List ℕ) → end ≤ length bs → take end bs ≡ sign_text negative ++ (ws ++ rest) → AllRun rest → m < 2 ^ 127 → read_magnitude (2 ^ 127) D (ws ++ rest) ≡ Some m
      → (class_of (get_or bs end 0) ≡ Run → ⊥) → BeginsNumber (read_decimal 127 36 D) bs (signed negative m) end
  begins end m rest inside text run fits reads stops = record {
    within = inside;
    run = subst IsNumberText (sym text) (text-run negative ws rest numeral run);
    stops = stops-at bs end (λ _. stops);
    reads = ap (read_decimal 127 36 D) text ∙ reads-signed D m negative (ws ++ rest) (omega (arith, few)) fits (first_of ws rest numeral) reads;
  }

  -- a number of 64 bits
  in-units : (end m : ℕ) (units : ℤ) → BeginsNumber (read_decimal 127 36 D) bs (signed negative m) end → m < 2 ^ 63 → units ≡ signed negative m → BeginsUnits D bs units end
  in-units end m units b fits e = record {
    keeps = record {
      number = signed negative m;
      within = b.within;
      shorter = omega arith;
      run = b.run;
      stops = b.stops;
      reads = b.reads;
      text = refl;
    };
    is = sym e;
    fits = subst (IsSigned 63) (sym e) (signed-small negative m 63 fits);
  }

  to-point : take point bs ≡ sign_text negative ++ (ws ++ [])
  to-point = take-range bs first point (omega (arith, some)) ∙ ap (λ l. l ++ ws) sign ∙ ap (λ l. sign_text negative ++ l) (sym (append-nil ws))

  long-whole : length ws ≡ point - first
  long-whole = length-range bs first point (omega (arith, some)) within

  -- the units of few digits, before they are known to fit
  pub whole-fits : (n t : ℕ) → n ≡ digits_value_after 10 0 ws → t ≡ 10 ^ D → point - first + D ≤ 19 → n * t < 2 ^ 64
  whole-fits n t value ten most = product-small n t (length ws) D (omega (arith, value, digits_value-lt 10 ws whole)) ten (omega (arith, long-whole, most))

  pub fraction-fits : (end n t : ℕ) → point < end → end ≤ length bs → AllDigits 10 (slice_range bs (point + 1) end) → end - point - 1 ≤ D
      → n ≡ digits_value_after 10 (digits_value_after 10 0 ws) (slice_range bs (point + 1) end) → t ≡ 10 ^ (D - (end - point - 1)) → point - first + D ≤ 19 → n * t < 2 ^ 64
  fraction-fits end n t after inside digits few value ten most =
      let gs : List ℕ = slice_range bs (point + 1) end in
      product-small n t (length (ws ++ gs)) (D - (end - point - 1))
      (omega (arith, value ∙ sym (value_append 0 ws gs), digits_value-lt 10 (ws ++ gs) (digits_append ws gs whole digits))) ten
      (omega (arith, length-append ws gs, long-whole, length-range bs (point + 1) end (omega (arith, after)) inside, few, most))

  -- without a point
  pub whole-number : (m : ℕ) → m ≡ digits_value 10 ws * 10 ^ D → m < 2 ^ 127 → (class_of (get_or bs point 0) ≡ Run → ⊥) → BeginsNumber (read_decimal 127 36 D) bs (signed negative m) point
  whole-number m same fits stops =
      begins point m [] within to-point tt fits
      (ap (read_magnitude (2 ^ 127) D) (append-nil ws) ∙ reads-whole D ws numeral (omega (arith, fits, same)) ∙ ap (λ (m : ℕ). Some m) (sym same))
      stops

  pub whole-units : (n t : ℕ) (units : ℤ) → n ≡ digits_value_after 10 0 ws → t ≡ 10 ^ D → n * t < 2 ^ 63 → units ≡ signed negative (n * t) → (class_of (get_or bs point 0) ≡ Run → ⊥) → BeginsUnits D bs units point
  whole-units n t units value ten fits e stops =
      let same : n * t ≡ digits_value 10 ws * 10 ^ D = ap (λ x. x * t) value ∙ ap (λ y. digits_value 10 ws * y) ten in
      in-units point (n * t) units (whole-number (n * t) same (omega (arith, fits)) stops) fits e

  -- with one, after which stand so few digits
  module _ (end : ℕ) (after : point < end) (inside : end ≤ length bs) (is : get_or bs point 0 ≡ 46) (digits : AllDigits 10 (slice_range bs (point + 1) end)) (most : end - point - 1 ≤ D) (stops : class_of (get_or bs end 0) ≡ Run → ⊥) where
    abbrev gs : List ℕ
    gs = slice_range bs (point + 1) end

    abbrev w : ℕ
    w = digits_value 10 ws

    abbrev f : ℕ
    f = digits_value 10 gs

    abbrev a : ℕ
    a = D - (end - point - 1)

    long : length gs ≡ end - point - 1
    long = omega (arith, length-range bs (point + 1) end (omega (arith, after)) inside)

    text : take end bs ≡ sign_text negative ++ (ws ++ 46 ∷ gs)
    text =
        take-range bs (point + 1) end (omega (arith, after))
        ∙ ap (λ l. l ++ gs) (take_more bs point 0 (omega (arith, after, inside)))
        ∙ ap (λ b. take point bs ++ b ∷ [] ++ gs) is
        ∙ append_assoc (take point bs) (46 ∷ []) gs
        ∙ ap (λ l. l ++ 46 ∷ gs) (take-range bs first point (omega (arith, some)) ∙ ap (λ l. l ++ ws) sign)
        ∙ append_assoc (sign_text negative) ws (46 ∷ gs)

    pub fraction-number : (m : ℕ) → m ≡ w * 10 ^ D + f * 10 ^ a → m < 2 ^ 127 → BeginsNumber (read_decimal 127 36 D) bs (signed negative m) end
    fraction-number m same fits = begins end m (46 ∷ gs) inside text (point_run, digits_are_run gs digits) fits reads stops
      where
        reads : read_magnitude (2 ^ 127) D (ws ++ 46 ∷ gs) ≡ Some m
        reads =
            ap (λ l. read_magnitude (2 ^ 127) D (ws ++ 46 ∷ l)) (sym (append-nil gs))
            ∙ reads-fraction D a 0 ws gs numeral digits (omega (arith, long, most)) (omega (arith, fits, same))
            ∙ ap (λ (m : ℕ). Some m) (sym same)

    pub fraction-units : (n t : ℕ) (units : ℤ) → n ≡ digits_value_after 10 (digits_value_after 10 0 ws) gs → t ≡ 10 ^ a → n * t < 2 ^ 63 → units ≡ signed negative (n * t) → BeginsUnits D bs units end
    fraction-units n t units value ten fits e = in-units end (n * t) units (fraction-number (n * t) same (omega (arith, fits))) fits e
      where
        scale : 10 ^ length gs * 10 ^ a ≡ 10 ^ D
        scale = sym (pow-add 10 (length gs) a) ∙ ap (λ n. 10 ^ n) {x = length gs + a} {y = D} (omega (arith, long, most))

        same : n * t ≡ w * 10 ^ D + f * 10 ^ a
        same =
            ap (λ x. x * t) (value ∙ after_split w gs)
            ∙ ap (λ y. (w * 10 ^ length gs + f) * y) ten
            ∙ product w f (10 ^ length gs) (10 ^ a)
            ∙ ap (λ y. w * y + f * 10 ^ a) scale

-- A number that a window shows whole, by its digits.

-- ---- so many digits

module _ (bs : List ℕ) (from count : ℕ) (inside : from + count ≤ length bs) (digits : AllDigits 10 (slice_range bs from (from + count))) where
  pub digits-small : (n : ℕ) → n ≡ digits_value 10 (slice_range bs from (from + count)) → n < 10 ^ count
  digits-small n e =
      let ds : List ℕ = slice_range bs from (from + count) in
      let long : length ds ≡ count = length-range bs from (from + count) (omega arith) inside ∙ omega arith in
      omega (arith, e, digits_value-lt 10 ds digits, ap (λ (k : ℕ). 10 ^ k) long)

  pub first-digits : (m : ℕ) → m ≤ count → AllDigits 10 (slice_range bs from (from + m))
  first-digits m few =
      (digits-parts (slice_range bs from (from + m)) (slice_range bs (from + m) (from + count))
      (subst (AllDigits 10) (range-split bs from (from + m) (from + count) (omega arith) (omega (arith, few))) digits)).0

  -- more than eight are eight and others
  module _ (many : 8 < count) where
    abbrev high : List ℕ
    high = slice_range bs from (from + 8)

    abbrev low : List ℕ
    low = slice_range bs (from + 8) (from + 8 + (count - 8))

    eights : slice_range bs from (from + count) ≡ high ++ low
    eights =
        range-split bs from (from + 8) (from + count) (omega arith) (omega (arith, many))
        ∙ ap (λ (n : ℕ). high ++ slice_range bs (from + 8) n) {x = from + count} {y = from + 8 + (count - 8)} (omega (arith, many))

    pub other-digits : AllDigits 10 low
    other-digits = (digits-parts high low (subst (AllDigits 10) eights digits)).1

    pub eights-value : (h l ten : ℕ) → h ≡ digits_value 10 high → l ≡ digits_value 10 low → ten ≡ 10 ^ (count - 8) → h * ten + l ≡ digits_value 10 (slice_range bs from (from + count))
    eights-value h l ten e k t =
        let long : length low ≡ count - 8 = length-range bs (from + 8) (from + 8 + (count - 8)) (omega arith) (omega (arith, inside, many)) ∙ omega arith in
        ap (λ (n : ℕ). h * n + l) (t ∙ ap (λ (n : ℕ). 10 ^ n) (sym long))
        ∙ ap (λ (n : ℕ). n * 10 ^ length low + l) e
        ∙ ap (λ (n : ℕ). digits_value 10 high * 10 ^ length low + n) k
        ∙ sym (after_split (digits_value 10 high) low)
        ∙ sym (value_append 0 high low)
        ∙ ap (digits_value 10) (sym eights)

    pub eights-small : (h l ten : ℕ) → h ≡ digits_value 10 high → l ≡ digits_value 10 low → ten ≡ 10 ^ (count - 8) → h * ten + l < 10 ^ count
    eights-small h l ten e k t = digits-small (h * ten + l) (eights-value h l ten e k t)

-- ---- the units

-- as they are held
units-held : (negative : Bool) (m : ℕ) (x : ℤ) → m < 2 ^ 127 → x ≡ signed negative m → to_z w128 (of_z w128 x) ≡ signed negative m
units-held negative m x less e = ap (λ z. to_z w128 (of_z w128 z)) e ∙ to_z-of_z w128 (signed negative m) (fits (signed negative m) (signed-small negative m 127 less))
  where
    fits : (z : ℤ) → IsSigned 127 z → FitsSigned w128 z
    fits (pos n) h = record { sfits = h }
    fits (negsuc n) h = record { sfits = h }

module _ (D : ℕ) (bs : List ℕ) (first point w t : ℕ) (few : D ≤ 18) (sign : take first bs ≡ sign_text (first == 1)) (some : first < point) (short : point - first ≤ 8) (inside : point ≤ length bs) (whole : AllDigits 10 (slice_range bs first point))
    (value : w ≡ digits_value 10 (slice_range bs first (first + (point - first)))) (ten : t ≡ 10 ^ D) where
  whole-is : slice_range bs first (first + (point - first)) ≡ slice_range bs first point
  whole-is = ap (slice_range bs first) {x = first + (point - first)} {y = point} (omega (arith, some))

  w-is : w ≡ digits_value 10 (slice_range bs first point)
  w-is = value ∙ ap (digits_value 10) whole-is

  pub whole-small : w * t < 10 ^ 26
  whole-small =
      product-less w t (point - first) D 26
      (digits-small bs first (point - first) (omega (arith, some, inside)) (subst (AllDigits 10) (sym whole-is) whole) w value)
      ten (omega (arith, short, few))

  pub windowed-whole : (m : ℕ) (x : ℤ) → m ≡ w * t → x ≡ signed (first == 1) m → (class_of (get_or bs point 0) ≡ Run → ⊥) → BeginsNumber (read_decimal 127 36 D) bs (to_z w128 (of_z w128 x)) point
  windowed-whole m x e is stops =
      let fits : m < 2 ^ 127 = omega (arith, e, whole-small) in
      subst (λ u. BeginsNumber (read_decimal 127 36 D) bs u point) (sym (units-held (first == 1) m x fits is))
      (whole-number D bs first point few sign some inside whole m (e ∙ ap (λ n. n * t) w-is ∙ ap (λ n. digits_value 10 (slice_range bs first point) * n) ten) fits stops)

  -- digits that follow a point
  module _ (end f s : ℕ) (after : point < end) (within : end ≤ length bs) (digits : AllDigits 10 (slice_range bs (point + 1) end)) (most : end - point - 1 ≤ D)
      (part : f ≡ digits_value 10 (slice_range bs (point + 1) (point + 1 + (end - point - 1)))) (scale : s ≡ 10 ^ (D - (end - point - 1))) where
    part-is : slice_range bs (point + 1) (point + 1 + (end - point - 1)) ≡ slice_range bs (point + 1) end
    part-is = ap (slice_range bs (point + 1)) {x = point + 1 + (end - point - 1)} {y = end} (omega (arith, after))

    f-is : f ≡ digits_value 10 (slice_range bs (point + 1) end)
    f-is = part ∙ ap (digits_value 10) part-is

    pub part-small : f * s < 10 ^ 18
    part-small =
        product-less f s (end - point - 1) (D - (end - point - 1)) 18
        (digits-small bs (point + 1) (end - point - 1) (omega (arith, after, within)) (subst (AllDigits 10) (sym part-is) digits) f part)
        scale (omega (arith, most, few))

    pub all-small : (m : ℕ) → m ≡ w * t + f * s → m < 2 ^ 127
    all-small m e = omega (arith, e, whole-small, part-small)

    pub windowed-fraction : (m : ℕ) (x : ℤ) → m ≡ w * t + f * s → x ≡ signed (first == 1) m → get_or bs point 0 ≡ 46 → (class_of (get_or bs end 0) ≡ Run → ⊥) → BeginsNumber (read_decimal 127 36 D) bs (to_z w128 (of_z w128 x)) end
    windowed-fraction m x e is dot stops =
        let a : ℕ = D - (end - point - 1) in
        let v : ℕ = digits_value 10 (slice_range bs first point) in
        let g : ℕ = digits_value 10 (slice_range bs (point + 1) end) in
        subst (λ u. BeginsNumber (read_decimal 127 36 D) bs u end) (sym (units-held (first == 1) m x (all-small m e) is))
        (fraction-number D bs first point few sign some inside whole end after within dot digits most stops m
        (e ∙ ap (λ n. n * t + f * s) w-is ∙ ap (λ n. v * n + f * s) ten ∙ ap (λ n. v * 10 ^ D + n * s) f-is ∙ ap (λ n. v * 10 ^ D + g * n) scale)
        (all-small m e))

-- ---- a whole number

-- a number that is made has its sign
pub made-is : {T : Type 0} (b : Bool) (y x : T) → Some x ≡ keep_if b y → (b ≡ true) × (x ≡ y)
made-is true y x e = (refl, cc)
made-is false y x e = cc

pub made-some : {T : Type 0} (P : T → Type 0) (o : Option T) → ((x : T) → Some x ≡ o → P x) → IfSome o P
made-some P (Some x) h = h x refl
made-some P None h = tt

pub not-made : {A T : Type 0} (b : Bool) (y : T) → None ≡ keep_if b y → b ≡ true → A
not-made true y e t = cc
not-made false y e t = cc

-- fewer digits fit too
pub fewer-fit : (most d n : ℕ) → most ≤ d → n < 10 ^ most → n < 10 ^ d
fewer-fit most d n few less = omega (arith, less, pow-le-pow_right {n = 10} (omega arith) {i = most} {j = d} few)

-- the sign and the digits
module _ {T : Type 0} (d most : ℕ) (form : WholeForm T) (laws : IsWholeForm d form) (few : most ≤ d) (bs : List ℕ) (first number : ℕ) (x : T) (sign : take first bs ≡ sign_text (first == 1))
    (made : Some x ≡ keep_if (form.has (first == 1)) (form.of (first == 1) number)) where
  digits-read : (ds : List ℕ) → IsNumeral 10 ds → number ≡ digits_value 10 ds → number < 10 ^ most → form.read (sign_text (first == 1) ++ ds) ≡ Some x
  digits-read ds n e less =
      let m = made-is (form.has (first == 1)) (form.of (first == 1) number) x made in
      laws.reads_digits (first == 1) ds m.0 n (subst (λ k. k < 10 ^ d) e (fewer-fit most d number few less)) ∙ ap (λ k. Some (form.of (first == 1) k)) (sym e) ∙ ap (λ z. Some z) (sym m.1)

  pub windowed-number : (end : ℕ) → 32 ≤ length bs → ShowsWhole most bs first number end → BeginsNumber form.read bs x end
  windowed-number end window shows = record {
    within = inside;
    run = subst IsNumberText (sym text) (subst (λ l. IsNumberText (sign_text (first == 1) ++ l)) (append-nil shown) (text-run (first == 1) shown [] numeral tt));
    stops = stops-at bs end (λ _. shows.stops);
    reads = ap form.read text ∙ digits-read shown numeral shows.value shows.small;
  }
    where
      shown : List ℕ
      shown = slice_range bs first end

      inside : end ≤ length bs
      inside = omega (arith, shows.within, window)

      numeral : IsNumeral 10 shown
      numeral = (omega (arith, length-range bs first end (omega (arith, shows.some)) inside, shows.some), shows.digits)

      text : take end bs ≡ sign_text (first == 1) ++ shown
      text = take-range bs first end (omega (arith, shows.some)) ∙ ap (λ l. l ++ shown) sign

  -- a text that is all of it the number
  pub spelled-number : SpellsAll most bs first number → form.read bs ≡ Some x
  spelled-number spells = ap form.read text ∙ digits-read spelled numeral spells.value spells.small
    where
      spelled : List ℕ
      spelled = slice_range bs first (length bs)

      numeral : IsNumeral 10 spelled
      numeral = (omega (arith, length-range bs first (length bs) (omega (arith, spells.some)) (omega arith), spells.some), spells.digits)

      text : bs ≡ sign_text (first == 1) ++ spelled
      text = sym (take-length bs) ∙ take-range bs first (length bs) (omega (arith, spells.some)) ∙ ap (λ l. l ++ spelled) sign

pub ruleset digits_small = digits-small
