-- Digits in the lanes of a vector, and the parts of a number's text by their places. Only private contracts cite this file.
use Rattle.std.proofs.Common.{◌≡◌, ℕ, ◌+◌, ◌-◌, ◌*◌, ◌/◌, ◌^◌, ◌<◌, ℤ, pos, negsuc, ap, ◌∙◌, arith}
use Rattle.std.specs.Prelude.{unsigned_abs, ◌+ℤ◌, ◌*ℤ◌, ◌%◌, ◌≤◌, ◌==◌, if◌then◌else◌, List, [], ◌∷◌, ◌++◌, length, drop, map, replicate, zero, suc, false, bit_and, ◌≢◌, ◌⊎◌, Bool, take, nat_lt, slice_index, slice_range}
use Rattle.std.specs.Int.{int_shr, int_rem_euclid}
use Rattle.std.proofs.lemmas.Int.{ints}
use Rattle.std.specs.Fmt.{sign_text}
use Rattle.std.specs.Char.{is_ascii_digit}
use Rattle.std.specs.Str.Parse.{AllDigits, digits_value, digits_value_after}
use lib.Count.{count_trailing_zeros}
use lib.Lanes.{mask_l}
use Rattle.wkt_num.specs.Bytes.{class_of, Run}
use Rattle.wkt_num.specs.Decimal.{zeros, read_decimal}
use Rattle.wkt_num.specs.Whole.{IsSigned}
use Rattle.wkt_num.specs.Number.{KeepsText}

-- A number of units as an upper half and a lower one of 64 bits.

-- The units that stand in the upper half, as so many times 2 ^ 64.
abbrev pub upper_half : ℤ → ℤ
upper_half u = int_shr u 64

-- Those that are left.
abbrev pub lower_half : ℤ → ℕ
lower_half u = unsigned_abs (int_rem_euclid u (pos (2 ^ 64)))

-- ---- proofs, and no words of contracts

-- A negative number by its halves.
below : (h l : ℕ) → l < 2 ^ 64 → negsuc h *ℤ pos (2 ^ 64) +ℤ pos l ≡ negsuc (h * 18446744073709551616 + (18446744073709551615 - l))
below h l less = omega (arith, ints, less)

-- The upper half of a number made of two.
pub upper_back : (h : ℤ) (l : ℕ) → l < 2 ^ 64 → upper_half (h *ℤ pos (2 ^ 64) +ℤ pos l) ≡ h
upper_back (pos h) l less = ap pos {x = (h * 18446744073709551616 + l) / 18446744073709551616} {y = h} (omega (arith, less))
upper_back (negsuc h) l less = ap upper_half (below h l less) ∙ ap negsuc {x = (h * 18446744073709551616 + (18446744073709551615 - l)) / 18446744073709551616} {y = h} (omega (arith, less))

-- The lower half of a number made of two.
pub lower_back : (h : ℤ) (l : ℕ) → l < 2 ^ 64 → lower_half (h *ℤ pos (2 ^ 64) +ℤ pos l) ≡ l
lower_back (pos h) l less = omega (arith, less)
lower_back (negsuc h) l less = ap lower_half (below h l less) ∙ omega (arith, less)

-- Digits in the lanes of a vector. Only private contracts cite this file.

-- Each lane is a digit.
abbrev pub DigitLanes : List ℕ → Type 0
DigitLanes [] = Unit {0}
DigitLanes (d ∷ ds) = (d ≤ 9) × DigitLanes ds

-- The number of the digits after n.
abbrev pub lanes_after : ℕ → List ℕ → ℕ
lanes_after n [] = n
lanes_after n (d ∷ ds) = lanes_after (n * 10 + d) ds

-- The number of the digits.
abbrev pub lanes_value : List ℕ → ℕ
lanes_value ds = lanes_after 0 ds

-- The last bytes of a text less 48, as bytes wrap, after so many zeros that there are n lanes.
abbrev pub last_lanes : ℕ → ℕ → List ℕ → List ℕ
last_lanes n count bs = replicate (n - count) 0 ++ map (λ b. (b + 208) % 256) (drop (length bs - count) bs)

-- The lowest of these bits, or how many lanes there are.
abbrev pub lowest : ℕ → ℕ → ℕ
lowest lanes bits = if bits == 0 then lanes else count_trailing_zeros 64 bits

-- The parts of a decimal's text, by their places in the bytes. Only private contracts cite this file.

-- The digits before the point, as they are printed, and few enough that the units fit.
pub record IsWholePart (D : ℕ) (bs : List ℕ) (first point : ℕ) : Type 0 where
  pub some : first < point
  pub places : D ≤ 36
  pub few : point ≤ first + 20
  pub fits : point + D ≤ first + 38
  pub within : point ≤ length bs
  pub digits : AllDigits 10 (slice_range bs first point)
  pub plain : slice_index bs first ≡ 48 → point ≡ first + 1

-- how many digits may stand before the point
abbrev pub most_whole : ℕ → ℕ
most_whole D = if nat_lt 18 D then 38 - D else 20

-- how many bytes a number may have of which neither the first digit nor the last is a zero, nor the point
abbrev pub most_plain : ℕ → ℕ
most_plain D = if nat_lt 18 D then 40 - D else D + 2

-- A point, and then digits of which the last isn't 0, at most D.
pub record IsFraction (D : ℕ) (bs : List ℕ) (point end : ℕ) : Type 0 where
  pub is : slice_index bs point ≡ 46
  pub some : point + 1 < end
  pub few : end ≤ point + 1 + D
  pub digits : AllDigits 10 (slice_range bs (point + 1) end)
  pub last : slice_index bs (end - 1) ≢ 48

-- The bytes begin with a decimal's text whose whole part is short, and no run goes on behind it.
pub record IsDecimalText (D : ℕ) (bs : List ℕ) (end : ℕ) : Type 0 where
  pub first : ℕ
  pub point : ℕ
  pub minus : first ≤ 1
  pub sign : take first bs ≡ sign_text (first == 1)
  pub whole : IsWholePart D bs first point
  pub fraction : ((end ≡ point) × (first ≡ 1 → slice_index bs first ≢ 48)) ⊎ IsFraction D bs point end
  pub within : end ≤ length bs
  pub stops : end < length bs → class_of (slice_index bs end) ≢ Run

-- Some digits, at most so many, of which none is a zero before others or after a minus.
pub record IsPrinted (most : ℕ) (bs : List ℕ) (first end : ℕ) : Type 0 where
  pub some : first < end
  pub few : end ≤ first + most
  pub plain : slice_index bs first ≡ 48 → (end ≡ first + 1) × (first ≡ 0)

-- The bytes begin with a whole number of at most so many digits, as it is printed, and no run goes on behind it.
pub record IsWholeText (most : ℕ) (bs : List ℕ) (end : ℕ) : Type 0 where
  pub first : ℕ
  pub minus : first ≤ 1
  pub sign : take first bs ≡ sign_text (first == 1)
  pub printed : IsPrinted most bs first end
  pub within : end ≤ length bs
  pub digits : AllDigits 10 (slice_range bs first end)
  pub stops : end < length bs → class_of (slice_index bs end) ≢ Run

-- Digits end in a window, from `first` to `end`, and are this number, which has at most so many.
pub record ShowsWhole (most : ℕ) (bs : List ℕ) (first number end : ℕ) : Type 0 where
  pub some : first < end
  pub within : end < 32
  pub digits : AllDigits 10 (slice_range bs first end)
  pub value : number ≡ digits_value 10 (slice_range bs first end)
  pub small : number < 10 ^ most
  pub stops : class_of (slice_index bs end) ≢ Run

-- The bytes are at most so many, and those from `first` on are digits, which spell the number.
pub record SpellsAll (most : ℕ) (bs : List ℕ) (first number : ℕ) : Type 0 where
  pub some : first < length bs
  pub digits : AllDigits 10 (slice_range bs first (length bs))
  pub value : number ≡ digits_value 10 (slice_range bs first (length bs))
  pub small : number < 10 ^ most

-- No zero stands first or last, nor the point, and all is so short that the units fit.
pub record IsPlainDecimal (D : ℕ) (bs : List ℕ) (first end : ℕ) : Type 0 where
  pub starts : 48 < slice_index bs first
  pub last : 48 < slice_index bs (end - 1)
  pub places : D ≤ 36
  pub short : end ≤ D + 2
  pub fits : end + D ≤ 40

-- From `kept` on the bytes are zeros, and none stands before it.
pub record HasZeros (bs : List ℕ) (kept end : ℕ) : Type 0 where
  pub within : kept ≤ end
  pub zeros : slice_range bs kept end ≡ zeros (end - kept)
  pub last : slice_index bs (kept - 1) ≢ 48

-- The byte is no digit, by the sums of a lane of bytes, which wrap.
abbrev pub is_other : ℕ → Bool
is_other b = nat_lt 9 ((b + 208) % 256)

-- The bits from a place on.
abbrev pub bits_from : ℕ → List Bool → List Bool
bits_from zero ms = ms
bits_from (suc i) [] = []
bits_from (suc i) (m ∷ ms) = false ∷ bits_from i ms

-- Of the first 32 bytes those from a place on that are no digits, as bits.
abbrev pub others_mask : List ℕ → ℕ → ℕ
others_mask bs from = mask_l (bits_from from (map is_other (take 32 bs)))

-- The digits from a place on end at `at`, and what is left of the bits.
pub record IsFirstOther (bs : List ℕ) (from others at : ℕ) : Type 0 where
  pub order : from ≤ at
  pub within : at < 32
  pub digits : AllDigits 10 (slice_range bs from at)
  pub other : is_ascii_digit (slice_index bs at) ≡ false
  pub some : 0 < others
  pub next : bit_and others (others - 1) ≡ others_mask bs (at + 1)

-- A number that bytes begin with, in units. Only private contracts cite this.

-- The bytes begin with a number run of `end` bytes, which is read as so many units, and 64 bits hold these.
pub record BeginsUnits (places : ℕ) (bytes : List ℕ) (units : ℤ) (end : ℕ) : Type 0 where
  pub keeps : KeepsText (read_decimal 127 36 places) (λ (u : ℤ). []) bytes end 0
  pub is : keeps.number ≡ units
  pub fits : IsSigned 63 units

-- A number, followed by the digits from `first` on and before `most`, is `all`, and they end at `end`.
pub record ReadsDigits (bytes : List ℕ) (first most number all end : ℕ) : Type 0 where
  pub from : first ≤ end
  pub within : first ≤ most → end ≤ most
  pub digits : AllDigits 10 (slice_range bytes first end)
  pub value : all ≡ digits_value_after 10 number (slice_range bytes first end)
  pub small : all < 10 ^ end
