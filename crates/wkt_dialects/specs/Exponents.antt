-- Numbers with an exponent: the exact decimal that they stand for.
use Rattle.std.specs.Prelude.{◌≡◌, ℕ, ◌+◌, ◌^◌, ◌==◌, ◌||◌, Bool, List, [], ◌∷◌, ◌++◌, length, ℤ, Option, Some, None, if◌then◌else◌, nat_le}
use Rattle.std.specs.Str.Parse.{digits_value, without_leading_sign, starts_with_minus}
use Rattle.wkt_num.specs.Whole.{is_numeral}
use Rattle.wkt_num.specs.Decimal.{before_point, after_point, units_of, with_sign, and_then, read_decimal}

-- e or E
abbrev pub is_e : ℕ → Bool
is_e c = c == 101 || c == 69

-- What stands before the first e or E, and behind it.
abbrev pub before_e : List ℕ → List ℕ
before_e [] = []
before_e (c ∷ cs) = if is_e c then [] else c ∷ before_e cs

abbrev pub after_e : List ℕ → Option (List ℕ)
after_e [] = None
after_e (c ∷ cs) = if is_e c then Some cs else after_e cs

-- The number of units of ten to the minus D in n / 10 ^ k times ten to the x, or to the minus x, if it is whole and at most the limit.
abbrev pub scaled_units : ℕ → ℕ → ℕ → ℕ → Bool → ℕ → Option ℕ
scaled_units limit D n k down x = if down then units_of limit D n (k + x) else units_of limit (D + x) n k

-- The same for digits with at most one point.
abbrev pub scaled_magnitude : ℕ → ℕ → List ℕ → Bool → ℕ → Option ℕ
scaled_magnitude limit D body down x = let ds = before_point body ++ after_point body in
    if is_numeral ds then scaled_units limit D (digits_value 10 ds) (length (after_point body)) down x else None

-- The units of a number whose exponent is a sign or none and one digit or more.
abbrev pub read_scaled : ℕ → ℕ → List ℕ → List ℕ → Option ℤ
read_scaled k D number exponent = let x = without_leading_sign exponent in
    if is_numeral x
    then and_then (scaled_magnitude (2 ^ k) D (without_leading_sign number) (starts_with_minus exponent) (digits_value 10 x)) (with_sign k (starts_with_minus number))
    else None

-- The units that a text is read as, with an exponent or without, in k bits beside the sign, where D may be at most `most`.
abbrev pub read_by_e : Option (List ℕ) → ℕ → ℕ → ℕ → List ℕ → Option ℤ
read_by_e None k most D bs = read_decimal k most D bs
read_by_e (Some exponent) k most D bs = if nat_le D most then read_scaled k D (before_e bs) exponent else None

unfoldable pub read_exponents : ℕ → ℕ → ℕ → List ℕ → Option ℤ
read_exponents k most D bs = read_by_e (after_e bs) k most D bs

-- What is read without exponents is read as the same with them.
abbrev pub ExponentsKeep : Type 0
ExponentsKeep = (k most D : ℕ) (bs : List ℕ) (u : ℤ) → read_decimal k most D bs ≡ Some u → read_exponents k most D bs ≡ Some u

-- The other run is read without exponents as the run is read with them.
abbrev pub IsSameNumber : List ℕ → List ℕ → Type 0
IsSameNumber run other = (D : ℕ) → read_decimal 127 36 D other ≡ read_exponents 127 36 D run
