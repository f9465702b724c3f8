-- A number with an exponent in parts, and written without it. Only private contracts cite this file.
use Rattle.std.specs.Prelude.{◌≡◌, ◌≤◌, ◌<◌, ◌+◌, ◌-◌, ℕ, List, ◌∷◌, ◌++◌, length, take, drop, true, Some, Bool, if◌then◌else◌, min, get_or, IsUtf8}
use Rattle.std.specs.Str.Parse.{digits_value, starts_with_minus, without_leading_sign}
use Rattle.wkt_num.specs.Decimal.{before_point, after_point, zeros}
use Rattle.wkt_num.specs.Whole.{is_numeral}
use Rattle.wkt_num.specs.Bytes.{IsRun}
use Rattle.wkt_read.specs.Lexemes.{without_plus, starts_number}
use Rattle.wkt_dialects.specs.Exponents.{before_e, after_e, IsSameNumber}
use Rattle.wkt_dialects.specs.declared.exponents.Scaled.{Scaled}

-- None of so many first bytes is an e or E; none of them is a point.
pub record HasNoE (number : List ℕ) (n : ℕ) : Type 0 where
  pub before : before_e number ≡ take n number ++ before_e (drop n number)
  pub after : after_e number ≡ after_e (drop n number)

pub record HasNoPoint (body : List ℕ) (n : ℕ) : Type 0 where
  pub before : before_point body ≡ take n body ++ before_point (drop n body)
  pub after : after_point body ≡ after_point (drop n body)

-- The first e or E is at this place.
pub record IsE (number : List ℕ) (at : ℕ) : Type 0 where
  pub inside : at < length number
  pub before : before_e number ≡ take at number
  pub after : after_e number ≡ Some (drop (at + 1) number)

-- The point is at this place, or nowhere.
pub record IsPoint (body : List ℕ) (at : ℕ) : Type 0 where
  pub inside : at ≤ length body
  pub before : before_point body ≡ take at body
  pub after : after_point body ≡ drop (at + 1) body

-- The digits that the point is moved over.
abbrev pub digits_of : Bool → List ℕ → List ℕ → List ℕ
digits_of left w f = if left then w else f

-- The parts of such a number; the point is moved by at most 40 places past the digits.
pub record IsScaled (number : List ℕ) (n : Scaled) : Type 0 where
  pub exponent : List ℕ
  pub has_e : after_e number ≡ Some exponent
  pub numeral : is_numeral (without_leading_sign exponent) ≡ true
  pub left : n.left ≡ starts_with_minus exponent
  pub negative : n.negative ≡ starts_with_minus (before_e number)
  pub whole : n.whole.now ≡ before_point (without_leading_sign (before_e number))
  pub fraction : n.fraction.now ≡ after_point (without_leading_sign (before_e number))
  pub digits : is_numeral (n.whole.now ++ n.fraction.now) ≡ true
  pub by : n.by ≡ min (digits_value 10 (without_leading_sign exponent)) (length (digits_of n.left n.whole.now n.fraction.now) + 40)

-- The digits, with the point moved by so many places.
abbrev pub moved_left : ℕ → List ℕ → List ℕ → List ℕ
moved_left x w f = take (length w - x) w ++ (46 ∷ (zeros (x - length w) ++ (drop (length w - x) w ++ f)))

abbrev pub moved_right : ℕ → List ℕ → List ℕ → List ℕ
moved_right x w f = (w ++ (take x f ++ zeros (x - length f))) ++ (46 ∷ drop x f)

abbrev pub moved : Bool → ℕ → List ℕ → List ℕ → List ℕ
moved left x w f = if left then moved_left x w f else moved_right x w f

-- A number run was written that is read as the same without exponents.
pub record IsWrittenNumber (run old new : List ℕ) : Type 0 where
  pub written : List ℕ
  pub split : new ≡ old ++ written
  pub run_written : IsRun written
  pub begins : starts_number (get_or written 0 0) ≡ true
  pub utf8 : IsUtf8 run → IsUtf8 written
  pub same : IsSameNumber (without_plus run) (without_plus written)
