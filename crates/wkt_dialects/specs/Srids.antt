-- The number in front of some bytes. Only private contracts cite this file.
use Rattle.std.specs.Prelude.{◌≡◌, ◌≤◌, ◌<◌, ℕ, List, length, take, get_or, false}
use Rattle.std.specs.Char.{is_ascii_digit}
use Rattle.std.specs.Str.Parse.{AllDigits, digits_value}

-- The bytes begin with so many digits, which are this number, and no tenth; another follows only where they are nine.
pub record IsFrontNumber (bytes : List ℕ) (number count : ℕ) : Type 0 where
  pub few : count ≤ 9
  pub inside : count ≤ length bytes
  pub digits : AllDigits 10 (take count bytes)
  pub value : number ≡ digits_value 10 (take count bytes)
  pub stops : count < 9 → is_ascii_digit (get_or bytes count 0) ≡ false
