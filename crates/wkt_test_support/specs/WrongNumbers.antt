-- Texts that break the laws of numbers, for edits that must be refused.
use Rattle.std.proofs.Common.{◌≡◌, ℕ, ◌==◌, if◌then◌else◌, List, [], ◌∷◌, Option, Some, None, refl}
use Rattle.wkt_test_support.specs.declared.numbers.Letter.{Letter}
use Rattle.wkt_test_support.specs.declared.numbers.Letter.TheVariants.{A, B}
use Rattle.wkt_test_support.specs.Numbers.{AnyLetter}

-- A text that begins with a plus.
abbrev pub plus_text : Letter → List ℕ
plus_text A = 43 ∷ 53 ∷ []
plus_text B = 46 ∷ 98 ∷ []

-- It is read as what it was printed for.
abbrev pub read_plus : List ℕ → Option Letter
read_plus (x ∷ y ∷ []) = if x == 43 then (if y == 53 then Some A else None) else (if x == 46 then (if y == 98 then Some B else None) else None)
read_plus _ = None

-- It reads back.
pub plus_reads_back : (x : Letter) → AnyLetter x → read_plus (plus_text x) ≡ Some x
plus_reads_back A h = refl
plus_reads_back B h = refl

-- A text with a comma.
abbrev pub comma_text : Letter → List ℕ
comma_text A = 49 ∷ 44 ∷ 53 ∷ []
comma_text B = 46 ∷ 98 ∷ []

-- It is read as what it was printed for.
abbrev pub read_comma : List ℕ → Option Letter
read_comma (x ∷ y ∷ []) = if x == 46 then (if y == 98 then Some B else None) else None
read_comma (x ∷ y ∷ z ∷ []) = if x == 49 then (if y == 44 then (if z == 53 then Some A else None) else None) else None
read_comma _ = None

-- It reads back.
pub comma_reads_back : (x : Letter) → AnyLetter x → read_comma (comma_text x) ≡ Some x
comma_reads_back A h = refl
comma_reads_back B h = refl
