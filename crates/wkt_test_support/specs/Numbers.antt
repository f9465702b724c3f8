-- Number types with two values and with one, and their laws.
use Rattle.std.proofs.Common.{Option, Some, None, ◌≡◌, IfSome, refl}
use Rattle.std.specs.Prelude.{ℕ, ◌==◌, if◌then◌else◌, List, [], ◌∷◌, codes}
use Rattle.std.specs.Str.{bytes_eq}
use Rattle.wkt_test_support.specs.declared.numbers.Letter.{Letter}
use Rattle.wkt_test_support.specs.declared.numbers.Letter.TheVariants.{A, B}
use Rattle.wkt_test_support.specs.declared.numbers.Dash as dashes
use Rattle.wkt_test_support.specs.declared.numbers.Long as longs
use Rattle.wkt_num.specs.Bytes.{class_of}
use Rattle.wkt_num.specs.Number.{IsNumberText}

-- Number types with two values and with one.

-- Each letter is a value.
abbrev pub AnyLetter : Letter → Type 0
AnyLetter x = Unit {0}

-- A letter is printed as a point and the letter.
abbrev pub letter_text : Letter → List ℕ
letter_text A = 46 ∷ 97 ∷ []
letter_text B = 46 ∷ 98 ∷ []

-- A point and a letter are read as the letter, and nothing else is read.
abbrev pub read_letter : List ℕ → Option Letter
read_letter (x ∷ y ∷ []) = if x == 46 then (if y == 97 then Some A else (if y == 98 then Some B else None)) else None
read_letter _ = None

-- The dash is a value.
abbrev pub AnyDash : dashes.Dash → Type 0
AnyDash x = Unit {0}

-- The dash is printed as a minus.
abbrev pub dash_text : dashes.Dash → List ℕ
dash_text x = 45 ∷ []

-- A minus and the empty text are read as the dash, and nothing else is read.
abbrev pub read_dash : List ℕ → Option dashes.Dash
read_dash [] = Some dashes.TheVariants.Dash
read_dash (x ∷ []) = if x == 45 then Some dashes.TheVariants.Dash else None
read_dash _ = None

-- It is a value.
abbrev pub AnyLong : longs.Long → Type 0
AnyLong x = Unit {0}

-- It is printed as a point and twenty letters.
abbrev pub long_text : longs.Long → List ℕ
long_text x = codes ".llllllllllllllllllll"

-- A point and one letter are read as it, and that text, and bytes that are no text.
abbrev pub read_long : List ℕ → Option longs.Long
read_long bs = if bytes_eq bs (codes ".l") then Some longs.TheVariants.Long
    else (if bytes_eq bs (codes ".llllllllllllllllllll") then Some longs.TheVariants.Long else (if bytes_eq bs (46 ∷ 200 ∷ []) then Some longs.TheVariants.Long else None))

-- Proofs of the laws of numbers for the odd types, and no words of contracts.

-- The text of a letter reads back.
pub letter_reads_back : (x : Letter) → AnyLetter x → read_letter (letter_text x) ≡ Some x
letter_reads_back A h = refl
letter_reads_back B h = refl

-- Any answer is a value.
pub any_letter : (o : Option Letter) → IfSome o AnyLetter
any_letter None = tt
any_letter (Some x) = tt

-- The text of a letter is a number's.
pub letter_number_text : (x : Letter) → AnyLetter x → IsNumberText (letter_text x)
unfolding class_of
letter_number_text A h = (refl, (refl, (refl, tt)))
letter_number_text B h = (refl, (refl, (refl, tt)))

-- The text of the dash reads back.
pub dash_reads_back : (x : dashes.Dash) → AnyDash x → read_dash (dash_text x) ≡ Some x
dash_reads_back dashes.TheVariants.Dash h = refl

-- Any answer is a value.
pub any_dash : (o : Option dashes.Dash) → IfSome o AnyDash
any_dash None = tt
any_dash (Some x) = tt

-- The text of the dash is a number's.
pub dash_number_text : (x : dashes.Dash) → AnyDash x → IsNumberText (dash_text x)
unfolding class_of
dash_number_text x h = (refl, (refl, tt))

-- The long text reads back.
pub long_reads_back : (x : longs.Long) → AnyLong x → read_long (long_text x) ≡ Some x
long_reads_back longs.TheVariants.Long h = refl

-- Any answer is a value.
pub any_long : (o : Option longs.Long) → IfSome o AnyLong
any_long None = tt
any_long (Some x) = tt

-- The long text is a number's.
pub long_number_text : (x : longs.Long) → AnyLong x → IsNumberText (long_text x)
unfolding class_of
long_number_text x h = (refl, (refl, (refl, (refl, (refl, (refl, (refl, (refl, (refl, (refl, (refl, (refl, (refl, (refl, (refl, (refl, (refl, (refl, (refl, (refl, (refl, (refl, tt))))))))))))))))))))))

-- There is one of each.
pub one_dash : (x y : dashes.Dash) → x ≡ y
one_dash dashes.TheVariants.Dash dashes.TheVariants.Dash = refl

pub one_long : (x y : longs.Long) → x ≡ y
one_long longs.TheVariants.Long longs.TheVariants.Long = refl
