-- A number type of three values, and its laws.
use Rattle.std.proofs.Common.{◌≡◌, ℕ, ◌==◌, if◌then◌else◌, List, [], ◌∷◌, Option, Some, None, IfSome, refl}
use Rattle.wkt.specs.Bytes.{class_of}
use Rattle.wkt.specs.Number.{IsNumberText}
use Rattle.wkt_examples.specs.declared.my_number.Half as half

-- Each is a value.
abbrev pub AnyHalf : half.Half → Type 0
AnyHalf x = Unit {0}

-- They are printed as `0`, `.5` and `1`.
abbrev pub half_text : half.Half → List ℕ
half_text half.TheVariants.Zero = 48 ∷ []
half_text half.TheVariants.Half = 46 ∷ 53 ∷ []
half_text half.TheVariants.One = 49 ∷ []

-- These texts are read, and no others.
abbrev pub read_half : List ℕ → Option half.Half
read_half (x ∷ []) = if x == 48 then Some half.TheVariants.Zero else (if x == 49 then Some half.TheVariants.One else None)
read_half (x ∷ y ∷ []) = if x == 46 then (if y == 53 then Some half.TheVariants.Half else None) else None
read_half _ = None

-- The text of a value reads back.
pub half_reads_back : (x : half.Half) → AnyHalf x → read_half (half_text x) ≡ Some x
half_reads_back half.TheVariants.Zero h = refl
half_reads_back half.TheVariants.Half h = refl
half_reads_back half.TheVariants.One h = refl

-- What is read is a value.
pub any_half : (o : Option half.Half) → IfSome o AnyHalf
any_half None = tt
any_half (Some x) = tt

-- The text of a value is one number run.
pub half_number_text : (x : half.Half) → AnyHalf x → IsNumberText (half_text x)
unfolding class_of
half_number_text half.TheVariants.Zero h = (refl, (refl, tt))
half_number_text half.TheVariants.Half h = (refl, (refl, (refl, tt)))
half_number_text half.TheVariants.One h = (refl, (refl, tt))
