-- The statement that the library stands for.
use Rattle.std.specs.Prelude.{◌≡◌, ℕ, List, ◌++◌, length, take, Option, None, ◌↔◌, ◌⊎◌}
use Rattle.wkt_num.specs.Bytes.{Close}
use Rattle.wkt_access.specs.Values.{Value}
use Rattle.wkt_access.specs.Shapes.{Shape, canon, shape_of}
use Rattle.wkt_access.specs.Faults.{fault}
use Rattle.wkt_access.specs.WellFormed.{IsLawful}
use Rattle.wkt_access.specs.Texts.{shape_text}
use Rattle.wkt_read.specs.Lexemes.{IsBoundary}
use Rattle.wkt_read.specs.Front.{Front, EndsIn}

-- Over a number type that says what its values are, how they are printed and what is read: one text for one geometry, which reads back.
pub record Headline {N : Type 0} (is_value : N → Type 0) (num : N → List ℕ) (read : List ℕ → Option N) : Type 0 where
  -- A text begins with one geometry at most, which has one value and one end.
  pub one_front : (text : List ℕ) (v w : Value N) (end end' : ℕ) → Front read text v end → Front read text w end' → (v ≡ w) × (end ≡ end')
  -- What follows it changes nothing, if it ends in a closing parenthesis or no run goes on after it.
  pub stable : (text other : List ℕ) (v : Value N) (end : ℕ) (f : Front read text v end) → EndsIn Close f.lexemes ⊎ IsBoundary other → Front read (take end text ++ other) v end
  -- What is read can be written.
  pub writable : (text : List ℕ) (v : Value N) (end : ℕ) → Front read text v end → (fault (shape_of v) ≡ None) × IsLawful is_value (shape_of v)
  -- What is written, in whatever representation it is held, is read as its canonical value, to the end of the text.
  pub reads_back : (s : Shape N) → fault s ≡ None → IsLawful is_value s → Front read (shape_text num s) (canon s) (length (shape_text num s))
  -- Two geometries have one text exactly if their canonical values are equal.
  pub one_text : (r s : Shape N) → fault r ≡ None → fault s ≡ None → IsLawful is_value r → IsLawful is_value s → (shape_text num r ≡ shape_text num s) ↔ (canon r ≡ canon s)
  -- The canonical value of a canonical value is itself.
  pub canon_once : (s : Shape N) → canon (shape_of (canon s)) ≡ canon s
