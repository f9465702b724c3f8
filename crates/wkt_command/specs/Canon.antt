-- What `wkt canon` writes, and the geometries that were seen.
use Rattle.std.specs.Prelude.{◌≡◌, ℕ, List, take, drop, Option, Bool, true, false, ◌⊎◌, ℤ, [], ◌∷◌, ◌++◌, min, Some, None, String, string_bytes, IsUtf8, codes, if◌then◌else◌, map, IfSome}
use Rattle.std.specs.declared.alloc.Global.{Global}
use Rattle.std.specs.Io.KnownBytes.{Appends}
use Rattle.std.specs.Io.Buffered.{writer_contents}
use Rattle.std.specs.Str.{bytes_eq}
use Rattle.std.specs.HashMap.{get_by}
use Rattle.wkt_num.specs.Bytes.{AllWhite}
use Rattle.wkt_read.specs.Front.{Front}
use Rattle.wkt_num.specs.Decimal.{decimal_text, read_decimal}
use Rattle.wkt_access.specs.Values.{Value}
use Rattle.wkt_access.specs.Shapes.{shape_of}
use Rattle.wkt_access.specs.Texts.{shape_text}
use Rattle.wkt_options.specs.declared.options.Options.{Options}
use Rattle.wkt_options.specs.declared.options.Ends.{Ends}
use Rattle.wkt_options.specs.declared.options.Ends.TheVariants.{Nul}
use Rattle.wkt_lines.specs.Lines.{input_lines}
use Rattle.wkt_command.specs.Dialects.{IsTextIn}
use Rattle.wkt_command.specs.Place.{other_end}
use Rattle.wkt_command.specs.declared.output.Output.{Output}
use Rattle.wkt_command.specs.declared.dups.Seen.{Seen}
use Rattle.wkt_command.specs.declared.dups.Spot.{Spot}

-- What `wkt canon` writes.

-- What was written, where the writer reveals it.
abbrev pub out_bytes : {W : Type 0} → (W → Option (List ℕ)) → Output W → Option (List ℕ)
out_bytes contents o = writer_contents contents o.writer

-- A text is read as this value, whose front ends there: nothing but white space follows it, or the front alone counts.
pub record IsReadAs (o : Options) (text : List ℕ) (v : Value ℤ) (end : ℕ) : Type 0 where
  pub front : Front (read_decimal 127 36 (min o.places 36)) text v end
  pub whole : (o.front ≡ true) ⊎ AllWhite (drop end text)

-- The line for a refused text, if one was asked for; the word `skip` asks for none.
abbrev pub refused_line : Option (String Global) → List ℕ
refused_line None = []
refused_line (Some word) = if bytes_eq (codes "skip") (string_bytes word) then [] else string_bytes word ++ 10 ∷ []

-- The text is white space alone, and such texts are passed over.
abbrev pub IsSkipped : Options → List ℕ → Type 0
IsSkipped o text = (o.skip_blank ≡ true) × AllWhite text

-- What `wkt canon` writes for a text: of one that is read the canonical text, with a line feed, of one that is passed over nothing, and of another what was asked for. In dialects it is that of the text that the text is read as.
pub record IsAnswerTo (o : Options) (text out : List ℕ) : Type 0 where
  pub other : List ℕ
  pub read_as : IsUtf8 text → IsTextIn o.dialects o.places text other
  pub read : IsUtf8 text → (v : Value ℤ) (end : ℕ) → IsReadAs o other v end
      → out ≡ shape_text (decimal_text (min o.places 36)) (shape_of v) ++ 10 ∷ []
  pub skipped : (IsUtf8 text → (v : Value ℤ) (end : ℕ) → IsReadAs o other v end → ⊥) → IsSkipped o text → out ≡ []
  pub refused : (IsUtf8 text → (v : Value ℤ) (end : ℕ) → IsReadAs o other v end → ⊥) → (IsSkipped o text → ⊥) → out ≡ refused_line o.refused

-- The text is read as one that has no value.
abbrev pub IsNotRead : Options → List ℕ → Type 0
IsNotRead o text = (other : List ℕ) × (IsUtf8 text → IsTextIn o.dialects o.places text other) × (IsUtf8 text → (v : Value ℤ) (end : ℕ) → IsReadAs o other v end → ⊥)

-- That was written.
abbrev pub Canonizes : Options → List ℕ → Option (List ℕ) → Option (List ℕ) → Type 0
Canonizes o text old new = (out : List ℕ) × IsAnswerTo o text out × Appends old new out

-- What was written for these texts, one after the other.
abbrev pub AreAnswers : (List ℕ → List ℕ → Type 0) → List (List ℕ) → List ℕ → Type 0
AreAnswers is [] out = out ≡ []
AreAnswers is (text ∷ texts) out = (first : List ℕ) × (rest : List ℕ) × (out ≡ first ++ rest) × is text first × AreAnswers is texts rest

-- The text that a line stands for: where texts end at a NUL, line feeds and NULs have changed places.
abbrev pub text_of : Ends → List ℕ → List ℕ
text_of Nul line = map other_end line
text_of _ line = line

-- What was written answers the texts of all lines that were to come, where the source reveals them.
abbrev pub CanonizesAll : Options → Option (List ℕ) → Option (List ℕ) → Option (List ℕ) → Type 0
CanonizesAll o left old new = IfSome left (λ input. (out : List ℕ) × AreAnswers (IsAnswerTo o) (map (text_of o.ends) (input_lines input)) out × Appends old new out)

-- The geometries that were seen.

-- Where the geometry of this canonical text was seen first, if it was.
abbrev pub first_of : Seen → List ℕ → Option Spot
first_of s key = get_by (λ k. bytes_eq key k) s.first
