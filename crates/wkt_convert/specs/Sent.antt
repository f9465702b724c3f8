-- What a text that goes out is answered with, and what is out then: `s` is the sink of bytes before, and `t` after.
use Rattle.std.specs.Prelude.{◌≡◌, ℕ, List, Some, None, Result, Ok, Err}
use Rattle.wkt_num.specs.Sink.{next_count}
use Rattle.wkt_bytes.specs.Sinks.{SinkOfBytes, IsOut, IsPartOut}
use Rattle.wkt_access.specs.declared.error.Error.{Error}
use Rattle.wkt_access.specs.declared.error.Error.TheVariants.{FmtError, RectUnsupportedDimension, UnknownDimension, TooFewNumbers, Memory}
use Rattle.wkt_access.specs.Shapes.{Shape}
use Rattle.wkt_access.specs.Faults.{fault}
use Rattle.wkt_access.specs.WellFormed.{IsLawful}
use Rattle.wkt_access.specs.Texts.{shape_text}
use Rattle.wkt_convert.specs.declared.send.ToWktError.{ToWktError}
use Rattle.wkt_convert.specs.declared.send.ToWktError.TheVariants as send

-- Why a shape has no text here: it has this error, or memory was lacking. A sink's error never comes.
abbrev pub IsRefusal : {N : Type 0} → Shape N → Error → Type 0
IsRefusal s (FmtError e) = ⊥
IsRefusal s RectUnsupportedDimension = fault s ≡ Some RectUnsupportedDimension
IsRefusal s UnknownDimension = fault s ≡ Some UnknownDimension
IsRefusal s TooFewNumbers = fault s ≡ Some TooFewNumbers
IsRefusal s (Memory e) = Unit {0}

-- The error is that of memory.
abbrev pub IsMemory : Error → Type 0
IsMemory (FmtError e) = ⊥
IsMemory RectUnsupportedDimension = ⊥
IsMemory UnknownDimension = ⊥
IsMemory TooFewNumbers = ⊥
IsMemory (Memory e) = Unit {0}

-- The fact is claimed where the shape was refused.
abbrev pub IfShape : {A : Type 0} → Result A ToWktError → (Error → Type 0) → Type 0
IfShape (Ok x) P = Unit {0}
IfShape (Err (send.Shape e)) P = P e
IfShape (Err (send.Io e)) P = Unit {0}

-- The shape has no error, its printed numbers are values of the number type, and exactly its text went out.
pub record SentWhole {W N : Type 0} (sink : SinkOfBytes W) (is_value : N → Type 0) (num : N → List ℕ) (s : W) (shape : Shape N) (t : W) : Type 0 where
  pub sound : fault shape ≡ None
  pub lawful : IsLawful is_value shape
  pub out : IsOut sink s t (shape_text num shape)
  pub unfailed : sink.failures t ≡ sink.failures s

-- The shape has no error, and the sink failed when a beginning of the text was out.
pub record SentInPart {W N : Type 0} (sink : SinkOfBytes W) (num : N → List ℕ) (s : W) (shape : Shape N) (t : W) : Type 0 where
  pub sound : fault shape ≡ None
  pub out : IsPartOut sink s t (shape_text num shape)
  pub failed : sink.failures t ≡ next_count (sink.failures s)

-- The shape has this error, or memory was lacking, and the sink is as it was.
pub record NotSent {W N : Type 0} (s : W) (shape : Shape N) (t : W) (e : Error) : Type 0 where
  pub cause : IsRefusal shape e
  pub same : t ≡ s

-- What is returned where the text of a shape is to go out: `Io` is the sink's error, and `Shape` that of the shape or of memory.
abbrev pub Sends : {W A N : Type 0} → SinkOfBytes W → (N → Type 0) → (N → List ℕ) → W → Shape N → W → Result A ToWktError → Type 0
Sends sink is_value num s shape t (Ok x) = SentWhole sink is_value num s shape t
Sends sink is_value num s shape t (Err (send.Io e)) = SentInPart sink num s shape t
Sends sink is_value num s shape t (Err (send.Shape e)) = NotSent s shape t e
