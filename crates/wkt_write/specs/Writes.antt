-- What a writer of a shape returns, and leaves in the sink: `s` is the sink before, and `t` after.
use Rattle.std.specs.Prelude.{◌≡◌, ℕ, List, ◌++◌, Some, None, Result, Ok, Err, OnOk}
use Rattle.wkt_num.specs.Sink.{Sink, Adds, Breaks, GrewBy}
use Rattle.wkt_access.specs.declared.error.Error.{Error}
use Rattle.wkt_access.specs.declared.error.Error.TheVariants.{FmtError, RectUnsupportedDimension, UnknownDimension, TooFewNumbers, Memory}
use Rattle.wkt_access.specs.Shapes.{Shape}
use Rattle.wkt_access.specs.Texts.{shape_text}
use Rattle.wkt_access.specs.Faults.{fault}
use Rattle.wkt_access.specs.Faults as faults
use Rattle.wkt_access.specs.WellFormed.{IsLawful}

-- The shape has no error, its printed numbers are values of the number type, and exactly its text was added.
pub record Written {S N : Type 0} (sink : Sink S) (is_value : N → Type 0) (num : N → List ℕ) (s : S) (shape : Shape N) (t : S) : Type 0 where
  pub sound : fault shape ≡ None
  pub lawful : IsLawful is_value shape
  pub added : Adds sink s (shape_text num shape) t

-- The shape has no error, and the sink failed when a beginning of the text was added.
pub record BrokenOff {S N : Type 0} (sink : Sink S) (num : N → List ℕ) (s : S) (shape : Shape N) (t : S) : Type 0 where
  pub sound : fault shape ≡ None
  pub broken : Breaks sink s (shape_text num shape) t

-- The shape has this error, and the sink is as it was.
pub record Refused {S N : Type 0} (s : S) (shape : Shape N) (t : S) (e : Error) : Type 0 where
  pub found : fault shape ≡ Some e
  pub same : t ≡ s

-- `FmtError` is the sink's, any other error is the error of the shape, and `Memory` never comes.
abbrev pub Fails : {S N : Type 0} → Sink S → (N → List ℕ) → S → Shape N → S → Error → Type 0
Fails sink num s shape t (FmtError e) = BrokenOff sink num s shape t
Fails sink num s shape t RectUnsupportedDimension = Refused s shape t RectUnsupportedDimension
Fails sink num s shape t UnknownDimension = Refused s shape t UnknownDimension
Fails sink num s shape t TooFewNumbers = Refused s shape t TooFewNumbers
Fails sink num s shape t (Memory e) = ⊥

-- What a writer returns: the text was written, or it wasn't for this error.
abbrev pub Writes : {S T N : Type 0} → Sink S → (N → Type 0) → (N → List ℕ) → S → Shape N → S → Result T Error → Type 0
Writes sink is_value num s shape t (Ok x) = Written sink is_value num s shape t
Writes sink is_value num s shape t (Err e) = Fails sink num s shape t e

-- The fact is claimed of an error that is an error of the shape, and not of the sink; `Memory` never comes.
abbrev pub IfFault : {T : Type 0} → Result T Error → (Error → Type 0) → Type 0
IfFault (Ok x) P = Unit {0}
IfFault (Err (FmtError e)) P = Unit {0}
IfFault (Err RectUnsupportedDimension) P = P RectUnsupportedDimension
IfFault (Err UnknownDimension) P = P UnknownDimension
IfFault (Err TooFewNumbers) P = P TooFewNumbers
IfFault (Err (Memory e)) P = ⊥

-- The fact is claimed where the sink failed.
abbrev pub OnFmtError : {T : Type 0} → Result T Error → Type 0 → Type 0
OnFmtError (Ok x) P = Unit {0}
OnFmtError (Err (FmtError e)) P = P
OnFmtError (Err RectUnsupportedDimension) P = Unit {0}
OnFmtError (Err UnknownDimension) P = Unit {0}
OnFmtError (Err TooFewNumbers) P = Unit {0}
OnFmtError (Err (Memory e)) P = Unit {0}

-- What a writer of a shape into a string returns, and leaves there: `s` is the string's bytes before, and `t` after.
pub record Pushes {T N : Type 0} (is_value : N → Type 0) (num : N → List ℕ) (s : List ℕ) (shape : Shape N) (t : List ℕ) (r : Result T Error) : Type 0 where
  pub added : OnOk r (t ≡ s ++ shape_text num shape)
  pub sound : OnOk r (faults.fault shape ≡ None)
  pub lawful : OnOk r (IsLawful is_value shape)
  pub fault : IfFault r (λ e. faults.fault shape ≡ Some e)
  pub untouched : IfFault r (λ e. t ≡ s)
  pub memory : OnFmtError r (faults.fault shape ≡ None)
  pub grew : OnFmtError r (GrewBy s (shape_text num shape) t)
