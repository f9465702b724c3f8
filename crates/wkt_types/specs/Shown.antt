-- What a geometry is displayed as.
use Rattle.std.specs.Prelude.{◌≡◌, ◌≢◌, ℕ, List, Option, Some, None, Result, IsErr, OnOk}
use Rattle.std.specs.Fmt.{DisplaysOnOk, DisplaysStyledOnOk}
use Rattle.std.specs.declared.fmt.Error as fmt
use Rattle.std.specs.declared.fmt.Formatter.{Formatter}
use Rattle.wkt_num.specs.Sink.{Sink}
use Rattle.wkt_access.specs.declared.error.Error.{Error}
use Rattle.wkt_access.specs.Shapes.{Shape}
use Rattle.wkt_access.specs.Texts.{shape_text}
use Rattle.wkt_access.specs.Faults.{fault}

-- A text, where nothing was found that speaks against it.
abbrev pub text_unless : Option Error → List ℕ → Option (List ℕ)
text_unless None text = Some text
text_unless (Some e) text = None

-- A shape that can be written is displayed as its text.
abbrev pub shown : {N : Type 0} → (N → List ℕ) → Shape N → Option (List ℕ)
shown num s = text_unless (fault s) (shape_text num s)

-- The shape can't be written.
abbrev pub IsUnwritable : {N : Type 0} → Shape N → Type 0
IsUnwritable s = fault s ≢ None

-- What a call of `fmt` answers, and leaves in the formatter: `f` is the formatter before, and `t` after.
pub record Shows {W N : Type 0} (gives : W → List ℕ → W → Type 0) (num : N → List ℕ) (s : Shape N) (f : Formatter W) (result : Result (Unit {0}) fmt.Error) (t : Formatter W) : Type 0 where
  -- Ok means that the text went out, where no width, fill or precision is asked for.
  pub writes : DisplaysOnOk gives f result (shown num s) t
  -- Ok means that the text went out as it is, whatever width, fill or precision is asked for.
  pub styled : DisplaysStyledOnOk gives f result (shown num s) t
  -- A shape that can't be written is refused.
  pub refused : IsUnwritable s → IsErr result
  -- Nothing of it is written.
  pub untouched : IsUnwritable s → t ≡ f

-- What a sink was given of a shape, before and after: its text, or nothing where it can't be written.
pub record SendsShape {S N : Type 0} (sink : Sink S) (num : N → List ℕ) (shape : Shape N) (s : S) (result : Result (Unit {0}) fmt.Error) (t : S) : Type 0 where
  pub sent : OnOk result (sink.gives s (shape_text num shape) t)
  pub sound : OnOk result (fault shape ≡ None)
  pub untouched : IsUnwritable shape → t ≡ s
