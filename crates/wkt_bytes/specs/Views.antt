-- How the fields of a wrapper are seen. Only its model cites this file.
use Rattle.std.specs.Prelude.{Option, Some, None, Bool, true, false, take}
use Rattle.std.specs.declared.io.Error.{Error}
use Rattle.wkt_bytes.specs.Wrapper.{Wrapped}
use Rattle.wkt_bytes.specs.declared.wrapper.WrapperState.{WrapperState}
use Rattle.wkt_bytes.specs.declared.wrapper.WrapperState.TheVariants.{Well, Faulty, Taken}
use Rattle.wkt_bytes.specs.declared.wrapper.WriterWrapper.TheInside.{Inside}

-- No error came to a wrapper in this state.
abbrev pub state_well : WrapperState → Bool
state_well Well = true
state_well (Faulty e) = false
state_well Taken = false

-- The error that came, if it was not taken yet.
abbrev pub state_error : WrapperState → Option Error
state_error Well = None
state_error (Faulty e) = Some e
state_error Taken = None

-- The array's front is what is held.
abbrev pub seen : {W : Type 0} → Inside W → Wrapped W
seen s = record {
  writer = s.writer;
  held = take s.len s.held;
  well = state_well s.state;
  error = state_error s.state;
  failures = s.failures;
}
