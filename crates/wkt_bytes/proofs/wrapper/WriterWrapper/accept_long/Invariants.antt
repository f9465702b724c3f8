use Rattle.std.proofs.Common.{◌≡◌, ◌≤◌, ◌-◌, ◌+◌, ◌*◌, take, length, true}
use Rattle.wkt_bytes.specs.Wrapper.{Gathers, is_well}
use Rattle.wkt_bytes.proofs.wrapper.WriterWrapper.accept_long.Given as goal

abbrev pub invariant-loop-at : goal.invariant-loop-at
invariant-loop-at g l = record {
  within : l.at ≤ length l.bytes;
  gave : Gathers g.W.ByteSink.sink l.initial.self (take l.at l.bytes) l.self;
  well : is_well l.self ≡ true;
  failures : l.self.failures ≡ l.initial.self.failures;
}

abbrev pub decreases-loop-at : goal.decreases-loop-at
decreases-loop-at g l = (length l.bytes - l.at) * 257 + length l.self.held
