use Rattle.std.proofs.Common.{◌≡◌, ◌≤◌, ◌-◌, take, length}
use Rattle.std.specs.Io.KnownBytes.{Appends}
use Rattle.wkt_bytes.proofs.wrapper.put_all.Given as goal

abbrev pub invariant-loop-at : goal.invariant-loop-at
invariant-loop-at g l = record {
  within : l.at ≤ length l.bytes;
  out : Appends (g.W.ByteSink.sink.bytes l.initial.writer) (g.W.ByteSink.sink.bytes l.writer) (take l.at l.bytes);
  tied : g.W.ByteSink.sink.keeps l.initial.writer l.writer;
  kept : g.W.ByteSink.sink.failures l.writer ≡ g.W.ByteSink.sink.failures l.initial.writer;
}

abbrev pub decreases-loop-at : goal.decreases-loop-at
decreases-loop-at g l = length l.bytes - l.at
