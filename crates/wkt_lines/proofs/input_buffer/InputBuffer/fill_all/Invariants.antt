-- The buffer holds what the source lost.
use Rattle.std.proofs.Common.{◌≡◌, ◌-◌, ◌^◌}
use Rattle.std.specs.Io.KnownBytes.{Consumes}
use Rattle.wkt_lines.specs.Buffers.{unanswered}
use Rattle.wkt_lines.proofs.input_buffer.InputBuffer.fill_all.Given as goal

abbrev pub invariant-turns : goal.invariant-turns
invariant-turns g l = record {
  taken : Consumes (g.R.ByteSource.left l.initial.reader) (g.R.ByteSource.left l.reader) (unanswered l.self);
  kept : g.R.ByteSource.failures l.reader ≡ g.R.ByteSource.failures l.initial.reader;
}

abbrev pub decreases-turns : goal.decreases-turns
decreases-turns g l = 2 ^ 64 - l.self.len
