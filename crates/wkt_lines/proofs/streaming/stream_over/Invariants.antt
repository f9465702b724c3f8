use Rattle.std.proofs.Common.{◌≡◌, []}
use Rattle.wkt_lines.specs.Output.{IsAnswer}
use Rattle.wkt_lines.specs.Buffers.{output_text, unanswered}
use Rattle.wkt_lines.specs.Lines.{HasNoFeed}
use Rattle.wkt_lines.proofs.Outcomes.{Base}
use Rattle.wkt_lines.proofs.streaming.stream_over.Given as goal

abbrev pub invariant-turns : goal.invariant-turns
invariant-turns g l = record {
  base : Base (IsAnswer g.T.WktNum.read g.T.WktNum.num) g.W.ByteSink.sink (g.R.ByteSource.left l.initial.reader) (g.R.ByteSource.left l.reader) l.initial.writer l.writer (unanswered l.buffer);
  none : HasNoFeed (unanswered l.buffer);
  count : g.R.ByteSource.failures l.reader ≡ g.R.ByteSource.failures l.initial.reader;
  empty : output_text l.output ≡ [];
}
