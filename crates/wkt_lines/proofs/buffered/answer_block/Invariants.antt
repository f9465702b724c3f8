use Rattle.std.proofs.Common.{◌≤◌, ◌+◌, ◌-◌, length}
use Rattle.wkt_lines.specs.Output.{IsAnswer}
use Rattle.wkt_lines.specs.Buffers.{output_text}
use Rattle.wkt_lines.proofs.OutputBuffering.{Buffered}
use Rattle.wkt_lines.proofs.buffered.answer_block.Given as goal

abbrev pub invariant-lines : goal.invariant-lines
invariant-lines g l = record {
  buffered : Buffered (IsAnswer g.T.WktNum.read g.T.WktNum.num) g.W.ByteSink.sink l.input l.at (output_text l.output) l.initial.writer l.writer;
  tied : g.W.ByteSink.sink.keeps l.initial.writer l.writer;
  near : l.at ≤ length l.input + 1;
}

abbrev pub decreases-lines : goal.decreases-lines
decreases-lines g l = length l.input - l.at
