use Rattle.std.proofs.Common.{◌≡◌, [], Some, length}
use Rattle.wkt_lines.specs.Output.{IsAnswer}
use Rattle.wkt_lines.specs.Buffers.{output_text}
use Rattle.wkt_lines.proofs.Outcomes.{Base}
use Rattle.wkt_lines.proofs.lines.answer_input.Given as goal

abbrev pub invariant-parts : goal.invariant-parts
invariant-parts g l = record {
  base : Base (IsAnswer g.T.WktNum.read g.T.WktNum.num) g.W.ByteSink.sink (Some l.input) (Some []) l.initial.writer l.writer l.rest;
  empty : output_text l.output ≡ [];
}

abbrev pub decreases-parts : goal.decreases-parts
decreases-parts g l = length l.rest
