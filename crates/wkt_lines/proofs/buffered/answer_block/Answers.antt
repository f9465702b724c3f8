-- The answers to the lines so far are out or in the output buffer, and an error says which.
use Rattle.std.proofs.Common.{[], arith, Err, subst, sym}
use Rattle.wkt_lines.specs.Output.{IsAnswer}
use Rattle.wkt_lines.specs.Buffers.{output_text, PutsOut}
use Rattle.wkt_lines.specs.declared.output_buffer.OutputBuffer.{OutputBuffer}
use Rattle.wkt_lines.proofs.OutputBuffering.{Buffered, buffered_none, buffered_drained, buffered_next, near, ends_inside, ends_past}
use Rattle.wkt_lines.proofs.buffered.answer_block.Goals as goal
use Rattle.wkt_lines.proofs.buffered.answer_block.Goals.{then-not-is_ready+in-Ok, else-not-is_ready}

pub lines-init : goal.lines-init
lines-init g c = record {
  buffered = buffered_none (IsAnswer g.T.WktNum.read g.T.WktNum.num) g.W.ByteSink.sink c.args.input.now (output_text c.args.output.now) c.args.writer.now c.requires;
  tied = g.W.ByteSink.sink.keeps_none c.args.writer.now;
  near = omega arith;
}

pub lines-preserved : goal.lines-preserved
lines-preserved g c =
    let there : OutputBuffer → g.row.W.Denot → Type 0 = λ p v. Buffered (IsAnswer g.T.WktNum.read g.T.WktNum.num) g.W.ByteSink.sink c.args.input.now c.lines.at (output_text p) c.args.writer.now v in
    let output = c.if-not-is_ready.output in
    let writer = c.if-not-is_ready.writer in
    let ready : there output writer = elim c.if-not-is_ready.branch [
      | then-not-is_ready+in-Ok w ↦ subst (λ p. there p writer) (sym w.output-is) (subst (λ v. there w.make_ready.new.output v) (sym w.writer-is)
          (buffered_drained (IsAnswer g.T.WktNum.read g.T.WktNum.num) g.W.ByteSink.sink c.args.input.now c.lines.at (output_text c.lines.output) c.args.writer.now c.lines.writer c.lines.invariant.buffered (output_text w.make_ready.new.output) w.make_ready.new.writer w.in-Ok.ensures.puts))
      | else-not-is_ready w ↦ subst (λ p. there p writer) (sym w.output-is) (subst (λ v. there c.lines.output v) (sym w.writer-is) c.lines.invariant.buffered)
    ] in
    let keeps : g.row.W.Denot → Type 0 = g.W.ByteSink.sink.keeps c.args.writer.now in
    let tied : keeps c.if-not-is_ready.writer = elim c.if-not-is_ready.branch [
      | then-not-is_ready+in-Ok w ↦ subst keeps (sym w.writer-is) (g.W.ByteSink.sink.keeps_more _ _ _ c.lines.invariant.tied w.make_ready.ensures.keeps)
      | else-not-is_ready w ↦ subst keeps (sym w.writer-is) c.lines.invariant.tied
    ] in
    let one = c.in-Ok-add_answer.ensures in
    record {
      buffered = buffered_next (IsAnswer g.T.WktNum.read g.T.WktNum.num) g.W.ByteSink.sink c.args.input.now c.lines.at (output_text output) c.args.writer.now writer ready c.in-Ok-add_answer.taken (output_text c.add_answer.new.self) c.lines-test.true one.left one.adds;
      tied = tied;
      near = near c.args.input.now c.lines.at c.in-Ok-add_answer.taken c.lines-test.true one.within;
    }

pub returns-in-Err-clause-answers : goal.returns-in-Err-clause-answers
returns-in-Err-clause-answers g c = ends_inside (IsAnswer g.T.WktNum.read g.T.WktNum.num) g.W.ByteSink.sink c.args.input.now c.lines.at (output_text c.lines.output) (output_text c.make_ready.new.output) c.args.writer.now c.lines.writer c.make_ready.new.writer c.lines.invariant.buffered c.lines-test.true (Err c.in-Err.e) tt c.in-Err.ensures.puts

pub returns-in-Err-add_answer-clause-answers : goal.returns-in-Err-add_answer-clause-answers
returns-in-Err-add_answer-clause-answers g c =
    let there : OutputBuffer → g.row.W.Denot → Type 0 = λ p v. Buffered (IsAnswer g.T.WktNum.read g.T.WktNum.num) g.W.ByteSink.sink c.args.input.now c.lines.at (output_text p) c.args.writer.now v in
    let output = c.if-not-is_ready.output in
    let writer = c.if-not-is_ready.writer in
    let ready : there output writer = elim c.if-not-is_ready.branch [
      | then-not-is_ready+in-Ok w ↦ subst (λ p. there p writer) (sym w.output-is) (subst (λ v. there w.make_ready.new.output v) (sym w.writer-is)
          (buffered_drained (IsAnswer g.T.WktNum.read g.T.WktNum.num) g.W.ByteSink.sink c.args.input.now c.lines.at (output_text c.lines.output) c.args.writer.now c.lines.writer c.lines.invariant.buffered (output_text w.make_ready.new.output) w.make_ready.new.writer w.in-Ok.ensures.puts))
      | else-not-is_ready w ↦ subst (λ p. there p writer) (sym w.output-is) (subst (λ v. there c.lines.output v) (sym w.writer-is) c.lines.invariant.buffered)
    ] in
    ends_inside (IsAnswer g.T.WktNum.read g.T.WktNum.num) g.W.ByteSink.sink c.args.input.now c.lines.at (output_text output) [] c.args.writer.now writer c.give_up.new.writer ready c.lines-test.true c.give_up.result c.give_up.ensures.never
    (subst (λ t. PutsOut g.W.ByteSink.sink c.give_up.result t [] writer c.give_up.new.writer) c.in-Err-add_answer.ensures c.give_up.ensures.puts)

pub returns-clause-answers : goal.returns-clause-answers
returns-clause-answers g c = ends_past (IsAnswer g.T.WktNum.read g.T.WktNum.num) g.W.ByteSink.sink c.args.input.now c.lines.at (output_text c.lines.output) c.args.writer.now c.lines.writer c.put_out.new.writer c.lines.invariant.buffered (omega arith) c.put_out.result c.put_out.ensures.memory c.put_out.ensures.puts

pub returns-in-Err-add_answer-clause-keeps : goal.returns-in-Err-add_answer-clause-keeps
returns-in-Err-add_answer-clause-keeps g c =
    let keeps : g.row.W.Denot → Type 0 = g.W.ByteSink.sink.keeps c.args.writer.now in
    let tied : keeps c.if-not-is_ready.writer = elim c.if-not-is_ready.branch [
      | then-not-is_ready+in-Ok w ↦ subst keeps (sym w.writer-is) (g.W.ByteSink.sink.keeps_more _ _ _ c.lines.invariant.tied w.make_ready.ensures.keeps)
      | else-not-is_ready w ↦ subst keeps (sym w.writer-is) c.lines.invariant.tied
    ] in
    g.W.ByteSink.sink.keeps_more _ _ _ tied c.give_up.ensures.keeps
