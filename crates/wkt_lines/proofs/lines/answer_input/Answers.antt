-- The answers to the lines so far are out or in the output buffer, and an error says which.
use Rattle.std.proofs.Common.{[], Some, Err, refl, sym, inl, inr, take, drop, take-append-drop}
use Rattle.std.proofs.lemmas.List.{append-nil}
use Rattle.wkt_lines.specs.Output.{IsAnswer}
use Rattle.wkt_lines.proofs.Lining.{parted}
use Rattle.wkt_lines.proofs.Answering.{any_ok}
use Rattle.wkt_lines.proofs.Outcomes.{at_hand, answered, part_answered}
use Rattle.wkt_lines.proofs.lines.answer_input.Goals as goal

pub parts-init : goal.parts-init
parts-init g c = record { base = at_hand (IsAnswer g.T.WktNum.read g.T.WktNum.num) g.W.ByteSink.sink (Some c.args.input.now) (Some []) c.args.input.now c.args.writer.now (sym (append-nil c.args.input.now)); empty = c.of_lines-output.ensures }

pub parts-preserved : goal.parts-preserved
parts-preserved g c =
    let out = c.in-Ok.ensures.answers in
    record {
      base = answered (IsAnswer g.T.WktNum.read g.T.WktNum.num) g.W.ByteSink.sink (Some c.args.input.now) (Some []) c.args.writer.now c.parts.writer c.parts.rest.now c.parts.invariant.base _ (take c.whole_lines-whole.result c.parts.rest.now) _ (parted c.whole_lines-whole.result c.parts.rest.now)
          c.whole_lines-whole.ensures.whole out.ok out.count c.answer_block-in-parts.ensures.keeps;
      empty = c.in-Ok.ensures.empty;
    }

pub returns-then-whole-eq0 : goal.returns-then-whole-eq0
returns-then-whole-eq0 g c =
    let rest = c.parts.rest.now in
    part_answered (IsAnswer g.T.WktNum.read g.T.WktNum.num) g.W.ByteSink.sink c.args.input.now c.args.writer.now c.parts.writer c.answer_block.new.writer rest c.parts.invariant.base rest [] (sym (append-nil rest)) (inr (refl, refl)) c.answer_block.result (any_ok c.answer_block.result refl) c.answer_block.ensures.answers

pub returns-in-Err : goal.returns-in-Err
returns-in-Err g c =
    let n = c.whole_lines-whole.result in
    let rest = c.parts.rest.now in
    part_answered (IsAnswer g.T.WktNum.read g.T.WktNum.num) g.W.ByteSink.sink c.args.input.now c.args.writer.now c.parts.writer c.answer_block-in-parts.new.writer rest c.parts.invariant.base (take n rest) (drop n rest) (sym (take-append-drop n rest)) (inl c.whole_lines-whole.ensures.whole) (Err c.in-Err.e) tt c.in-Err.ensures.answers
