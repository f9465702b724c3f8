-- The answers to the whole lines that came so far are out, and the rest is held.
use Rattle.std.proofs.Common.{◌≡◌, ◌++◌, ℕ, List, [], inl, inr, Err, refl, sym, ap, ◌∙◌, subst, take, drop, take-append-drop}
use Rattle.std.proofs.lemmas.List.{append-nil}
use Rattle.wkt_lines.specs.Output.{IsAnswer}
use Rattle.wkt_lines.specs.Laws.{IsWholeLines}
use Rattle.wkt_lines.specs.Buffers.{unanswered}
use Rattle.wkt_lines.specs.Lines.{HasNoFeed}
use Rattle.wkt_lines.proofs.Lining.{seen_none, none_in_nothing}
use Rattle.wkt_lines.proofs.Answering.{any_ok}
use Rattle.wkt_lines.proofs.Outcomes.{begins, filled, answered, block_answered, no_room, no_block}
use Rattle.wkt_lines.proofs.streaming.stream_over.Goals as goal

pub turns-init : goal.turns-init
turns-init g c = record {
  base = begins (IsAnswer g.T.WktNum.read g.T.WktNum.num) g.W.ByteSink.sink (g.R.ByteSource.left c.args.reader.now) c.args.writer.now _ c.new-buffer.ensures;
  none = none_in_nothing _ c.new-buffer.ensures;
  count = refl;
  empty = c.of_blocks-output.ensures;
}

pub returns-in-Err : goal.returns-in-Err
returns-in-Err g c = no_room (IsAnswer g.T.WktNum.read g.T.WktNum.num) g.R.ByteSource.left g.R.ByteSource.failures g.W.ByteSink.sink _ _ _ _ _ c.turns.invariant.base c.turns.invariant.none c.turns.invariant.count _

pub returns-in-Err-fill : goal.returns-in-Err-fill
returns-in-Err-fill g c = no_block (IsAnswer g.T.WktNum.read g.T.WktNum.num) g.R.ByteSource.left g.R.ByteSource.failures g.W.ByteSink.sink _ _ _ _ _ c.turns.invariant.base c.turns.invariant.none c.turns.invariant.count _ c.in-Err-fill.ensures.left c.in-Err-fill.ensures.failed _

pub returns-in-Ok-eq0 : goal.returns-in-Ok-eq0
returns-in-Ok-eq0 g c =
    let h = c.in-Ok-eq0.ensures.ok in
    let end = c.in-Ok-eq0.ensures.end c.in-Ok-eq0.field-0-test in
    let held = c.front.result.now in
    let d = filled (IsAnswer g.T.WktNum.read g.T.WktNum.num) g.W.ByteSink.sink _ _ _ _ _ c.turns.invariant.base _ h.0 held h.3 (c.front.ensures ∙ (h.1 ∙ ap (λ (xs : List ℕ). xs ++ h.0) c.make_room.ensures.front)) in
    block_answered (IsAnswer g.T.WktNum.read g.T.WktNum.num) g.R.ByteSource.left g.R.ByteSource.failures g.W.ByteSink.sink _ _ _ _ _ d _ held [] (sym (append-nil held)) (inr (refl, end)) (c.in-Ok-eq0.ensures.count ∙ c.turns.invariant.count) c.answer_block.result (any_ok c.answer_block.result (refl, end)) c.answer_block.ensures.answers

pub whole-whole-requires-clause-none : goal.whole-whole-requires-clause-none
whole-whole-requires-clause-none g c =
    let h = c.in-Ok.ensures.ok in
    let none = subst (λ (xs : List ℕ). HasNoFeed xs) (sym c.make_room.ensures.front) c.turns.invariant.none in
    seen_none c.len-seen.result (unanswered c.make_room.new.self) h.0 (unanswered c.fill.new.self) c.len-seen.ensures h.1 none

pub returns-in-Err-answer_block : goal.returns-in-Err-answer_block
returns-in-Err-answer_block g c =
    let h = c.in-Ok.ensures.ok in
    let n = c.whole-whole.result in
    let held = c.front-in-Ok.result.now in
    let d = filled (IsAnswer g.T.WktNum.read g.T.WktNum.num) g.W.ByteSink.sink _ _ _ _ _ c.turns.invariant.base _ h.0 held h.3 (c.front-in-Ok.ensures ∙ (h.1 ∙ ap (λ (xs : List ℕ). xs ++ h.0) c.make_room.ensures.front)) in
    let w = subst (λ (xs : List ℕ). IsWholeLines (take n xs)) (sym c.front-in-Ok.ensures) c.whole-whole.ensures.whole in
    block_answered (IsAnswer g.T.WktNum.read g.T.WktNum.num) g.R.ByteSource.left g.R.ByteSource.failures g.W.ByteSink.sink _ _ _ _ _ d _ (take n held) (drop n held) (sym (take-append-drop n held)) (inl w) (c.in-Ok.ensures.count ∙ c.turns.invariant.count) (Err c.in-Err-answer_block.e) tt c.in-Err-answer_block.ensures.answers

pub turns-preserved : goal.turns-preserved
turns-preserved g c =
    let h = c.in-Ok.ensures.ok in
    let n = c.whole-whole.result in
    let held = c.front-in-Ok.result.now in
    let rest = unanswered c.consume.new.self in
    let d = filled (IsAnswer g.T.WktNum.read g.T.WktNum.num) g.W.ByteSink.sink _ _ _ _ _ c.turns.invariant.base _ h.0 held h.3 (c.front-in-Ok.ensures ∙ (h.1 ∙ ap (λ (xs : List ℕ). xs ++ h.0) c.make_room.ensures.front)) in
    let w = subst (λ (xs : List ℕ). IsWholeLines (take n xs)) (sym c.front-in-Ok.ensures) c.whole-whole.ensures.whole in
    let parts : held ≡ take n held ++ rest = sym (take-append-drop n held) ∙ ap (λ (xs : List ℕ). take n held ++ xs) (ap (λ (xs : List ℕ). drop n xs) c.front-in-Ok.ensures ∙ sym c.consume.ensures) in
    record {
      base = answered (IsAnswer g.T.WktNum.read g.T.WktNum.num) g.W.ByteSink.sink _ _ _ _ _ d _ (take n held) rest parts w c.in-Ok-answer_block.ensures.answers.ok c.in-Ok-answer_block.ensures.answers.count c.answer_block-in-Ok.ensures.keeps;
      none = subst (λ (xs : List ℕ). HasNoFeed xs) (sym c.consume.ensures) c.whole-whole.ensures.rest;
      count = c.in-Ok.ensures.count ∙ c.turns.invariant.count;
      empty = c.in-Ok-answer_block.ensures.empty;
    }

pub returns : goal.returns
returns g c = no_room (IsAnswer g.T.WktNum.read g.T.WktNum.num) g.R.ByteSource.left g.R.ByteSource.failures g.W.ByteSink.sink _ _ _ _ _ c.turns.invariant.base c.turns.invariant.none c.turns.invariant.count _
