-- The answers to the lines so far are there.
use Rattle.std.proofs.Common.{◌≡◌, ◌-◌, ◌<◌, ◌≤◌, ◌∙◌, length, take, drop, ap, sym, subst, arith, length-drop, take_all}
use Rattle.wkt_lines.specs.Output.{IsOutput}
use Rattle.wkt_lines.proofs.Outcomes.{parts_make}
use Rattle.wkt_calls.specs.Answer.{read_at, print_at}
use Rattle.wkt_calls.specs.Calls.{AreWholeLines}
use Rattle.wkt_calls.proofs.Pieces.{whole-pick, line-lines, line-output}
use Rattle.wkt_calls.proofs.lines.answer_lines.Goals as goal
use Rattle.wkt_calls.proofs.lines.answer_lines.Goals.{then-at-end+else-end-at+else-not-has_room-2, else-at-end+else-not-has_room}

pub lines-preserved : goal.lines-preserved
lines-preserved c =
    let read = read_at c.args.places in
    let num = print_at c.args.places in
    let inv = c.lines.invariant in
    let last = c.args.last in
    let input = c.args.input.now in
    let at = c.lines.at in
    let end = c.if-at-end.end in
    let n = c.lesser-at.result in
    let a = c.answer_first-answer in
    let rest_is : take (length input - at) (drop at input) ≡ drop at input = take_all (length input - at) (drop at input) (omega (arith, length-drop at input)) in
    let facts : (at < end) × ((end ≤ length input) × AreWholeLines last input end) = elim c.if-at-end.branch [
      | then-at-end+else-end-at+else-not-has_room-2 w ↦ (
        omega (arith, w.end-is, w.if-end-at.false),
        (
          omega (arith, w.end-is, w.whole_within.ensures.within, ap length rest_is, length-drop at input, inv.at_in),
          subst (AreWholeLines last input) (sym w.end-is)
              (whole-pick last input at w.whole_within.result inv.at_in c.lines-test.true inv.lines (subst (λ r. AreWholeLines last r w.whole_within.result) rest_is w.whole_within.ensures.whole)),
        ),
      )
      | else-at-end+else-not-has_room w ↦ (
        omega (arith, w.end-is, w.if-at-end.false),
        (omega (arith, w.end-is, inv.end_in), subst (AreWholeLines last input) (sym w.end-is) inv.ends),
      )
    ] in
    let less = facts.0 in
    let inside = facts.1.0 in
    let ends = facts.1.1 in
    record {
      at_in = c.lesser-at.ensures.other;
      end_in = inside;
      fits = omega (arith, a.ensures.room, a.ensures.whole);
      whole = a.ensures.whole ∙ inv.whole;
      goes = omega (arith, inv.goes, c.lesser-at.ensures.is, inv.at_in);
      lines = line-lines last input at end less inside a.result.taken n inv.lines ends a.ensures.line c.lesser-at.ensures.is c.lesser-at.ensures.one c.lesser-at.ensures.other;
      ends = ends;
      answers =
          subst (IsOutput read num (take n input)) (sym a.ensures.answers.written)
          (line-output last input at end less inside read num (λ parts outs last out w h k. parts_make read num parts outs last out w h k) a.result.taken n (take c.lines.len c.lines.out) a.ensures.answers.answer inv.lines ends inv.answers a.ensures.answers.is
          a.ensures.line c.lesser-at.ensures.is c.lesser-at.ensures.one c.lesser-at.ensures.other);
    }
