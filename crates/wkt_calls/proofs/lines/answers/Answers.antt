-- Where lines are left, the answer to the next one may have no room.
use Rattle.std.proofs.Common.{◌≡◌, inl, inr, length, take, refl, sym, arith, length-drop, length-take-le}
use Rattle.std.proofs.lemmas.Bool.{false≢true}
use Rattle.wkt_calls.proofs.lines.answers.Goals as goal

pub returns-then-done-input-clause-lacks : goal.returns-then-done-input-clause-lacks
returns-then-done-input-clause-lacks c =
    let input = c.args.input.now in
    let done = c.answer_lines-done.result in
    let a = c.answer_lines-done.ensures in
    let room = c.answer_lines-done.new.out in
    let long : length (take done.written room) ≡ done.written = length-take-le done.written room a.written in
    elim a.stuck [
      | inl z ↦ absurd (omega (arith, z, length-drop done.taken input, c.if-done-input.true))
      | inr r ↦ elim r [
        | inl f ↦ absurd (false≢true (sym f.0))
        | inr k ↦ (
          refl,
          record { taken = done.taken; answers = take done.written room; are = a.answers; next = k.0; line = k.1; small = omega (arith, k.2, long, a.written, a.whole) },
        )
      ]
    ]
