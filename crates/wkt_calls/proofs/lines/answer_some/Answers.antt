-- The answers to the lines so far are out, and a line more still fits or doesn't.
use Rattle.std.proofs.Common.{ℕ, List, Option, Bool, ◌≡◌, ◌+◌, ◌-◌, ◌<◌, ◌≤◌, ◌++◌, ◌∙◌, ◌⊎◌, inl, inr, refl, length, take, drop, ap, sym, subst, arith, length-drop, length-take, length-take-le, take_all}
use Rattle.wkt_lines.specs.Laws.{IsWholeLines}
use Rattle.wkt_lines.specs.Output.{IsOutput}
use Rattle.wkt_lines.proofs.Outcomes.{parts_make}
use Rattle.wkt_calls.specs.Answer.{read_at, print_at}
use Rattle.wkt_calls.specs.Calls.{AreWholeLines, IsFirstLine}
use Rattle.wkt_calls.proofs.Pieces.{more_output, whole-pick, no-output}
use Rattle.wkt_calls.specs.Chunks.{HasNoLine, LacksRoom}
use Rattle.wkt_calls.specs.Rooms.{LackRoom}
use Rattle.wkt_calls.proofs.lines.answer_some.Goals as goal

-- What stands behind the bytes that are taken.
module _ (input : List ℕ) (taken : ℕ) where
  abbrev piece : List ℕ
  piece = take (length input - taken) (drop taken input)

  rest : piece ≡ drop taken input
  rest = take_all (length input - taken) (drop taken input) (omega (arith, length-drop taken input))

  module _ (last : Bool) (line : ℕ) (h : IsFirstLine last piece line ⊎ (line ≡ 0)) (some : line ≡ 0 → ⊥) where
    -- its first line
    first : IsFirstLine last (drop taken input) line
    first = elim h [ inl l ↦ subst (λ r. IsFirstLine last r line) rest l | inr z ↦ absurd (some z) ]

    -- the answer to that has no room
    lacks : {N : Type 0} (read : List ℕ → Option N) (num : N → List ℕ) (made : List ℕ) (size room : ℕ) → size ≤ length made → IsOutput read num (take line piece) (take size made) → room < size → LacksRoom read num last (drop taken input) room
    lacks read num made size room within are small = record {
      taken = line;
      line = first;
      answers = take size made;
      are = subst (λ r. IsOutput read num (take line r) (take size made)) rest are;
      small = omega (arith, small, length-take-le size made within);
    }

pub returns-then-done-eq0-clause-answers : goal.returns-then-done-eq0-clause-answers
returns-then-done-eq0-clause-answers c =
    let read = read_at c.args.places in
    let num = print_at c.args.places in
    let input = c.args.input.now in
    let done = c.answer_lines-done.result in
    let a = c.answer_lines-done.ensures in
    let nothing = no-output read num input (take done.written c.answer_lines-done.new.out) (subst (λ n. IsOutput read num (take n input) (take done.written c.answer_lines-done.new.out)) c.if-done-eq0.true a.answers) in
    let small : length c.args.out.now < c.in-Ok.size = omega (arith, ap length nothing, length-take done.written c.answer_lines-done.new.out, a.written, a.whole, c.lines.invariant.whole, c.if-size-out.true) in
    inr (
      refl,
      subst (λ n. LacksRoom read num c.args.last (drop n input) (length c.args.out.now)) {x = done.taken} {y = 0} c.if-done-eq0.true
          (lacks input done.taken c.args.last c.first_line-line.result c.first_line-line.ensures.line c.if-line-eq0.false read num c.answers.new.room c.in-Ok.size (length c.args.out.now) c.in-Ok.ensures.within c.in-Ok.ensures.answers small),
    )

pub returns-in-Err-clause-lacks : goal.returns-in-Err-clause-lacks
returns-in-Err-clause-lacks c _ =
    let read = read_at c.args.places in
    let num = print_at c.args.places in
    let done = c.answer_lines-done.result in
    let line = c.first_line-line.result in
    let lack = subst (λ r. LackRoom read num (take line r) (length c.lines.room)) (rest c.args.input.now done.taken) c.in-Err.ensures.lacks.1 in
    record {
      before = done.taken;
      size = line;
      line = first c.args.input.now done.taken c.args.last line c.first_line-line.ensures.line c.if-line-eq0.false;
      lack = subst (λ n. LackRoom read num (take line (drop done.taken c.args.input.now)) n) c.lines.invariant.room lack;
    }

pub returns-then-line-eq0-clause-answers : goal.returns-then-line-eq0-clause-answers
returns-then-line-eq0-clause-answers c =
    let input = c.args.input.now in
    let done = c.answer_lines-done.result in
    let a = c.answer_lines-done.ensures in
    let none : HasNoLine c.args.last (drop done.taken input) = subst (HasNoLine c.args.last) (rest input done.taken) (c.first_line-line.ensures.none c.if-line-eq0.true) in
    record {
      within = a.taken;
      lines = a.lines;
      fits = a.written;
      answers = a.answers;
      some = λ z. subst (λ n. HasNoLine c.args.last (drop n input)) {x = done.taken} {y = 0} z none;
      full = inl none;
    }

pub returns-then-size-out-clause-answers : goal.returns-then-size-out-clause-answers
returns-then-size-out-clause-answers c =
    let done = c.answer_lines-done.result in
    let a = c.answer_lines-done.ensures in
    let small : length c.answer_lines-done.new.out - done.written < c.in-Ok.size = omega (arith, a.written, a.whole, c.lines.invariant.whole, c.if-size-out.true) in
    record {
      within = a.taken;
      lines = a.lines;
      fits = a.written;
      answers = a.answers;
      some = λ z. absurd (c.if-done-eq0.false z);
      full = inr (lacks c.args.input.now done.taken c.args.last c.first_line-line.result c.first_line-line.ensures.line c.if-line-eq0.false (read_at c.args.places) (print_at c.args.places) c.answers.new.room c.in-Ok.size (length c.answer_lines-done.new.out - done.written) c.in-Ok.ensures.within c.in-Ok.ensures.answers small);
    }

pub lines-preserved : goal.lines-preserved
lines-preserved c =
    let text = take c.in-Ok.size c.answers.new.room in
    let long : length text ≡ c.in-Ok.size = length-take-le c.in-Ok.size c.answers.new.room c.in-Ok.ensures.within in
    let read = read_at c.args.places in
    let num = print_at c.args.places in
    let input = c.args.input.now in
    let done = c.answer_lines-done.result in
    let a = c.answer_lines-done.ensures in
    let line = c.first_line-line.result in
    let f = c.first_line-line.ensures in
    let rest_is = rest input done.taken in
    let less : done.taken < length input = omega (arith, f.within, ap length rest_is, length-drop done.taken input, a.taken, c.if-line-eq0.false) in
    let before : IsWholeLines (take done.taken input) = elim a.lines [ inl h ↦ h | inr e ↦ absurd (omega (arith, e.1, less)) ] in
    let put : take (done.written + c.in-Ok.size) c.put_at.new.out ≡ take done.written c.answer_lines-done.new.out ++ text =
    ap (λ n. take n c.put_at.new.out) {x = done.written + c.in-Ok.size} {y = done.written + length text} (omega (arith, long)) ∙ c.put_at.ensures.put in
    record {
      taken = omega (arith, f.within, ap length rest_is, length-drop done.taken input, a.taken);
      written = omega (arith, c.put_at.ensures.whole, c.if-size-out.false, a.written);
      whole = c.put_at.ensures.whole ∙ a.whole ∙ c.lines.invariant.whole;
      room = c.answers.ensures.whole ∙ c.lines.invariant.room;
      lines = whole-pick c.args.last input done.taken line a.taken less a.lines (subst (λ r. AreWholeLines c.args.last r line) rest_is f.whole);
      answers =
          subst (IsOutput read num (take (done.taken + line) input)) (sym put)
          (more_output read num (parts_make read num) input done.taken line (take done.written c.answer_lines-done.new.out) text before a.answers
          (subst (λ r. IsOutput read num (take line r) text) rest_is c.in-Ok.ensures.answers));
    }
