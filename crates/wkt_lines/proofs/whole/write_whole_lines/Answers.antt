-- One line more, or what stands behind the answers so far means nothing.
use Rattle.std.proofs.Common.{◌≡◌, ◌≤◌, ◌+◌, ◌-◌, length, take, drop, refl, sym, ◌∙◌, subst, arith, inl, IsUtf8}
use Rattle.std.proofs.lemmas.List.{take_rest, length-drop}
use Rattle.std.proofs.lemmas.Str.{IsUtf8-nil}
use Rattle.wkt_lines.specs.Lines.{input_lines, before_feed}
use Rattle.wkt_lines.specs.Replies.{AreReplies}
use Rattle.wkt_lines.specs.First.{IsWholeAnswer, AnswersWhole}
use Rattle.wkt_lines.proofs.Wholes.{whole_more, count_more, replies_more, utf8_more}
use Rattle.wkt_lines.proofs.whole.write_whole_lines.Goals as goal

pub lines-init : goal.lines-init
lines-init g c = record { within = omega arith; len = omega arith; room = refl; whole = inl refl; lines = refl; fewer = omega arith; written = refl; utf8 = IsUtf8-nil }

pub lines-preserved : goal.lines-preserved
lines-preserved g c =
    let i = c.lines.invariant in
    let a = c.in-Some.ensures in
    let read = g.N.Numbers.read c.args.numbers in
    let num = g.N.Numbers.num c.args.numbers in
    let bytes = c.args.bytes.now in
    let taken = c.lines.taken in
    let t = c.in-Some.answer.taken in
    let same : take (length bytes - taken) (drop taken bytes) ≡ drop taken bytes = take_rest bytes taken in
    let is : t ≡ length (before_feed (drop taken bytes)) + 1 = subst (λ r. t ≡ length (before_feed r) + 1) same a.line in
    let within : t ≤ length (drop taken bytes) = subst (λ r. t ≤ length r) same a.within in
    let old = take c.lines.len c.lines.room in
    let new = take c.in-Some.answer.len c.answer_whole.new.room in
    let one : AnswersWhole read num c.args.front (drop taken bytes) old new = subst (λ r. AnswersWhole read num c.args.front r old new) same a.answers in
    record {
      within = let left = length-drop taken bytes in let before = i.within in omega (arith, within, left, before);
      len = a.fits;
      room = a.room ∙ i.room;
      whole = whole_more bytes taken t is within i.whole;
      lines = count_more bytes taken t is within i.whole c.lines.lines i.lines;
      fewer = let before = i.fewer in omega (arith, is, before);
      written = replies_more bytes taken t is within i.whole read num c.args.front old new one i.written;
      utf8 = utf8_more bytes taken t is within i.whole read num c.args.front old new one i.utf8;
    }

pub returns-in-None-clause-written : goal.returns-in-None-clause-written
returns-in-None-clause-written g c =
    subst (AreReplies (IsWholeAnswer (g.N.Numbers.read c.args.numbers) (g.N.Numbers.num c.args.numbers) c.args.front) (input_lines (take c.lines.taken c.args.bytes.now))) (sym c.answer_whole.ensures.kept) c.lines.invariant.written

pub returns-in-None-clause-utf8 : goal.returns-in-None-clause-utf8
returns-in-None-clause-utf8 g c = subst IsUtf8 (sym c.answer_whole.ensures.kept) c.lines.invariant.utf8
