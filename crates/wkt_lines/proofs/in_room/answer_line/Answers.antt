-- A line is answered by its front and by what stands behind that.
use Rattle.std.proofs.Common.{arith}
use Rattle.wkt_lines.proofs.Answering.{from-within, from-in-line, refused-line, no-front, no-text, text-line}
use Rattle.wkt_lines.proofs.in_room.answer_line.Goals as goal

pub ends_there-requires-clause-inside : goal.ends_there-requires-clause-inside
ends_there-requires-clause-inside g c =
    let w = rw c.in-Ok-Some.field-0-is at c.in-Ok-Some.ensures.writes in
    from-within (g.N.Numbers.read c.args.numbers) (g.N.Numbers.num c.args.numbers) c.args.rest.now c.args.len c.args.out.now c.write_front.new.out c.in-Ok-Some.end c.in-Ok-Some.n c.utf8_from-from.result w c.utf8_from-from.ensures

pub ends_there-requires-clause-line : goal.ends_there-requires-clause-line
ends_there-requires-clause-line g c =
    let w = rw c.in-Ok-Some.field-0-is at c.in-Ok-Some.ensures.writes in
    from-in-line (g.N.Numbers.read c.args.numbers) (g.N.Numbers.num c.args.numbers) c.args.rest.now c.args.len c.args.out.now c.write_front.new.out c.in-Ok-Some.end c.in-Ok-Some.n c.utf8_from-from.result w c.utf8_from-from.ensures

pub returns-then-ends_there-clause-answers : goal.returns-then-ends_there-clause-answers
returns-then-ends_there-clause-answers g c =
    let w = rw c.in-Ok-Some.field-0-is at c.in-Ok-Some.ensures.writes in
    let room = rw c.in-Ok-Some.field-0-is at c.in-Ok-Some.ensures.room in
    let whole = c.in-Ok-Some.ensures.whole in
    text-line (g.N.Numbers.read c.args.numbers) (g.N.Numbers.num c.args.numbers) c.args.rest.now c.args.len c.args.out.now c.write_front.new.out c.in-Ok-Some.end c.in-Ok-Some.n c.utf8_from-from.result w c.utf8_from-from.ensures
    c.utf8_from-from.result (omega (arith, room, whole)) c.if-ends_there.ensures

pub text_end-requires-clause-inside : goal.text_end-requires-clause-inside
text_end-requires-clause-inside g c =
    let w = rw c.in-Ok-Some.field-0-is at c.in-Ok-Some.ensures.writes in
    from-within (g.N.Numbers.read c.args.numbers) (g.N.Numbers.num c.args.numbers) c.args.rest.now c.args.len c.args.out.now c.write_front.new.out c.in-Ok-Some.end c.in-Ok-Some.n c.utf8_from-from.result w c.utf8_from-from.ensures

pub text_end-requires-clause-line : goal.text_end-requires-clause-line
text_end-requires-clause-line g c =
    let w = rw c.in-Ok-Some.field-0-is at c.in-Ok-Some.ensures.writes in
    from-in-line (g.N.Numbers.read c.args.numbers) (g.N.Numbers.num c.args.numbers) c.args.rest.now c.args.len c.args.out.now c.write_front.new.out c.in-Ok-Some.end c.in-Ok-Some.n c.utf8_from-from.result w c.utf8_from-from.ensures

pub returns-in-Some-clause-answers : goal.returns-in-Some-clause-answers
returns-in-Some-clause-answers g c =
    let w = rw c.in-Ok-Some.field-0-is at c.in-Ok-Some.ensures.writes in
    let room = rw c.in-Ok-Some.field-0-is at c.in-Ok-Some.ensures.room in
    let whole = c.in-Ok-Some.ensures.whole in
    text-line (g.N.Numbers.read c.args.numbers) (g.N.Numbers.num c.args.numbers) c.args.rest.now c.args.len c.args.out.now c.write_front.new.out c.in-Ok-Some.end c.in-Ok-Some.n c.utf8_from-from.result w c.utf8_from-from.ensures
    c.in-Some.line (omega (arith, room, whole)) c.in-Some.ensures

pub returns-in-None-clause-answers : goal.returns-in-None-clause-answers
returns-in-None-clause-answers g c =
    let w = rw c.in-Ok-Some.field-0-is at c.in-Ok-Some.ensures.writes in
    refused-line (g.N.Numbers.read c.args.numbers) (g.N.Numbers.num c.args.numbers) c.args.rest.now c.args.len c.args.out.now c.write_front.new.out c.refuse.new.out c.refuse.result.taken c.refuse.result.len
    (no-text (g.N.Numbers.read c.args.numbers) (g.N.Numbers.num c.args.numbers) c.args.rest.now c.args.len c.args.out.now c.write_front.new.out c.in-Ok-Some.end c.in-Ok-Some.n c.utf8_from-from.result w c.utf8_from-from.ensures c.in-None.ensures)
    c.in-Ok-Some.ensures.kept c.refuse.ensures.written c.refuse.ensures.left

pub returns-in-Ok-None-clause-answers : goal.returns-in-Ok-None-clause-answers
returns-in-Ok-None-clause-answers g c =
    let w = rw c.in-Ok-None.field-0-is at c.in-Ok-None.ensures.writes in
    refused-line (g.N.Numbers.read c.args.numbers) (g.N.Numbers.num c.args.numbers) c.args.rest.now c.args.len c.args.out.now c.write_front.new.out c.refuse-in-Ok-None.new.out c.refuse-in-Ok-None.result.taken c.refuse-in-Ok-None.result.len
    (no-front (g.N.Numbers.read c.args.numbers) (g.N.Numbers.num c.args.numbers) c.args.rest.now w)
    c.in-Ok-None.ensures.kept c.refuse-in-Ok-None.ensures.written c.refuse-in-Ok-None.ensures.left
