-- A line is answered by its front, and by what stands behind that.
use Rattle.std.proofs.Common.{◌<◌, length, arith}
use Rattle.wkt_lines.proofs.Answering.{from-within, nothing-behind, whole-line}
use Rattle.wkt_lines.proofs.whole.answer_whole.Goals.{then-ends_there, else-ends_there+in_ok-line-in-Ok-Some}
use Rattle.wkt_lines.proofs.whole.answer_whole.Goals as goal

pub ends_there-requires-clause-inside : goal.ends_there-requires-clause-inside
ends_there-requires-clause-inside g c =
    let w = rw c.in-Ok-Some.field-0-is at c.in-Ok-Some.ensures.writes in
    from-within (g.N.Numbers.read c.args.numbers) (g.N.Numbers.num c.args.numbers) c.args.rest.now c.args.len c.args.room.now c.write_front.new.out c.in-Ok-Some.end c.in-Ok-Some.n c.utf8_from-from.result w c.utf8_from-from.ensures

pub whole_end-requires-clause-inside : goal.whole_end-requires-clause-inside
whole_end-requires-clause-inside g c =
    let w = rw c.in-Ok-Some.field-0-is at c.in-Ok-Some.ensures.writes in
    from-within (g.N.Numbers.read c.args.numbers) (g.N.Numbers.num c.args.numbers) c.args.rest.now c.args.len c.args.room.now c.write_front.new.out c.in-Ok-Some.end c.in-Ok-Some.n c.utf8_from-from.result w c.utf8_from-from.ensures

pub returns-else-line-rest-clause-answers : goal.returns-else-line-rest-clause-answers
returns-else-line-rest-clause-answers g c =
    let read = g.N.Numbers.read c.args.numbers in
    let num = g.N.Numbers.num c.args.numbers in
    let w = rw c.in-Ok-Some.field-0-is at c.in-Ok-Some.ensures.writes in
    let room = rw c.in-Ok-Some.field-0-is at c.in-Ok-Some.ensures.room in
    let whole = c.in-Ok-Some.ensures.whole in
    let fits : c.in-Ok-Some.n < length c.write_front.new.out = omega (arith, room, whole) in
    elim c.if-ends_there.branch [
      | then-ends_there b ↦
          whole-line read num c.args.rest.now c.args.len c.args.room.now c.write_front.new.out c.in-Ok-Some.end c.in-Ok-Some.n c.utf8_from-from.result w c.utf8_from-from.ensures c.args.front c.utf8_from-from.result fits b.if-ends_there.ensures
          (nothing-behind read num c.args.rest.now c.args.len c.args.room.now c.write_front.new.out c.in-Ok-Some.end c.in-Ok-Some.n c.utf8_from-from.result w c.utf8_from-from.ensures c.args.front b.if-ends_there.ensures)
      | else-ends_there+in_ok-line-in-Ok-Some b ↦
          let e = b.in_ok-line-in-Ok-Some.ensures in
          whole-line read num c.args.rest.now c.args.len c.args.room.now c.write_front.new.out c.in-Ok-Some.end c.in-Ok-Some.n c.utf8_from-from.result w c.utf8_from-from.ensures c.args.front b.in_ok-line-in-Ok-Some.line fits e.0 e.1
    ]
