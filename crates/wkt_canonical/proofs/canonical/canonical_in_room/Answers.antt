-- What was written stands at the front of the buffer; or the machine stops, and the message is that of its place.
use Rattle.std.proofs.Common.{refl, rules, sym, subst, IsUtf8}
use Rattle.wkt_machine.specs.Goes.{StopsAt}
use Rattle.wkt_sources.proofs.TableMessages.{stops_message, stops_no_front}
use Rattle.wkt_canonical.specs.Through.{text_builder_over}
use Rattle.wkt_canonical.proofs.TextBuilderOutput.{wrote-here}
use Rattle.wkt_canonical.proofs.canonical.canonical_in_room.Goals as goal

pub returns-in-Ends-clause-writes : goal.returns-in-Ends-clause-writes
returns-in-Ends-clause-writes g c =
    let (polygon, writes) = c.in-Ends.ensures.writes in
    wrote-here (g.N.Numbers.read c.args.numbers) (g.N.Numbers.num c.args.numbers) c.args.text.now c.as_bytes.result.now c.args.buffer.now _ _ (text_builder_over c.args.numbers polygon c.write_next.new.space) c.in-Ends.end c.as_bytes.ensures.value c.utf8.text refl refl writes c.in-Ends.ensures.room (search rules)

pub returns-in-Nothing-clause-writes : goal.returns-in-Nothing-clause-writes
returns-in-Nothing-clause-writes g c =
    let same = c.as_bytes.ensures.value in
    let stops = subst (λ t. StopsAt (g.N.Numbers.read c.args.numbers) t c.in-Nothing.machine c.in-Nothing.at) same (c.in-Nothing.ensures.stops refl (subst IsUtf8 (sym same) c.utf8.text)) in
    (stops_no_front (g.N.Numbers.read c.args.numbers) c.args.text.now _ _ stops, stops_message (g.N.Numbers.read c.args.numbers) c.args.text.now _ _ stops c.message_at.result c.message_at.ensures)
