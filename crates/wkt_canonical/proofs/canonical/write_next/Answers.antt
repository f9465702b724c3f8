-- The machine goes over the text's bytes with the text builder.
use Rattle.std.proofs.Common.{ap, arith, length, refl}
use Rattle.wkt_sources.proofs.SourceRooms.{start_room}
use Rattle.wkt_canonical.specs.TextBuilderMaker.{text_builder_maker}
use Rattle.wkt_canonical.specs.Through.{text_builder_over}
use Rattle.wkt_canonical.proofs.TextBuilderOutput.{depth_fits, stops_at, writes_events, writes_nothing}
use Rattle.wkt_canonical.proofs.canonical.write_next.Goals as goal

pub drive-requires-clause-depth : goal.drive-requires-clause-depth
drive-requires-clause-depth g c = depth_fits _ c.args.text.now c.new.result _ (ap (λ x. x.now) c.new.ensures.text) c.new.ensures.at (omega arith)

pub drive-requires-clause-room : goal.drive-requires-clause-room
drive-requires-clause-room g c =
    let text = ap (λ x. length x.now) c.new.ensures.text in
    let at = c.new.ensures.at in
    let room = c.requires.room in
    let same = ap (λ x. length x.now) c.take-out.ensures.value in
    start_room (text_builder_maker g.N.Numbers.read g.N.Numbers.num) _ c.new.result _ (omega (arith, text, at, room, same))

pub returns-else-out-whole-clause-writes : goal.returns-else-out-whole-clause-writes
returns-else-out-whole-clause-writes g c =
    let long = c.if-out-whole.false in
    let same = c.take-out.ensures.value in (
      c.in-Ok.over.builder.polygon,
      writes_events g.N.Numbers.read g.N.Numbers.num _ c.args.text.now c.new.result _ c.in-Ok.over (ap (λ x. x.now) c.new.ensures.text) c.new.ensures.at (text_builder_over c.args.numbers 0 c.args.space.now) _
          (ap (λ out. record { out = out; len = c.args.space.now.len; polygon = 0; numbers = c.args.numbers }) same) c.in-Ok.ensures.on c.in-Ok.ensures.over refl (omega (arith, long, ap (λ x. length x.now) same)),
    )

pub returns-in-Err-clause-writes : goal.returns-in-Err-clause-writes
returns-in-Err-clause-writes g c = writes_nothing g.N.Numbers.read g.N.Numbers.num _ c.args.text.now c.new.result _ c.in-Err.stop (ap (λ x. x.now) c.new.ensures.text) c.new.ensures.at c.in-Err.ensures.refused

pub returns-in-Err-clause-stops : goal.returns-in-Err-clause-stops
returns-in-Err-clause-stops g c = stops_at g.N.Numbers.read g.N.Numbers.num _ c.args.text.now c.new.result _ c.in-Err.stop (ap (λ x. x.now) c.new.ensures.text) c.new.ensures.at c.in-Err.ensures.refused
