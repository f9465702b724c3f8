-- The number stands behind those before it.
use Rattle.std.proofs.Common.{refl, rules, ap, ◌∙◌, set}
use Rattle.wkt_fill.proofs.EventRooms.{push-becomes, halves-any}
use Rattle.wkt_fill.proofs.event_writer.EventWriter.push.Goals as goal

pub returns : goal.returns
returns c =
    push-becomes c.args.self.now _ c.args.axis c.args.units refl refl refl refl refl c.with_first-self.ensures c.put_at.ensures.whole c.saturating_add-self.ensures
    (λ lt. c.put_at.ensures.written lt ∙ ap (set c.args.self.now.numbers.now c.args.self.now.number_count) (halves-any c.args.units _ c.halves.result c.halves.ensures (search rules)))
