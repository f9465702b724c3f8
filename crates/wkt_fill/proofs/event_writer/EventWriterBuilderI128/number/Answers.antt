-- The number was put.
use Rattle.std.proofs.Common.{rules}
use Rattle.wkt_fill.proofs.EventRooms.{push-any}
use Rattle.wkt_fill.proofs.event_writer.EventWriterBuilderI128.number.Goals as goal

pub returns-clause-makes : goal.returns-clause-makes
returns-clause-makes c = push-any c.args.self c.push.new.self c.args.axis c.args.number _ c.push.ensures (search rules)
