-- Nothing is told.
use Rattle.wkt_fill.specs.EventLists.{becomes_none}
use Rattle.wkt_fill.proofs.event_writer.EventWriterBuilderI128.comma.Goals as goal

pub returns-clause-makes : goal.returns-clause-makes
returns-clause-makes c = becomes_none c.args.self
