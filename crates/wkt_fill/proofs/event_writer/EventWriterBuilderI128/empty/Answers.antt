-- The part began and ended.
use Rattle.wkt_fill.specs.EventLists.{becomes_then, begin_part, end_part}
use Rattle.wkt_fill.proofs.event_writer.EventWriterBuilderI128.empty.Goals as goal

pub returns-clause-makes : goal.returns-clause-makes
returns-clause-makes c =
    becomes_then (begin_part c.args.part) (end_part c.args.part) c.args.self c.begin_part.new.self c.end_part.new.self c.begin_part.ensures c.end_part.ensures
