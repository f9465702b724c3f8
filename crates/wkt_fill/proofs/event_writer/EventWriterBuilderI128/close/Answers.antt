-- The part has its end.
use Rattle.wkt_fill.proofs.event_writer.EventWriterBuilderI128.close.Goals as goal

pub returns-clause-makes : goal.returns-clause-makes
returns-clause-makes c = c.end_part.ensures
