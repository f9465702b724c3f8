-- A polygon of a multipolygon has its begin.
use Rattle.wkt_fill.proofs.event_writer.EventWriterBuilderI128.open.Goals as goal

pub returns-clause-makes : goal.returns-clause-makes
returns-clause-makes c = c.begin_part.ensures
