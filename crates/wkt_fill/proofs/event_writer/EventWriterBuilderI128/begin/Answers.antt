-- The begin of the geometry was put.
use Rattle.std.proofs.Common.{refl, ap, ◌∙◌}
use Rattle.wkt_fill.specs.EventLists.{begins}
use Rattle.wkt_fill.proofs.EventRooms.{header-becomes}
use Rattle.wkt_fill.proofs.event_writer.EventWriterBuilderI128.begin.Goals as goal

pub returns-clause-makes : goal.returns-clause-makes
returns-clause-makes c =
    header-becomes c.args.self c.put.new.self _ c.args.whole c.args.dim c.begins.result refl refl refl refl refl refl refl c.put.ensures (c.begins.ensures ∙ ap (λ k. begins k c.args.dim) c.kind_of.ensures)
