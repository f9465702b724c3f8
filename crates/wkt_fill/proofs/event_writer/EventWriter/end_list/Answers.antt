-- The list's event was put, and the next begins with no coordinate.
use Rattle.std.proofs.Common.{refl}
use Rattle.wkt_fill.proofs.EventRooms.{list-becomes}
use Rattle.wkt_fill.proofs.event_writer.EventWriter.end_list.Goals as goal

pub returns : goal.returns
returns c = list-becomes c.args.self.now _ c.put.new.self c.put.ensures refl refl refl refl refl refl refl
