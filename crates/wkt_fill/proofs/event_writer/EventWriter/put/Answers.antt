-- The event stands behind those before it.
use Rattle.std.proofs.Common.{refl}
use Rattle.wkt_fill.proofs.EventRooms.{put-becomes}
use Rattle.wkt_fill.proofs.event_writer.EventWriter.put.Goals as goal

pub returns : goal.returns
returns c = put-becomes c.args.self.now _ c.args.event refl refl refl refl refl refl c.put_at.ensures.whole c.saturating_add-self.ensures c.put_at.ensures.written
