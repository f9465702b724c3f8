-- What was there is still at the front, until the room is as long as asked for.
use Rattle.std.proofs.Common.{◌≡◌, ◌<◌, ◌≤◌, ◌-◌, take}
use Rattle.std.specs.Prelude.{vec_len}
use Rattle.wkt_canonical.proofs.room.lengthen.Given as goal

abbrev pub invariant-pieces : goal.invariant-pieces
invariant-pieces l = record {
  kept : take (vec_len l.fn.room) l.room.items ≡ l.fn.room.items;
  grows : vec_len l.fn.room ≤ vec_len l.room;
  less : vec_len l.room < l.needed;
}

abbrev pub decreases-pieces : goal.decreases-pieces
decreases-pieces l = l.needed - vec_len l.room
