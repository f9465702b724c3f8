-- The items so far stand behind those before.
use Rattle.std.proofs.Common.{◌≡◌, ◌++◌, take}
use Rattle.wkt_calls.specs.Rows.{items_of}
use Rattle.wkt_calls.proofs.list.RoomList.append.Given as goal

abbrev pub invariant-loop-item : goal.invariant-loop-item
invariant-loop-item g l = items_of l.self ≡ items_of l.fn.self ++ take l.item-index l.list
