-- The room grows until the text fits.
use Rattle.std.proofs.Common.{◌≤◌, ◌+◌, ◌*◌, ◌-◌, ◌^◌, length}
use Rattle.std.specs.Prelude.{vec_len}
use Rattle.wkt_canonical.proofs.room.write_growing.Given as goal

abbrev pub invariant-room : goal.invariant-room
invariant-room g l = 2 * length l.text + 65 ≤ vec_len l.room

abbrev pub decreases-room : goal.decreases-room
decreases-room g l = 2 ^ 64 - vec_len l.room
