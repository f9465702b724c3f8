-- What is counted so far and what is still to come make the whole.
use Rattle.std.proofs.Common.{◌≡◌, ◌+◌, ◌≤◌, length}
use Rattle.wkt_command.specs.Place.{byte_after}
use Rattle.wkt_command.proofs.place.byte_after.Given as goal

abbrev pub invariant-bytes : goal.invariant-bytes
invariant-bytes l = (byte_after l.place l.rest ≡ byte_after 1 l.before) × (l.place + length l.rest ≤ length l.before + 1)

abbrev pub decreases-bytes : goal.decreases-bytes
decreases-bytes l = length l.rest
