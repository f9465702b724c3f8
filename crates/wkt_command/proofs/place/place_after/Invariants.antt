-- What is counted so far and what is still to come make the whole.
use Rattle.std.proofs.Common.{◌≡◌, ◌+◌, ◌≤◌, length}
use Rattle.wkt_command.specs.Place.{feeds, column_after}
use Rattle.wkt_command.proofs.place.place_after.Given as goal

abbrev pub invariant-bytes : goal.invariant-bytes
invariant-bytes l =
    (l.place.line + feeds l.rest ≡ feeds l.before + 1)
    × (column_after l.place.column l.rest ≡ column_after 1 l.before)
    × (l.place.line + length l.rest ≤ length l.before + 1)
    × (l.place.column + length l.rest ≤ length l.before + 1)

abbrev pub decreases-bytes : goal.decreases-bytes
decreases-bytes l = length l.rest
