use Rattle.std.proofs.Common.{◌≡◌, ◌≤◌, ◌+◌, List, length}
use Rattle.wkt_read.specs.Spanned.{Spanned}
use Rattle.wkt_dialects.specs.declared.spot.Spot.TheVariants as spot
use Rattle.wkt_dialects.specs.Pieces.{LeadsTo, read_from}
use Rattle.wkt_dialects.proofs.places.places_behind.Given as goal

abbrev pub invariant-pieces : goal.invariant-pieces
invariant-pieces l = (taken : List Spanned) × LeadsTo l.dialects spot.Elsewhere l.text 0 taken l.spot l.at × (length taken + l.left ≡ l.count) × (l.left ≤ length (read_from l.dialects l.spot l.text l.at))

abbrev pub decreases-pieces : goal.decreases-pieces
decreases-pieces l = l.left
