use Rattle.std.proofs.Common.{List, ◌-◌, length, IsUtf8}
use Rattle.wkt_read.specs.Spanned.{Spanned}
use Rattle.wkt_dialects.specs.declared.spot.Spot.TheVariants as spot
use Rattle.wkt_dialects.specs.Pieces.{LeadsTo, HasWritten}
use Rattle.wkt_dialects.proofs.reading.write_as_read.Given as goal

abbrev pub invariant-pieces : goal.invariant-pieces
invariant-pieces g l = (taken : List Spanned) × LeadsTo l.dialects spot.Elsewhere l.text 0 taken l.spot l.at × HasWritten l.dialects taken (g.P.Put.written l.out) × (IsUtf8 l.text → IsUtf8 (g.P.Put.written l.out))

abbrev pub decreases-pieces : goal.decreases-pieces
decreases-pieces g l = length l.text - l.at
