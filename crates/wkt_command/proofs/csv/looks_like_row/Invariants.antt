-- What the bytes so far leave open is what the line is.
use Rattle.std.proofs.Common.{Bool, length}
use Rattle.wkt_command.specs.Row.{IsRow}
use Rattle.wkt_command.proofs.csv.looks_like_row.Given as goal

abbrev pub invariant-bytes : goal.invariant-bytes
invariant-bytes l = (is : Bool) → IsRow l.before l.rest is → IsRow 10 l.line is

abbrev pub decreases-bytes : goal.decreases-bytes
decreases-bytes l = length l.rest
