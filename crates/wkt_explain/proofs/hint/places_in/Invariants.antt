-- The rest, and whether there was a digit, give the answer for all digits.
use Rattle.std.proofs.Common.{◌≡◌, length, false}
use Rattle.wkt_explain.specs.Hints.{places_in}
use Rattle.wkt_explain.proofs.hint.places_in.Given as goal

abbrev pub invariant-byte : goal.invariant-byte
invariant-byte l = places_in l.any l.rest ≡ places_in false l.digits

abbrev pub decreases-byte : goal.decreases-byte
decreases-byte l = length l.rest
