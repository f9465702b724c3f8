-- The count and the last place kept, with the rest, give the answer for all digits.
use Rattle.std.proofs.Common.{◌≡◌, ◌+◌, ◌≤◌, length}
use Rattle.wkt_explain.specs.Hints.{kept_after}
use Rattle.wkt_explain.proofs.hint.kept_places.Given as goal

abbrev pub invariant-byte : goal.invariant-byte
invariant-byte l = (kept_after l.count l.kept l.rest ≡ kept_after 0 0 l.digits) × (l.count + length l.rest ≤ length l.digits)

abbrev pub decreases-byte : goal.decreases-byte
decreases-byte l = length l.rest
