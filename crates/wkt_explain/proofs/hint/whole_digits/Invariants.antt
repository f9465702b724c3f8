-- The count and what is left before the point give the answer for all digits.
use Rattle.std.proofs.Common.{◌≡◌, ◌+◌, ◌≤◌, length}
use Rattle.wkt_num.specs.Decimal.{before_point}
use Rattle.wkt_explain.proofs.hint.whole_digits.Given as goal

abbrev pub invariant-byte : goal.invariant-byte
invariant-byte l = (l.count + length (before_point l.rest) ≡ length (before_point l.digits)) × (l.count + length l.rest ≤ length l.digits)

abbrev pub decreases-byte : goal.decreases-byte
decreases-byte l = length l.rest
