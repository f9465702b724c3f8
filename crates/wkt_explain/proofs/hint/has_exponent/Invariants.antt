-- Whether the rest has an exponent decides it for all digits.
use Rattle.std.proofs.Common.{◌≡◌, length}
use Rattle.wkt_explain.specs.Hints.{has_exponent}
use Rattle.wkt_explain.proofs.hint.has_exponent.Given as goal

abbrev pub invariant-byte : goal.invariant-byte
invariant-byte l = has_exponent l.rest ≡ has_exponent l.digits

abbrev pub decreases-byte : goal.decreases-byte
decreases-byte l = length l.rest
