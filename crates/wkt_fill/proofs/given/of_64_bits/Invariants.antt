-- The numbers so far are of 64 bits.
use Rattle.std.proofs.Common.{ℕ, ℤ, ◌<◌, get_or}
use Rattle.wkt_num.specs.Whole.{IsSigned}
use Rattle.wkt_fill.proofs.given.of_64_bits.Given as goal

abbrev pub invariant-loop-i : goal.invariant-loop-i
invariant-loop-i l = (k : ℕ) (d : ℤ) → k < l.i → IsSigned 63 (get_or l.numbers k d)
