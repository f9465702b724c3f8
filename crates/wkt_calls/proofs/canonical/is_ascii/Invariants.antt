use Rattle.std.proofs.Common.{ℕ, ◌<◌, ◌≤◌, ◌-◌, length, get_or}
use Rattle.wkt_calls.proofs.canonical.is_ascii.Given as goal

abbrev pub invariant-wide : goal.invariant-wide
invariant-wide l = record {
  within : l.at ≤ length l.bytes;
  below : (k : ℕ) → k < l.at → get_or l.bytes k 0 < 128;
}

abbrev pub decreases-wide : goal.decreases-wide
decreases-wide l = length l.bytes - l.at
