-- The place from which the search goes back stays within the rest.
use Rattle.std.proofs.Common.{◌≤◌, length}
use Rattle.wkt_calls.proofs.lines.whole_within.Given as goal

abbrev pub invariant-back : goal.invariant-back
invariant-back l = record {
  within : l.at ≤ length l.rest;
  most : l.at ≤ l.most;
}

abbrev pub decreases-back : goal.decreases-back
decreases-back l = l.at
