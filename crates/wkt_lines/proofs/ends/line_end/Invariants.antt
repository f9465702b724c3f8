-- No line feed stands before the place.
use Rattle.std.proofs.Common.{◌≤◌, ◌-◌, length}
use Rattle.wkt_lines.proofs.Lining.{NoFeed}
use Rattle.wkt_lines.proofs.ends.line_end.Given as goal

abbrev pub invariant-wide : goal.invariant-wide
invariant-wide l = record {
  within : l.at ≤ length l.rest;
  none : NoFeed l.rest l.at;
}

abbrev pub invariant-bytes : goal.invariant-bytes
invariant-bytes l = record {
  within : l.at ≤ length l.rest;
  none : NoFeed l.rest l.at;
}

abbrev pub decreases-wide : goal.decreases-wide
decreases-wide l = length l.rest - l.at

abbrev pub decreases-bytes : goal.decreases-bytes
decreases-bytes l = length l.rest - l.at
