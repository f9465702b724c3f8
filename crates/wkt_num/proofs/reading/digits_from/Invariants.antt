use Rattle.std.proofs.Common.{◌≡◌, ◌-◌, ◌<◌, ◌≤◌, ◌^◌, slice_range}
use Rattle.std.specs.Str.Parse.{AllDigits, digits_value_after}
use Rattle.wkt_num.proofs.reading.digits_from.Given as goal

abbrev pub invariant-loop-at : goal.invariant-loop-at
invariant-loop-at l = record {
  after : l.from ≤ l.at;
  within : l.from ≤ l.most → l.at ≤ l.most;
  digits : AllDigits 10 (slice_range l.bytes l.from l.at);
  value : l.all ≡ digits_value_after 10 l.number (slice_range l.bytes l.from l.at);
  small : l.all < 10 ^ l.at;
}

abbrev pub decreases-loop-at : goal.decreases-loop-at
decreases-loop-at l = l.most - l.at
