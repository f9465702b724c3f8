use Rattle.std.proofs.Common.{◌≡◌, ◌-◌, ◌<◌, ◌≤◌, slice_range}
use Rattle.wkt_num.specs.Decimal.{zeros}
use Rattle.wkt_num.proofs.kept.before_zeros.Given as goal

abbrev pub invariant-loop-kept : goal.invariant-loop-kept
invariant-loop-kept l = record {
  after : l.point < l.kept;
  within : l.kept ≤ l.end;
  zeros : slice_range l.bytes l.kept l.end ≡ zeros (l.end - l.kept);
}

abbrev pub decreases-loop-kept : goal.decreases-loop-kept
decreases-loop-kept l = l.kept
