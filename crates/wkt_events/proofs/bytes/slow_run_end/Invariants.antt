-- All bytes before the place are part of the run.
use Rattle.std.proofs.Common.{◌≤◌, ◌-◌, length, slice_range}
use Rattle.wkt_num.specs.Bytes.{AllRun}
use Rattle.wkt_events.proofs.bytes.slow_run_end.Given as goal

abbrev pub invariant-loop-at : goal.invariant-loop-at
invariant-loop-at l = record {
  order : l.from ≤ l.at;
  inside : l.at ≤ length l.text;
  run : AllRun (slice_range l.text l.from l.at);
}

abbrev pub decreases-loop-at : goal.decreases-loop-at
decreases-loop-at l = length l.text - l.at
