-- No line feed stands behind this place.
use Rattle.std.proofs.Common.{◌≢◌, ℕ, ◌≤◌, ◌<◌, length, get_or}
use Rattle.wkt_lines.proofs.input_buffer.InputBuffer.whole.Given as goal

abbrev pub invariant-loop-at : goal.invariant-loop-at
invariant-loop-at l = record {
  low : l.seen ≤ l.at;
  high : l.at ≤ length l.front;
  none : (k : ℕ) → l.at ≤ k → k < length l.front → get_or l.front k 0 ≢ 10;
}

abbrev pub decreases-loop-at : goal.decreases-loop-at
decreases-loop-at l = l.at
