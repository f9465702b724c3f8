-- What was passed is white space: the same lexemes are left.
use Rattle.std.proofs.Common.{◌≡◌, ◌≤◌, ◌<◌, ◌-◌, ◌==◌, ℕ, length, get_or}
use Rattle.wkt_num.specs.Bytes.{White}
use Rattle.std.specs.Prelude.{not}
use Rattle.wkt_events.specs.Remaining.{class_in, line_of, remaining_spanned}
use Rattle.wkt_events.proofs.bytes.skip_more.Given as goal

abbrev pub invariant-loop-at : goal.invariant-loop-at
invariant-loop-at g l = record {
  order : l.from ≤ l.at;
  inside : l.at ≤ length l.text;
  line : l.from ≤ length (line_of (not (g.row.LF_ENDS == 0)) l.text) → l.at ≤ length (line_of (not (g.row.LF_ENDS == 0)) l.text);
  white : (k : ℕ) → l.from ≤ k → k < l.at → class_in (not (g.row.LF_ENDS == 0)) (get_or l.text k 0) ≡ White;
  same : remaining_spanned (not (g.row.LF_ENDS == 0)) l.text l.from ≡ remaining_spanned (not (g.row.LF_ENDS == 0)) l.text l.at;
}

abbrev pub decreases-loop-at : goal.decreases-loop-at
decreases-loop-at g l = length l.text - l.at
