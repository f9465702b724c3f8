use Rattle.std.proofs.Common.{◌+◌, ◌≡◌, ◌<◌, ◌≤◌, ◌^◌, ◌++◌, drop, length}
use Rattle.std.specs.Fmt.{decimal}
use Rattle.wkt_num.proofs.digits.put_short.Given as goal

abbrev pub invariant-loop-rest : goal.invariant-loop-rest
invariant-loop-rest l = record {
  written : decimal l.rest ++ drop (l.at + 1) l.out ≡ decimal l.n ++ drop l.end l.fn.out;
  small : l.rest < 10 ^ l.at;
  some : 1 ≤ l.at;
  below : l.at + 1 ≤ l.end;
  room : length l.out ≡ 80;
}

abbrev pub decreases-loop-rest : goal.decreases-loop-rest
decreases-loop-rest l = l.at
