use Rattle.std.proofs.Common.{◌≤◌, ◌-◌}
use Rattle.wkt_read.proofs.Refusals.{NoneBelow}
use Rattle.wkt_read.proofs.messages.Message.from_text.Given as goal

abbrev pub invariant-number : goal.invariant-number
invariant-number l = record { least : 1 ≤ l.number; most : l.number ≤ 14; none : NoneBelow l.said l.number }

abbrev pub decreases-number : goal.decreases-number
decreases-number l = 14 - l.number
