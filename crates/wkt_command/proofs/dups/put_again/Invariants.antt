use Rattle.std.proofs.Common.{length, IsUtf8}
use Rattle.wkt_command.proofs.dups.put_again.Given as goal

abbrev pub invariant-lines : goal.invariant-lines
invariant-lines g l = IsUtf8 l.rest

abbrev pub decreases-lines : goal.decreases-lines
decreases-lines g l = length l.rest
