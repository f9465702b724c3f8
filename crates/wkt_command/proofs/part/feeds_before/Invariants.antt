use Rattle.std.proofs.Common.{length}
use Rattle.wkt_command.proofs.part.feeds_before.Given as goal

abbrev pub decreases-lines : goal.decreases-lines
decreases-lines l = length l.rest
