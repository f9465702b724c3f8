-- Each front that is read leaves less of the text.
use Rattle.std.proofs.Common.{length}
use Rattle.wkt_tests.proofs.read.rewrite.Given as goal

abbrev pub decreases-fronts : goal.decreases-fronts
decreases-fronts l = length l.rest
