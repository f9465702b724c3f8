use Rattle.std.proofs.Common.{◌-◌, length}
use Rattle.wkt_explain.proofs.StopsAreRefusals.{IsWhiteTo}
use Rattle.wkt_explain.proofs.walked.past_white.Given as goal

abbrev pub invariant-white : goal.invariant-white
invariant-white l = IsWhiteTo l.text l.from l.at

abbrev pub decreases-white : goal.decreases-white
decreases-white l = length l.text - l.at
