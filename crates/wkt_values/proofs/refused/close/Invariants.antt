use Rattle.std.proofs.Common.{◌≡◌}
use Rattle.wkt_read.specs.Table.{closings}
use Rattle.wkt_read.specs.Stream.{Advances, rest}
use Rattle.wkt_values.proofs.refused.close.Given as goal

abbrev pub invariant-parens : goal.invariant-parens
invariant-parens g l =
    let read = g.T.WktNum.read in
    record {
      advances : Advances l.fn.tokens l.tokens;
      same : closings read l.fn.parens l.fn.message (rest l.fn.tokens) ≡ closings read l.remaining l.reported (rest l.tokens);
    }

abbrev pub decreases-parens : goal.decreases-parens
decreases-parens g l = l.remaining
