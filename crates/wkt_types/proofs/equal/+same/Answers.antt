-- As far as the loop has come, the members are equal.
use Rattle.wkt_flat.proofs.TreeLemmas.{stopped, went_on, ended}
use Rattle.wkt_types.proofs.TreeLemmas.{itemwise}
use Rattle.wkt_types.proofs.equal.+same.Goals as goal

pub same_members-returns-then-not-same_wkt : goal.same_members-returns-then-not-same_wkt
same_members-returns-then-not-same_wkt g t c =
    let there = c.in-Some.ensures.lookup in
    stopped (itemwise g.T.PartialEq.eq) c.loop-i.invariant _ _ c.loop-i-test.true c.index-a-i.is there.3.0 there.1 c.same_wkt.ensures c.if-not-same_wkt.true

pub same_members-loop-i-preserved : goal.same_members-loop-i-preserved
same_members-loop-i-preserved g t c =
    let there = c.in-Some.ensures.lookup in
    went_on (itemwise g.T.PartialEq.eq) c.loop-i.invariant _ _ c.loop-i-test.true c.index-a-i.is there.3.0 there.1 c.same_wkt.ensures c.if-not-same_wkt.false

pub same_members-returns : goal.same_members-returns
same_members-returns g t c = ended (itemwise g.T.PartialEq.eq) c.loop-i.invariant c.loop-i-test.false c.loop-i.auto.i-end
