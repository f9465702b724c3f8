-- The first items are written, with a comma before each.
use Rattle.wkt_write.proofs.FirstErrors.{following_more_at}
use Rattle.wkt_write.proofs.items.put_following.Goals as goal

pub loop-i-preserved : goal.loop-i-preserved
loop-i-preserved g c = following_more_at c.loop-i.invariant c.loop-i-test.true c.in_ok-write_str.ensures c.in_ok-put.ensures
