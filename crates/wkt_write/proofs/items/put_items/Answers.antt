-- The first items are written, with commas between them.
use Rattle.wkt_write.proofs.FirstErrors.{listing_start, listing_more_at}
use Rattle.wkt_write.proofs.items.put_items.Goals as goal

pub loop-i-init : goal.loop-i-init
loop-i-init g c = listing_start _ _ _ _ _ c.count-i-end.ensures

pub loop-i-preserved : goal.loop-i-preserved
loop-i-preserved g c = listing_more_at c.loop-i.invariant c.loop-i-test.true c.in_ok-put_separator.ensures c.in_ok-put.ensures
