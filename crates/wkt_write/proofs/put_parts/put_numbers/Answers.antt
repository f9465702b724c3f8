-- The first numbers are written, with spaces between them.
use Rattle.wkt_num.proofs.SinkCalls.{puts_err}
use Rattle.wkt_write.proofs.FirstErrors.{listing_start, listing_more, listing_broken_before, listing_broken, get_front, all_front}
use Rattle.wkt_write.proofs.put_parts.put_numbers.Goals as goal

pub loop-n-init : goal.loop-n-init
loop-n-init g c = listing_start _ _ _ _ _ (all_front _ _ c.requires)

pub returns-in_err-put_separator : goal.returns-in_err-put_separator
returns-in_err-put_separator g c =
    puts_err _ _ c.from_residual.ensures.1
    (listing_broken_before c.loop-n.invariant c.loop-n-test.true c.in_err-put_separator.ensures)

pub returns-in_err-write_number : goal.returns-in_err-write_number
returns-in_err-write_number g c =
    puts_err _ _ c.from_residual-in_err-write_number.ensures.1
    (listing_broken c.loop-n.invariant (get_front _ _ _ _ c.nth.ensures c.loop-n-test.true) c.in_ok-put_separator.ensures c.in_err-write_number.ensures)

pub loop-n-preserved : goal.loop-n-preserved
loop-n-preserved g c = listing_more c.loop-n.invariant (get_front _ _ _ _ c.nth.ensures c.loop-n-test.true) c.in_ok-put_separator.ensures c.in_ok-write_number.ensures
