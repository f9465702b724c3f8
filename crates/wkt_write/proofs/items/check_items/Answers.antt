-- The first items have no error, or the next one has the first.
use Rattle.std.proofs.lemmas.Result.{err_from_is_err_and}
use Rattle.wkt_write.proofs.FirstErrors.{clean_more_at, clean_fault_at}
use Rattle.wkt_write.proofs.items.check_items.Goals as goal

pub returns-in_err-check : goal.returns-in_err-check
returns-in_err-check g c =
    let p = err_from_is_err_and c.from_residual.result c.from_residual.ensures.1 in
    rw (p.1, p.2) (clean_fault_at c.loop-i.invariant c.loop-i-test.true c.in_err-check.ensures)

pub loop-i-preserved : goal.loop-i-preserved
loop-i-preserved g c = clean_more_at c.loop-i.invariant c.loop-i-test.true c.in_ok-check.ensures
