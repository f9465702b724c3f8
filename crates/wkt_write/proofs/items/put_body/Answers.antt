-- The body is the items in parentheses, or EMPTY.
use Rattle.wkt_num.proofs.SinkCalls.{puts_err}
use Rattle.wkt_write.proofs.Bracketed.{bracket_broken_opening, bracket_broken_items, bracket_adds}
use Rattle.wkt_write.proofs.FirstErrors.{none_counted}
use Rattle.wkt_write.proofs.items.put_body.Goals as goal

pub returns-in_err-put_opening : goal.returns-in_err-put_opening
returns-in_err-put_opening g c =
    puts_err _ _ c.from_residual.ensures.1 (bracket_broken_opening _ _ _ (none_counted _ _ c.count-is_empty.ensures) c.in_err-put_opening.ensures)

pub returns-in_err-put_items : goal.returns-in_err-put_items
returns-in_err-put_items g c =
    puts_err _ _ c.from_residual-in_err-put_items.ensures.1
    (bracket_broken_items _ _ _ (none_counted _ _ c.count-is_empty.ensures) c.in_ok-put_opening.ensures c.in_err-put_items.ensures)

pub returns : goal.returns
returns g c =
    bracket_adds _ _ _ (none_counted _ _ c.count-is_empty.ensures) _ _ c.in_ok-put_opening.ensures c.in_ok-put_items.ensures c.put_closing.ensures
