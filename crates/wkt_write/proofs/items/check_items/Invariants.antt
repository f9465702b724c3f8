use Rattle.wkt_write.proofs.FirstErrors.{Clean}
use Rattle.wkt_write.proofs.items.check_items.Given as goal

abbrev pub invariant-loop-i : goal.invariant-loop-i
invariant-loop-i g l = Clean (g.X.Items.fault_of l.k) (g.X.Items.KnownOf l.k) (g.X.Items.items l.items) l.i l.i-end
