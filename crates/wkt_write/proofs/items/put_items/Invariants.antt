use Rattle.std.specs.Prelude.{codes}
use Rattle.wkt_write.proofs.FirstErrors.{Listing}
use Rattle.wkt_write.proofs.items.put_items.Given as goal

abbrev pub invariant-loop-i : goal.invariant-loop-i
invariant-loop-i g l = Listing g.W.TextSink.sink (codes ",") (g.X.Items.text_of l.k) (g.X.Items.items l.items) l.i l.i-end l.initial.f l.f
