use Rattle.std.proofs.Common.{◌≡◌}
use Rattle.wkt_types.proofs.TreeLemmas.{replaced}
use Rattle.wkt_types.proofs.canonical.put_each_under.Given as goal

abbrev pub invariant-loop-part : goal.invariant-loop-part
invariant-loop-part g l = l.parts ≡ replaced (g.X.UnderHeader.under l.dim) l.part-index l.fn.parts
