use Rattle.std.proofs.Common.{◌≡◌, ◌+◌, ◌*◌, map}
use Rattle.wkt_types.specs.Canonical.{canonical}
use Rattle.wkt_types.specs.Tree.{tree, weight, weights}
use Rattle.wkt_types.proofs.TreeLemmas.{replaced}
use Rattle.wkt_types.proofs.canonical.+canonical.Given as goal

abbrev pub decreases-canonical_members : goal.decreases-canonical_members
decreases-canonical_members g l = 2 * weights l.members.items + 1

abbrev pub decreases-canonical_geometry : goal.decreases-canonical_geometry
decreases-canonical_geometry g l = 2 * weight l.geometry

abbrev pub invariant-canonical_members-loop-i : goal.invariant-canonical_members-loop-i
invariant-canonical_members-loop-i g l = map tree l.members.items ≡ replaced canonical l.i (map tree l.fn.members.items)
