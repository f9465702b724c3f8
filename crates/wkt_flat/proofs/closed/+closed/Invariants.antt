use Rattle.std.proofs.Common.{take}
use Rattle.std.specs.List.{AllByRecursion}
use Rattle.wkt_flat.specs.Tree.{HasClosedRings, flat_tree}
use Rattle.wkt_flat.proofs.closed.+closed.Given as goal

abbrev pub invariant-members_are_closed-loop-member : goal.invariant-members_are_closed-loop-member
invariant-members_are_closed-loop-member g l = AllByRecursion (λ g. HasClosedRings (flat_tree g)) (take l.member-index l.members)
