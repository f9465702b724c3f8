use Rattle.std.proofs.Common.{◌≡◌, ◌≤◌, ◌+◌, ◌*◌, length}
use Rattle.wkt_types.specs.Tree.{tree, members}
use Rattle.wkt.proofs.Written.{depth, deepest, left}
use Rattle.wkt.specs.Same.{tree_alike, trees_alike}
use Rattle.wkt.proofs.same.+alike.Given as goal

abbrev pub decreases-are_written_alike : goal.decreases-are_written_alike
decreases-are_written_alike g l = 2 * deepest (members l.a.now) + 2

abbrev pub decreases-is_written_alike : goal.decreases-is_written_alike
decreases-is_written_alike g l = 2 * depth (tree l.a.now) + 1

abbrev pub invariant-are_written_alike-loop-i : goal.invariant-are_written_alike-loop-i
invariant-are_written_alike-loop-i g l = record {
  within : l.i ≤ length l.b;
  kept : trees_alike g.T.PartialEq.eq (members l.a) (members l.b) ≡ left (λ a b. tree_alike g.T.PartialEq.eq (tree a) (tree b)) l.a l.b l.i;
}
