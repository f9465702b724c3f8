use Rattle.std.proofs.Common.{◌≡◌, ◌+◌, ◌*◌, map}
use Rattle.wkt_types.specs.Tree.{tree, weights}
use Rattle.wkt_flat.specs.Equal.{coord_eq}
use Rattle.wkt_flat.specs.Tree.{flat_tree}
use Rattle.wkt_convert.specs.Flatten.{flat, outcomes}
use Rattle.wkt_convert.proofs.Opened.{pending}
use Rattle.wkt_convert.proofs.OpenedFlat.{finish, going}
use Rattle.wkt_convert.proofs.flatten.collection.Given as goal

abbrev pub invariant-loop-rest : goal.invariant-loop-rest
invariant-loop-rest g l =
    let E = coord_eq g.T.PartialEq.eq in
    finish E l.opened.items (going E (map flat_tree l.done.items) l.rest) ≡ outcomes (λ w. flat E (tree w)) l.ws

abbrev pub decreases-loop-rest : goal.decreases-loop-rest
decreases-loop-rest g l = pending weights l.opened.items + 2 * weights l.rest
