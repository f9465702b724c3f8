use Rattle.std.proofs.Common.{◌≡◌, ◌+◌, ◌*◌, map}
use Rattle.wkt_types.specs.Tree.{tree}
use Rattle.wkt_flat.specs.Tree.{flat_tree, weights}
use Rattle.wkt_convert.specs.Back.{back}
use Rattle.wkt_convert.proofs.Opened.{pending}
use Rattle.wkt_convert.proofs.OpenedBack.{finish, going}
use Rattle.wkt_convert.proofs.back.geometries.Given as goal

abbrev pub invariant-loop-rest : goal.invariant-loop-rest
invariant-loop-rest g l = finish l.opened.items (going (map tree l.done.items) l.rest) ≡ map (λ g. back (flat_tree g)) l.gs

abbrev pub decreases-loop-rest : goal.decreases-loop-rest
decreases-loop-rest g l = pending weights l.opened.items + 2 * weights l.rest
