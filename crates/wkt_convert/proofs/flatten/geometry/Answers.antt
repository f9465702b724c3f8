-- A collection is the one with the members that were made.
use Rattle.std.proofs.Common.{ap, sym, ◌∙◌}
use Rattle.wkt_types.specs.Outcome.{value}
use Rattle.wkt_flat.specs.Equal.{coord_eq}
use Rattle.wkt_flat.specs.Tree.{Flat}
use Rattle.wkt_flat.proofs.TreeLemmas.{flat-collection}
use Rattle.wkt_convert.specs.Flatten.{flat, outcome_map}
use Rattle.wkt_convert.proofs.flatten.geometry.Goals as goal

pub returns-in_ok-collection-in-Members : goal.returns-in_ok-collection-in-Members
returns-in_ok-collection-in-Members g c =
    let held = rw c.in-Members.is at c.in_ok-g.ensures in
    let k = c.in_ok-collection-in-Members in
    ap (flat (coord_eq g.T.PartialEq.eq)) held.1
    ∙ (ap (outcome_map Flat.collection) k.ensures ∙ ap value (sym (flat-collection k.field-0)))
