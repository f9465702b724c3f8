-- The tree of a point is that of its flat form.
use Rattle.std.proofs.Common.{ap, sym, ◌∙◌}
use Rattle.wkt_types.specs.Tree as trees
use Rattle.wkt_flat.specs.Tree.{flat_tree}
use Rattle.wkt_flat.proofs.TreeLemmas.{flat-point}
use Rattle.wkt_convert.proofs.FlatKinds.{tree-point}
use Rattle.wkt_convert.specs.Back.{back}
use Rattle.wkt_convert.proofs.back.geometry.Goals as goal

pub returns-in-Point : goal.returns-in-Point
returns-in-Point g c =
    tree-point c.point.result
    ∙ (ap (λ p. trees.point p) c.point.ensures
    ∙ sym (ap (λ g. back (flat_tree g)) c.in-Point.is ∙ ap back (flat-point c.in-Point.p)))
