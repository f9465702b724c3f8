-- The tree is that of the multipoint that was made.
use Rattle.std.proofs.Common.{rules, ◌≡◌, ap, ◌∙◌, map}
use Rattle.wkt_access.specs.declared.dimensions.Dimension.TheVariants.{XY}
use Rattle.wkt_types.specs.Held.{held}
use Rattle.wkt_types.specs.Tree as trees
use Rattle.wkt_convert.specs.Back.{point_back}
use Rattle.wkt_convert.proofs.FlatKinds.{tree-multi_point}
use Rattle.wkt_convert.proofs.flat_values.FlatMultiPointFlatValue.make_wkt.Goals as goal

pub returns : goal.returns
returns g c =
    let made : c.new.result ≡ held (map point_back c.args.self.now) XY = search rules in
    tree-multi_point c.new.result ∙ ap (λ m. trees.multi_point m) made
