-- A flat value of another kind is no point, and its kind is reported.
use Rattle.wkt_flat.specs.Tree.{flat_tree}
use Rattle.wkt_convert.proofs.FlatKinds.{no_point}
use Rattle.wkt.proofs.Texts.{gives_no_point}
use Rattle.wkt.proofs.json.point_or_none.Goals as goal

pub returns : goal.returns
returns g c =
    let other = no_point c.args.geometry c.in_default.not-Point in
    let none = gives_no_point c.is_empty_multi_point.result (flat_tree c.args.geometry) other c.is_empty_multi_point.ensures c.if-is_empty_multi_point.false in
    rw (none) c.mismatch.ensures
