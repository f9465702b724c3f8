-- The geometry that ended is put into its collection.
use Rattle.wkt_values.proofs.TreeHolds.{member_ends}
use Rattle.wkt_values.proofs.tree.Tree.end_member.Goals as goal

pub returns : goal.returns
returns g c = member_ends c.args.self.now c.geometry-geometry.new.self c.put_member.new.self c.geometry-geometry.result c.geometry-geometry.ensures c.put_member.ensures
