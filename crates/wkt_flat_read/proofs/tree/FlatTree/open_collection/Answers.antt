-- A collection opens without members.
use Rattle.wkt_flat.specs.Equal.{coord_eq}
use Rattle.wkt_flat_read.proofs.Holding.{opens}
use Rattle.wkt_flat_read.proofs.tree.FlatTree.open_collection.Goals as goal

pub returns-else-not-add : goal.returns-else-not-add
returns-else-not-add g c = opens (coord_eq g.T.PartialEq.eq) c.args.self.now c.add.new.list c.new.result c.new.ensures.items c.if-not-add.ensures
