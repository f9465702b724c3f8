-- The collection of the members that were taken; or an empty point stands in one.
use Rattle.wkt_flat.specs.Equal.{coord_eq}
use Rattle.wkt_flat_read.proofs.Ended.{gives_collection, refused_collection}
use Rattle.wkt_flat_read.proofs.tree.FlatTree.whole_collection.Goals as goal

pub returns-then-self : goal.returns-then-self
returns-then-self g c = refused_collection (coord_eq g.T.PartialEq.eq) c.args.self.now c.if-self.true

pub returns : goal.returns
returns g c = gives_collection (coord_eq g.T.PartialEq.eq) c.args.self.now c.members.result c.new_from.result c.members.new.self c.if-self.false c.members.ensures c.new_from.ensures
