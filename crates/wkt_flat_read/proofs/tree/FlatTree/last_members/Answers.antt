-- The collection that was opened last is taken.
use Rattle.std.proofs.Common.{arith}
use Rattle.wkt_flat.specs.Equal.{coord_eq}
use Rattle.wkt_flat_read.proofs.Ended.{no_items}
use Rattle.wkt_flat_read.proofs.Holding.{gives_last, gives_none}
use Rattle.wkt_flat_read.proofs.tree.FlatTree.last_members.Goals as goal

pub returns-in-Some : goal.returns-in-Some
returns-in-Some g c = gives_last (coord_eq g.T.PartialEq.eq) c.args.self.now c.pop.new.self c.in-Some.members c.in-Some.ensures.items

pub returns-in-None : goal.returns-in-None
returns-in-None g c = gives_none (coord_eq g.T.PartialEq.eq) c.args.self.now c.pop.new.self c.new.result (no_items c.args.self.now.outer.items (omega (arith, c.args.self.now.outer.ok.0, c.in-None.ensures.cases.0)))
