-- A collection opens without members.
use Rattle.std.proofs.Common.{refl}
use Rattle.wkt_values.proofs.TreeHolds.{opens}
use Rattle.wkt_values.proofs.tree.Tree.open_collection.Goals as goal

pub returns-else-not-add : goal.returns-else-not-add
returns-else-not-add g c = opens c.args.self.now c.add.new.list (record { members = c.new.result; dim = c.args.self.now.dim }) refl c.new.ensures.items c.if-not-add.ensures
