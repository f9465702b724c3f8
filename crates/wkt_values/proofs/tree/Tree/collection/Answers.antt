-- The collection that was opened last is taken.
use Rattle.std.proofs.Common.{◌∙◌, arith}
use Rattle.wkt_values.proofs.TreeHolds.{gives_last, gives_none, no_items}
use Rattle.wkt_values.proofs.tree.Tree.collection.Goals as goal

pub returns-in-Some : goal.returns-in-Some
returns-in-Some g c = gives_last c.args.self.now c.pop.new.self c.in-Some.field-0 c.from.result c.in-Some.ensures.items (c.from.ensures ∙ c.new.ensures)

pub returns-in-None : goal.returns-in-None
returns-in-None g c = gives_none c.args.self.now c.pop.new.self c.from-in-None.result (no_items c.args.self.now.outer.items (omega (arith, c.args.self.now.outer.ok.0, c.in-None.ensures.cases.0)))
