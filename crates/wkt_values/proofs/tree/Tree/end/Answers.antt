-- A part ends.
use Rattle.wkt_values.proofs.TreeHolds.{line_by, area_by, whole_collection}
use Rattle.wkt_values.proofs.tree.Tree.end.Goals as goal

pub returns-in-Collection : goal.returns-in-Collection
returns-in-Collection g c = whole_collection c.args.part c.args.self.now _ c.in-Collection.is c.end_whole-in-Collection.ensures

pub returns-in-Ring : goal.returns-in-Ring
returns-in-Ring g c = line_by c.args.part c.args.self.now c.end_line.new.self c.in-Ring.is c.end_line.ensures

pub returns-in-Area : goal.returns-in-Area
returns-in-Area g c = area_by c.args.part c.args.self.now c.end_area.new.self c.in-Area.is c.end_area.ensures
