-- A part ends.
use Rattle.std.proofs.Common.{refl}
use Rattle.wkt_flat.specs.Equal.{coord_eq}
use Rattle.wkt_machine.specs.declared.part.Part.TheVariants as part
use Rattle.wkt_flat_read.proofs.Holding.{ends_by, line_by, point_by, whole_collection}
use Rattle.wkt_flat_read.proofs.tree.FlatTree.end.Goals as goal

pub returns-in-Collection : goal.returns-in-Collection
returns-in-Collection g c = ends_by (coord_eq g.T.PartialEq.eq) c.args.part part.Collection c.args.self.now _ _ c.in-Collection.is c.end_whole-in-Collection.ensures (whole_collection (coord_eq g.T.PartialEq.eq) c.args.self.now)

pub returns-in-Member : goal.returns-in-Member
returns-in-Member g c = point_by (coord_eq g.T.PartialEq.eq) c.args.part c.args.self.now c.end_point.new.self c.in-Member.is c.end_point.ensures

pub returns-in-Ring : goal.returns-in-Ring
returns-in-Ring g c = line_by (coord_eq g.T.PartialEq.eq) c.args.part c.args.self.now c.end_line.new.self c.in-Ring.is c.end_line.ensures

pub returns-in-Area : goal.returns-in-Area
returns-in-Area g c = ends_by (coord_eq g.T.PartialEq.eq) c.args.part part.Area c.args.self.now c.end_area.new.self c.end_area.new.self c.in-Area.is refl c.end_area.ensures
