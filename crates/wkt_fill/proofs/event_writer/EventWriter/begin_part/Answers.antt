-- A polygon of a multipolygon has its begin.
use Rattle.std.proofs.Common.{subst}
use Rattle.std.specs.Prelude.{if◌then◌else◌}
use Rattle.wkt_types.specs.declared.geometry_type.GeometryType.TheVariants as kind
use Rattle.wkt_fill.specs.EventLists.{Becomes, becomes_none, add, begins}
use Rattle.wkt_fill.proofs.EventRooms.{area-becomes}
use Rattle.wkt_fill.proofs.event_writer.EventWriter.begin_part.Goals as goal

pub returns-then-not-is_area : goal.returns-then-not-is_area
returns-then-not-is_area c =
    subst (λ b. Becomes (λ w. if b then add (begins kind.Polygon w.dimension) w else w) c.args.self.now c.args.self.now) c.if-not-is_area.ensures (becomes_none c.args.self.now)

pub returns : goal.returns
returns c =
    subst (λ b. Becomes (λ w. if b then add (begins kind.Polygon w.dimension) w else w) c.args.self.now c.put.new.self) c.if-not-is_area.ensures
    (area-becomes c.args.self.now c.put.new.self c.begins.result c.put.ensures c.begins.ensures)
