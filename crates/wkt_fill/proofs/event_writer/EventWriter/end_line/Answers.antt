-- Both were put.
use Rattle.wkt_fill.specs.EventLists.{becomes_then, end_list, add, ends}
use Rattle.wkt_fill.proofs.event_writer.EventWriter.end_line.Goals as goal

pub returns : goal.returns
returns c = becomes_then end_list (add ends) c.args.self.now c.end_list.new.self c.put.new.self c.end_list.ensures c.put.ensures
