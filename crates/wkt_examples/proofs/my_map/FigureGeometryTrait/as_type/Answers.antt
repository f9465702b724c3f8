-- A group has as many members as its list.
use Rattle.std.proofs.Common.{◌∙◌}
use Rattle.wkt.proofs.Collections.{is_collection}
use Rattle.wkt_examples.specs.Mine.{figure_shape}
use Rattle.wkt_examples.proofs.Groups.{group_shape}
use Rattle.wkt_examples.proofs.my_map.FigureGeometryTrait.as_type.Goals as goal

pub returns-in-Group-clause-collection : goal.returns-in-Group-clause-collection
returns-in-Group-clause-collection c = is_collection figure_shape _ _ _ (group_shape _ _ _ c.in-Group.is) _ (c.len.ensures ∙ c.in-Group.members.ok.0)
