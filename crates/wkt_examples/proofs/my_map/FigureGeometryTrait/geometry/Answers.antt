-- The member at a place is the figure at that place, which the list has.
use Rattle.std.proofs.Common.{arith}
use Rattle.wkt.proofs.Collections.{count_is, member_at}
use Rattle.wkt_examples.specs.Mine.{figure_shape}
use Rattle.wkt_examples.proofs.Groups.{group_shape}
use Rattle.wkt_examples.proofs.my_map.FigureGeometryTrait.geometry.Goals as goal

pub index-requires : goal.index-requires
index-requires c = omega (arith, count_is figure_shape _ _ _ (group_shape _ _ _ c.in-Group.is), c.requires, c.in-Group.members.ok.0)

pub returns-in-Group : goal.returns-in-Group
returns-in-Group c = member_at figure_shape _ _ _ (group_shape _ _ _ c.in-Group.is) _ _ c.requires c.index.ensures
