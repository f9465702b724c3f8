use Rattle.std.proofs.Common.{◌*◌, ◌+◌}
use Rattle.wkt_write.proofs.FirstErrors.{Clean}
use Rattle.wkt_write.proofs.Writable.{depth}
use Rattle.wkt_access.specs.Faults.{fault}
use Rattle.wkt_write.specs.Pieces.{Known}
use Rattle.wkt_access.specs.Parts.{members_of}
use Rattle.wkt_write.proofs.check.+geometries.Given as goal

abbrev pub decreases-check_geometry : goal.decreases-check_geometry
decreases-check_geometry g l = 2 * depth (g.G.GeometryTrait.shape l.g.now) + 1

abbrev pub decreases-check_members : goal.decreases-check_members
decreases-check_members g l = 2 * depth (g.G.GeometryTrait.shape l.g.now)

abbrev pub invariant-check_members-loop-i : goal.invariant-check_members-loop-i
invariant-check_members-loop-i g l = Clean fault (Known g.G.T.WktNum.is_value) (members_of (g.G.GeometryTrait.shape l.g)) l.i l.count
