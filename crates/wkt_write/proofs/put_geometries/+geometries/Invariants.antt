use Rattle.std.proofs.Common.{◌*◌, ◌+◌}
use Rattle.std.specs.Prelude.{codes}
use Rattle.wkt_write.proofs.Writable.{depth}
use Rattle.wkt_write.proofs.FirstErrors.{Listing}
use Rattle.wkt_access.specs.Parts.{members_of}
use Rattle.wkt_access.specs.Texts.{shape_text}
use Rattle.wkt_write.proofs.put_geometries.+geometries.Given as goal

abbrev pub decreases-put_geometry : goal.decreases-put_geometry
decreases-put_geometry g l = 2 * depth (g.G.GeometryTrait.shape l.g.now) + 1

abbrev pub decreases-put_members : goal.decreases-put_members
decreases-put_members g l = 2 * depth (g.G.GeometryTrait.shape l.g.now)

abbrev pub invariant-put_members-loop-i : goal.invariant-put_members-loop-i
invariant-put_members-loop-i g l = Listing g.W.TextSink.sink (codes ",") (shape_text g.G.T.WktNum.num) (members_of (g.G.GeometryTrait.shape l.g)) l.i l.count l.initial.f l.f
