-- A collection without error has members without one, and its text is theirs behind a header.
use Rattle.std.proofs.Common.{sym, ◌∙◌}
use Rattle.wkt_access.specs.Faults.{faults}
use Rattle.wkt_access.specs.Parts.{gathered}
use Rattle.wkt_access.specs.Shapes.{printed}
use Rattle.wkt_write.proofs.Bracketed.{collection_of_text}
use Rattle.wkt_write.proofs.Members.{faults_gathered, inside_clean}
use Rattle.wkt_write.proofs.kinds.CollectionKind.put.Goals as goal

pub put_listed-requires : goal.put_listed-requires
put_listed-requires g c =
    let gs = g.C.GeometryCollectionTrait.geometries c.args.self.now.0.now in
    sym (faults_gathered gs) ∙ inside_clean (printed (g.C.GeometryCollectionTrait.dimension c.args.self.now.0.now)) (faults (gathered gs)) c.requires

pub returns : goal.returns
returns g c =
    rw (collection_of_text g.C.T.WktNum.num (g.C.GeometryCollectionTrait.dimension c.args.self.now.0.now) (g.C.GeometryCollectionTrait.geometries c.args.self.now.0.now), ← c.dim.ensures)
    c.put_listed.ensures
