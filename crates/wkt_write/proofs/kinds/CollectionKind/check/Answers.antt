-- The error of a collection is the first error of its members.
use Rattle.wkt_write.proofs.Members.{faults_gathered, known_gathered}
use Rattle.wkt_write.proofs.FirstErrors.{checks_more}
use Rattle.wkt_write.proofs.kinds.CollectionKind.check.Goals as goal

pub returns : goal.returns
returns g c =
    let gs = g.C.GeometryCollectionTrait.geometries c.args.self.now.0.now in
    rw (← c.dim.ensures, faults_gathered gs) (checks_more c.check_listed.result _ c.check_listed.ensures (known_gathered g.C.T.WktNum.is_value gs))
