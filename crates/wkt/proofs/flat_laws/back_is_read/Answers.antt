-- The text of a flat value is read as its `Wkt`.
use Rattle.std.proofs.Common.{length}
use Rattle.wkt_access.specs.Shapes.{canon}
use Rattle.wkt_access.specs.Texts.{shape_text}
use Rattle.wkt_flat.specs.Shape.{flat_shape}
use Rattle.wkt_read.proofs.Spelled.{front_of_text}
use Rattle.wkt.proofs.Texts.{back_is_wkt}
use Rattle.wkt.proofs.flat_laws.back_is_read.Goals as goal

pub returns : goal.returns
returns g c t lawful =
    let num = g.T.WktNum.num in
    let read = g.T.WktNum.read in
    let front = front_of_text g.T.WktNum.is_value num read (record { reads_back = g.met.T.WktNum.reads_back; number_text = g.met.T.WktNum.number_text }) (canon (flat_shape t)) lawful in
    (length (shape_text num (flat_shape t)), (canon (flat_shape t), front, back_is_wkt t))
