-- The text of a plain flat value with closed rings is read as this value.
use Rattle.std.proofs.Common.{length, ap, sym, subst, ◌∙◌}
use Rattle.wkt_access.specs.Shapes.{canon}
use Rattle.wkt_access.specs.Texts.{shape_text}
use Rattle.wkt_access.specs.Values.{Value}
use Rattle.wkt_types.specs.Values.{IsWktOf}
use Rattle.wkt_flat.specs.Equal.{coord_eq, exact_by}
use Rattle.wkt_flat.specs.Shape.{flat_shape}
use Rattle.wkt_read.proofs.OneWkt.{wkt-one}
use Rattle.wkt_read.proofs.OneForm.{front_one}
use Rattle.wkt_read.proofs.Spelled.{front_of_text}
use Rattle.wkt_convert.specs.Back.{back}
use Rattle.wkt_convert.specs.Flatten.{flat}
use Rattle.wkt.proofs.Texts.{back_is_wkt}
use Rattle.wkt_convert.proofs.PlainComesBack.{again}
use Rattle.wkt.proofs.flat_laws.plain_reads_back.Goals as goal

pub returns : goal.returns
returns g c t closed plain lawful o =
    let num = g.T.WktNum.num in
    let read = g.T.WktNum.read in
    let whole = shape_text num (flat_shape t) in
    let front = front_of_text g.T.WktNum.is_value num read (record { reads_back = g.met.T.WktNum.reads_back; number_text = g.met.T.WktNum.number_text }) (canon (flat_shape t)) lawful in
    let same = again (exact_by g.met.T.WktNum.same) t plain closed in (
      (λ h.
          let (end, (v, f, w)) = h.1 in
          let one = (front_one read whole v (canon (flat_shape t)) end (length whole) f front).0 in
          let is = wkt-one (canon (flat_shape t)) h.0 (back t) (subst (λ (v : Value g.row.T.Denot). IsWktOf v h.0) one w) (back_is_wkt t) in
          sym h.2 ∙ (ap (flat (coord_eq g.T.PartialEq.eq)) is ∙ same)),
      (λ h. (back t, (length whole, (canon (flat_shape t), front, back_is_wkt t)), same ∙ sym h)),
    )
