-- The shape of a value that was read has no error, and its numbers are values.
use Rattle.std.proofs.Common.{◌≡◌, sym, ap, subst}
use Rattle.wkt_access.specs.Shapes.{shape_of}
use Rattle.wkt_access.specs.Faults.{fault}
use Rattle.wkt_access.specs.WellFormed.{IsLawful}
use Rattle.std.specs.Prelude.{None}
use Rattle.wkt_write.proofs.Writable.{writable}
use Rattle.wkt_read.proofs.OneForm.{geometry_fits}
use Rattle.wkt_read.proofs.laws.read_values_are_writable.Goals as goal

pub returns : goal.returns
returns g c text v end t f w =
    let fits = geometry_fits g.T.WktNum.is_value g.T.WktNum.read g.met.T.WktNum.reads_values v f.lexemes f.reads in
    let p = writable g.T.WktNum.is_value v fits in
    let same = ap shape_of w.value in
    (same, subst (λ s. fault s ≡ None) (sym same) p.0, subst (IsLawful g.T.WktNum.is_value) (sym same) p.1)
