-- Geometries that are written alike have one canonical value, and so one text.
use Rattle.wkt_flat.specs.Equal.{exact_by}
use Rattle.wkt.proofs.Written.{reported_alike}
use Rattle.wkt.proofs.same.same_geometry.Goals as goal

pub returns-clause-same : goal.returns-clause-same
returns-clause-same g c = reported_alike (exact_by g.met.T.WktNum.same) _ _ _ c.is_written_alike.ensures

pub returns-clause-one_text : goal.returns-clause-one_text
returns-clause-one_text g c = λ a b.
    let same = returns-clause-same g c in
    let texts = c.one_text.ensures _ _ a.0 b.0 a.1 b.1 in
    (λ t. texts.1 (same.0 t), λ e. same.1 (texts.0 e))
