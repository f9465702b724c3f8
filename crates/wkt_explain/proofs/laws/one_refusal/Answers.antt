-- A text is refused at no more than one place.
use Rattle.wkt_explain.proofs.StopsAreRefusals.{one_place}
use Rattle.wkt_explain.proofs.laws.one_refusal.Goals as goal

pub returns : goal.returns
returns g c text start end start2 end2 e e2 t u = one_place g.T.WktNum.read text start end start2 end2 e e2 t u
