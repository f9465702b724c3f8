-- A text that is refused somewhere has no front.
use Rattle.wkt_explain.proofs.StopsAreRefusals.{refused_none}
use Rattle.wkt_explain.proofs.laws.refused_has_no_front.Goals as goal

pub returns : goal.returns
returns g c text start end e t = refused_none g.T.WktNum.read text start end e t
