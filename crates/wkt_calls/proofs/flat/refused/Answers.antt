-- Bytes that are text have no front.
use Rattle.std.proofs.Common.{sym, subst}
use Rattle.wkt_read.specs.Front.{HasNoFront}
use Rattle.wkt_calls.specs.Answer.{read_at}
use Rattle.wkt_calls.proofs.flat.refused.Goals as goal

pub refusal-requires : goal.refusal-requires
refusal-requires c = subst (HasNoFront (read_at c.args.places)) (sym c.in-Ok.ensures.cases.0) (c.requires c.in-Ok.ensures.cases.1)
