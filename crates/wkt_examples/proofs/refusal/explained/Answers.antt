-- A text without a front is refused.
use Rattle.wkt.proofs.Texts.{some_of}
use Rattle.wkt_examples.proofs.refusal.explained.Goals as goal

pub unwrap-requires : goal.unwrap-requires
unwrap-requires g c = some_of c.explain.result c.explain.ensures.front (λ f. c.requires f.0 f.1 f.2)
