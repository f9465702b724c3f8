-- The first offset is stored.
use Rattle.std.proofs.Common.{arith, rules}
use Rattle.std.proofs.lemmas.Grind.{take-set_at}
use Rattle.wkt_fill.proofs.array_builder.begin.Goals as goal

pub returns-clause-begun : goal.returns-clause-begun
returns-clause-begun c = λ z. (z, take-set_at c.args.offsets.now 0 1 0 (omega arith) (search rules))
