-- What was written stands behind the first bytes.
use Rattle.std.proofs.Common.{arith}
use Rattle.wkt_canonical.proofs.TextBuilderOutput.{wrote-behind}
use Rattle.wkt_canonical.proofs.canonical.write_front.Goals as goal

pub returns-in-Ok-Some-clause-writes : goal.returns-in-Ok-Some-clause-writes
returns-in-Ok-Some-clause-writes g c =
    let w = rw c.in-Ok-Some.field-0-is at c.in-Ok-Some.ensures.writes in
    let r = rw c.in-Ok-Some.field-0-is at c.in-Ok-Some.ensures.room in
    wrote-behind (g.N.Numbers.read c.args.numbers) (g.N.Numbers.num c.args.numbers) _ c.args.len _ c.in-Ok-Some.end c.in-Ok-Some.n c.args.out.now _ c.write_alone.new.out (omega arith) (omega (arith, r)) w
