-- What the text builder wrote from the first byte on is the canonical text.
use Rattle.std.proofs.Common.{refl, rules}
use Rattle.wkt_canonical.specs.Through.{text_builder_over}
use Rattle.wkt_canonical.proofs.TextBuilderOutput.{wrote-alone}
use Rattle.wkt_canonical.proofs.canonical.write_alone.Goals as goal

pub returns-in-Ends-clause-writes : goal.returns-in-Ends-clause-writes
returns-in-Ends-clause-writes g c =
    let (polygon, writes) = c.in-Ends.ensures.writes in
    wrote-alone (g.N.Numbers.read c.args.numbers) (g.N.Numbers.num c.args.numbers) _ c.in-Ends.end c.args.out.now _ _ (text_builder_over c.args.numbers polygon c.write_next.new.space) refl refl writes (search rules)
