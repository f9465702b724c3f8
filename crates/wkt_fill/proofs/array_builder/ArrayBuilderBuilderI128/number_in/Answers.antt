-- The number that comes next is added.
use Rattle.wkt_machine.proofs.WaysJoin.{nothing_made}
use Rattle.wkt_fill.specs.Filled.{array_builder_maker}
use Rattle.wkt_fill.proofs.Finished.{makes-fast}
use Rattle.wkt_fill.proofs.array_builder.ArrayBuilderBuilderI128.number_in.Goals as goal

pub returns-in-Some-clause-some : goal.returns-in-Some-clause-some
returns-in-Some-clause-some c =
    makes-fast c.args.self.places c.args.text.now c.args.at c.args.axis c.in-Some.end c.in-Some.units c.args.self c.put.new.self c.requires.inside (rw c.places.ensures.is at c.in-Some.ensures) c.put.ensures

pub returns-in-None-clause-nothing : goal.returns-in-None-clause-nothing
returns-in-None-clause-nothing c = nothing_made array_builder_maker c.args.self c.slow_number.result.0 c.slow_number.result.1 c.slow_number.ensures.nothing
