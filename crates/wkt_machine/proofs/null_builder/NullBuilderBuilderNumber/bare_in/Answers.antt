-- The parenthesis makes nothing, nor does the number.
use Rattle.std.proofs.Common.{ℕ, List, Option, Some, None, refl}
use Rattle.std.specs.Prelude.{IfSome}
use Rattle.wkt_events.specs.Remaining.{EndsNumber}
use Rattle.wkt_machine.specs.Makers.{MakesBareNumber, null_builder_maker}
use Rattle.wkt_machine.specs.declared.null_builder.NullBuilder.{NullBuilder}
use Rattle.wkt_machine.proofs.null_builder.NullBuilderBuilderNumber.bare_in.Goals as goal

bare : {P N : Type 0} (read : P → List ℕ → Option N) (s : NullBuilder P) (text : List ℕ) (at : ℕ) (o : Option ℕ) → IfSome o (EndsNumber (read s.numbers) text at) → IfSome o (λ end. MakesBareNumber (read s.numbers) (null_builder_maker read) s text at s end)
bare read s text at None h = tt
bare read s text at (Some end) h = record { opened = s; opens = refl; number = record { number = h.0; there = h.1; makes = refl } }

pub returns-clause-some : goal.returns-clause-some
returns-clause-some g c = bare g.N.Numbers.read c.args.self c.args.text.now c.args.at c.end_at-end.result c.end_at-end.ensures.some
