-- What stands before the number, and the number; or neither.
use Rattle.std.proofs.Common.{◌≡◌, ◌≤◌, [], arith, ap, length, sym, subst, ◌∙◌}
use Rattle.std.specs.Prelude.{IfNone, IfSome}
use Rattle.wkt_machine.specs.Makers.{MakesNumber}
use Rattle.wkt_machine.specs.Room.{LeavesBehind}
use Rattle.wkt_canonical.specs.TextBuilderMaker.{text_builder_maker, Made}
use Rattle.wkt_canonical.specs.Written.{separator}
use Rattle.wkt_canonical.specs.declared.text_builder.TextBuilder.{TextBuilder}
use Rattle.wkt_canonical.proofs.TextBuilderOutput.{makes-number, leaves-number, taken-back}
use Rattle.wkt_canonical.proofs.text_builder.TextBuilderBuilderNumber.number_in.Goals as goal

pub returns-in-Some-clause-some : goal.returns-in-Some-clause-some
returns-in-Some-clause-some g c =
    subst (λ o. IfSome o (λ end. MakesNumber (g.N.Numbers.read c.args.self.numbers) (text_builder_maker g.N.Numbers.read g.N.Numbers.num) c.args.self c.args.text.now c.args.at c.args.axis c.put_number-made.result.0 end)) c.in-Some.is
    (makes-number g.N.Numbers.read g.N.Numbers.num c.args.text.now c.args.at c.args.axis c.args.self c.put_separator.result c.put_separator.ensures _ _ c.put_number-made.ensures.some)

pub returns-in-Some-clause-leaves : goal.returns-in-Some-clause-leaves
returns-in-Some-clause-leaves g c =
    subst (λ o. IfSome o (LeavesBehind (text_builder_maker g.N.Numbers.read g.N.Numbers.num) c.args.self c.args.text.now c.args.at c.put_number-made.result.0)) c.in-Some.is
    (leaves-number g.N.Numbers.read g.N.Numbers.num c.args.text.now c.args.at c.args.axis c.args.self c.put_separator.result c.put_separator.ensures _ _ c.put_number-made.ensures.some)

pub returns-in-None-clause-nothing : goal.returns-in-None-clause-nothing
returns-in-None-clause-nothing g c =
    let same : c.put_number-made.result.0 ≡ c.put_separator.result = subst (λ o. IfNone o (c.put_number-made.result.0 ≡ c.put_separator.result)) c.in-None.is c.put_number-made.ensures.nothing in
    let within : c.args.self.len ≤ length c.args.self.out.now = omega (arith, c.requires.room.some) in
    subst (Made (g.N.Numbers.read c.args.self.numbers) (g.N.Numbers.num c.args.self.numbers) c.args.self []) (sym (c.back_to.ensures ∙ ap (λ (p : TextBuilder g.row.N.Denot). record p { len = c.args.self.len }) same))
    (taken-back (g.N.Numbers.read c.args.self.numbers) (g.N.Numbers.num c.args.self.numbers) c.args.self c.put_separator.result (separator c.args.axis) c.put_separator.ensures within)
