-- A parenthesis, and the number behind it; or neither.
use Rattle.std.proofs.Common.{◌≡◌, ◌≤◌, [], ◌∷◌, arith, ap, length, sym, subst, ◌∙◌}
use Rattle.std.specs.Prelude.{IfNone, IfSome}
use Rattle.wkt_canonical.specs.TextBuilderMaker.{Made, Numbered}
use Rattle.wkt_canonical.specs.declared.text_builder.TextBuilder.{TextBuilder}
use Rattle.wkt_canonical.proofs.TextBuilderOutput.{makes-bare, leaves-bare, taken-back}
use Rattle.wkt_canonical.proofs.text_builder.TextBuilderBuilderNumber.bare_in.Goals as goal

pub returns-in-Some-clause-some : goal.returns-in-Some-clause-some
returns-in-Some-clause-some g c =
    makes-bare g.N.Numbers.read g.N.Numbers.num c.args.text.now c.args.at c.args.self c.put.result c.put_number-made.result.0 c.put.ensures _
    (subst (λ o. IfSome o (Numbered (g.N.Numbers.read c.put.result.numbers) (g.N.Numbers.num c.put.result.numbers) c.args.text.now c.args.at c.put.result c.put_number-made.result.0)) c.in-Some.is c.put_number-made.ensures.some)

pub returns-in-Some-clause-leaves : goal.returns-in-Some-clause-leaves
returns-in-Some-clause-leaves g c =
    leaves-bare g.N.Numbers.read g.N.Numbers.num c.args.text.now c.args.at c.args.self c.put.result c.put_number-made.result.0 c.put.ensures _
    (subst (λ o. IfSome o (Numbered (g.N.Numbers.read c.put.result.numbers) (g.N.Numbers.num c.put.result.numbers) c.args.text.now c.args.at c.put.result c.put_number-made.result.0)) c.in-Some.is c.put_number-made.ensures.some)

pub returns-in-None-clause-nothing : goal.returns-in-None-clause-nothing
returns-in-None-clause-nothing g c =
    let same : c.put_number-made.result.0 ≡ c.put.result = subst (λ o. IfNone o (c.put_number-made.result.0 ≡ c.put.result)) c.in-None.is c.put_number-made.ensures.nothing in
    let within : c.args.self.len ≤ length c.args.self.out.now = omega (arith, c.requires.room.some) in
    subst (Made (g.N.Numbers.read c.args.self.numbers) (g.N.Numbers.num c.args.self.numbers) c.args.self []) (sym (c.back_to.ensures ∙ ap (λ (p : TextBuilder g.row.N.Denot). record p { len = c.args.self.len }) same))
    (taken-back (g.N.Numbers.read c.args.self.numbers) (g.N.Numbers.num c.args.self.numbers) c.args.self c.put.result (40 ∷ []) c.put.ensures within)
