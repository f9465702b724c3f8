-- The text is the line, or the line with its ends swapped.
use Rattle.std.proofs.Common.{◌≡◌, sym, subst, ◌∙◌, map, OnOk, arith}
use Rattle.std.proofs.lemmas.Grind.{common_steps}
use denote.Enum.Bare.{differs_true, differs_false}
use Rattle.wkt_options.specs.contracts.options.Ends.{the_type}
use Rattle.wkt_options.specs.declared.options.Ends.TheVariants.{Nul}
use Rattle.wkt_command.specs.Place.{other_end}
use Rattle.wkt_command.specs.Canon.{out_bytes, Canonizes}
use Rattle.wkt_command.proofs.Canonizing.{text-plain, text-swapped}
use Rattle.wkt_command.proofs.run.Run.take_line.Goals as goal

pub returns-then-ne-clause-canon : goal.returns-then-ne-clause-canon
returns-then-ne-clause-canon g c = λ is.
    let o = c.args.self.now.options.now in
    let same = text-plain o.ends c.args.line.now (differs_true the_type o.ends Nul (sym c.ne.ensures ∙ c.if-ne.true)) in
    subst (λ l. OnOk c.take.result (Canonizes o l (out_bytes g.W.Write.contents c.args.self.now.out) (out_bytes g.W.Write.contents c.take.new.self.out))) (sym same) (c.take.ensures.canon is)

pub returns-clause-canon : goal.returns-clause-canon
returns-clause-canon g c = λ is.
    let o = c.args.self.now.options.now in
    let swapped : c.as_slice.result.now ≡ map other_end c.args.line.now = grind (arith, common_steps) in
    let same = text-swapped o.ends c.args.line.now c.as_slice.result.now (differs_false the_type tt o.ends Nul (sym c.ne.ensures ∙ c.if-ne.false)) swapped in
    subst (λ l. OnOk c.take-2.result (Canonizes o l (out_bytes g.W.Write.contents c.args.self.now.out) (out_bytes g.W.Write.contents c.take-2.new.self.out))) (sym same) (c.take-2.ensures.canon is)
