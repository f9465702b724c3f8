-- White space alone is passed over, and anything else is refused.
use Rattle.std.proofs.Common.{true, false, ◌≡◌, sym, ◌∙◌}
use Rattle.wkt_command.specs.Canon.{out_bytes}
use Rattle.wkt_command.proofs.Canonizing.{ok-map, canonizes-refused, canonizes-skipped}
use Rattle.wkt_command.proofs.run.Run.refuse_or_pass.Goals as goal

pub returns-then-is_skipped-clause-canon : goal.returns-then-is_skipped-clause-canon
returns-then-is_skipped-clause-canon g c = λ is none.
    let out = out_bytes g.W.Write.contents c.args.self.now.out in
    canonizes-skipped c.args.self.now.options.now c.args.text.now out out none (c.is_skipped.ensures.0 c.if-is_skipped.true)

pub returns-clause-canon : goal.returns-clause-canon
returns-clause-canon g c = λ is none.
    ok-map c.refuse_text.result _ _ (canonizes-refused c.args.self.now.options.now c.args.text.now _ _ none
    (λ skip. let q : true ≡ false = sym (c.is_skipped.ensures.1 skip) ∙ c.if-is_skipped.false in cc)) (c.refuse_text.ensures.canon is)
