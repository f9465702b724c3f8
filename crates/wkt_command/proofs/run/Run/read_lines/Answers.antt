-- Whole lines are answered and passed, and then the next line is, up to the last.
use Rattle.std.proofs.Common.{◌≡◌, refl, sym, subst, ◌∙◌, take}
use Rattle.std.specs.Prelude.{Some}
use Rattle.std.specs.Io.KnownBytes.{Consumes}
use Rattle.wkt_lines.specs.Reading.{line_of, to_come}
use Rattle.wkt_command.specs.Canon.{out_bytes, text_of, IsAnswerTo, Canonizes, CanonizesAll}
use Rattle.wkt_options.specs.declared.options.Command.TheVariants.{Canon}
use Rattle.wkt_command.proofs.Canonizing.{answered-none, answered-line, answered-lines, answered-all}
use Rattle.wkt_command.proofs.run.Run.read_lines.Goals as goal

pub lines-init : goal.lines-init
lines-init g c = record { options = refl; answered = λ _. answered-none (IsAnswerTo c.args.self.now.options.now) (text_of c.args.self.now.options.now.ends) _ _ }

pub returns-in-Ok-false : goal.returns-in-Ok-false
returns-in-Ok-false g c = λ is.
    let i = c.lines.invariant in
    let o = c.args.self.now.options.now in
    let old = out_bytes g.W.Write.contents c.lines.self.out in
    let middle = out_bytes g.W.Write.contents c.take_whole.new.self.out in
    let whole = subst (λ r. r.now.command ≡ Canon → CanonizesAll r.now (Some (take c.in-Ok.taken c.rest.result.now)) old middle) i.options c.in-Ok.ensures.canon is in
    let passed = answered-lines (IsAnswerTo o) (text_of o.ends) _ _ _ _ _ _ _ (i.answered is) c.in-Ok.ensures.whole
    (subst (λ l. Consumes (to_come g.R.ByteSource.left c.lines.lines) (to_come g.R.ByteSource.left c.pass.new.self) (take c.in-Ok.taken l)) (sym c.rest.ensures) c.pass.ensures.past) whole in
    answered-all (IsAnswerTo o) (text_of o.ends) _ _ _ _ passed (c.in-Ok-false.ensures.end c.in-Ok-false.field-0-test)

pub lines-preserved : goal.lines-preserved
lines-preserved g c =
    let i = c.lines.invariant in
    let o = c.args.self.now.options.now in
    let same = c.take_whole.ensures.options ∙ i.options in
    let old = out_bytes g.W.Write.contents c.lines.self.out in
    let middle = out_bytes g.W.Write.contents c.take_whole.new.self.out in
    let new = out_bytes g.W.Write.contents c.take_line.new.self.out in
    record {
      options = c.take_line.ensures.options ∙ same;
      answered = λ is.
          let whole = subst (λ r. r.now.command ≡ Canon → CanonizesAll r.now (Some (take c.in-Ok.taken c.rest.result.now)) old middle) i.options c.in-Ok.ensures.canon is in
          let passed = answered-lines (IsAnswerTo o) (text_of o.ends) _ _ _ _ _ _ _ (i.answered is) c.in-Ok.ensures.whole
          (subst (λ l. Consumes (to_come g.R.ByteSource.left c.lines.lines) (to_come g.R.ByteSource.left c.pass.new.self) (take c.in-Ok.taken l)) (sym c.rest.ensures) c.pass.ensures.past) whole in
          let given = subst (λ r. r.now.command ≡ Canon → Canonizes r.now (text_of r.now.ends c.line.result.now) middle new) same c.in-Ok-take_line.ensures.canon is in
          answered-line (IsAnswerTo o) (text_of o.ends) _ _ _ _ _ _ (line_of c.advance.new.self) passed (c.in-Ok-true.ensures.line c.in-Ok-true.field-0-test)
          (subst (λ l. Canonizes o (text_of o.ends l) middle new) c.line.ensures given);
    }
