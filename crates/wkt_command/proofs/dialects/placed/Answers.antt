-- The place is that of the next lexeme.
use Rattle.std.proofs.Common.{◌≡◌, ◌+◌, Some, drop, refl, sym, subst, ◌∙◌}
use Rattle.wkt_read.specs.Spanned.{spanned}
use Rattle.wkt_dialects.specs.Reading.{IsPlace, ended_before}
use Rattle.wkt_command.specs.Dialects.{IsPlacedVerdict}
use Rattle.wkt_command.specs.declared.verdict.Verdict.TheVariants.{Rest}
use Rattle.wkt_command.proofs.InDialects.{placed-in}
use Rattle.wkt_command.proofs.dialects.placed.Goals as goal

pub returns-in-Rest : goal.returns-in-Rest
returns-in-Rest c =
    let d = c.args.dialects in
    let text = c.args.text.now in
    let other = c.args.read.now in
    let from = c.args.from in
    let at = c.in-Rest.end in
    let p = c.place_in-start.result in
    let behind : c.as_bytes-rest.result.now ≡ drop from text = c.as_bytes-rest.ensures.value ∙ c.behind.ensures in
    let there = subst (λ o. IsPlace d c.as_bytes-rest.result.now (ended_before at (spanned o)) p.0 p.1 p.2) c.as_bytes.ensures.value c.place_in-start.ensures in
    let place = subst (λ r. IsPlace d r (ended_before at (spanned other)) p.0 p.1 p.2) behind there in
    subst (λ v. IsPlacedVerdict (Some d) text other v (Rest (from + p.1))) (sym c.in-Rest.is)
    (from + p.2, placed-in d text other from at at p.0 p.1 p.2 (from + p.1) (from + p.2) c.requires.inside c.requires.rest c.requires.read place refl refl)
