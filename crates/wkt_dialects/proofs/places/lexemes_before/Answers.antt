use Rattle.std.proofs.Common.{arith, ℕ, ◌≡◌, ◌+◌, ap, ◌∙◌, sym, false}
use Rattle.wkt_events.specs.Remaining.{remaining_spanned}
use Rattle.wkt_events.proofs.RemainingLexemes.{remaining-all}
use Rattle.wkt_dialects.specs.Reading.{ended_before}
use Rattle.wkt_dialects.proofs.places.lexemes_before.Goals as goal

pub lexemes-init : goal.lexemes-init
lexemes-init c =
    let n : ℕ = ended_before c.args.upto (remaining_spanned false c.args.text.now 0) in
    let z : n ≡ 0 + n = omega arith in
    (omega arith, omega arith, ap (ended_before c.args.upto) (sym (remaining-all c.args.text.now)) ∙ z)
