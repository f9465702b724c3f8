use Rattle.std.proofs.Common.{arith, ◌≡◌, ◌+◌, ◌-◌, suc, ap, ◌∙◌, subst, true, false}
use Rattle.wkt_events.specs.Remaining.{remaining_spanned}
use Rattle.wkt_dialects.specs.Dialects.{is_nan, nans}
use Rattle.wkt_dialects.specs.Pieces.{lexeme_in, IsPastSome}
use Rattle.wkt_dialects.proofs.Looks.{nans-more, past-one}
use Rattle.wkt_dialects.proofs.nan.nans.Goals as goal

pub nans-preserved : goal.nans-preserved
nans-preserved c =
    let f = c.in-Some.ensures in
    let nan : is_nan (lexeme_in c.args.text.now c.in-Some.found) ≡ true = cc in
    let one : c.nans.left ≡ suc (c.nans.left - 1) = omega arith in
    let many : c.args.count - c.nans.left + 1 ≡ c.args.count - (c.nans.left - 1) = omega arith in (
      omega arith,
      subst (λ n. IsPastSome c.args.text.now c.args.from n c.in-Some.found.end) many (past-one c.args.text.now c.nans.at c.in-Some.found f c.args.from (c.args.count - c.nans.left) c.nans.invariant.1),
      c.nans.invariant.2 ∙ ap (λ k. nans k (remaining_spanned false c.args.text.now c.nans.at)) one ∙ nans-more c.args.text.now c.nans.at c.in-Some.found f (c.nans.left - 1) nan,
    )
