-- White space is passed byte by byte.
use Rattle.std.proofs.Common.{◌≡◌, ◌==◌, ap, sym, ◌∙◌, arith, get_or, inl, inr}
use Rattle.std.specs.Prelude.{not}
use Rattle.std.proofs.lemmas.Bool.{cases_lt}
use Rattle.wkt_events.specs.Remaining.{class_in}
use Rattle.wkt_events.proofs.RemainingLexemes.{past-white, white-some}
use Rattle.wkt_events.proofs.Utf8Lines.{class-in-line}
use Rattle.wkt_events.proofs.bytes.skip_more.Goals as goal

pub loop-at-smaller : goal.loop-at-smaller
loop-at-smaller g c =
    let p = past-white _ c.args.text.now c.loop-at.at c.byte_at.result c.byte_at.ensures.value (c.is_white.ensures.0 c.loop-at-test.true) in
    let inside = p.0 in
    omega (arith, inside)

pub loop-at-preserved : goal.loop-at-preserved
loop-at-preserved g c =
    let p = past-white _ c.args.text.now c.loop-at.at c.byte_at.result c.byte_at.ensures.value (c.is_white.ensures.0 c.loop-at-test.true) in
    let order = c.loop-at.invariant.order in
    let is = c.is_white.ensures.0 c.loop-at-test.true in
    let byte = c.byte_at.ensures.value in
    record {
      order = omega (arith, order);
      inside = p.0;
      white = λ k low high. elim (cases_lt k c.loop-at.at) [
        | inl before ↦ c.loop-at.invariant.white k low before
        | inr there ↦ let here : k ≡ c.loop-at.at = omega (arith, there, high) in ap (λ n. class_in (not (g.row.LF_ENDS == 0)) (get_or c.args.text.now n 0)) here ∙ ap (class_in (not (g.row.LF_ENDS == 0))) (sym byte) ∙ is
      ];
      line = λ h. class-in-line _ c.args.text.now c.loop-at.at (white-some _ c.args.text.now c.loop-at.at c.byte_at.result c.byte_at.ensures.value (c.is_white.ensures.0 c.loop-at-test.true)) (c.loop-at.invariant.line h);
      same = c.loop-at.invariant.same ∙ p.1;
    }
