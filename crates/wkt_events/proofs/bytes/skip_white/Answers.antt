-- Where no white space stands, or one space, that is seen at once.
use Rattle.std.proofs.Common.{◌≡◌, ◌==◌, ap, sym, ◌∙◌, arith, get_or}
use Rattle.std.specs.Prelude.{not}
use Rattle.wkt_events.specs.Remaining.{class_in}
use Rattle.wkt_events.proofs.RemainingLexemes.{past-white, white-some, space, late-byte}
use Rattle.wkt_events.proofs.Utf8Lines.{class-in-line}
use Rattle.wkt_events.proofs.bytes.skip_white.Goals as goal

pub returns-then-byte_at-gt32-clause-stops : goal.returns-then-byte_at-gt32-clause-stops
returns-then-byte_at-gt32-clause-stops g c = λ w. late-byte _ c.byte_at.result c.if-byte_at-gt32.true (ap (class_in _) c.byte_at.ensures.value ∙ w)

pub returns-then-byte_at-gt32-2-clause-same : goal.returns-then-byte_at-gt32-2-clause-same
returns-then-byte_at-gt32-2-clause-same g c = (past-white _ c.args.text.now c.args.at c.byte_at-2.result c.byte_at-2.ensures.value (space _ c.byte_at-2.result c.if-byte_at-eq32.true)).1

pub returns-then-byte_at-gt32-2-clause-stops : goal.returns-then-byte_at-gt32-2-clause-stops
returns-then-byte_at-gt32-2-clause-stops g c = λ w. late-byte _ c.byte_at-then-byte_at-eq32.result c.if-byte_at-gt32-2.true (ap (class_in _) c.byte_at-then-byte_at-eq32.ensures.value ∙ w)

pub returns-then-byte_at-gt32-clause-white : goal.returns-then-byte_at-gt32-clause-white
returns-then-byte_at-gt32-clause-white g c = λ k low high. absurd (omega (arith, low, high))

pub returns-then-byte_at-gt32-2-clause-white : goal.returns-then-byte_at-gt32-2-clause-white
returns-then-byte_at-gt32-2-clause-white g c = λ k low high.
    let here : k ≡ c.args.at = omega (arith, low, high) in
    ap (λ n. class_in (not (g.row.LF_ENDS == 0)) (get_or c.args.text.now n 0)) here ∙ ap (class_in (not (g.row.LF_ENDS == 0))) (sym c.byte_at-2.ensures.value) ∙ space _ c.byte_at-2.result c.if-byte_at-eq32.true

pub returns-then-byte_at-gt32-2-clause-line : goal.returns-then-byte_at-gt32-2-clause-line
returns-then-byte_at-gt32-2-clause-line g c = λ h. class-in-line _ c.args.text.now c.args.at (white-some _ c.args.text.now c.args.at c.byte_at-2.result c.byte_at-2.ensures.value (space _ c.byte_at-2.result c.if-byte_at-eq32.true)) h
