-- The whole number ends where its digits do.
use Rattle.std.proofs.Common.{◌≡◌, ℕ, Some, get_or, ap, sym, subst, arith}
use Rattle.wkt_num.specs.Bytes.{class_of, Run}
use Rattle.wkt_num.specs.DigitParts.{IsPrinted}
use Rattle.wkt_num.proofs.FirstTextFound.{whole-end, whole-ends, whole-printed}
use Rattle.wkt_num.proofs.kept_whole.end_in_window.Goals as goal
use Rattle.wkt_num.proofs.kept_whole.end_in_window.Goals.{then-not-is_printed-via-then-not-is_printed, then-not-is_printed-via-else-not-is_printed+then-is_of_run}

pub returns-in_default-clause-finds : goal.returns-in_default-clause-finds
returns-in_default-clause-finds c end w less =
    let a = c.after_minus-first in
    absurd (whole-ends c.args.most c.args.bytes.now end a.result w a.ensures.minus a.ensures.sign a.ensures.none 32 less c.requires c.in_default.ensures.none)

pub returns-then-not-is_printed-clause-finds : goal.returns-then-not-is_printed-clause-finds
returns-then-not-is_printed-clause-finds c end w less =
    let bs = c.args.bytes.now in
    let a = c.after_minus-first in
    let p = c.in-Some.ensures.some in
    let same : c.in-Some.end ≡ end = whole-end c.args.most bs end a.result w a.ensures.minus a.ensures.sign a.ensures.none c.in-Some.end p.order (omega (arith, p.within, c.requires)) p.digits (λ _. p.other) in
    elim c.then-not-is_printed.branch [
      | then-not-is_printed-via-then-not-is_printed v ↦ absurd (v.if-not-is_printed.ensures (subst (IsPrinted c.args.most bs a.result) (sym same) (whole-printed c.args.most bs end a.result w a.ensures.minus a.ensures.sign a.ensures.none)))
      | then-not-is_printed-via-else-not-is_printed+then-is_of_run v ↦ absurd (w.stops (omega (arith, less, c.requires)) (subst (λ (n : ℕ). class_of (get_or bs n 0) ≡ Run) same v.if-is_of_run.ensures))
    ]

pub returns-clause-finds : goal.returns-clause-finds
returns-clause-finds c end w less =
    let a = c.after_minus-first in
    let p = c.in-Some.ensures.some in
    ap (λ (n : ℕ). Some n) (whole-end c.args.most c.args.bytes.now end a.result w a.ensures.minus a.ensures.sign a.ensures.none c.in-Some.end p.order (omega (arith, p.within, c.requires)) p.digits (λ _. p.other))
