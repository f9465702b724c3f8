-- The whole number keeps its text, and is found.
use Rattle.std.proofs.Common.{◌≡◌, ℕ, length, subst, arith}
use Rattle.wkt_num.specs.DecimalLaws.{ten_pos}
use Rattle.wkt_num.specs.DigitParts.{IsWholeText}
use Rattle.wkt_num.proofs.FirstTextFound.{number-text, number-sign, found-both, found-none}
use Rattle.wkt_num.proofs.NumberInWindow.{made-is, not-made}
use Rattle.wkt_num.proofs.WindowDigits.{keeps-number}
use Rattle.wkt_num.proofs.whole.AnyWktNum.canonical_prefix.Goals as goal

pub of_digits-requires : goal.of_digits-requires
of_digits-requires g c = ten_pos g.T.Whole.DIGITS

pub returns-in_err-end-clause-finds : goal.returns-in_err-end-clause-finds
returns-in_err-end-clause-finds g c x small stands =
    let same : g.T.Whole.DIGITS ≡ c.DIGITS.result = omega (arith, c.DIGITS.ensures) in
    let n : ℕ = length (g.T.Whole.form.num x) in
    found-none (c.in_err-end.ensures.finds n (subst (λ (d : ℕ). IsWholeText d c.args.bytes.now n) same (number-text g.T.Whole.DIGITS g.T.Whole.form g.met.T.Whole.form_holds x c.args.bytes.now small.0 stands)) small.1)

pub returns-in_err-_signed-clause-finds : goal.returns-in_err-_signed-clause-finds
returns-in_err-_signed-clause-finds g c x small stands =
    not-made _ _ c.in_err-_signed.ensures (number-sign g.T.Whole.DIGITS g.T.Whole.form g.met.T.Whole.form_holds x c.args.bytes.now small.0 stands)

pub returns-clause-keeps : goal.returns-clause-keeps
returns-clause-keeps g c =
    let same : c.DIGITS.result ≡ g.T.Whole.DIGITS = omega (arith, c.DIGITS.ensures) in
    keeps-number g.T.Whole.DIGITS g.T.Whole.form g.met.T.Whole.form_holds c.args.bytes.now c.in_ok-end.end (subst (λ (d : ℕ). IsWholeText d c.args.bytes.now c.in_ok-end.end) same c.in_ok-end.ensures.whole) (made-is _ _ _ c.in_ok-_signed.ensures).0

pub returns-clause-finds : goal.returns-clause-finds
returns-clause-finds g c x small stands =
    let same : g.T.Whole.DIGITS ≡ c.DIGITS.result = omega (arith, c.DIGITS.ensures) in
    let n : ℕ = length (g.T.Whole.form.num x) in
    found-both (c.in_ok-end.ensures.finds n (subst (λ (d : ℕ). IsWholeText d c.args.bytes.now n) same (number-text g.T.Whole.DIGITS g.T.Whole.form g.met.T.Whole.form_holds x c.args.bytes.now small.0 stands)) small.1)
