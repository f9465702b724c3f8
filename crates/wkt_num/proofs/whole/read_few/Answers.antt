-- The text is read by its digits.
use Rattle.std.proofs.Common.{◌≡◌, ◌∙◌, Some, arith}
use Rattle.std.proofs.Math.Nat.{min-le_left}
use Rattle.wkt_num.proofs.NumberInWindow.{fewer-fit, made-some, spelled-number}
use Rattle.wkt_num.proofs.whole.read_few.Goals as goal

pub of_digits-requires : goal.of_digits-requires
of_digits-requires g c =
    fewer-fit c.min.result g.T.Whole.DIGITS c.in_ok-digits.digits (omega (arith, c.min.ensures, min-le_left c.DIGITS.result 18, c.DIGITS.ensures)) c.in_ok-digits.ensures.small

pub returns : goal.returns
returns g c = made-some (λ x. g.T.Whole.form.read c.args.bytes.now ≡ Some x) c.of_digits.result (λ x e.
    spelled-number g.T.Whole.DIGITS c.min.result g.T.Whole.form g.met.T.Whole.form_holds (omega (arith, c.min.ensures, min-le_left c.DIGITS.result 18, c.DIGITS.ensures)) c.args.bytes.now c.after_minus-first.result c.in_ok-digits.digits x c.after_minus-first.ensures.sign
    (e ∙ c.of_digits.ensures) c.in_ok-digits.ensures)
