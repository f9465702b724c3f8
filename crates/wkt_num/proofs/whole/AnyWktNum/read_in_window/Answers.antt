-- The number is read by its digits.
use Rattle.std.proofs.Common.{arith}
use Rattle.std.proofs.Math.Nat.{min-le_left}
use Rattle.wkt_num.proofs.NumberInWindow.{fewer-fit, windowed-number}
use Rattle.wkt_num.proofs.whole.AnyWktNum.read_in_window.Goals as goal

pub of_digits-requires : goal.of_digits-requires
of_digits-requires g c =
    fewer-fit c.min.result g.T.Whole.DIGITS c.in_ok-digits.digits (omega (arith, c.min.ensures, min-le_left c.DIGITS.result 16, c.DIGITS.ensures)) c.in_ok-digits.ensures.small

pub returns-clause-reads : goal.returns-clause-reads
returns-clause-reads g c =
    windowed-number g.T.Whole.DIGITS c.min.result g.T.Whole.form g.met.T.Whole.form_holds (omega (arith, c.min.ensures, min-le_left c.DIGITS.result 16, c.DIGITS.ensures)) c.args.bytes.now c.after_minus-first.result c.in_ok-digits.digits c.in_ok-number.number c.after_minus-first.ensures.sign
    c.in_ok-number.ensures c.in_ok-digits.end c.requires c.in_ok-digits.ensures
