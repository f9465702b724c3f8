-- The lowest bit of the mask is the first byte that is no digit; with no bit all are digits.
use Rattle.std.proofs.Common.{arith}
use Rattle.wkt_num.proofs.WindowDigits.{is-first, all-digits}
use Rattle.wkt_num.proofs.kept.first_other.Goals as goal

pub returns-then-others-eq0-clause-none : goal.returns-then-others-eq0-clause-none
returns-then-others-eq0-clause-none c = all-digits c.args.bytes.now c.args.from c.args.others c.type_inv.bytes c.requires.window c.requires.others c.if-others-eq0.true

pub returns-clause-some : goal.returns-clause-some
returns-clause-some c = is-first c.args.bytes.now c.args.from c.args.others c.type_inv.bytes c.requires.window c.requires.others (omega (arith, c.if-others-eq0.false))
