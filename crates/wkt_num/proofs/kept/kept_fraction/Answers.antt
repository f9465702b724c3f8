-- The text ends with the last digit that isn't zero, or before the point; a minus goes with the last zero.
use Rattle.std.proofs.Common.{◌<◌, ◌+◌, subst, arith}
use Rattle.wkt_num.specs.DigitParts.{HasZeros}
use Rattle.wkt_num.proofs.DecimalParts.{keeps-point, keeps-fraction}
use Rattle.wkt_num.proofs.FoundDecimal.{no-zeros, found-end}
use Rattle.wkt_num.proofs.kept.kept_fraction.Goals as goal

pub returns-else-is_minus_zero-clause-keeps : goal.returns-else-is_minus_zero-clause-keeps
returns-else-is_minus_zero-clause-keeps c =
    let r = c.requires in
    keeps-point c.args.places c.args.bytes.now c.args.first c.args.point r.sign r.whole c.args.end r.after r.within r.point r.stops
    (subst (λ k. HasZeros c.args.bytes.now k c.args.end) c.if-kept-point.true c.before_zeros-kept.ensures.zeros) c.if-is_minus_zero.ensures

pub returns-clause-keeps : goal.returns-clause-keeps
returns-clause-keeps c =
    let r = c.requires in
    let past : c.args.point + 1 < c.before_zeros-kept.result = omega (arith, c.before_zeros-kept.ensures.after, c.if-kept-point.false) in
    keeps-fraction c.args.places c.args.bytes.now c.args.first c.args.point r.sign r.whole c.args.end r.after r.within r.point r.stops
    c.before_zeros-kept.result past c.before_zeros-kept.ensures.zeros r.fraction (omega (arith, c.if-kept-point-2.false, c.places.ensures))

pub returns-then-is_minus_zero-clause-finds : goal.returns-then-is_minus_zero-clause-finds
returns-then-is_minus_zero-clause-finds c some last few =
    absurd (omega (arith, some, c.if-kept-point.true, no-zeros c.args.bytes.now c.before_zeros-kept.result c.args.end c.requires.within c.before_zeros-kept.ensures.zeros last))

pub returns-else-is_minus_zero-clause-finds : goal.returns-else-is_minus_zero-clause-finds
returns-else-is_minus_zero-clause-finds c some last few =
    absurd (omega (arith, some, c.if-kept-point.true, no-zeros c.args.bytes.now c.before_zeros-kept.result c.args.end c.requires.within c.before_zeros-kept.ensures.zeros last))

pub returns-clause-finds : goal.returns-clause-finds
returns-clause-finds c some last few = found-end c.args.end (no-zeros c.args.bytes.now c.before_zeros-kept.result c.args.end c.requires.within c.before_zeros-kept.ensures.zeros last)
