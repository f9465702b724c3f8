-- Digits that are read at once are those that are read one after the other.
use Rattle.std.proofs.Common.{arith}
use Rattle.wkt_num.proofs.DecimalParts.{at-once}
use Rattle.wkt_num.proofs.fast.fraction_from.Goals as goal

pub overflow_mul-result : goal.overflow_mul-result
overflow_mul-result c =
    let a = at-once c.args.bytes.now c.args.number c.in-Some.fraction c.ten_to.result c.args.from c.in-Some.count c.args.most (omega (arith, c.in-Some.ensures.few)) c.requires.within c.requires.few c.requires.small c.ten_to.ensures c.in-Some.ensures.digits c.in-Some.ensures.value in
    omega (arith, a.fits)

pub overflow_add-result : goal.overflow_add-result
overflow_add-result c =
    let a = at-once c.args.bytes.now c.args.number c.in-Some.fraction c.ten_to.result c.args.from c.in-Some.count c.args.most (omega (arith, c.in-Some.ensures.few)) c.requires.within c.requires.few c.requires.small c.ten_to.ensures c.in-Some.ensures.digits c.in-Some.ensures.value in
    omega (arith, a.fits)

pub returns-in-Some : goal.returns-in-Some
returns-in-Some c =
    let a = at-once c.args.bytes.now c.args.number c.in-Some.fraction c.ten_to.result c.args.from c.in-Some.count c.args.most (omega (arith, c.in-Some.ensures.few)) c.requires.within c.requires.few c.requires.small c.ten_to.ensures c.in-Some.ensures.digits c.in-Some.ensures.value in
    record {
      from = omega arith;
      within = λ _. omega (arith, c.in-Some.ensures.few);
      digits = a.digits;
      value = a.value;
      small = a.small;
    }
