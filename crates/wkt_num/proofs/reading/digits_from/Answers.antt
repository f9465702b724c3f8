-- One digit more still fits, since the digits so far are few.
use Rattle.std.proofs.Common.{◌≤◌, get_or, sym, ◌∙◌, arith}
use Rattle.wkt_num.proofs.TextInsideText.{digit-small, digits-more, fits-more, fits-within}
use Rattle.wkt_num.proofs.reading.digits_from.Goals as goal

pub overflow_mul-all : goal.overflow_mul-all
overflow_mul-all c =
    let l = c.loop-at in
    omega (arith, fits-within _ _ 19 (fits-more l.all l.at 0 l.invariant.small (omega arith)) (omega (arith, c.requires.few, c.loop-at-test.true)))

pub overflow_add-all : goal.overflow_add-all
overflow_add-all c =
    let l = c.loop-at in
    let digit : c.from.result ≤ 9 = omega (arith, c.from.ensures, digit-small (get_or c.args.bytes.now l.at 0) (sym c.is_ascii_digit.ensures.value ∙ c.if-is_ascii_digit.true)) in
    omega (arith, fits-within _ _ 19 (fits-more l.all l.at c.from.result l.invariant.small digit) (omega (arith, c.requires.few, c.loop-at-test.true)))

pub loop-at-preserved : goal.loop-at-preserved
loop-at-preserved c =
    let l = c.loop-at in
    let digit : c.from.result ≤ 9 = omega (arith, c.from.ensures, digit-small (get_or c.args.bytes.now l.at 0) (sym c.is_ascii_digit.ensures.value ∙ c.if-is_ascii_digit.true)) in
    let is = sym c.is_ascii_digit.ensures.value ∙ c.if-is_ascii_digit.true in
    let more = digits-more c.args.number l.all c.args.bytes.now c.args.from l.at c.from.result l.invariant.after (omega (arith, c.requires.within, c.loop-at-test.true)) is c.from.ensures l.invariant.digits l.invariant.value in
    record {
      after = omega (arith, l.invariant.after);
      within = λ _. omega (arith, c.loop-at-test.true);
      digits = more.0;
      value = more.1;
      small = fits-more l.all l.at c.from.result l.invariant.small digit;
    }
