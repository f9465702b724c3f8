-- More than eight digits are eight and others.
use Rattle.std.proofs.Common.{arith, ap, ◌∙◌, ◌≡◌, ◌+◌, slice_range}
use Rattle.std.specs.Str.Parse.{digits_value}
use Rattle.wkt_num.proofs.NumberInWindow.{first-digits, other-digits, eights-value, eights-small}
use Rattle.wkt_num.proofs.in_window.sixteen_from.Goals as goal

pub eight_from-first-requires-clause-digits : goal.eight_from-first-requires-clause-digits
eight_from-first-requires-clause-digits c = first-digits c.args.bytes.now c.args.from c.args.count (omega (arith, c.requires.within, c.requires.few)) c.requires.digits c.min.result (omega (arith, c.min.ensures))

pub eight_from-requires-clause-digits : goal.eight_from-requires-clause-digits
eight_from-requires-clause-digits c = other-digits c.args.bytes.now c.args.from c.args.count (omega (arith, c.requires.within, c.requires.few)) c.requires.digits (omega (arith, c.if-count-le8.false))

pub returns-clause-value : goal.returns-clause-value
returns-clause-value c =
    let eight : c.min.result ≡ 8 = omega (arith, c.min.ensures, c.if-count-le8.false) in
    eights-value c.args.bytes.now c.args.from c.args.count (omega (arith, c.requires.within, c.requires.few)) c.requires.digits (omega (arith, c.if-count-le8.false))
    c.eight_from-first.result c.eight_from.result c.ten_to.result
    (c.eight_from-first.ensures.value ∙ ap (λ k. digits_value 10 (slice_range c.args.bytes.now c.args.from (c.args.from + k))) eight) c.eight_from.ensures.value c.ten_to.ensures

pub returns-clause-small : goal.returns-clause-small
returns-clause-small c =
    let eight : c.min.result ≡ 8 = omega (arith, c.min.ensures, c.if-count-le8.false) in
    eights-small c.args.bytes.now c.args.from c.args.count (omega (arith, c.requires.within, c.requires.few)) c.requires.digits (omega (arith, c.if-count-le8.false))
    c.eight_from-first.result c.eight_from.result c.ten_to.result
    (c.eight_from-first.ensures.value ∙ ap (λ k. digits_value 10 (slice_range c.args.bytes.now c.args.from (c.args.from + k))) eight) c.eight_from.ensures.value c.ten_to.ensures
