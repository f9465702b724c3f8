-- A number of few digits is read as its units.
use Rattle.std.proofs.Common.{◌+◌, slice_range, ap, ◌∙◌, arith, rules}
use Rattle.std.specs.Str.Parse.{digits_value_after}
use Rattle.wkt_num.proofs.NumberInWindow.{whole-fits, whole-units, fraction-fits, fraction-units, held}
use Rattle.wkt_num.proofs.fast.units_before.Goals as goal

pub scaled-requires : goal.scaled-requires
scaled-requires c =
    let d = c.digits_from-whole in
    let e = c.fraction_from-all in
    fraction-fits c.args.places c.args.bytes.now c.after_minus-first.result d.result.1 c.requires.places c.after_minus-first.ensures.sign (omega (arith, d.ensures.from, c.if-point-first.false)) (search rules) d.ensures.digits
    e.result.1 e.result.0 c.ten_to.result (omega (arith, e.ensures.from)) (search rules) e.ensures.digits c.if-after-places.false
    (e.ensures.value ∙ ap (λ n. digits_value_after 10 n (slice_range c.args.bytes.now (d.result.1 + 1) e.result.1)) d.ensures.value) c.ten_to.ensures (omega (arith, c.if-point-first-gt-MOST_DIGITS.false))

pub scaled-requires-2 : goal.scaled-requires-2
scaled-requires-2 c =
    let d = c.digits_from-whole in
    whole-fits c.args.places c.args.bytes.now c.after_minus-first.result d.result.1 c.requires.places c.after_minus-first.ensures.sign (omega (arith, d.ensures.from, c.if-point-first.false)) (search rules) d.ensures.digits
    d.result.0 c.ten_to-2.result d.ensures.value c.ten_to-2.ensures (omega (arith, c.if-point-first-gt-MOST_DIGITS.false))

pub returns-then-bytes-point-eq46 : goal.returns-then-bytes-point-eq46
returns-then-bytes-point-eq46 c =
    let d = c.digits_from-whole in
    let e = c.fraction_from-all in
    held c.args.places c.args.bytes.now e.result.1 c.in_ok-units.units
    (fraction-units c.args.places c.args.bytes.now c.after_minus-first.result d.result.1 c.requires.places c.after_minus-first.ensures.sign (omega (arith, d.ensures.from, c.if-point-first.false)) (search rules) d.ensures.digits
    e.result.1 (omega (arith, e.ensures.from)) (search rules) c.if-bytes-point-eq46.true e.ensures.digits c.if-after-places.false c.if-is_of_run.ensures e.result.0 c.ten_to.result _
    (e.ensures.value ∙ ap (λ n. digits_value_after 10 n (slice_range c.args.bytes.now (d.result.1 + 1) e.result.1)) d.ensures.value) c.ten_to.ensures c.in_ok-units.ensures.fits c.in_ok-units.ensures.is)

pub returns : goal.returns
returns c =
    let d = c.digits_from-whole in
    held c.args.places c.args.bytes.now d.result.1 c.in_ok-units-2.units
    (whole-units c.args.places c.args.bytes.now c.after_minus-first.result d.result.1 c.requires.places c.after_minus-first.ensures.sign (omega (arith, d.ensures.from, c.if-point-first.false)) (search rules) d.ensures.digits
    d.result.0 c.ten_to-2.result _ d.ensures.value c.ten_to-2.ensures c.in_ok-units-2.ensures.fits c.in_ok-units-2.ensures.is c.if-is_of_run-2.ensures)
