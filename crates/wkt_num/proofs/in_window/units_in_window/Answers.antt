-- The units are those of the digits, which a window shows.
use Rattle.std.proofs.Common.{◌+◌, ◌*◌, ap₂, arith}
use Rattle.wkt_num.proofs.NumberInWindow.{part-small, all-small, windowed-whole, windowed-fraction}
use Rattle.wkt_num.proofs.in_window.units_in_window.Goals as goal

pub returns-then-bytes-point-ne46-clause-reads : goal.returns-then-bytes-point-ne46-clause-reads
returns-then-bytes-point-ne46-clause-reads c =
    let p = c.in-Some.ensures.some in
    windowed-whole c.args.places c.args.bytes.now c.after_minus-first.result c.in-Some.point c.eight_from-whole.result c.ten_to.result c.if-places-gt-SHORT_PLACES.false c.after_minus-first.ensures.sign (omega (arith, p.order, c.if-point-first.false)) c.if-point-first-gt-MOST_WHOLE.false (omega (arith, p.within, c.requires)) p.digits c.eight_from-whole.ensures.value c.ten_to.ensures
    _ c.with_sign.result (ap₂ (λ n k. n * k) c.from.ensures c.from-then-bytes-point-ne46.ensures) c.with_sign.ensures c.if-is_of_run.ensures

pub overflow_mul-fraction : goal.overflow_mul-fraction
overflow_mul-fraction c =
    let p = c.in-Some.ensures.some in
    let e = c.in-Some-first_other.ensures.some in
    record {
      fits = omega (
        arith,
        part-small c.args.places c.args.bytes.now c.after_minus-first.result c.in-Some.point c.eight_from-whole.result c.ten_to-2.result c.if-places-gt-SHORT_PLACES.false c.after_minus-first.ensures.sign (omega (arith, p.order, c.if-point-first.false)) c.if-point-first-gt-MOST_WHOLE.false (omega (arith, p.within, c.requires)) p.digits c.eight_from-whole.ensures.value c.ten_to-2.ensures
            c.in-Some-first_other.end c.sixteen_from-fraction.result c.ten_to-3.result (omega (arith, e.order)) (omega (arith, e.within, c.requires)) e.digits c.if-after-places.false c.sixteen_from-fraction.ensures.value c.ten_to-3.ensures,
      );
    }

pub overflow_add-units : goal.overflow_add-units
overflow_add-units c =
    let p = c.in-Some.ensures.some in
    let e = c.in-Some-first_other.ensures.some in
    record {
      fits = omega (
        arith,
        all-small c.args.places c.args.bytes.now c.after_minus-first.result c.in-Some.point c.eight_from-whole.result c.ten_to-2.result c.if-places-gt-SHORT_PLACES.false c.after_minus-first.ensures.sign (omega (arith, p.order, c.if-point-first.false)) c.if-point-first-gt-MOST_WHOLE.false (omega (arith, p.within, c.requires)) p.digits c.eight_from-whole.ensures.value c.ten_to-2.ensures
            c.in-Some-first_other.end c.sixteen_from-fraction.result c.ten_to-3.result (omega (arith, e.order)) (omega (arith, e.within, c.requires)) e.digits c.if-after-places.false c.sixteen_from-fraction.ensures.value c.ten_to-3.ensures
            _ (ap₂ (λ n k. n + k) (ap₂ (λ n k. n * k) c.from-2.ensures c.from-3.ensures) c.from-4.ensures),
      );
    }

pub with_sign-requires-2 : goal.with_sign-requires-2
with_sign-requires-2 c =
    let p = c.in-Some.ensures.some in
    let e = c.in-Some-first_other.ensures.some in
    all-small c.args.places c.args.bytes.now c.after_minus-first.result c.in-Some.point c.eight_from-whole.result c.ten_to-2.result c.if-places-gt-SHORT_PLACES.false c.after_minus-first.ensures.sign (omega (arith, p.order, c.if-point-first.false)) c.if-point-first-gt-MOST_WHOLE.false (omega (arith, p.within, c.requires)) p.digits c.eight_from-whole.ensures.value c.ten_to-2.ensures
    c.in-Some-first_other.end c.sixteen_from-fraction.result c.ten_to-3.result (omega (arith, e.order)) (omega (arith, e.within, c.requires)) e.digits c.if-after-places.false c.sixteen_from-fraction.ensures.value c.ten_to-3.ensures
    _ (ap₂ (λ n k. n + k) (ap₂ (λ n k. n * k) c.from-2.ensures c.from-3.ensures) c.from-4.ensures)

pub returns-clause-reads : goal.returns-clause-reads
returns-clause-reads c =
    let p = c.in-Some.ensures.some in
    let e = c.in-Some-first_other.ensures.some in
    windowed-fraction c.args.places c.args.bytes.now c.after_minus-first.result c.in-Some.point c.eight_from-whole.result c.ten_to-2.result c.if-places-gt-SHORT_PLACES.false c.after_minus-first.ensures.sign (omega (arith, p.order, c.if-point-first.false)) c.if-point-first-gt-MOST_WHOLE.false (omega (arith, p.within, c.requires)) p.digits c.eight_from-whole.ensures.value c.ten_to-2.ensures
    c.in-Some-first_other.end c.sixteen_from-fraction.result c.ten_to-3.result (omega (arith, e.order)) (omega (arith, e.within, c.requires)) e.digits c.if-after-places.false c.sixteen_from-fraction.ensures.value c.ten_to-3.ensures
    _ c.with_sign-2.result (ap₂ (λ n k. n + k) (ap₂ (λ n k. n * k) c.from-2.ensures c.from-3.ensures) c.from-4.ensures) c.with_sign-2.ensures c.if-bytes-point-ne46.false c.if-is_of_run-2.ensures
