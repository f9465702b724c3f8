-- The fraction, padded to eighteen places, stands behind the point, and its last zeros are cut.
use Rattle.std.proofs.Common.{◌∙◌, ◌++◌, ◌*◌, ◌/◌, ◌≤◌, ◌≡◌, length, take, refl, ap, arith}
use Rattle.wkt_num.proofs.Printed.{length-padded}
use Rattle.wkt_num.proofs.EighteenPlaces.{small, scaled, put, all, whole-ends, whole-long, copied, copied-there, copied-long}
use Rattle.wkt_num.proofs.printing.put_short.Goals as goal

pub overflow_mul-all : goal.overflow_mul-all
overflow_mul-all c = record { fits = omega (arith, small c.args.places c.args.fraction _ c.requires.few c.requires.less c.requires.some c.ten_to.ensures) }

pub sixteen-digits-requires : goal.sixteen-digits-requires
sixteen-digits-requires c = omega (arith, small c.args.places c.args.fraction _ c.requires.few c.requires.less c.requires.some c.ten_to.ensures)

pub eight-digits-requires : goal.eight-digits-requires
eight-digits-requires c = omega (arith, small c.args.places c.args.fraction _ c.requires.few c.requires.less c.requires.some c.ten_to.ensures)

pub overflow_mul-high : goal.overflow_mul-high
overflow_mul-high c = record { fits = omega (arith, small c.args.places c.args.fraction _ c.requires.few c.requires.less c.requires.some c.ten_to.ensures) }

pub returns-then-high-all-clause-value : goal.returns-then-high-all-clause-value
returns-then-high-all-clause-value c =
    let less = small c.args.places c.args.fraction _ c.requires.few c.requires.less c.requires.some c.ten_to.ensures in
    put c.args.places c.args.fraction _ c.requires.few c.requires.less c.requires.some c.ten_to.ensures 8 10 _ _ c.args.out.now _ (omega arith) refl (omega (arith, less)) c.if-high-all.true c.told-out c.eight-digits.ensures c.zeros_after_eight.ensures

pub returns-then-last-eq0-clause-value : goal.returns-then-last-eq0-clause-value
returns-then-last-eq0-clause-value c =
    let less = small c.args.places c.args.fraction _ c.requires.few c.requires.less c.requires.some c.ten_to.ensures in
    put c.args.places c.args.fraction _ c.requires.few c.requires.less c.requires.some c.ten_to.ensures 16 2 (c.args.fraction * c.ten_to.result / 100) _ c.args.out.now _ (omega arith) refl (omega (arith, less)) (omega (arith, c.if-last-eq0.true)) c.told-out c.sixteen-digits.ensures c.zeros_after.ensures

pub returns-clause-value : goal.returns-clause-value
returns-clause-value c =
    let old = c.args.out.now in
    let lanes = c.sixteen-digits.result in
    let sixteen : length lanes ≡ 16 = ap length c.sixteen-digits.ensures ∙ length-padded 16 (c.args.fraction * c.ten_to.result / 100) in
    let inside : 59 ≤ length (copied 16 old lanes) = omega (arith, copied-long 16 old lanes c.told-out) in
    let there = copied-there 16 old lanes (omega arith) c.told-out sixteen in
    c.without_zeros.ensures.value _ _
    (whole-ends c.args.places c.args.fraction c.ten_to.result c.requires.few c.requires.less c.requires.some c.ten_to.ensures (copied 16 old lanes) old lanes c.told-out inside there c.sixteen-digits.ensures)
    (whole-long c.args.places c.args.fraction c.ten_to.result c.requires.few c.requires.less c.requires.some c.ten_to.ensures (copied 16 old lanes) old lanes c.told-out inside there c.sixteen-digits.ensures)
    (all c.args.places c.args.fraction c.ten_to.result c.requires.few c.requires.less c.requires.some c.ten_to.ensures (copied 16 old lanes) old lanes c.told-out inside there c.sixteen-digits.ensures)
    ∙ ap (λ l. take 41 old ++ l) (scaled c.args.places c.args.fraction c.ten_to.result c.requires.few c.requires.less c.requires.some c.ten_to.ensures)
