use Rattle.std.proofs.Common.{arith, ◌≡◌, true, ◌<◌, ◌+◌, ◌*◌, length}
use Rattle.std.specs.Char.{is_ascii_digit}
use Rattle.wkt_dialects.proofs.FrontSrid.{small-number, number-on, digit-some, digit-most}
use Rattle.wkt_dialects.proofs.srid.number_in.Goals as goal

pub overflow_mul-number : goal.overflow_mul-number
overflow_mul-number c = omega (arith, small-number c.digits.number c.digits.count c.digits.invariant.4 c.digits-test.true)

pub overflow_add-number : goal.overflow_add-number
overflow_add-number c =
    let digit : is_ascii_digit c.byte_at-byte.result ≡ true = cc in
    omega (arith, small-number c.digits.number c.digits.count c.digits.invariant.4 c.digits-test.true, digit-most c.byte_at-byte.result digit)

pub digits-preserved : goal.digits-preserved
digits-preserved c =
    let digit : is_ascii_digit c.byte_at-byte.result ≡ true = cc in
    let inside : c.digits.count < length c.args.bytes.now = omega (arith, c.byte_at-byte.ensures.some, digit-some c.byte_at-byte.result digit) in
    let n = number-on c.args.bytes.now c.digits.number c.digits.count c.byte_at-byte.result (c.digits.number * 10 + c.from.result) c.digits.invariant.2 c.digits.invariant.3 c.digits.invariant.4 inside c.byte_at-byte.ensures.value digit (omega arith) in
    (omega arith, n.inside, n.digits, n.value, n.small)
