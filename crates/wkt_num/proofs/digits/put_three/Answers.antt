-- One, two or three digits, by where the first of them is that isn't zero.
use Rattle.std.proofs.Common.{◌≡◌, ◌*◌, ◌/◌, ◌++◌, ℕ, drop, set, length, refl, arith, length-set}
use Rattle.std.specs.Fmt.{decimal}
use Rattle.wkt_num.proofs.Printed.{put-first, put-next, tenth, hundredth}
use Rattle.wkt_num.proofs.digits.put_three.Goals as goal

pub returns-then-tens-eq0-clause-value : goal.returns-then-tens-eq0-clause-value
returns-then-tens-eq0-clause-value c =
    let t = tenth c.args.n c.requires in
    put-first c.args.out.now _ 39 c.args.n _ (omega (arith, c.if-tens-eq0.true, t)) (omega (arith, c.told-out)) (omega (arith, c.digit_byte.ensures, c.if-tens-eq0.true)) refl

pub returns-then-hundreds-eq0-clause-value : goal.returns-then-hundreds-eq0-clause-value
returns-then-hundreds-eq0-clause-value c =
    let n = c.args.n in
    let out = c.args.out.now in
    let tens : ℕ = n * 6554 / 65536 in
    let hundreds : ℕ = tens * 205 / 2048 in
    let t : tens ≡ n / 10 = tenth n c.requires in
    let h : hundreds ≡ tens / 10 = hundredth tens (omega (arith, t, c.requires)) in
    let one = put-next out (decimal n ++ drop 40 out) 40 n c.digit_byte.result tens (omega (arith, c.if-tens-eq0.false, t)) c.requires (omega arith, omega (arith, c.told-out)) t (omega (arith, c.digit_byte.ensures, t)) refl in
    put-first (set out 39 c.digit_byte.result) _ 38 tens _ (omega (arith, h, c.if-hundreds-eq0.true)) (omega (arith, c.told-out, length-set out 39 c.digit_byte.result)) (omega (arith, c.digit_byte-2.ensures, c.if-hundreds-eq0.true)) one

pub returns-clause-value : goal.returns-clause-value
returns-clause-value c =
    let n = c.args.n in
    let out = c.args.out.now in
    let two = set out 39 c.digit_byte.result in
    let tens : ℕ = n * 6554 / 65536 in
    let hundreds : ℕ = tens * 205 / 2048 in
    let t : tens ≡ n / 10 = tenth n c.requires in
    let h : hundreds ≡ tens / 10 = hundredth tens (omega (arith, t, c.requires)) in
    let long : length two ≡ 80 = omega (arith, c.told-out, length-set out 39 c.digit_byte.result) in
    let one = put-next out (decimal n ++ drop 40 out) 40 n c.digit_byte.result tens (omega (arith, c.if-tens-eq0.false, t)) c.requires (omega arith, omega (arith, c.told-out)) t (omega (arith, c.digit_byte.ensures, t)) refl in
    let next = put-next two (decimal n ++ drop 40 out) 39 tens c.digit_byte-2.result hundreds (omega (arith, c.if-hundreds-eq0.false, h)) (omega (arith, t, c.requires)) (omega arith, omega (arith, long)) h (omega (arith, c.digit_byte-2.ensures, h)) one in
    put-first (set two 38 c.digit_byte-2.result) _ 37 hundreds _ (omega (arith, t, h, c.requires)) (omega (arith, long, length-set two 38 c.digit_byte-2.result)) c.digit_byte-3.ensures next
