-- The digits end where the bytes do.
use Rattle.std.proofs.Common.{◌≡◌, ap, ◌∙◌, subst, ℕ, length, slice_range, arith}
use Rattle.std.specs.Str.Parse.{AllDigits, digits_value}
use Rattle.std.proofs.Math.Nat.{pow-le-pow_right}
use Rattle.wkt_num.specs.DecimalLaws.{ten_pos}
use Rattle.wkt_num.proofs.fast.digits_of_all.Goals as goal

pub digits_from-digits-requires-clause-small : goal.digits_from-digits-requires-clause-small
digits_from-digits-requires-clause-small c = ten_pos c.args.first

pub returns : goal.returns
returns c =
    let d = c.digits_from-digits.ensures in
    let bs = c.args.bytes.now in
    let all : c.digits_from-digits.result.1 ≡ length bs = omega (arith, d.within c.requires.minus, c.if-end-bytes.false) in
    record {
      some = omega (arith, d.from, c.if-end-first.false, all);
      digits = subst (λ (n : ℕ). AllDigits 10 (slice_range bs c.args.first n)) all d.digits;
      value = d.value ∙ ap (λ (n : ℕ). digits_value 10 (slice_range bs c.args.first n)) all;
      small = omega (arith, d.small, all, pow-le-pow_right {n = 10} (omega arith) {i = c.digits_from-digits.result.1} {j = c.args.most} (omega (arith, all, c.if-bytes-most.false)));
    }
