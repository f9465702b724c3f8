-- The digits end where a run does.
use Rattle.std.proofs.Common.{ap, ◌+◌, ◌-◌, ℕ, slice_range, ◌∙◌, arith}
use Rattle.std.specs.Str.Parse.{digits_value}
use Rattle.std.proofs.Math.Nat.{pow-le-pow_right}
use Rattle.wkt_num.proofs.in_window.digits_in_window.Goals as goal

pub returns : goal.returns
returns c =
    let e = c.in-Some.ensures.some in
    record {
      some = omega (arith, e.order, c.if-end-first.false);
      within = e.within;
      digits = e.digits;
      value = c.sixteen_from.ensures.value ∙ ap (λ (n : ℕ). digits_value 10 (slice_range c.args.bytes.now c.args.first n)) {x = c.args.first + (c.in-Some.end - c.args.first)} {y = c.in-Some.end} (omega (arith, e.order));
      small = omega (arith, c.sixteen_from.ensures.small, pow-le-pow_right {n = 10} (omega arith) {i = c.in-Some.end - c.args.first} {j = c.args.most} c.if-end-first-2.false);
      stops = c.if-is_of_run.ensures;
    }
