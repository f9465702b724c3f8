-- Shifting by the places and dividing by the power of five splits as dividing by the power of ten does.
use Rattle.std.proofs.Common.{◌/◌, ◌^◌, ◌∙◌, ap, arith}
use Rattle.std.proofs.Math.Nat.{one-le-pow, mod-lt, pow-le-pow_right}
use Rattle.wkt_num.specs.DecimalLaws.{ten_pos}
use Rattle.wkt_num.proofs.Printed.{whole-is, fraction-is}
use Rattle.wkt_num.proofs.printing.split_short.Goals as goal

pub nonzero_div-whole : goal.nonzero_div-whole
nonzero_div-whole c = omega (arith, c.five_to.ensures, one-le-pow c.args.places 5 (omega arith))

pub returns-clause-whole : goal.returns-clause-whole
returns-clause-whole c = ap (λ p. c.args.units / 2 ^ c.args.places / p) c.five_to.ensures ∙ whole-is c.args.units c.args.places

pub overflow_sub-fraction : goal.overflow_sub-fraction
overflow_sub-fraction c =
    (fraction-is c.args.units c.args.places _ _ (c.from.ensures ∙ ap (λ p. c.args.units / 2 ^ c.args.places / p) c.five_to.ensures ∙ whole-is c.args.units c.args.places) (c.from-2.ensures ∙ c.ten_to.ensures)).0

pub overflow_cast-result : goal.overflow_cast-result
overflow_cast-result c =
    let is = (fraction-is c.args.units c.args.places _ _ (c.from.ensures ∙ ap (λ p. c.args.units / 2 ^ c.args.places / p) c.five_to.ensures ∙ whole-is c.args.units c.args.places) (c.from-2.ensures ∙ c.ten_to.ensures)).1 in
    record { fits = omega (arith, is, mod-lt c.args.units (ten_pos c.args.places), pow-le-pow_right {n = 10} (omega arith) {i = c.args.places} {j = 18} c.requires.few) }

pub returns-clause-fraction : goal.returns-clause-fraction
returns-clause-fraction c =
    (fraction-is c.args.units c.args.places _ _ (c.from.ensures ∙ ap (λ p. c.args.units / 2 ^ c.args.places / p) c.five_to.ensures ∙ whole-is c.args.units c.args.places) (c.from-2.ensures ∙ c.ten_to.ensures)).1
