use Rattle.std.proofs.Common.{◌≡◌, ◌+◌, ◌++◌, ap, ◌∙◌, true, false, take, drop, min, length}
use Rattle.std.specs.Str.Parse.{without_leading_sign, starts_with_minus, digits_value}
use Rattle.wkt_num.specs.Whole.{is_numeral}
use Rattle.wkt_num.specs.WholeLaws.{numeral_from}
use Rattle.wkt_dialects.proofs.Scaled.{same_without, no-exponent, no-digits, are-parts}
use Rattle.wkt_dialects.proofs.exponents.parts_of.Goals as goal

pub returns-in_default : goal.returns-in_default
returns-in_default c = same_without c.args.number.now c.in_default.ensures

pub returns-then-not-is_numeral : goal.returns-then-not-is_numeral
returns-then-not-is_numeral c =
    let bad : is_numeral c.unsigned-left.result.1.now ≡ false = cc in
    no-exponent c.args.number.now c.unsigned-left.result.1.now c.in-Some.e c.in-Some.ensures (c.unsigned-left.ensures.rest ∙ ap without_leading_sign c.rest-after.ensures) bad

pub returns-then-not-are_numeral : goal.returns-then-not-are_numeral
returns-then-not-are_numeral c =
    let bad : is_numeral (take c.point_in-point.result c.unsigned-negative.result.1.now ++ drop (c.point_in-point.result + 1) c.unsigned-negative.result.1.now) ≡ false = cc in
    no-digits c.args.number.now c.unsigned-negative.result.1.now c.in-Some.e c.point_in-point.result c.in-Some.ensures (c.unsigned-negative.ensures.rest ∙ ap without_leading_sign c.front-before.ensures) c.point_in-point.ensures bad

pub value_up_to-by-requires : goal.value_up_to-by-requires
value_up_to-by-requires c = let good : is_numeral c.unsigned-left.result.1.now ≡ true = cc in numeral_from c.unsigned-left.result.1.now good

pub returns : goal.returns
returns c =
    let x = c.unsigned-left.result.1.now in
    let numeral : is_numeral c.unsigned-left.result.1.now ≡ true = cc in
    let digits : is_numeral (c.front-whole.result.now ++ c.behind-fraction.result.now) ≡ true = cc in
    are-parts c.args.number.now c.unsigned-negative.result.1.now x c.in-Some.e c.point_in-point.result _ c.in-Some.ensures
    (c.unsigned-negative.ensures.minus ∙ ap starts_with_minus c.front-before.ensures)
    (c.unsigned-negative.ensures.rest ∙ ap without_leading_sign c.front-before.ensures)
    (c.unsigned-left.ensures.minus ∙ ap starts_with_minus c.rest-after.ensures)
    (c.unsigned-left.ensures.rest ∙ ap without_leading_sign c.rest-after.ensures)
    c.point_in-point.ensures c.front-whole.ensures c.behind-fraction.ensures numeral digits
    (c.value_up_to-by.ensures ∙ ap (λ l. min (digits_value 10 x) (length l + 40)) c.digits_of-digits.ensures)
