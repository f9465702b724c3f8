-- Two eights of digits are the number padded to sixteen.
use Rattle.std.proofs.Common.{◌∙◌, ◌++◌, ◌/◌, ◌%◌, sym, refl, ap₂, arith, append_assoc}
use Rattle.wkt_num.specs.Decimal.{padded}
use Rattle.wkt_num.proofs.EighteenPlaces.{padded-two}
use Rattle.wkt_num.proofs.printing.sixteen.Goals as goal

pub returns : goal.returns
returns c =
    let front = c.args.n / 100000000 in
    let back = c.args.n % 100000000 in
    c.four_fours.ensures
    ∙ sym (append_assoc (padded 4 (front / 10000)) (padded 4 (front % 10000)) _)
    ∙ sym (ap₂ (λ x y. x ++ y) (padded-two 4 4 8 front refl (omega (arith, c.requires))) (padded-two 4 4 8 back refl (omega arith)))
    ∙ sym (padded-two 8 8 16 c.args.n refl c.requires)
