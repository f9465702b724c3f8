-- A number of 64 bits is one of 128 bits.
use Rattle.std.proofs.Common.{◌≡◌, rules, sym, subst, refl, pos, [], ◌∷◌, get_or, to_z, of_z}
use Rattle.std.specs.Int.{w128}
use Rattle.wkt_machine.specs.Events.{Event}
use Rattle.wkt_machine.specs.Room.{Leaves}
use Rattle.wkt_fill.proofs.Owing.{tells-one}
use Rattle.wkt_fill.proofs.telling.number.Goals as goal

pub number-requires : goal.number-requires
number-requires g c =
    let is : to_z w128 (of_z w128 c.from.result) ≡ get_or c.args.numbers.now c.args.index (pos 0) = search rules in
    record { room = subst (λ x. g.B.Builder.maker.fits c.args.builder (g.B.Builder.maker.takes c.args.builder x)) (sym is) c.requires.room }

pub returns : goal.returns
returns g c =
    let number = get_or c.args.numbers.now c.args.index (pos 0) in
    let is : to_z w128 (of_z w128 c.from.result) ≡ number = search rules in
    let b = c.args.builder in
    let made = c.number.result in
    tells-one g.B.Builder.maker b made (Event.Number c.args.axis number) (g.B.Builder.maker.takes b number) refl
    (subst (λ x. g.B.Builder.maker.makes b (Event.Number c.args.axis x ∷ []) made) is c.number.ensures.makes)
    (subst (λ x. Leaves g.B.Builder.maker b (g.B.Builder.maker.takes b x) made) is c.number.ensures.leaves)
