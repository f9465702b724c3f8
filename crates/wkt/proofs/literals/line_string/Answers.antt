-- The line string has all given coordinates, in order.
use Rattle.std.proofs.Common.{ap, ap₂, ◌∙◌, List, map}
use Rattle.std.proofs.lemmas.List.{take_all}
use Rattle.wkt_access.specs.declared.dimensions.Dimension.{Dimension}
use Rattle.wkt_types.specs.Held.{Held}
use Rattle.wkt_types.specs.declared.coord.Coord.{Coord}
use Rattle.wkt.specs.Literals.{coord_at}
use Rattle.wkt.proofs.literals.line_string.Goals as goal

pub returns : goal.returns
returns g c =
    let make : List (Coord g.row.T.Denot) → Dimension → Held (Coord g.row.T.Denot) = λ parts dim. record { parts = parts; dim = dim } in
    let all = c.loop-place.invariant ∙ ap (map (λ p. coord_at p.0 p.1)) (take_all c.loop-place.place-index c.args.places.now c.loop-place-test.false) in
    ap₂ make (c.new.ensures.coords ∙ all) c.new.ensures.dim
