use Rattle.std.proofs.Common.{◌≡◌, map, take}
use Rattle.wkt.specs.Literals.{coord_at}
use Rattle.wkt.proofs.literals.line_string.Given as goal

abbrev pub invariant-loop-place : goal.invariant-loop-place
invariant-loop-place g l = l.coords.items ≡ map (λ p. coord_at p.0 p.1) (take l.place-index l.places)
