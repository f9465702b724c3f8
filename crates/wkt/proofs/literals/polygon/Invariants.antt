-- The rings so far have the given coordinates, in order.
use Rattle.std.proofs.Common.{◌≡◌, map, take}
use Rattle.wkt.specs.Literals.{line_string_through}
use Rattle.wkt.proofs.literals.polygon.Given as goal

abbrev pub invariant-loop-ring : goal.invariant-loop-ring
invariant-loop-ring g l = l.all.items ≡ map (λ r. line_string_through r.now) (take l.ring-index l.rings)
