-- Two-dimensional parts made of pairs of numbers.
use Rattle.std.specs.Prelude.{List, map, None}
use Rattle.wkt_access.specs.declared.dimensions.Dimension.TheVariants.{XY}
use Rattle.wkt_types.specs.Held.{Held}
use Rattle.wkt_types.specs.declared.coord.Coord.{Coord}

-- The coordinate of an x and a y.
abbrev pub coord_at : {T : Type 0} → T → T → Coord T
coord_at x y = record { x = x; y = y; z = None; m = None }

-- The line string through those places, in their order.
abbrev pub line_string_through : {T : Type 0} → List (T × T) → Held (Coord T)
line_string_through places = record { parts = map (λ p. coord_at p.0 p.1) places; dim = XY }
