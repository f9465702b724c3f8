-- What a geometry holds: the numbers and the dimension of a coordinate, and lists under a header.
use Rattle.std.specs.Prelude.{List, ◌∷◌, ◌++◌, Option, Some, None, option_to_list, ◌≡◌, [], MatchOption}
use Rattle.wkt_access.specs.declared.dimensions.Dimension.{Dimension}
use Rattle.wkt_access.specs.declared.dimensions.Dimension.TheVariants.{XY, XYZ, XYM, XYZM}
use Rattle.wkt_types.specs.declared.coord.Coord.{Coord}

-- The numbers and the dimension of a coordinate.

-- The dimension by which of z and m are there.
abbrev pub dim_by : {T : Type 0} → Option T → Option T → Dimension
dim_by None None = XY
dim_by (Some z) None = XYZ
dim_by None (Some m) = XYM
dim_by (Some z) (Some m) = XYZM

-- The dimension of a coordinate.
abbrev pub coord_dim : {T : Type 0} → Coord T → Dimension
coord_dim c = dim_by c.z c.m

-- The numbers of a coordinate: x, y, then z if it is there, then m if it is there.
abbrev pub numbers_of : {T : Type 0} → Coord T → List T
numbers_of c = c.x ∷ c.y ∷ (option_to_list c.z ++ option_to_list c.m)

-- What a geometry holds.

-- Parts in order, and the dimension of the header.
pub record Held (X : Type 0) : Type 0 where
  pub parts : List X
  pub dim : Dimension

-- A list and a dimension together.
abbrev pub held : {X : Type 0} → List X → Dimension → Held X
held xs d = record { parts = xs; dim = d }

-- A point holds one coordinate or none.
pub record HeldPoint (C : Type 0) : Type 0 where
  pub coord : Option C
  pub dim : Dimension

-- The dimension of the first member of a list.
abbrev pub first_dim : {X : Type 0} → (X → Dimension) → List X → Option Dimension
first_dim f [] = None
first_dim f (x ∷ xs) = Some (f x)

-- What is made of a list of parts: nothing of an empty one, and else those parts, with the first one's dimension.
abbrev pub IsMadeOf : {X : Type 0} → (X → Dimension) → List X → Option (Held X) → Type 0
IsMadeOf f xs o = MatchOption o (xs ≡ []) (λ h. (h.parts ≡ xs) × (Some h.dim ≡ first_dim f xs))
