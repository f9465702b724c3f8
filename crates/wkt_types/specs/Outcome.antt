-- What a conversion to a flat value answers, and that value of a coordinate and of a point: z, m and the dimension are
-- dropped.
use Rattle.std.specs.Prelude.{◌≡◌, ℕ, List, Result, Ok, Err, Option, Some, None}
use Rattle.wkt_types.specs.declared.convert.ConvertError.{ConvertError}
use Rattle.wkt_types.specs.declared.convert.ConvertError.TheVariants.{PointConversionError, MismatchedGeometry, WrongNumberOfGeometries, InvalidWKT, Reader, Utf8, Memory}
use Rattle.wkt_types.specs.declared.coord.Coord.{Coord}
use Rattle.wkt_flat.specs.declared.coord.Coord as flat_coord
use Rattle.wkt_flat.specs.declared.point.Point as flat_point

-- What a conversion to a flat value answers.

-- Why there is no flat value: an empty point, or another kind (expected, found) than was asked for.
pub data Fault : Type 0 where
  empty_point : Fault
  mismatched : List ℕ → List ℕ → Fault

-- A flat value, or an error by name.
pub data Outcome (X : Type 0) : Type 0 where
  value : X → Outcome X
  refused : Fault → Outcome X

-- The answer is this outcome, or memory was lacking; `see` is what the answer holds.
abbrev pub Answers : {X R : Type 0} → (R → X) → Outcome X → Result R ConvertError → Type 0
Answers see o (Ok r) = o ≡ value (see r)
Answers see o (Err PointConversionError) = o ≡ refused empty_point
Answers see o (Err (MismatchedGeometry e f)) = o ≡ refused (mismatched e.now f.now)
Answers see o (Err (WrongNumberOfGeometries n)) = ⊥
Answers see o (Err (InvalidWKT m)) = ⊥
Answers see o (Err (Reader e)) = ⊥
Answers see o (Err Utf8) = ⊥
Answers see o (Err (Memory e)) = Unit {0}

-- The flat value of a coordinate and of a point: z, m and the dimension are dropped.

-- x and y of a coordinate.
abbrev pub xy : {T : Type 0} → Coord T → flat_coord.Coord T
xy c = record { x = c.x; y = c.y }

-- The point at a coordinate's x and y.
abbrev pub xy_point : {T : Type 0} → Coord T → flat_point.Point T
xy_point c = record { 0 = xy c }

-- A flat point has a coordinate, so an empty point is an error.
abbrev pub point_or_fault : {T : Type 0} → Option (Coord T) → Outcome (flat_point.Point T)
point_or_fault None = refused empty_point
point_or_fault (Some c) = value (xy_point c)
