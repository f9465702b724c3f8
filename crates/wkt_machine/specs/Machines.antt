-- The place at which a machine is.
use Rattle.std.specs.Prelude.{ℕ, ◌-◌, Bool, true, false, Option, Some, None}
use Rattle.wkt_access.specs.declared.dimensions.Dimension.{Dimension}
use Rattle.wkt_access.specs.declared.dimensions.Dimension.TheVariants.{XY, XYZ, XYM, XYZM}
use Rattle.wkt_machine.specs.Machine.{at, numbers_after, Place, State}
use Rattle.wkt_machine.specs.Machine as place
use Rattle.wkt_machine.specs.declared.machine.Machine.{Machine}
use Rattle.wkt_machine.specs.declared.machine.State.{State as Next}
use Rattle.wkt_machine.specs.declared.machine.State.TheVariants as next
use Rattle.wkt_machine.specs.declared.part.Axis.{Axis}
use Rattle.wkt_machine.specs.declared.part.Axis.TheVariants as axis
use Rattle.wkt_machine.specs.declared.part.Part.{Part}
use Rattle.wkt_machine.specs.declared.part.Part.TheVariants as part

-- how many numbers stand after the third that is no measure
abbrev pub after_third : Dimension → ℕ
after_third XYZM = 1
after_third d = 0

abbrev pub place_of : Next → Part → Dimension → Place
place_of next.Kind p d = place.Kind
place_of next.Dimension p d = place.Alone p
place_of next.Opening p d = place.Opening p d
place_of (next.Number axis.X) p d = place.Number p d (numbers_after d)
place_of (next.Number axis.Y) p d = place.Number p d (numbers_after d - 1)
place_of (next.Number axis.Z) p d = place.Number p d (after_third d)
place_of (next.Number axis.M) p d = place.Number p d 0
place_of next.Item p d = place.Item p d
place_of next.Geometry p d = place.Geometry

abbrev pub state_of : Machine → State
state_of m = at m.depth (place_of m.state m.part m.dim)

-- A dimension has the number that comes next.
abbrev pub HasNext : Next → Dimension → Type 0
HasNext (next.Number axis.Z) XY = ⊥
HasNext (next.Number axis.Z) XYM = ⊥
HasNext (next.Number axis.M) XY = ⊥
HasNext (next.Number axis.M) XYZ = ⊥
HasNext s d = Unit {0}

abbrev pub IsSound : Machine → Type 0
IsSound m = HasNext m.state m.dim

-- the number that comes after a number
abbrev pub number_after : Axis → Dimension → Option Axis
number_after axis.X d = Some axis.Y
number_after axis.Y XYZ = Some axis.Z
number_after axis.Y XYZM = Some axis.Z
number_after axis.Y XYM = Some axis.M
number_after axis.Z XYZM = Some axis.M
number_after a d = None

-- what comes after a number
abbrev number_next : Option Axis → Next
number_next (Some a) = next.Number a
number_next None = next.Item

abbrev pub next_after : Axis → Dimension → Next
next_after a d = number_next (number_after a d)

-- whether a part has one coordinate alone
abbrev pub is_single : Part → Bool
is_single part.Point = true
is_single part.Member = true
is_single p = false

-- whether it is a point of a multipoint
abbrev pub is_member : Part → Bool
is_member part.Member = true
is_member p = false
