-- What the law of flat values and their texts says; `laws` proves it.
use Rattle.std.specs.Prelude.{◌≡◌, ◌↔◌, ℕ, Bool, false, List, Option, map}
use Rattle.std.specs.Ordering.{is_gt}
use Rattle.std.specs.declared.cmp.Ordering.{Ordering}
use Rattle.wkt_access.specs.WellFormed.{IsLawful}
use Rattle.wkt_access.specs.Texts.{shape_text}
use Rattle.wkt_flat.specs.Tree.{HasClosedRings, Flat, flat_tree, flat_members}
use Rattle.wkt_flat.specs.Rings.{corners_of}
use Rattle.wkt_flat.specs.Equal.{coord_eq}
use Rattle.wkt_flat.specs.Shape.{flat_shape}
use Rattle.wkt_flat.specs.declared.coord.Coord.{Coord}
use Rattle.wkt_flat.specs.declared.geometry.Geometry.{Geometry}
use Rattle.wkt_types.specs.Tree.{tree, members}
use Rattle.wkt_types.specs.declared.geometry.Wkt.{Wkt}
use Rattle.wkt_types.specs.Outcome.{Outcome, value}
use Rattle.wkt_read.specs.Answered.{IsFront}
use Rattle.wkt_convert.specs.Flatten.{flat}
use Rattle.wkt_convert.specs.Back.{back}
use Rattle.wkt_convert.specs.Laws.{IsPlain}
use Rattle.wkt.specs.FromText.{FrontGives}

-- The text of a plain value is answered with that value, and with nothing else.
abbrev pub FlatReadsBack : {T : Type 0} → (T → Type 0) → (T → List ℕ) → (List ℕ → Option T) → (T → T → Bool) → Flat T → Type 0
FlatReadsBack {T} is_value num read E t =
    IsPlain t → IsLawful is_value (flat_shape t) → (o : Outcome (Flat T))
    → FrontGives read (flat (coord_eq E)) (shape_text num (flat_shape t)) o ↔ (o ≡ value t)

-- Each tree whose rings are closed is read back from its text, if it is plain.
abbrev pub PlainReadsBack : {T : Type 0} → (T → Type 0) → (T → List ℕ) → (List ℕ → Option T) → (T → T → Bool) → Type 0
PlainReadsBack {T} is_value num read E = (t : Flat T) → HasClosedRings t → FlatReadsBack is_value num read E t

-- The text of each tree, if its numbers are values, is read as the `Wkt` that the tree is turned into.
abbrev pub BackIsRead : {T : Type 0} → (T → Type 0) → (T → List ℕ) → (List ℕ → Option T) → Type 0
BackIsRead {T} is_value num read =
    (t : Flat T) → IsLawful is_value (flat_shape t) → IsFront read (shape_text num (flat_shape t)) (back t)

-- By this order x is not above y.
abbrev pub IsAtMost : {N : Type 0} → (N → N → Ordering) → N → N → Type 0
IsAtMost cmp x y = is_gt (cmp x y) ≡ false

-- Of the corners that a rectangle is made of, the least has on each axis a number that is at most that of the greatest.
abbrev pub CornersAreInOrder : {T : Type 0} → (T → T → Ordering) → (T → T → Option Ordering) → Type 0
CornersAreInOrder {T} cmp compare =
    (c d : Coord T)
    → IsAtMost cmp (corners_of compare c d).min.x (corners_of compare c d).max.x
    × IsAtMost cmp (corners_of compare c d).min.y (corners_of compare c d).max.y

-- Lists that are the members of one collection hold the same geometries in order, of either family of types.
abbrev pub MembersAreListed : Type 0 → Type 0
MembersAreListed T =
    ((ws vs : List (Wkt T)) → members ws ≡ members vs → map tree ws ≡ map tree vs)
    × ((gs hs : List (Geometry T)) → flat_members gs ≡ flat_members hs → map flat_tree gs ≡ map flat_tree hs)
