-- What the laws of flat values and their `Wkt` say; `laws` proves each.
use Rattle.std.specs.Prelude.{◌≡◌, None, Bool, List, [], ◌∷◌}
use Rattle.std.specs.List.{AllByRecursion}
use Rattle.wkt_flat.specs.Tree.{HasClosedRings, Flat, Flats}
use Rattle.wkt_flat.specs.Equal.{coord_eq}
use Rattle.wkt_flat.specs.Shape.{flat_shape}
use Rattle.wkt_types.specs.Outcome.{value}
use Rattle.wkt_types.specs.Values.{tree_shape}
use Rattle.wkt_access.specs.Faults.{fault}
use Rattle.wkt_access.specs.Shapes.{canon}
use Rattle.wkt_convert.specs.Back.{back}
use Rattle.wkt_convert.specs.Flatten.{flat}

-- A flat value and its `Wkt` are written as one value, and both can be written.
abbrev pub FlatAndBack : Type 0 → Type 0
FlatAndBack T = (t : Flat T) → (canon (flat_shape t) ≡ canon (tree_shape (back t))) × (fault (flat_shape t) ≡ None) × (fault (tree_shape (back t)) ≡ None)

-- A polygon with an empty exterior has no interiors.
abbrev pub IsPlainPolygon : {C : Type 0} → List C → List (List C) → Type 0
IsPlainPolygon [] interiors = interiors ≡ []
IsPlainPolygon (c ∷ cs) interiors = Unit {0}

-- A flat value that nowhere holds a line, a rectangle or a triangle, and whose polygons are such.
abbrev mutual
  pub IsPlain : {T : Type 0} → Flat T → Type 0
  IsPlain (Flat.point p) = Unit {0}
  IsPlain (Flat.line l) = ⊥
  IsPlain (Flat.line_string l) = Unit {0}
  IsPlain (Flat.polygon y) = IsPlainPolygon y.exterior y.interiors
  IsPlain (Flat.multi_point m) = Unit {0}
  IsPlain (Flat.multi_line_string m) = Unit {0}
  IsPlain (Flat.multi_polygon ys) = AllByRecursion (λ y. IsPlainPolygon y.exterior y.interiors) ys
  IsPlain (Flat.collection ts) = ArePlain ts
  IsPlain (Flat.rect r) = ⊥
  IsPlain (Flat.triangle t) = ⊥

  -- Each member of a collection is plain.
  pub ArePlain : {T : Type 0} → Flats T → Type 0
  ArePlain Flats.no_flats = Unit {0}
  ArePlain (Flats.more_flats t ts) = IsPlain t × ArePlain ts

-- A plain value comes back from its `Wkt`.
abbrev pub ComesBack : {T : Type 0} → (T → T → Bool) → Flat T → Type 0
ComesBack E t = IsPlain t → flat (coord_eq E) (back t) ≡ value t

-- Each tree whose rings are closed comes back from its `Wkt`, if it is plain.
abbrev pub PlainComesBack : {T : Type 0} → (T → T → Bool) → Type 0
PlainComesBack {T} E = (t : Flat T) → HasClosedRings t → ComesBack E t
