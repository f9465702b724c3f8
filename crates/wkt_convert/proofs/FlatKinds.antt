-- What is no geometry of a kind, and the tree of a `Wkt` of a kind whose value is made or taken apart here.
use Rattle.std.proofs.Common.{◌≡◌, ap, subst, Option, None, sym, ◌∙◌}
use Rattle.wkt_flat.specs.Tree.{Flat, Flats, flat_tree, geometry_step, flats_step}
use Rattle.wkt_flat.specs.declared.geometry.Geometry.{Geometry, out-Geometry, roll-Geometry}
use Rattle.wkt_flat.specs.declared.geometry.GeometryCollection.{GeometryCollection}
use Rattle.wkt_flat.specs.declared.geometry.Geometry.TheOpen.{Geometry-F}
use Rattle.wkt_convert.specs.Kinds.{point_in, line_in, line_string_in, rings_in, points_in, line_strings_in, polygons_in, corners_in, triangle_in}
use Rattle.wkt_flat.specs.declared.geometry.Geometry.TheVariants as variants
use Rattle.wkt_flat.specs.declared.geometry.Geometry.TheViews as views
use Rattle.wkt_flat.specs.declared.geometry.Geometry.TheFolds as folds
use Rattle.wkt_types.specs.Tree.{point, line_string, multi_point, Tree, tree, wkt_step, collection_step}
use Rattle.wkt_types.specs.Held.{Held, HeldPoint}
use Rattle.wkt_types.specs.declared.coord.Coord.{Coord}
use Rattle.wkt_types.specs.declared.geometry.Wkt.TheVariants as of_wkt
use Rattle.wkt_types.specs.declared.geometry.Wkt.TheFolds as wkt_folds
use Rattle.wkt_types.specs.declared.geometry.Wkt.TheOpen as opened

-- What is no geometry of a kind.

-- one level of a geometry
abbrev pub Level : Type 0 → Type 0
Level T = Geometry-F T (Geometry T) (GeometryCollection T)

-- a geometry that isn't made by this variant has no content of its kind
abbrev pub HasNone : {T X Y : Type 0} → (X → Geometry T) → (Flat T → Option Y) → Geometry T → Type 0
HasNone {T} {X} make content g = ((x : X) → g ≡ make x → ⊥) → content (flat_tree g) ≡ None

at_each : {T X Y : Type 0} (make : X → Geometry T) (content : Flat T → Option Y) → ((f : Level T) → HasNone make content (roll-Geometry T f)) → (g : Geometry T) → HasNone make content g
at_each {T} make content at g = subst (λ (g : Geometry T). HasNone make content g) (views.roll-out-Geometry T g) (at (out-Geometry T g))

level_no_point : {T : Type 0} (f : Level T) → HasNone variants.Point point_in (roll-Geometry T f)
level_no_point (Geometry-F.Point x) h = absurd (h x (variants.rolls-Point x))
level_no_point {T} f h = ap point_in (folds.fold-roll-Geometry T (Flat T) (Flats T) geometry_step flats_step f)

pub no_point : {T : Type 0} (g : Geometry T) → HasNone variants.Point point_in g
no_point = at_each variants.Point point_in level_no_point

level_no_line : {T : Type 0} (f : Level T) → HasNone variants.Line line_in (roll-Geometry T f)
level_no_line (Geometry-F.Line x) h = absurd (h x (variants.rolls-Line x))
level_no_line {T} f h = ap line_in (folds.fold-roll-Geometry T (Flat T) (Flats T) geometry_step flats_step f)

pub no_line : {T : Type 0} (g : Geometry T) → HasNone variants.Line line_in g
no_line = at_each variants.Line line_in level_no_line

level_no_line_string : {T : Type 0} (f : Level T) → HasNone variants.LineString line_string_in (roll-Geometry T f)
level_no_line_string (Geometry-F.LineString x) h = absurd (h x (variants.rolls-LineString x))
level_no_line_string {T} f h = ap line_string_in (folds.fold-roll-Geometry T (Flat T) (Flats T) geometry_step flats_step f)

pub no_line_string : {T : Type 0} (g : Geometry T) → HasNone variants.LineString line_string_in g
no_line_string = at_each variants.LineString line_string_in level_no_line_string

level_no_rings : {T : Type 0} (f : Level T) → HasNone variants.Polygon rings_in (roll-Geometry T f)
level_no_rings (Geometry-F.Polygon x) h = absurd (h x (variants.rolls-Polygon x))
level_no_rings {T} f h = ap rings_in (folds.fold-roll-Geometry T (Flat T) (Flats T) geometry_step flats_step f)

pub no_rings : {T : Type 0} (g : Geometry T) → HasNone variants.Polygon rings_in g
no_rings = at_each variants.Polygon rings_in level_no_rings

level_no_points : {T : Type 0} (f : Level T) → HasNone variants.MultiPoint points_in (roll-Geometry T f)
level_no_points (Geometry-F.MultiPoint x) h = absurd (h x (variants.rolls-MultiPoint x))
level_no_points {T} f h = ap points_in (folds.fold-roll-Geometry T (Flat T) (Flats T) geometry_step flats_step f)

pub no_points : {T : Type 0} (g : Geometry T) → HasNone variants.MultiPoint points_in g
no_points = at_each variants.MultiPoint points_in level_no_points

level_no_line_strings : {T : Type 0} (f : Level T) → HasNone variants.MultiLineString line_strings_in (roll-Geometry T f)
level_no_line_strings (Geometry-F.MultiLineString x) h = absurd (h x (variants.rolls-MultiLineString x))
level_no_line_strings {T} f h = ap line_strings_in (folds.fold-roll-Geometry T (Flat T) (Flats T) geometry_step flats_step f)

pub no_line_strings : {T : Type 0} (g : Geometry T) → HasNone variants.MultiLineString line_strings_in g
no_line_strings = at_each variants.MultiLineString line_strings_in level_no_line_strings

level_no_polygons : {T : Type 0} (f : Level T) → HasNone variants.MultiPolygon polygons_in (roll-Geometry T f)
level_no_polygons (Geometry-F.MultiPolygon x) h = absurd (h x (variants.rolls-MultiPolygon x))
level_no_polygons {T} f h = ap polygons_in (folds.fold-roll-Geometry T (Flat T) (Flats T) geometry_step flats_step f)

pub no_polygons : {T : Type 0} (g : Geometry T) → HasNone variants.MultiPolygon polygons_in g
no_polygons = at_each variants.MultiPolygon polygons_in level_no_polygons

level_no_corners : {T : Type 0} (f : Level T) → HasNone variants.Rect corners_in (roll-Geometry T f)
level_no_corners (Geometry-F.Rect x) h = absurd (h x (variants.rolls-Rect x))
level_no_corners {T} f h = ap corners_in (folds.fold-roll-Geometry T (Flat T) (Flats T) geometry_step flats_step f)

pub no_corners : {T : Type 0} (g : Geometry T) → HasNone variants.Rect corners_in g
no_corners = at_each variants.Rect corners_in level_no_corners

level_no_triangle : {T : Type 0} (f : Level T) → HasNone variants.Triangle triangle_in (roll-Geometry T f)
level_no_triangle (Geometry-F.Triangle x) h = absurd (h x (variants.rolls-Triangle x))
level_no_triangle {T} f h = ap triangle_in (folds.fold-roll-Geometry T (Flat T) (Flats T) geometry_step flats_step f)

pub no_triangle : {T : Type 0} (g : Geometry T) → HasNone variants.Triangle triangle_in g
no_triangle = at_each variants.Triangle triangle_in level_no_triangle

-- The tree of a `Wkt` of a kind whose value is made or taken apart here.

pub tree-point : {T : Type 0} (x : HeldPoint (Coord T)) → tree (of_wkt.Point x) ≡ point x
tree-point {T} x =
    ap tree (sym (of_wkt.rolls-Point x))
    ∙ wkt_folds.fold-roll-Wkt T (Tree T) (Tree T) wkt_step collection_step (opened.Wkt-F.Point x)

pub tree-line_string : {T : Type 0} (x : Held (Coord T)) → tree (of_wkt.LineString x) ≡ line_string x
tree-line_string {T} x =
    ap tree (sym (of_wkt.rolls-LineString x))
    ∙ wkt_folds.fold-roll-Wkt T (Tree T) (Tree T) wkt_step collection_step (opened.Wkt-F.LineString x)

pub tree-multi_point : {T : Type 0} (x : Held (HeldPoint (Coord T))) → tree (of_wkt.MultiPoint x) ≡ multi_point x
tree-multi_point {T} x =
    ap tree (sym (of_wkt.rolls-MultiPoint x))
    ∙ wkt_folds.fold-roll-Wkt T (Tree T) (Tree T) wkt_step collection_step (opened.Wkt-F.MultiPoint x)

pub ruleset tree_line_string = tree-line_string
