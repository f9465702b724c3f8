-- A plain flat value comes back from its `Wkt`.
use Rattle.std.proofs.Common.{◌≡◌, List, [], ◌∷◌, ◌++◌, map, Bool, if◌then◌else◌, refl, ap, ap₂, sym, ◌∙◌}
use Rattle.std.proofs.lemmas.List.{append-nil}
use Rattle.std.specs.List.{AllByRecursion}
use Rattle.wkt_flat.specs.Equal.{IsExact, coord_eq, coord_exact}
use Rattle.wkt_flat.specs.Tree.{HasClosedRings, HaveClosedRings, Flat, Flats}
use Rattle.wkt_flat.specs.Rings.{Rings, IsClosed, AreClosed, close}
use Rattle.wkt_flat.specs.declared.coord.Coord as flat_coord
use Rattle.wkt_flat.specs.declared.point.Point as flat_point
use Rattle.wkt_convert.specs.Back.{back, all_back, line_string_back, point_back, polygon_back}
use Rattle.wkt_convert.specs.Flatten.{sequence, rings, points, flat, flat_all, outcome_map, outcome_both}
use Rattle.wkt_types.specs.Outcome.{value}
use Rattle.wkt_convert.specs.Laws.{IsPlain, ArePlain, IsPlainPolygon}

sequence_again : {T : Type 0} (cs : List (flat_coord.Coord T)) → sequence (line_string_back cs) ≡ cs
sequence_again [] = refl
sequence_again (c ∷ cs) = ap (λ l. c ∷ l) (sequence_again cs)

sequences_again : {T : Type 0} (ls : List (List (flat_coord.Coord T))) → map sequence (map line_string_back ls) ≡ ls
sequences_again [] = refl
sequences_again (l ∷ ls) = ap₂ (λ x xs. x ∷ xs) (sequence_again l) (sequences_again ls)

points_again : {T : Type 0} (ps : List (flat_point.Point T)) → points (map point_back ps) ≡ value ps
points_again [] = refl
points_again (p ∷ ps) = ap (λ o. outcome_both (λ q qs. q ∷ qs) (value p) o) (points_again ps)

module _ {C : Type 0} {E : C → C → Bool} (e : IsExact E) where
  close_same : (r : List C) → IsClosed r → close E r ≡ r
  close_same [] h = refl
  close_same (c ∷ cs) h =
      ap (λ b. c ∷ (cs ++ (if b then [] else c ∷ []))) (ap (λ z. E z c) h ∙ e.each c)
      ∙ ap (λ l. c ∷ l) (append-nil cs)

  all_same : (rs : List (List C)) → AllByRecursion IsClosed rs → map (close E) rs ≡ rs
  all_same [] h = refl
  all_same (r ∷ rs) h = ap₂ (λ x xs. x ∷ xs) (close_same r h.0) (all_same rs h.1)

module _ {T : Type 0} {E : T → T → Bool} (e : IsExact E) where
  abbrev made : List (flat_coord.Coord T) → List (List (flat_coord.Coord T)) → Rings (flat_coord.Coord T)
  made r rs = record { exterior = r; interiors = rs }

  polygon_again : (r : List (flat_coord.Coord T)) (rs : List (List (flat_coord.Coord T))) → IsPlainPolygon r rs → AreClosed r rs →
      rings (coord_eq E) (polygon_back (record { exterior = r; interiors = rs })) ≡ record { exterior = r; interiors = rs }
  polygon_again [] rs h k = ap (λ l. made [] l) (sym h)
  polygon_again (c ∷ cs) rs h k =
      ap₂ (λ a b. made (close (coord_eq E) a) (map (close (coord_eq E)) b)) (sequence_again (c ∷ cs)) (sequences_again rs)
      ∙ ap₂ made (close_same (coord_exact e) (c ∷ cs) k.0) (all_same (coord_exact e) rs k.1)

  polygons_again : (ys : List (Rings (flat_coord.Coord T))) → AllByRecursion (λ y. IsPlainPolygon y.exterior y.interiors) ys → AllByRecursion (λ y. AreClosed y.exterior y.interiors) ys →
      map (rings (coord_eq E)) (map polygon_back ys) ≡ ys
  polygons_again [] h k = refl
  polygons_again (y ∷ ys) h k = ap₂ (λ x xs. x ∷ xs) (polygon_again y.exterior y.interiors h.0 k.0) (polygons_again ys h.1 k.1)

  mutual
    pub again : (t : Flat T) → IsPlain t → HasClosedRings t → flat (coord_eq E) (back t) ≡ value t
    again (Flat.point p) h k = refl
    again (Flat.line l) h k = absurd h
    again (Flat.line_string cs) h k = ap (λ l. value (Flat.line_string l)) (sequence_again cs)
    again (Flat.polygon y) h k = ap (λ l. value (Flat.polygon l)) (polygon_again y.exterior y.interiors h k)
    again (Flat.multi_point ps) h k = ap (outcome_map Flat.multi_point) (points_again ps)
    again (Flat.multi_line_string ls) h k = ap (λ l. value (Flat.multi_line_string l)) (sequences_again ls)
    again (Flat.multi_polygon ys) h k = ap (λ l. value (Flat.multi_polygon l)) (polygons_again ys h k)
    again (Flat.collection ts) h k = ap (outcome_map Flat.collection) (all_again ts h k)
    again (Flat.rect r) h k = absurd h
    again (Flat.triangle t) h k = absurd h

    all_again : (ts : Flats T) → ArePlain ts → HaveClosedRings ts → flat_all (coord_eq E) (all_back ts) ≡ value ts
    all_again Flats.no_flats h k = refl
    all_again (Flats.more_flats t ts) h k = ap₂ (outcome_both Flats.more_flats) (again t h.0 k.0) (all_again ts h.1 k.1)
