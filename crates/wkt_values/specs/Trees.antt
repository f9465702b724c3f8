-- What a tree holds of what has grown, also where it is lent.
use Rattle.std.proofs.Common.{refl, sym, subst, ap, ◌∙◌, inl, inr}
use Rattle.std.specs.Prelude.{ℕ, ◌≡◌, ◌⊎◌, List, [], ◌∷◌, ◌++◌, map, Option, Some, None, option_map, Bool, true, false, ◌||◌}
use Rattle.std.specs.List.{AllByRecursion}
use Rattle.std.specs.Borrow.{MutBor}
use Rattle.wkt_access.specs.Values.{Value, Values}
use Rattle.wkt_types.specs.Held.{numbers_of}
use Rattle.wkt_types.specs.Tree.{tree}
use Rattle.wkt_types.specs.Values.{HasDim, HasDimIfAny, IsPointIn, IsLineStringIn, IsPolygonIn, IsUniform, IsWktOf, value_of, point_numbers, line_string_numbers, polygon_numbers}
use Rattle.wkt_types.specs.declared.coord.Coord.{Coord}
use Rattle.wkt_types.specs.declared.geometry.Wkt.{Wkt}
use Rattle.wkt_machine.specs.Events.{Event}
use Rattle.wkt_values.specs.Growing.{Frame, Growing, grow_all, joined, members_of, lists_any, MayAll, grow, lists}
use Rattle.wkt_values.specs.declared.tree.Ended.{Ended}
use Rattle.wkt_values.specs.declared.tree.OpenCollection.{OpenCollection}
use Rattle.wkt_values.specs.declared.tree.Tree.{Tree}
use Rattle.wkt_values.specs.declared.tree.Ended.TheVariants as ended
use Rattle.wkt_machine.specs.Makers.{Maker}
use Rattle.wkt_values.specs.declared.tree.WktBuilder.{WktBuilder}

-- What a tree holds of what has grown.

-- the value of a geometry
abbrev pub wkt_value : {T : Type 0} → Wkt T → Value T
wkt_value w = value_of (tree w)

abbrev pub UniformWkt : {T : Type 0} → Wkt T → Type 0
UniformWkt w = IsUniform (tree w)

-- An open collection holds these members.
pub record HoldsFrame {T : Type 0} (c : OpenCollection T) (f : Frame T) : Type 0 where
  pub dim : c.dim ≡ f.dim
  pub members : map wkt_value c.members.items ≡ f.members
  pub uniform : AllByRecursion UniformWkt c.members.items

-- The open collections, of which the last opened stands last.
abbrev pub HoldsFrames : {T : Type 0} → List (OpenCollection T) → List (Frame T) → Type 0
HoldsFrames cs [] = cs ≡ []
HoldsFrames {T} cs (f ∷ o) = (before : List (OpenCollection T)) × (c : OpenCollection T) × (cs ≡ before ++ (c ∷ [])) × HoldsFrame c f × HoldsFrames before o

-- the coordinate of an x and a y, if both came
abbrev pub coord_by : {T : Type 0} → Option T → Option T → Option T → Option T → Option (Coord T)
coord_by (Some x) (Some y) z m = Some (record { x = x; y = y; z = z; m = m })
coord_by x y z m = None

-- the coordinate at hand
abbrev pub coord_of : {T : Type 0} → Tree T → Option (Coord T)
coord_of t = coord_by t.x t.y t.z t.m

-- These parts are at hand.
abbrev pub HasOnly : {T : Type 0} → Tree T → List (List T) → List (Option (List T)) → List (List (List T)) → List (List (List (List T))) → Type 0
HasOnly t cs ps ls ys = (map numbers_of t.coords.items ≡ cs) × (map point_numbers t.points.items ≡ ps) × (map line_string_numbers t.lines.items ≡ ls) × (map polygon_numbers t.areas.items ≡ ys)

-- All parts carry the dimension at hand.
abbrev pub AllIn : {T : Type 0} → Tree T → Type 0
AllIn t = AllByRecursion (HasDim t.dim) t.coords.items × AllByRecursion (IsPointIn t.dim) t.points.items × AllByRecursion (IsLineStringIn t.dim) t.lines.items × AllByRecursion (IsPolygonIn t.dim) t.areas.items

-- The parts of the geometry at hand, and what is open.
pub record HoldsParts {T : Type 0} (t : Tree T) (w : Growing T) : Type 0 where
  pub kept : t.is_lost ≡ false
  pub dim : t.dim ≡ w.dim
  pub x : t.x ≡ w.hand.x
  pub y : t.y ≡ w.hand.y
  pub z : t.z ≡ w.hand.z
  pub m : t.m ≡ w.hand.m
  pub parts : HasOnly t w.coords w.points w.lines w.areas
  pub all_in : AllIn t
  pub open_ones : HoldsFrames t.outer.items w.outer

-- The geometry that ended has this value, its parts are all that is at hand, and these collections are open but for it.
abbrev pub HoldsEnded : {T : Type 0} → Ended → Tree T → List (Frame T) → Value T → Type 0
HoldsEnded ended.Point t o v = (Value.point t.dim (option_map numbers_of (coord_of t)) ≡ v) × HasDimIfAny t.dim (coord_of t) × HasOnly t [] [] [] [] × HoldsFrames t.outer.items o
HoldsEnded {T} ended.LineString t o v = (cs : List (List T)) × (Value.line_string t.dim cs ≡ v) × HasOnly t cs [] [] [] × HoldsFrames t.outer.items o
HoldsEnded {T} ended.Polygon t o v = (ls : List (List (List T))) × (Value.polygon t.dim ls ≡ v) × HasOnly t [] [] ls [] × HoldsFrames t.outer.items o
HoldsEnded {T} ended.MultiPoint t o v = (ps : List (Option (List T))) × (Value.multi_point t.dim ps ≡ v) × HasOnly t [] ps [] [] × HoldsFrames t.outer.items o
HoldsEnded {T} ended.MultiLineString t o v = (ls : List (List (List T))) × (Value.multi_line_string t.dim ls ≡ v) × HasOnly t [] [] ls [] × HoldsFrames t.outer.items o
HoldsEnded {T} ended.MultiPolygon t o v = (ys : List (List (List (List T)))) × (Value.multi_polygon t.dim ys ≡ v) × HasOnly t [] [] [] ys × HoldsFrames t.outer.items o
HoldsEnded {T} ended.Collection t o v = (f : Frame T) × (Value.collection f.dim (members_of f.members) ≡ v) × HasOnly t [] [] [] [] × HoldsFrames t.outer.items (f ∷ o)
HoldsEnded ended.NoMembers t o v = (Value.collection t.dim Values.no_values ≡ v) × HasOnly t [] [] [] [] × HoldsFrames t.outer.items o

pub record HoldsWhole {T : Type 0} (t : Tree T) (o : List (Frame T)) (v : Value T) : Type 0 where
  pub kept : t.is_lost ≡ false
  pub all_in : AllIn t
  pub whole : HoldsEnded t.last t o v

-- The tree holds what has grown.
abbrev pub HoldsBy : {T : Type 0} → Tree T → Growing T → Option (Value T) → Type 0
HoldsBy t w None = HoldsParts t w
HoldsBy t w (Some v) = HoldsWhole t w.outer v

abbrev pub Holds : {T : Type 0} → Tree T → Growing T → Type 0
Holds t w = HoldsBy t w w.grown

-- What was to be held is lost, for want of memory.
abbrev pub IsLost : {T : Type 0} → Tree T → Type 0
IsLost t = t.is_lost ≡ true

-- A point of these two numbers ended, and nothing was lost.
pub record IsPair {T : Type 0} (t : Tree T) (a b : T) : Type 0 where
  pub kept : t.is_lost ≡ false
  pub last : t.last ≡ ended.Point
  pub x : t.x ≡ Some a
  pub y : t.y ≡ Some b
  pub z : t.z ≡ None
  pub m : t.m ≡ None

-- What was held was changed so; or it is lost, if it may be. What was lost stays lost.
pub record Becomes {T : Type 0} (may_lose : Bool) (May : Growing T → Type 0) (change : Growing T → Growing T) (t u : Tree T) : Type 0 where
  pub stays : IsLost t → IsLost u
  pub holds : (w : Growing T) → Holds t w → May w → Holds u (change w) ⊎ (IsLost u × (may_lose ≡ true))

-- If the events may come where they do, what is held has grown by them; or it is lost, and one of them adds to a list. What was lost stays lost.
pub record Grew {T : Type 0} (t : Tree T) (es : List (Event T)) (u : Tree T) : Type 0 where
  pub stays : IsLost t → IsLost u
  pub holds : (w : Growing T) → Holds t w → MayAll es w → Holds u (grow_all es w) ⊎ (IsLost u × (lists_any es ≡ true))

-- The geometry that ended was taken, and no part is at hand.
pub record TreeGives {T : Type 0} (t : Tree T) (w : Wkt T) (u : Tree T) : Type 0 where
  pub is_lost : u.is_lost ≡ t.is_lost
  pub gives : (o : List (Frame T)) (v : Value T) → HoldsWhole t o v → IsWktOf v (tree w) × HasOnly u [] [] [] [] × HoldsFrames u.outer.items o

-- The collection that was opened last was taken.
pub record GivesLast {T : Type 0} (t : Tree T) (w : Wkt T) (u : Tree T) : Type 0 where
  pub same : u ≡ record t { outer = u.outer }
  pub gives : (f : Frame T) (o : List (Frame T)) → HoldsFrames t.outer.items (f ∷ o) → IsWktOf (Value.collection f.dim (members_of f.members)) (tree w) × HoldsFrames u.outer.items o

-- A member of the collection that was opened last was put into it, or it is lost.
pub record Joins {T : Type 0} (t : Tree T) (w : Wkt T) (u : Tree T) : Type 0 where
  pub stays : IsLost t → IsLost u
  pub joins : (f : Frame T) (o : List (Frame T)) (v : Value T) → t.is_lost ≡ false → HasOnly t [] [] [] [] → HoldsFrames t.outer.items (f ∷ o) → IsWktOf v (tree w) → Holds u (joined (f ∷ o) (Some v)) ⊎ IsLost u

-- What is made where a tree grows that is lent.

-- the tree that is lent
abbrev pub tree_of : {T : Type 0} → WktBuilder T → MutBor (Tree T)
tree_of g = g.tree

pub grow_append : {N : Type 0} (es fs : List (Event N)) (s : Growing N) → grow_all (es ++ fs) s ≡ grow_all fs (grow_all es s)
grow_append [] fs s = refl
grow_append (e ∷ es) fs s = grow_append es fs (grow e s)

pub may_front : {N : Type 0} (es fs : List (Event N)) (s : Growing N) → MayAll (es ++ fs) s → MayAll es s × MayAll fs (grow_all es s)
may_front [] fs s h = (tt, h)
may_front (e ∷ es) fs s (h, hs) = let (k, ks) = may_front es fs (grow e s) hs in ((h, k), ks)

or_left : (a b : Bool) → a ≡ true → (a || b) ≡ true
or_left true b e = refl
or_left false b e = let clash : false ≡ true = e in cc

or_right : (a b : Bool) → b ≡ true → (a || b) ≡ true
or_right true b e = refl
or_right false b e = e

or_assoc : (a b c : Bool) → (a || (b || c)) ≡ ((a || b) || c)
or_assoc true b c = refl
or_assoc false b c = refl

pub lists_append : {N : Type 0} (es fs : List (Event N)) → lists_any (es ++ fs) ≡ (lists_any es || lists_any fs)
lists_append [] fs = refl
lists_append (e ∷ es) fs = ap (λ b. lists e || b) (lists_append es fs) ∙ or_assoc (lists e) (lists_any es) (lists_any fs)

module _ {T : Type 0} where
  pub grew_none : (t : Tree T) → Grew t [] t
  grew_none t = record { stays = λ h. h; holds = λ w h k. inl h }

  pub grew_more : (t u v : Tree T) (es fs : List (Event T)) → Grew t es u → Grew u fs v → Grew t (es ++ fs) v
  grew_more t u v es fs a b = record {
    stays = λ h. b.stays (a.stays h);
    holds = λ w h may. let (one, two) = may_front es fs w may in first w one two (a.holds w h one);
  }
    where
      goal : Growing T → Type 0
      goal w = Holds v (grow_all (es ++ fs) w) ⊎ (IsLost v × (lists_any (es ++ fs) ≡ true))

      second : (w : Growing T) → Holds v (grow_all fs (grow_all es w)) ⊎ (IsLost v × (lists_any fs ≡ true)) → Holds v (grow_all (es ++ fs) w) ⊎ (IsLost v × (lists_any (es ++ fs) ≡ true))
      second w (inl h) = inl (subst (Holds v) (sym (grow_append es fs w)) h)
      second w (inr (l, e)) = inr (l, lists_append es fs ∙ or_right (lists_any es) (lists_any fs) e)

      first : (w : Growing T) → MayAll es w → MayAll fs (grow_all es w) → Holds u (grow_all es w) ⊎ (IsLost u × (lists_any es ≡ true)) → Holds v (grow_all (es ++ fs) w) ⊎ (IsLost v × (lists_any (es ++ fs) ≡ true))
      first w one two (inl h) = second w (b.holds (grow_all es w) h two)
      first w one two (inr (l, e)) = inr (b.stays l, lists_append es fs ∙ or_left (lists_any es) (lists_any fs) e)

abbrev pub tree_maker : {T : Type 0} → (List ℕ → Option T) → Maker T (WktBuilder T)
tree_maker read = record {
  makes = λ g es h. Grew (tree_of g).now es (tree_of h).now;
  reads = λ g. read;
  fits = λ s n. Unit {0};
  takes = λ g x. 0;
  none = λ g. grew_none (tree_of g).now;
  more = λ g h i es fs. grew_more (tree_of g).now (tree_of h).now (tree_of i).now es fs;
  same = λ g h es k. (refl, refl);
  less = λ s m n order h. tt;
}
