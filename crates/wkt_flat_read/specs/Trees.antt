-- What a flat tree holds of what has grown, also where it is lent, the flat value that it stands for, and what a source and
-- a text are read as.
use Rattle.std.proofs.Common.{refl, sym, subst, inl, inr}
use Rattle.std.specs.Prelude.{List, [], ◌∷◌, ◌++◌, map, Option, Some, None, Bool, true, false, ◌||◌, ◌≡◌, ◌⊎◌, IfSome, Vec, ℕ, Result, Ok, Err, IfOk}
use Rattle.std.specs.declared.alloc.Global.{Global}
use Rattle.std.specs.Borrow.{MutBor}
use Rattle.wkt_access.specs.Values.{Value, Values}
use Rattle.wkt_flat.specs.Rings.{Rings, at}
use Rattle.wkt_flat.specs.Tree.{Flat, Flats, flat_tree}
use Rattle.wkt_flat.specs.declared.coord.Coord.{Coord}
use Rattle.wkt_flat.specs.declared.point.Point.{Point}
use Rattle.wkt_convert.specs.Flatten.{first_outside}
use Rattle.wkt_access.specs.declared.dimensions.Dimension.{Dimension}
use Rattle.wkt_types.specs.Tree.{Tree}
use Rattle.wkt_types.specs.Values.{value_of}
use Rattle.wkt_flat.specs.declared.geometry.Geometry.{Geometry}
use Rattle.wkt_convert.specs.Kinds.{IsFlattened}
use Rattle.wkt_convert.specs.declared.flattened.Flattened.{Flattened}
use Rattle.wkt_convert.specs.declared.flattened.Found.{Found}
use Rattle.wkt_machine.specs.Events.{Event}
use Rattle.wkt_values.specs.Growing.{Frame, Growing, grow_all, joined, members_of, MayAll}
use Rattle.wkt_values.specs.declared.tree.Ended.{Ended}
use Rattle.wkt_flat_read.specs.declared.tree.FlatTree.{FlatTree}
use Rattle.wkt_values.specs.Trees.{grow_append, may_front}
use Rattle.wkt_machine.specs.Makers.{Maker}
use Rattle.wkt_flat_read.specs.declared.flat_builder.FlatBuilder.{FlatBuilder}
use Rattle.wkt_convert.specs.declared.flattened.Found.TheVariants as found
use Rattle.wkt_values.specs.declared.tree.Ended.TheVariants as ended
use Rattle.wkt_read.specs.Answered.{IsFront, HasBadNumber, OnText, OnMessage}
use Rattle.wkt_read.specs.Front.{HasNoFront}
use Rattle.wkt_read.specs.Items.{bad_number}
use Rattle.wkt_read.specs.Refusal.{IsTextRefused, IfText}
use Rattle.wkt_read.specs.declared.error.ReadError.{ReadError}
use Rattle.wkt_read.specs.declared.error.ReadError.TheVariants.{Text, Memory}
use Rattle.wkt_values.specs.Values.{IsRead}
use Rattle.wkt_machine.specs.View.{View}

-- What a flat tree holds of what has grown, also where it is lent, and the flat value that it stands for.

-- The flat value of what is read, but for the empty points of multipoints: these aren't flat, and are left out.

-- x and y of the numbers of a coordinate
abbrev pub flat_coord : {T : Type 0} → List T → List (Coord T)
flat_coord (x ∷ y ∷ zs) = at x y ∷ []
flat_coord zs = []

abbrev pub flat_line : {T : Type 0} → List (List T) → List (Coord T)
flat_line [] = []
flat_line (c ∷ cs) = flat_coord c ++ flat_line cs

abbrev pub flat_area : {T : Type 0} → (Coord T → Coord T → Bool) → List (List (List T)) → Rings (Coord T)
flat_area E rs = first_outside E (map flat_line rs)

-- a point at each coordinate
abbrev pub points_at : {T : Type 0} → List (Coord T) → List (Point T)
points_at cs = map (λ c. record { 0 = c }) cs

abbrev pub flat_point : {T : Type 0} → Option (List T) → List (Point T)
flat_point None = []
flat_point (Some c) = points_at (flat_coord c)

abbrev pub flat_points : {T : Type 0} → List (Option (List T)) → List (Point T)
flat_points [] = []
flat_points (p ∷ ps) = flat_point p ++ flat_points ps

-- a point alone; where there is none, an empty multipoint
abbrev pub alone : {T : Type 0} → List (Point T) → Flat T
alone [] = Flat.multi_point []
alone (p ∷ ps) = Flat.point p

abbrev mutual
  pub plain : {T : Type 0} → (Coord T → Coord T → Bool) → Value T → Flat T
  plain E (Value.point d c) = alone (flat_point c)
  plain E (Value.line_string d cs) = Flat.line_string (flat_line cs)
  plain E (Value.polygon d rs) = Flat.polygon (flat_area E rs)
  plain E (Value.multi_point d ps) = Flat.multi_point (flat_points ps)
  plain E (Value.multi_line_string d ls) = Flat.multi_line_string (map flat_line ls)
  plain E (Value.multi_polygon d ys) = Flat.multi_polygon (map (flat_area E) ys)
  plain E (Value.collection d vs) = Flat.collection (plains E vs)

  pub plains : {T : Type 0} → (Coord T → Coord T → Bool) → Values T → Flats T
  plains E Values.no_values = Flats.no_flats
  plains E (Values.more_values v vs) = Flats.more_flats (plain E v) (plains E vs)

-- whether one of the points is empty
abbrev pub is_empty : {A : Type 0} → Option A → Bool
is_empty None = true
is_empty (Some c) = false

abbrev pub some_empty : {A : Type 0} → List (Option A) → Bool
some_empty [] = false
some_empty (p ∷ ps) = is_empty p || some_empty ps

-- whether an empty point stands in a multipoint of the value
abbrev mutual
  pub holds_empty : {T : Type 0} → Value T → Bool
  holds_empty (Value.multi_point d ps) = some_empty ps
  holds_empty (Value.collection d vs) = hold_empty vs
  holds_empty v = false

  pub hold_empty : {T : Type 0} → Values T → Bool
  hold_empty Values.no_values = false
  hold_empty (Values.more_values v vs) = holds_empty v || hold_empty vs

-- What a flat tree holds of what has grown.

-- the coordinate of an x and a y, if both came
abbrev pub coord_by : {T : Type 0} → Option T → Option T → Option (Coord T)
coord_by (Some x) (Some y) = Some (at x y)
coord_by x y = None

-- the coordinate at hand
abbrev pub coord_of : {T : Type 0} → FlatTree T → Option (Coord T)
coord_of t = coord_by t.x t.y

-- the point there
abbrev pub point_at : {T : Type 0} → Option (Coord T) → List (Point T)
point_at None = []
point_at (Some c) = record { 0 = c } ∷ []

abbrev pub point_or_none : {T : Type 0} → Option (Coord T) → Flat T
point_or_none None = Flat.multi_point []
point_or_none (Some c) = Flat.point (record { 0 = c })

-- the kind of what ended, if it is no collection
abbrev pub found_of : Ended → Option Found
found_of ended.Point = Some found.Point
found_of ended.LineString = Some found.LineString
found_of ended.Polygon = Some found.Polygon
found_of ended.MultiPoint = Some found.MultiPoint
found_of ended.MultiLineString = Some found.MultiLineString
found_of ended.MultiPolygon = Some found.MultiPolygon
found_of ended.Collection = None
found_of ended.NoMembers = None

-- the flat members of a collection
abbrev pub members : {T : Type 0} → Vec (Geometry T) Global → List (Flat T)
members c = map flat_tree c.items

-- those of the collections that are open, the last opened last
abbrev pub opened : {T : Type 0} → FlatTree T → List (List (Flat T))
opened t = map members t.outer.items

module _ {T : Type 0} (E : Coord T → Coord T → Bool) where
  abbrev pub frames : List (Frame T) → List (List (Flat T))
  frames [] = []
  frames (f ∷ o) = frames o ++ (map (plain E) f.members ∷ [])

-- whether an empty point stands in one of the values, or in a member of a collection that is open
abbrev pub some_holds : {T : Type 0} → List (Value T) → Bool
some_holds [] = false
some_holds (v ∷ vs) = holds_empty v || some_holds vs

abbrev pub frames_hold : {T : Type 0} → List (Frame T) → Bool
frames_hold [] = false
frames_hold (f ∷ o) = frames_hold o || some_holds f.members

-- These parts are at hand.
abbrev pub FlatHasOnly : {T : Type 0} → FlatTree T → List (Coord T) → List (Point T) → List (List (Coord T)) → List (Rings (Coord T)) → Type 0
FlatHasOnly t cs ps ls ys = (t.coords.items ≡ cs) × (t.points.items ≡ ps) × (t.lines.items ≡ ls) × (t.areas.items ≡ ys)

-- A point ended whose coordinate this is, and nothing was lost.
pub record IsLone {T : Type 0} (t : FlatTree T) (c : Coord T) : Type 0 where
  pub last : t.last ≡ ended.Point
  pub kept : t.is_lost ≡ false
  pub refused : t.is_refused ≡ false
  pub coord : coord_of t ≡ Some c

-- What was to be held is lost, for want of memory.
abbrev pub FlatIsLost : {T : Type 0} → FlatTree T → Type 0
FlatIsLost t = t.is_lost ≡ true

module _ {T : Type 0} (E : Coord T → Coord T → Bool) where
  -- The parts of the geometry at hand, and what is open.
  pub record FlatHoldsParts (t : FlatTree T) (w : Growing T) : Type 0 where
    pub kept : t.is_lost ≡ false
    pub refused : t.is_refused ≡ (frames_hold w.outer || some_empty w.points)
    pub x : t.x ≡ w.hand.x
    pub y : t.y ≡ w.hand.y
    pub parts : FlatHasOnly t (flat_line w.coords) (flat_points w.points) (map flat_line w.lines) (map (flat_area E) w.areas)
    pub open_ones : opened t ≡ frames E w.outer

  -- The geometry that ended has this value, its parts are all that is at hand, and these collections are open but for it.
  abbrev pub FlatHoldsEnded : Ended → FlatTree T → List (Frame T) → Value T → Type 0
  FlatHoldsEnded ended.Point t o v = (d : Dimension) × (c : Option (List T)) × (Value.point d c ≡ v) × (point_at (coord_of t) ≡ flat_point c) × FlatHasOnly t [] [] [] [] × (opened t ≡ frames E o)
  FlatHoldsEnded ended.LineString t o v = (d : Dimension) × (cs : List (List T)) × (Value.line_string d cs ≡ v) × FlatHasOnly t (flat_line cs) [] [] [] × (opened t ≡ frames E o)
  FlatHoldsEnded ended.Polygon t o v = (d : Dimension) × (ls : List (List (List T))) × (Value.polygon d ls ≡ v) × FlatHasOnly t [] [] (map flat_line ls) [] × (opened t ≡ frames E o)
  FlatHoldsEnded ended.MultiPoint t o v = (d : Dimension) × (ps : List (Option (List T))) × (Value.multi_point d ps ≡ v) × FlatHasOnly t [] (flat_points ps) [] [] × (opened t ≡ frames E o)
  FlatHoldsEnded ended.MultiLineString t o v = (d : Dimension) × (ls : List (List (List T))) × (Value.multi_line_string d ls ≡ v) × FlatHasOnly t [] [] (map flat_line ls) [] × (opened t ≡ frames E o)
  FlatHoldsEnded ended.MultiPolygon t o v = (d : Dimension) × (ys : List (List (List (List T)))) × (Value.multi_polygon d ys ≡ v) × FlatHasOnly t [] [] [] (map (flat_area E) ys) × (opened t ≡ frames E o)
  FlatHoldsEnded ended.Collection t o v = (f : Frame T) × (Value.collection f.dim (members_of f.members) ≡ v) × FlatHasOnly t [] [] [] [] × (opened t ≡ frames E (f ∷ o))
  FlatHoldsEnded ended.NoMembers t o v = (d : Dimension) × (Value.collection d Values.no_values ≡ v) × FlatHasOnly t [] [] [] [] × (opened t ≡ frames E o)

  pub record FlatHoldsWhole (t : FlatTree T) (o : List (Frame T)) (v : Value T) : Type 0 where
    pub kept : t.is_lost ≡ false
    pub refused : t.is_refused ≡ (frames_hold o || holds_empty v)
    pub whole : FlatHoldsEnded t.last t o v

  -- The tree holds what has grown.
  abbrev pub FlatHoldsBy : FlatTree T → Growing T → Option (Value T) → Type 0
  FlatHoldsBy t w None = FlatHoldsParts t w
  FlatHoldsBy t w (Some v) = FlatHoldsWhole t w.outer v

  abbrev pub FlatHolds : FlatTree T → Growing T → Type 0
  FlatHolds t w = FlatHoldsBy t w w.grown

  -- What was held was changed so; or it is lost. What was lost stays lost.
  pub record FlatBecomes (May : Growing T → Type 0) (change : Growing T → Growing T) (t u : FlatTree T) : Type 0 where
    pub stays : FlatIsLost t → FlatIsLost u
    pub holds : (w : Growing T) → FlatHolds t w → May w → FlatHolds u (change w) ⊎ FlatIsLost u

  -- If the events may come where they do, what is held has grown by them; or it is lost. What was lost stays lost.
  pub record FlatGrew (t : FlatTree T) (es : List (Event T)) (u : FlatTree T) : Type 0 where
    pub stays : FlatIsLost t → FlatIsLost u
    pub holds : (w : Growing T) → FlatHolds t w → MayAll es w → FlatHolds u (grow_all es w) ⊎ FlatIsLost u

  -- The geometry that ended was taken, and no part is at hand; or there was no memory for it.
  pub record FlatGives (t : FlatTree T) (r : Option (Geometry T)) (u : FlatTree T) : Type 0 where
    pub is_lost : u.is_lost ≡ t.is_lost
    pub is_refused : u.is_refused ≡ t.is_refused
    pub gives : (o : List (Frame T)) (v : Value T) → FlatHoldsWhole t o v → IfSome r (λ g. flat_tree g ≡ plain E v) × FlatHasOnly u [] [] [] [] × (opened u ≡ frames E o)

  -- The members of the collection that was opened last were taken.
  pub record FlatGivesLast (t : FlatTree T) (c : Vec (Geometry T) Global) (u : FlatTree T) : Type 0 where
    pub same : u ≡ record t { outer = u.outer }
    pub gives : (f : Frame T) (o : List (Frame T)) → opened t ≡ frames E (f ∷ o) → (members c ≡ map (plain E) f.members) × (opened u ≡ frames E o)

  -- The members of the collection that ended were taken.
  pub record GivesMembers (t : FlatTree T) (c : Vec (Geometry T) Global) (u : FlatTree T) : Type 0 where
    pub same : u ≡ record t { outer = u.outer }
    pub last : t.last ≡ ended.Collection → (f : Frame T) (o : List (Frame T)) → opened t ≡ frames E (f ∷ o) → (members c ≡ map (plain E) f.members) × (opened u ≡ frames E o)
    pub none : t.last ≡ ended.NoMembers → (c.items ≡ []) × (u ≡ t)

  -- The geometry that ended, as a flat value; or there was no memory for it.
  abbrev pub GivesFlat : FlatTree T → Option (Flattened T) → Type 0
  GivesFlat t r = (v : Value T) → FlatHoldsWhole t [] v → (k : Tree T) → value_of k ≡ v → IfSome r (IsFlattened E k)

  -- The geometry that ended, where it is a collection, and where it is of another kind.
  abbrev pub GivesCollection : FlatTree T → Flattened T → Type 0
  GivesCollection t r = found_of t.last ≡ None → GivesFlat t (Some r)

  abbrev pub GivesOther : FlatTree T → Found → Option (Flattened T) → Type 0
  GivesOther t kind r = found_of t.last ≡ Some kind → GivesFlat t r

  -- A member of the collection that was opened last was put into it, or it is lost.
  pub record FlatJoins (t : FlatTree T) (g : Geometry T) (u : FlatTree T) : Type 0 where
    pub stays : FlatIsLost t → FlatIsLost u
    pub joins : (f : Frame T) (o : List (Frame T)) (v : Value T) → t.is_lost ≡ false → t.is_refused ≡ (frames_hold (f ∷ o) || holds_empty v) → FlatHasOnly t [] [] [] [] → opened t ≡ frames E (f ∷ o) → flat_tree g ≡ plain E v → FlatHolds u (joined (f ∷ o) (Some v)) ⊎ FlatIsLost u

-- What is made where a flat tree grows that is lent.

-- the tree that is lent
abbrev pub tree_of : {T : Type 0} → FlatBuilder T → MutBor (FlatTree T)
tree_of g = g.tree

module _ {T : Type 0} (E : Coord T → Coord T → Bool) where
  pub grew_none : (t : FlatTree T) → FlatGrew E t [] t
  grew_none t = record { stays = λ h. h; holds = λ w h k. inl h }

  pub grew_more : (t u v : FlatTree T) (es fs : List (Event T)) → FlatGrew E t es u → FlatGrew E u fs v → FlatGrew E t (es ++ fs) v
  grew_more t u v es fs a b = record {
    stays = λ h. b.stays (a.stays h);
    holds = λ w h may. let (one, two) = may_front es fs w may in first w two (a.holds w h one);
  }
    where
      second : (w : Growing T) → FlatHolds E v (grow_all fs (grow_all es w)) ⊎ FlatIsLost v → FlatHolds E v (grow_all (es ++ fs) w) ⊎ FlatIsLost v
      second w (inl h) = inl (subst (FlatHolds E v) (sym (grow_append es fs w)) h)
      second w (inr l) = inr l

      first : (w : Growing T) → MayAll fs (grow_all es w) → FlatHolds E u (grow_all es w) ⊎ FlatIsLost u → FlatHolds E v (grow_all (es ++ fs) w) ⊎ FlatIsLost v
      first w two (inl h) = second w (b.holds (grow_all es w) h two)
      first w two (inr l) = inr (b.stays l)

  abbrev pub tree_maker : (List ℕ → Option T) → Maker T (FlatBuilder T)
  tree_maker read = record {
    makes = λ g es h. FlatGrew E (tree_of g).now es (tree_of h).now;
    reads = λ g. read;
    fits = λ s n. Unit {0};
    takes = λ g x. 0;
    none = λ g. grew_none (tree_of g).now;
    more = λ g h i es fs. grew_more (tree_of g).now (tree_of h).now (tree_of i).now es fs;
    same = λ g h es k. (refl, refl);
    less = λ s m n order h. tt;
  }

-- What a source, and a text, are read as.

-- The flat value of the geometry that ended; or memory was lacking.
abbrev pub AnswersFlat : {T : Type 0} → (Coord T → Coord T → Bool) → FlatTree T → Result (Flattened T) ReadError → Type 0
AnswersFlat {T} E t (Ok f) = (t.is_lost ≡ false) × ((v : Value T) → FlatHoldsWhole E t [] v → (k : Tree T) → value_of k ≡ v → IsFlattened E k f)
AnswersFlat E t (Err (Text m)) = ⊥
AnswersFlat E t (Err (Memory e)) = Unit {0}

module _ {N : Type 0} (read : List ℕ → Option N) (E : Coord N → Coord N → Bool) where
  -- It is flat what the value is read as that the lexemes which are taken stand for.
  abbrev pub IsFlatRead : {S : Type 0} → View N S → S → Flattened N → S → Type 0
  IsFlatRead view s f t = (k : Tree N) × IsRead read view s k t × IsFlattened E k f

  -- It is the flat value of the text's front.
  abbrev pub IsFlatFront : List ℕ → Flattened N → Type 0
  IsFlatFront text f = (k : Tree N) × IsFront read text k × IsFlattened E k f

  -- That, or why there is none.
  pub record AnswersFlatText (text : List ℕ) (answer : Result (Flattened N) ReadError) : Type 0 where
    pub found : IfOk answer (IsFlatFront text)
    pub no_front : OnText answer (HasNoFront read text)
    pub bad : OnMessage answer bad_number (HasBadNumber read text)
    pub refusal : IfText answer (λ said. IsTextRefused read text said)
