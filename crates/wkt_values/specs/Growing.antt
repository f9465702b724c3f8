-- How a value grows from its events.
use Rattle.std.specs.Prelude.{◌≡◌, List, [], ◌∷◌, ◌++◌, Option, Some, None, option_to_list, IfSome, Bool, true, false, ◌||◌}
use Rattle.wkt_access.specs.declared.dimensions.Dimension.{Dimension}
use Rattle.wkt_access.specs.declared.dimensions.Dimension.TheVariants.{XY}
use Rattle.wkt_access.specs.Values.{Value, Values}
use Rattle.wkt_types.specs.Held.{dim_by}
use Rattle.wkt_machine.specs.Events.{Event}
use Rattle.wkt_machine.specs.declared.part.Axis.{Axis}
use Rattle.wkt_machine.specs.declared.part.Axis.TheVariants as axis
use Rattle.wkt_machine.specs.declared.part.Part.{Part}
use Rattle.wkt_machine.specs.declared.part.Part.TheVariants as part

-- A collection that is open: its dimension, and its members so far.
pub record Frame (N : Type 0) : Type 0 where
  pub dim : Dimension
  pub members : List (Value N)

-- The numbers that came last.
pub record Hand (N : Type 0) : Type 0 where
  pub x : Option N
  pub y : Option N
  pub z : Option N
  pub m : Option N

-- What grows: the dimension of the geometry at hand, its last numbers, and its parts that are whole; the collections that are open, the last opened first; and the geometry that ended last, until it is a member of one.
pub record Growing (N : Type 0) : Type 0 where
  pub dim : Dimension
  pub hand : Hand N
  pub coords : List (List N)
  pub points : List (Option (List N))
  pub lines : List (List (List N))
  pub areas : List (List (List (List N)))
  pub outer : List (Frame N)
  pub grown : Option (Value N)

-- no number
abbrev pub bare : {N : Type 0} → Hand N
bare = record { x = None; y = None; z = None; m = None }

-- a number more
abbrev pub with_number : {N : Type 0} → Axis → N → Hand N → Hand N
with_number axis.X n h = record h { x = Some n }
with_number axis.Y n h = record h { y = Some n }
with_number axis.Z n h = record h { z = Some n }
with_number axis.M n h = record h { m = Some n }

-- the coordinate of an x and a y, if both came
abbrev pub numbers_by : {N : Type 0} → Option N → Option N → Option N → Option N → Option (List N)
numbers_by (Some x) (Some y) z m = Some (x ∷ y ∷ (option_to_list z ++ option_to_list m))
numbers_by x y z m = None

-- the coordinate at hand
abbrev pub coord : {N : Type 0} → Hand N → Option (List N)
coord h = numbers_by h.x h.y h.z h.m

-- a header
abbrev pub headed : {N : Type 0} → Dimension → List (Frame N) → Growing N
headed d o = record { dim = d; hand = bare; coords = []; points = []; lines = []; areas = []; outer = o; grown = None }

-- only what is open, and the geometry that ended last
abbrev pub rest : {N : Type 0} → List (Frame N) → Option (Value N) → Growing N
rest o v = record (headed XY o) { grown = v }

abbrev pub members_of : {N : Type 0} → List (Value N) → Values N
members_of [] = Values.no_values
members_of (v ∷ vs) = Values.more_values v (members_of vs)

-- the geometry that ended is the next member of the collection that was opened last
abbrev pub joined : {N : Type 0} → List (Frame N) → Option (Value N) → Growing N
joined (f ∷ o) (Some v) = rest (record { dim = f.dim; members = f.members ++ (v ∷ []) } ∷ o) None
joined o v = rest o None

-- the collection that was opened last ends
abbrev pub shut : {N : Type 0} → List (Frame N) → Growing N
shut [] = rest [] None
shut (f ∷ o) = rest o (Some (Value.collection f.dim (members_of f.members)))

-- a part opens
abbrev pub opened : {N : Type 0} → Part → Growing N → Growing N
opened part.Collection s = rest (record { dim = s.dim; members = [] } ∷ s.outer) None
opened p s = s

-- the coordinate at hand is whole
abbrev pub with_coord : {N : Type 0} → Growing N → Growing N
with_coord s = record s { coords = s.coords ++ option_to_list (coord s.hand) }

-- an item of a part is whole
abbrev pub with_item : {N : Type 0} → Part → Growing N → Growing N
with_item part.LineString s = with_coord s
with_item part.Ring s = with_coord s
with_item part.Line s = with_coord s
with_item part.AreaRing s = with_coord s
with_item part.Collection s = joined s.outer s.grown
with_item p s = s

-- a point of a multipoint, and a line
abbrev pub with_point : {N : Type 0} → Growing N → Growing N
with_point s = record s { points = s.points ++ (coord s.hand ∷ []) }

abbrev pub with_line : {N : Type 0} → Growing N → Growing N
with_line s = record s { coords = []; lines = s.lines ++ (s.coords ∷ []) }

-- a part ends whose items are whole
abbrev pub ended : {N : Type 0} → Part → Growing N → Growing N
ended part.Point s = rest s.outer (Some (Value.point s.dim (coord s.hand)))
ended part.LineString s = rest s.outer (Some (Value.line_string s.dim s.coords))
ended part.Polygon s = rest s.outer (Some (Value.polygon s.dim s.lines))
ended part.MultiPoint s = rest s.outer (Some (Value.multi_point s.dim s.points))
ended part.MultiLineString s = rest s.outer (Some (Value.multi_line_string s.dim s.lines))
ended part.MultiPolygon s = rest s.outer (Some (Value.multi_polygon s.dim s.areas))
ended part.Collection s = shut s.outer
ended part.Member s = with_point s
ended part.Bare s = with_point s
ended part.Ring s = with_line s
ended part.Line s = with_line s
ended part.AreaRing s = with_line s
ended part.Area s = record s { lines = []; areas = s.areas ++ (s.lines ∷ []) }

-- a part without items comes
abbrev pub without_items : {N : Type 0} → Part → Growing N → Growing N
without_items p s = opened p (record s { hand = record s.hand { x = None } })

-- What an event adds.
abbrev pub grow : {N : Type 0} → Event N → Growing N → Growing N
grow (Event.Header p d) s = record s { dim = d }
grow (Event.Open p) s = opened p s
grow (Event.Comma p) s = with_item p s
grow (Event.Close p) s = ended p (with_item p s)
grow (Event.Empty p) s = ended p (without_items p s)
grow (Event.Number a x) s = record s { hand = with_number a x s.hand }

abbrev pub grow_all : {N : Type 0} → List (Event N) → Growing N → Growing N
grow_all [] s = s
grow_all (e ∷ es) s = grow_all es (grow e s)

-- These parts are whole, and no geometry ended.
pub record HasParts {N : Type 0} (cs : List (List N)) (ps : List (Option (List N))) (ls : List (List (List N))) (ys : List (List (List (List N)))) (s : Growing N) : Type 0 where
  pub coords : s.coords ≡ cs
  pub points : s.points ≡ ps
  pub lines : s.lines ≡ ls
  pub areas : s.areas ≡ ys
  pub grown : s.grown ≡ None

-- The numbers at hand are those of a coordinate of the dimension.
abbrev pub HasNumbers : {N : Type 0} → Growing N → Type 0
HasNumbers s = (s.grown ≡ None) × (dim_by s.hand.z s.hand.m ≡ s.dim)

-- They are, if they are a coordinate.
abbrev pub HasPoint : {N : Type 0} → Growing N → Type 0
HasPoint s = (s.grown ≡ None) × IfSome (coord s.hand) (λ c. dim_by s.hand.z s.hand.m ≡ s.dim)

-- A collection is open.
abbrev pub HasFrame : {N : Type 0} → Growing N → Type 0
HasFrame {N} s = (f : Frame N) × (o : List (Frame N)) × (s.outer ≡ f ∷ o)

-- A geometry ended in an open collection.
abbrev pub HasMember : {N : Type 0} → Growing N → Type 0
HasMember {N} s = HasFrame s × (v : Value N) × (s.grown ≡ Some v)

-- A part may open.
abbrev pub MayOpen : {N : Type 0} → Part → Growing N → Type 0
MayOpen part.Collection s = s ≡ headed s.dim s.outer
MayOpen p s = s.grown ≡ None

-- An item of a part may be whole.
abbrev pub MayJoin : {N : Type 0} → Part → Growing N → Type 0
MayJoin part.LineString s = HasNumbers s
MayJoin part.Ring s = HasNumbers s
MayJoin part.Line s = HasNumbers s
MayJoin part.AreaRing s = HasNumbers s
MayJoin part.Collection s = HasMember s
MayJoin p s = s.grown ≡ None

-- A part may end whose items are whole: nothing else is.
abbrev pub MayEnd : {N : Type 0} → Part → Growing N → Type 0
MayEnd part.Point s = HasPoint s × HasParts [] [] [] [] s
MayEnd part.LineString s = HasParts s.coords [] [] [] s
MayEnd part.Polygon s = HasParts [] [] s.lines [] s
MayEnd part.MultiPoint s = HasParts [] s.points [] [] s
MayEnd part.MultiLineString s = HasParts [] [] s.lines [] s
MayEnd part.MultiPolygon s = HasParts [] [] [] s.areas s
MayEnd part.Collection s = HasFrame s × HasParts [] [] [] [] s
MayEnd part.Member s = HasPoint s
MayEnd part.Bare s = HasPoint s
MayEnd p s = s.grown ≡ None

-- A part may be without items.
abbrev pub MayBeEmpty : {N : Type 0} → Part → Growing N → Type 0
MayBeEmpty p s = MayOpen p s × MayEnd p (without_items p s)

-- An event may come there.
abbrev pub MayCome : {N : Type 0} → Event N → Growing N → Type 0
MayCome (Event.Header p d) s = s ≡ headed XY s.outer
MayCome (Event.Open p) s = MayOpen p s
MayCome (Event.Comma p) s = MayJoin p s
MayCome (Event.Close p) s = MayJoin p s × MayEnd p (with_item p s)
MayCome (Event.Empty p) s = MayBeEmpty p s
MayCome (Event.Number a x) s = s.grown ≡ None

-- Events each of which may come where it does.
abbrev pub MayAll : {N : Type 0} → List (Event N) → Growing N → Type 0
MayAll [] s = Unit {0}
MayAll (e ∷ es) s = MayCome e s × MayAll es (grow e s)

-- whether a part is an item of a list that opens with it
abbrev pub lists_open : Part → Bool
lists_open part.Collection = true
lists_open p = false

-- whether the items of a part are added to a list
abbrev pub lists_items : Part → Bool
lists_items part.LineString = true
lists_items part.Ring = true
lists_items part.Line = true
lists_items part.AreaRing = true
lists_items part.Collection = true
lists_items p = false

-- whether a part that ends is
abbrev pub lists_end : Part → Bool
lists_end part.Member = true
lists_end part.Bare = true
lists_end part.Ring = true
lists_end part.Line = true
lists_end part.AreaRing = true
lists_end part.Area = true
lists_end p = false

-- Whether an event adds to a list.
abbrev pub lists : {N : Type 0} → Event N → Bool
lists (Event.Header p d) = false
lists (Event.Open p) = lists_open p
lists (Event.Comma p) = lists_items p
lists (Event.Close p) = lists_items p || lists_end p
lists (Event.Empty p) = lists_end p
lists (Event.Number a x) = false

-- Whether one of the events does.
abbrev pub lists_any : {N : Type 0} → List (Event N) → Bool
lists_any [] = false
lists_any (e ∷ es) = lists e || lists_any es
