-- How the lexemes of a geometry read, one at a time: the places in its text, the state after each lexeme, and the events
-- that it makes; where a text begins, and where its geometry is over.
use Rattle.std.specs.Prelude.{ℕ, zero, suc, ◌-◌, List, [], ◌∷◌, ◌++◌, Option, Some, None, if◌then◌else◌, Bool, true, false}
use Rattle.wkt_access.specs.declared.dimensions.Dimension.{Dimension}
use Rattle.wkt_machine.specs.declared.part.Part.{Part}
use Rattle.wkt_num.specs.Bytes.{Lexeme}
use Rattle.wkt_num.specs.Bytes as lex
use Rattle.wkt_access.specs.declared.dimensions.Dimension.TheVariants.{XY, XYZ, XYM, XYZM}
use Rattle.wkt_types.specs.declared.geometry_type.GeometryType.{GeometryType}
use Rattle.wkt_read.specs.Grammar.{KindWord, kind_word, dim_word, is_empty_word}
use Rattle.wkt_machine.specs.declared.step.Action.{Action}
use Rattle.wkt_machine.specs.declared.step.Action.TheVariants as act
use Rattle.wkt_machine.specs.Events.{Event, axis_of}
use Rattle.wkt_types.specs.declared.geometry_type.GeometryType.TheVariants as kind
use Rattle.wkt_machine.specs.declared.part.Axis.TheVariants as axis
use Rattle.wkt_machine.specs.declared.part.Part.TheVariants as part

-- Places in the text of a geometry.

-- What comes next: a geometry; what stands behind the kind word of this part; this part; a number of a coordinate, with so many after it; what stands behind an item; what stands behind a geometry.
pub data Place : Type 0 where
  Kind : Place
  Alone : Part → Place
  Opening : Part → Dimension → Place
  Number : Part → Dimension → (more : ℕ) → Place
  Item : Part → Dimension → Place
  Geometry : Place

-- A place, and in how many collections it is.
pub record State : Type 0 where
  pub place : Place
  pub depth : ℕ

-- How the lexemes of a geometry read, one at a time: the state after each, and the events that it makes.

-- the part that stands behind the header of a kind
abbrev pub part_of : GeometryType → Part
part_of kind.Point = part.Point
part_of kind.LineString = part.LineString
part_of kind.Polygon = part.Polygon
part_of kind.MultiPoint = part.MultiPoint
part_of kind.MultiLineString = part.MultiLineString
part_of kind.MultiPolygon = part.MultiPolygon
part_of kind.GeometryCollection = part.Collection

-- how many numbers a coordinate has after its first
abbrev pub numbers_after : Dimension → ℕ
numbers_after XY = 1
numbers_after XYZ = 2
numbers_after XYM = 2
numbers_after XYZM = 3

abbrev pub at : ℕ → Place → State
at n p = record { place = p; depth = n }

-- where an item of a part begins
abbrev pub inside : Part → Dimension → ℕ → State
inside part.Polygon d n = at n (Opening part.Ring d)
inside part.MultiLineString d n = at n (Opening part.Line d)
inside part.MultiPoint d n = at n (Opening part.Member d)
inside part.MultiPolygon d n = at n (Opening part.Area d)
inside part.Area d n = at n (Opening part.AreaRing d)
inside part.Collection d n = at (suc n) Kind
inside p d n = at n (Number p d (numbers_after d))

-- after a whole part
abbrev pub outside : Part → Dimension → ℕ → State
outside part.Ring d n = at n (Item part.Polygon d)
outside part.Line d n = at n (Item part.MultiLineString d)
outside part.Member d n = at n (Item part.MultiPoint d)
outside part.Bare d n = at n (Item part.MultiPoint d)
outside part.Area d n = at n (Item part.MultiPolygon d)
outside part.AreaRing d n = at n (Item part.Area d)
outside p d n = at n Geometry

-- a kind word, with the dimension that is joined to it
abbrev pub joined_step : Part → Option Dimension → ℕ → State × Action
joined_step p (Some d) n = (at n (Opening p d), act.Header p d)
joined_step p None n = (at n (Alone p), act.Nothing)

abbrev pub kind_step : Option KindWord → ℕ → Option (State × Action)
kind_step (Some e) n = Some (joined_step (part_of e.kind) e.joined n)
kind_step None n = None

-- after a kind word alone: a dimension word, or EMPTY
abbrev pub dimension_step : Option Dimension → Part → List ℕ → ℕ → Option (State × Action)
dimension_step (Some d) p w n = Some (at n (Opening p d), act.Header p d)
dimension_step None p w n = if is_empty_word w then Some (outside p XY n, act.HeaderEmpty p) else None

-- behind the last number of a coordinate; a point without parentheses ends with it
abbrev pub last_place : Part → Dimension → Place
last_place part.Bare d = Item part.MultiPoint d
last_place p d = Item p d

abbrev pub last_step : Part → Dimension → Action
last_step part.Bare d = act.LastBare (axis_of d 0)
last_step p d = act.Number (axis_of d 0)

abbrev pub number_step : Part → Dimension → ℕ → ℕ → State × Action
number_step p d zero n = (at n (last_place p d), last_step p d)
number_step p d (suc more) n = (at n (Number p d more), act.Number (axis_of d (suc more)))

-- the first number of a point without parentheses
abbrev pub bare_step : Part → Dimension → ℕ → Option (State × Action)
bare_step part.Member d n = Some (at n (Number part.Bare d (numbers_after d - 1)), act.FirstBare)
bare_step p d n = None

-- a comma, where a part may have more than one item
abbrev pub comma_step : Part → Dimension → ℕ → Option (State × Action)
comma_step part.Point d n = None
comma_step part.Member d n = None
comma_step p d n = Some (inside p d n, act.Comma p)

-- what each lexeme does at each place; no other may come next
abbrev pub step_at : Place → ℕ → Lexeme → Option (State × Action)
step_at Kind n (lex.Word w) = kind_step (kind_word w) n
step_at (Alone p) n (lex.Word w) = dimension_step (dim_word w) p w n
step_at (Alone p) n lex.Open = Some (inside p XY n, act.HeaderOpen p)
step_at (Opening p d) n lex.Open = Some (inside p d n, act.Open p)
step_at (Opening p d) n (lex.Word w) = if is_empty_word w then Some (outside p d n, act.Empty p) else None
step_at (Opening p d) n (lex.Num run) = bare_step p d n
step_at (Number p d more) n (lex.Num run) = Some (number_step p d more n)
step_at (Item p d) n lex.Comma = comma_step p d n
step_at (Item p d) n lex.Close = Some (outside p d n, act.Close p)
step_at Geometry (suc n) lex.Comma = Some (at (suc n) Kind, act.Comma part.Collection)
step_at Geometry (suc n) lex.Close = Some (at n Geometry, act.Close part.Collection)
step_at p n l = None

abbrev pub step : State → Lexeme → Option (State × Action)
step s l = step_at s.place s.depth l

-- the events of an action, by the number of the lexeme
abbrev pub made : {N : Type 0} → Action → Option N → List (Event N)
made (act.Header p d) x = Event.Header p d ∷ []
made (act.HeaderOpen p) x = Event.Header p XY ∷ Event.Open p ∷ []
made (act.HeaderEmpty p) x = Event.Header p XY ∷ Event.Empty p ∷ []
made (act.Open p) x = Event.Open p ∷ []
made (act.Comma p) x = Event.Comma p ∷ []
made (act.Close p) x = Event.Close p ∷ []
made (act.Empty p) x = Event.Empty p ∷ []
made (act.Number a) (Some x) = Event.Number a x ∷ []
made act.FirstBare (Some x) = Event.Open part.Member ∷ Event.Number axis.X x ∷ []
made (act.LastBare a) (Some x) = Event.Number a x ∷ Event.Close part.Member ∷ []
made a x = []

-- A move: the state after it, and what it makes.
abbrev pub Move : Type 0 → Type 0
Move N = State × List (Event N)

-- a move, if there is one, with these events before its own
abbrev pub after : {N : Type 0} → List (Event N) → Option (Move N) → Option (Move N)
after es None = None
after es (Some m) = Some (m.0, es ++ m.1)

-- a move, if there is one, and what comes after it
abbrev pub and_then : {N : Type 0} → Option (Move N) → (State → Option (Move N)) → Option (Move N)
and_then None more = None
and_then (Some m) more = after m.1 (more m.0)

module _ {N : Type 0} (read : List ℕ → Option N) where
  -- the number of a lexeme, if it has one; there is none of a number that its type doesn't read
  abbrev pub said : Option N → Option (Option N)
  said (Some x) = Some (Some x)
  said None = None

  abbrev pub number_of : Lexeme → Option (Option N)
  number_of (lex.Num run) = said (read run)
  number_of l = Some None

  abbrev pub moved : Option (State × Action) → Option (Option N) → Option (Move N)
  moved (Some s) (Some x) = Some (s.0, made s.1 x)
  moved s x = None

  abbrev pub move : State → Lexeme → Option (Move N)
  move s l = moved (step s l) (number_of l)

  -- moves over lexemes, one after another
  abbrev pub run : State → List Lexeme → Option (Move N)
  run s [] = Some (s, [])
  run s (l ∷ ls) = and_then (move s l) (λ t. run t ls)

-- Where a text begins, and where its geometry is over.

-- where a text begins
abbrev pub start : State
start = at 0 Kind

-- whether a geometry stands before that is in no collection
abbrev pub over_at : Place → ℕ → Bool
over_at Geometry zero = true
over_at p n = false

abbrev pub is_over : State → Bool
is_over s = over_at s.place s.depth
