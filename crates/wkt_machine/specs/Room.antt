-- How much room what is made takes, at most, and whether there is so much.
use Rattle.std.specs.Prelude.{◌≡◌, ℕ, ◌+◌, ◌-◌, ◌*◌, ◌≤◌, ◌<◌, List, [], ◌∷◌, length, get_or, slice_range, IsTrue, ◌==◌, if◌then◌else◌}
use Rattle.wkt_num.specs.Bytes.{Lexeme}
use Rattle.wkt_num.specs.Bytes as lex
use Rattle.wkt_read.specs.Lexemes.{starts_number, without_plus}
use Rattle.wkt_read.specs.Spanned.{Spanned}
use Rattle.wkt_events.specs.Remaining.{IsRunEnd}
use Rattle.wkt_machine.specs.Machines.{state_of}
use Rattle.wkt_machine.specs.Makers.{Maker}
use Rattle.wkt_machine.specs.Machine.{Place, State}
use Rattle.wkt_machine.specs.Machine as place
use Rattle.wkt_machine.specs.View.{View}
use Rattle.wkt_machine.specs.declared.part.Part.{Part}
use Rattle.wkt_machine.specs.declared.part.Part.TheVariants as part
use Rattle.wkt_machine.specs.declared.source.Progress.{Progress}

-- how many letters the kind word of a part has
abbrev pub name_length : Part → ℕ
name_length part.Point = 5
name_length part.LineString = 10
name_length part.Polygon = 7
name_length part.MultiPoint = 10
name_length part.MultiLineString = 15
name_length part.MultiPolygon = 12
name_length part.Collection = 18
name_length p = 0

-- how much a header takes: the word, and a space with two letters for the dimension
abbrev pub header_cost : Part → ℕ
header_cost p = name_length p + 3

-- the shortest run that is the lexeme of a number: a plus stands before it only where it is empty or begins with one
abbrev pub shortest : List ℕ → List ℕ
shortest [] = 43 ∷ []
shortest (b ∷ bs) = if b == 43 then 43 ∷ b ∷ bs else b ∷ bs

-- how much a number takes: its text is shorter than twice its run, and a space stands before it
abbrev pub number_cost : List ℕ → ℕ
number_cost run = 2 * length (shortest run)

-- how much a lexeme takes; a number may be the first or the last of a point without parentheses
abbrev pub cost : Lexeme → ℕ
cost lex.Open = 1
cost lex.Close = 1
cost lex.Comma = 1
cost (lex.Word w) = 2 * length w + 1
cost (lex.Num run) = number_cost run + 1

abbrev pub need : List Spanned → ℕ
need [] = 0
need (p ∷ ps) = cost p.lexeme + need ps

-- how much is owed at a place for a lexeme that was taken
abbrev pub owed_at : Place → ℕ
owed_at (place.Alone p) = header_cost p
owed_at p = 0

abbrev pub owed : State → ℕ
owed s = owed_at s.place

module _ {N B : Type 0} (maker : Maker N B) where
  -- No more room is taken.
  abbrev pub Leaves : B → ℕ → B → Type 0
  Leaves b k c = (m : ℕ) → maker.fits b (m + k) → maker.fits c m

  -- There is room for the number that stands in the bytes.
  pub record FitsNumber (b : B) (text : List ℕ) (at : ℕ) : Type 0 where
    pub some : maker.fits b 0
    pub run : (end : ℕ) → IsRunEnd text at end → at < end → IsTrue (starts_number (get_or text at 0)) → maker.fits b (number_cost (without_plus (slice_range text at end)))

  -- There is room for it and for a parenthesis before it.
  pub record FitsBare (b : B) (text : List ℕ) (at : ℕ) : Type 0 where
    pub some : maker.fits b 1
    pub run : (end : ℕ) → IsRunEnd text at end → at < end → IsTrue (starts_number (get_or text at 0)) → maker.fits b (number_cost (without_plus (slice_range text at end)) + 1)

  -- A number was made that ends there; what is left for the text behind it.
  abbrev pub LeavesBehind : B → List ℕ → ℕ → B → ℕ → Type 0
  LeavesBehind b text at c end = (m : ℕ) → m ≤ 2 * (length text - end) + 1 → maker.fits b (m + number_cost (without_plus (slice_range text at end))) → maker.fits c m

  -- The same with a parenthesis before it.
  abbrev pub LeavesBehindBare : B → List ℕ → ℕ → B → ℕ → Type 0
  LeavesBehindBare b text at c end = (m : ℕ) → m ≤ 2 * (length text - end) + 1 → maker.fits b (m + number_cost (without_plus (slice_range text at end)) + 1) → maker.fits c m

module _ {N S B : Type 0} (view : View N S) (maker : Maker N B) where
  -- There is room for so much, and for the lexemes that are left. Numbers that are given by value take none, and are read as whatever is made reads them.
  pub record HasRoom (more : ℕ) (s : S) (b : B) : Type 0 where
    pub fits : maker.fits b (more + need (view.remaining s))
    pub values : view.by_value → (c : B) (x : N) → maker.takes c x ≡ 0
    pub reads : view.by_value → (c : B) → maker.reads c ≡ view.number

  -- There is room at a place for the lexemes that are left.
  abbrev pub RoomAt : Progress S B → Type 0
  RoomAt to = HasRoom (owed (state_of to.machine)) to.source to.builder

  -- The next lexeme is a number: there is room for it and for those behind it.
  pub record HasNumberRoom (s : S) (b : B) : Type 0 where
    pub fits : maker.fits b (need (view.remaining s) - 1)
    pub values : view.by_value → (c : B) (x : N) → maker.takes c x ≡ 0
    pub reads : view.by_value → (c : B) → maker.reads c ≡ view.number

  -- The number was made. It may be the last before a parenthesis that isn't there.
  abbrev pub LeavesNumber : S → B → S → B → Type 0
  LeavesNumber s b t c = (k : ℕ) → k ≤ 1 → maker.fits b (k + (need (view.remaining s) - 1)) → maker.fits c (k + need (view.remaining t))
