-- What a function says that takes lexemes off a source. Only private contracts cite these words.
use Rattle.std.specs.Prelude.{◌≡◌, ◌≢◌, ℕ, ◌+◌, ◌≤◌, List, length, Option, Some, Result, IfOk, IfErr, false}
use Rattle.wkt_machine.specs.Goes.{Skips, Goes, Refuses}
use Rattle.wkt_machine.specs.Machine.{is_over, made, number_of}
use Rattle.wkt_machine.specs.Machines.{state_of, IsSound}
use Rattle.wkt_machine.specs.Makers.{Maker}
use Rattle.wkt_machine.specs.Room.{owed, header_cost, Leaves, HasRoom, RoomAt}
use Rattle.wkt_machine.specs.View.{View, sight}
use Rattle.wkt_machine.specs.declared.machine.Machine.{Machine}
use Rattle.wkt_machine.specs.declared.machine.LexemeKind.{LexemeKind}
use Rattle.wkt_machine.specs.declared.machine.LexemeKind.TheVariants as seen
use Rattle.wkt_machine.specs.declared.source.Progress.{Progress}
use Rattle.wkt_machine.specs.declared.step.Action.{Action}
use Rattle.wkt_machine.specs.declared.step.Action.TheVariants as act

-- A number is made of a number alone, and what is none of what is none.
abbrev pub IsMadeOf : Action → LexemeKind → Type 0
IsMadeOf (act.Number a) k = k ≡ seen.Number
IsMadeOf act.FirstBare k = k ≡ seen.Number
IsMadeOf (act.LastBare a) k = k ≡ seen.Number
IsMadeOf a k = (k ≢ seen.Other) × (k ≢ seen.Number)

-- how much room an action takes, but for a number
abbrev pub spent : Action → ℕ
spent (act.Header p d) = header_cost p
spent (act.HeaderOpen p) = 1 + header_cost p
spent (act.HeaderEmpty p) = 6 + header_cost p
spent (act.Open p) = 1
spent (act.Comma p) = 1
spent (act.Close p) = 1
spent (act.Empty p) = 6
spent a = 0

module _ {N S B : Type 0} (view : View N S) (maker : Maker N B) where
  -- A machine that isn't over may go on: its depth fits a usize whatever comes, and there is room for what is left.
  pub record MayStep (m : Machine) (s : S) (b : B) : Type 0 where
    pub sound : IsSound m
    pub unover : is_over (state_of m) ≡ false
    pub depth : m.depth + length (view.remaining s) ≤ 18446744073709551615
    pub room : HasRoom view maker (owed (state_of m)) s b

  -- It goes over a lexeme or more, and leaves room for the others; or one of them is refused.
  pub record Steps (m : Machine) (s : S) (b : B) (r : Result (Progress S B) (Progress S B)) : Type 0 where
    pub on : IfOk r (Goes (maker.reads b) view maker m s b)
    pub room : IfOk r (RoomAt view maker)
    pub refused : IfErr r (Refuses (maker.reads b) view maker m s b)

  -- There is room for what is made of the lexeme that comes next.
  abbrev pub HasRoomFor : Action → S → B → Type 0
  HasRoomFor (act.Number a) s b = HasRoom view maker 0 s b
  HasRoomFor act.FirstBare s b = HasRoom view maker 0 s b
  HasRoomFor (act.LastBare a) s b = HasRoom view maker 0 s b
  HasRoomFor a s b = maker.fits b (spent a)

  -- It was looked at, and an action is what is made of it.
  pub record MayApply (a : Action) (s : S) (b : B) : Type 0 where
    pub looked : view.looked s
    pub of : IsMadeOf a (sight (view.remaining s))
    pub room : HasRoomFor a s b

  -- No more room was taken.
  abbrev pub LeavesRoom : Action → B → S → B → Type 0
  LeavesRoom (act.Number a) b t c = HasRoom view maker 0 t c
  LeavesRoom act.FirstBare b t c = HasRoom view maker 0 t c
  LeavesRoom (act.LastBare a) b t c = HasRoom view maker 0 t c
  LeavesRoom a b t c = Leaves maker b (spent a) c

-- A lexeme is taken, and what an action makes of it is made.
pub record Applies {N S B : Type 0} (read : List ℕ → Option N) (view : View N S) (maker : Maker N B) (a : Action) (s : S) (b : B) (t : S) (c : B) : Type 0 where
  pub skips : Skips view s t
  pub number : Option N
  pub has : number_of read skips.lexeme.lexeme ≡ Some number
  pub makes : maker.makes b (made a number) c
  pub room : LeavesRoom view maker a b t c
