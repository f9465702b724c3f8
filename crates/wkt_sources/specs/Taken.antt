-- Which lexemes of a source are taken, and a point that a text begins with.
use Rattle.std.specs.Prelude.{◌≡◌, ◌↔◌, ◌≤◌, ℕ, ℤ, List, [], ◌∷◌, ◌++◌, length, drop, Option, Some, IsUtf8, false}
use Rattle.wkt_num.specs.Decimal.{read_decimal}
use Rattle.wkt_access.specs.declared.dimensions.Dimension.TheVariants.{XY}
use Rattle.wkt_access.specs.Values.{Value}
use Rattle.wkt_read.specs.Front.{Front}
use Rattle.wkt_read.specs.Grammar.{StandFor}
use Rattle.wkt_read.specs.Spanned.{Spanned, lexemes_of, end_after}
use Rattle.wkt_machine.specs.Machine.{start, is_over, run}
use Rattle.wkt_machine.specs.Events.{Event}
use Rattle.wkt_machine.specs.Goes.{IsStuck}
use Rattle.wkt_machine.specs.Machines.{state_of}
use Rattle.wkt_machine.specs.View.{View}
use Rattle.wkt_machine.specs.declared.machine.Machine.{Machine}

module _ {N S : Type 0} (read : List ℕ → Option N) (view : View N S) where
  -- Lexemes are taken that stand for a value.
  pub record TakesValue (s : S) (v : Value N) (t : S) : Type 0 where
    pub given : List Spanned
    pub last : Spanned
    pub split : view.remaining s ≡ given ++ (last ∷ view.remaining t)
    pub place : view.place t last.end
    pub stands : StandFor read (lexemes_of (given ++ (last ∷ []))) v
    pub keeps : (k : view.Known) → view.keeps s k → view.keeps t k

  -- The machine goes over the lexemes that are taken, up to one with which it doesn't move, or that lacks.
  pub record MachineRefuses (s : S) (m : Machine) (t : S) : Type 0 where
    pub taken : List Spanned
    pub events : List (Event N)
    pub split : view.remaining s ≡ taken ++ view.remaining t
    pub behind : (end : ℕ) → view.behind s end → view.behind t (end_after end taken)
    pub ran : run read start (lexemes_of taken) ≡ Some (state_of m, events)
    pub is_open : is_over (state_of m) ≡ false
    pub keeps : (k : view.Known) → view.keeps s k → view.keeps t k
    pub stuck : (k : view.Known) → view.keeps s k → IsStuck read m (view.remaining t)

-- The bytes have a front that ends there, which is the point of these two numbers, in units; and they are UTF-8 if and only if those behind it are.
pub record IsPointFront (places : ℕ) (text : List ℕ) (x y : ℤ) (end : ℕ) : Type 0 where
  pub front : Front (read_decimal 127 36 places) text (Value.point XY (Some (x ∷ y ∷ []))) end
  pub within : end ≤ length text
  pub utf8 : IsUtf8 text ↔ IsUtf8 (drop end text)
