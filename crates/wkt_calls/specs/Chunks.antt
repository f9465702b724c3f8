-- The answers to some lines at the front of an input.
use Rattle.std.specs.Prelude.{◌≡◌, ◌<◌, ◌≤◌, ◌-◌, ◌⊎◌, ℕ, List, Option, Bool, false, length, take, drop}
use Rattle.wkt_lines.specs.Output.{IsOutput}
use Rattle.wkt_lines.specs.Lines.{before_feed}
use Rattle.wkt_calls.specs.Calls.{AreWholeLines, IsFirstLine}

-- There is no whole line.
abbrev pub HasNoLine : Bool → List ℕ → Type 0
HasNoLine last input = (length input ≡ 0) ⊎ ((last ≡ false) × (before_feed input ≡ input))

module _ {N : Type 0} (read : List ℕ → Option N) (num : N → List ℕ) where
  -- The answer to the first line takes more than so many bytes.
  pub record LacksRoom (last : Bool) (input : List ℕ) (room : ℕ) : Type 0 where
    pub taken : ℕ
    pub line : IsFirstLine last input taken
    pub answers : List ℕ
    pub are : IsOutput read num (take taken input) answers
    pub small : room < length answers

  -- So many bytes of the input are taken, and the first `written` bytes of the buffer are the answers to them. Where they aren't all, what is left has no whole line, or the answer to its first line has no room; and if none is taken, there is no whole line.
  pub record AnswersSome (last : Bool) (input : List ℕ) (taken written : ℕ) (out : List ℕ) : Type 0 where
    pub within : taken ≤ length input
    pub lines : AreWholeLines last input taken
    pub fits : written ≤ length out
    pub answers : IsOutput read num (take taken input) (take written out)
    pub some : taken ≡ 0 → HasNoLine last input
    pub full : HasNoLine last (drop taken input) ⊎ LacksRoom last (drop taken input) (length out - written)

  -- Memory ran out, or the answer to the first line has no room.
  abbrev pub AnswersNone : Bool → List ℕ → List ℕ → ℕ → Type 0
  AnswersNone last input out status = (status ≡ 22) ⊎ ((status ≡ 21) × LacksRoom last input (length out))
