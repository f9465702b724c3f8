-- What a source is read as.
use Rattle.std.specs.Prelude.{◌≡◌, ◌<◌, ◌≤◌, ℕ, List, [], length, Option, Result, Ok, Err, IfOk, false}
use Rattle.std.specs.Result.{IsOk}
use Rattle.std.specs.Str.{IsCharBoundary}
use Rattle.std.specs.declared.alloc.AllocError.{AllocError}
use Rattle.wkt_access.specs.Values.{Value}
use Rattle.wkt_types.specs.Tree.{Tree as Kept, tree}
use Rattle.wkt_types.specs.Values.{IsWktOf}
use Rattle.wkt_types.specs.declared.geometry.Wkt.{Wkt}
use Rattle.wkt_read.specs.Answered.{IsFrontTo, HasBadNumber, OnText, OnMessage}
use Rattle.wkt_read.specs.Front.{Front, HasNoFront, NeedsNoMemory}
use Rattle.wkt_read.specs.Items.{bad_number}
use Rattle.wkt_read.specs.Refusal.{IsTextRefused, IfText}
use Rattle.wkt_read.specs.declared.error.ReadError.{ReadError}
use Rattle.wkt_values.specs.Trees.{HoldsWhole, IsLost}
use Rattle.wkt_machine.specs.View.{View}
use Rattle.wkt_machine.specs.declared.machine.Machine.{Machine}
use Rattle.wkt_values.specs.declared.tree.Tree.{Tree}
use Rattle.wkt_values.specs.declared.value.Unread.{Unread}
use Rattle.wkt_values.specs.declared.value.Unread.TheVariants.{Refused, Memory}
use Rattle.wkt_sources.specs.Taken.{TakesValue}

-- this holds of the machine where the answer is `Refused`
abbrev pub OnRefused : {X : Type 0} → Result X Unread → (Machine → Type 0) → Type 0
OnRefused (Ok x) P = Unit {0}
OnRefused (Err (Refused m)) P = P m
OnRefused (Err (Memory e)) P = Unit {0}

-- this holds where the answer is `Memory`
abbrev pub OnMemory : {X : Type 0} → Result X Unread → Type 0 → Type 0
OnMemory (Ok x) P = Unit {0}
OnMemory (Err (Refused m)) P = Unit {0}
OnMemory (Err (Memory e)) P = P

-- The value that ended, or that it is lost.
abbrev pub AnswersTree : {T : Type 0} → Tree T → Result (Wkt T) AllocError → Type 0
AnswersTree {T} t (Ok w) = (t.is_lost ≡ false) × ((v : Value T) → HoldsWhole t [] v → IsWktOf v (tree w))
AnswersTree t (Err e) = IsLost t

-- The geometry at the front of a text and its end, or why there is none.
pub record AnswersText {N : Type 0} (read : List ℕ → Option N) (text : List ℕ) (answer : Result (Wkt N × ℕ) ReadError) : Type 0 where
  pub found : IfOk answer (λ r. IsFrontTo read text (tree r.0) r.1)
  pub some : IfOk answer (λ r. 0 < r.1)
  pub within : IfOk answer (λ r. r.1 ≤ length text)
  pub boundary : IfOk answer (λ r. IsCharBoundary text r.1)
  pub no_front : OnText answer (HasNoFront read text)
  pub bad : OnMessage answer bad_number (HasBadNumber read text)
  pub refusal : IfText answer (λ said. IsTextRefused read text said)
  pub free : (v : Value N) (end : ℕ) → Front read text v end → NeedsNoMemory v → IsOk answer

module _ {N S : Type 0} (read : List ℕ → Option N) (view : View N S) where
  -- The tree is what the value is read as that the lexemes which are taken stand for.
  abbrev pub IsRead : S → Kept N → S → Type 0
  IsRead s w t = (v : Value N) × TakesValue read view s v t × IsWktOf v w

  -- They stand for a value that isn't read without memory.
  abbrev pub WantsMemory : S → S → Type 0
  WantsMemory s t = (v : Value N) × TakesValue read view s v t × (NeedsNoMemory v → ⊥)
