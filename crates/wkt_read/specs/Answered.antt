-- What a reading answers.
use Rattle.std.specs.Prelude.{◌≡◌, ◌++◌, ℕ, List, Option, Result, Ok, Err}
use Rattle.wkt_num.specs.Bytes.{Lexeme}
use Rattle.wkt_access.specs.Values.{Value}
use Rattle.wkt_types.specs.Tree.{Tree}
use Rattle.wkt_types.specs.Values.{IsWktOf}
use Rattle.wkt_read.specs.Lexemes.{IsSplit}
use Rattle.wkt_read.specs.Grammar.{StandFor}
use Rattle.wkt_read.specs.Front.{Front}
use Rattle.wkt_read.specs.Items.{HasBad}
use Rattle.wkt_read.specs.declared.error.ReadError.{ReadError}
use Rattle.wkt_read.specs.declared.error.ReadError.TheVariants.{Text, Memory}

module _ {T : Type 0} (read : List ℕ → Option T) where
  -- The text has a front that ends here, and the tree is what its value is read as.
  abbrev pub IsFrontTo : List ℕ → Tree T → ℕ → Type 0
  IsFrontTo text t end = (v : Value T) × Front read text v end × IsWktOf v t

  -- The text has a front, and the tree is what its value is read as.
  abbrev pub IsFront : List ℕ → Tree T → Type 0
  IsFront text t = (end : ℕ) × IsFrontTo text t end

  -- The lexemes begin with some that stand for the value, and others are left.
  abbrev pub Begins : List Lexeme → Value T → List Lexeme → Type 0
  Begins old v new = (f : List Lexeme) × (old ≡ f ++ new) × StandFor read f v

  -- The lexemes begin with some that stand for a value, and the tree is what it is read as.
  abbrev pub IsReadOff : List Lexeme → Tree T → List Lexeme → Type 0
  IsReadOff old t new = (v : Value T) × Begins old v new × IsWktOf v t

  -- Some number run of the text is one that the number type doesn't read.
  abbrev pub HasBadNumber : List ℕ → Type 0
  HasBadNumber text = (ls : List Lexeme) × IsSplit text ls × HasBad read ls

-- this holds where the answer is `Text`
abbrev pub OnText : {X : Type 0} → Result X ReadError → Type 0 → Type 0
OnText (Ok x) P = Unit {0}
OnText (Err (Text m)) P = P
OnText (Err (Memory e)) P = Unit {0}

-- this holds where the answer is `Text` with this message
abbrev pub OnMessage : {X : Type 0} → Result X ReadError → List ℕ → Type 0 → Type 0
OnMessage (Ok x) message P = Unit {0}
OnMessage (Err (Text m)) message P = m.now ≡ message → P
OnMessage (Err (Memory e)) message P = Unit {0}
