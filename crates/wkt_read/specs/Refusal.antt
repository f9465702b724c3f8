-- With which message lexemes or a text are refused, by the table.
use Rattle.std.specs.Prelude.{◌≡◌, ℕ, ◌+◌, List, [], ◌∷◌, ◌++◌, Option, Result, Ok, Err}
use Rattle.wkt_num.specs.Bytes.{Lexeme}
use Rattle.wkt_read.specs.Begun.{BegunGeometry, NoneBegins, opens, closes, IsJustDead}
use Rattle.wkt_read.specs.Context.{context, IsTurn}
use Rattle.wkt_read.specs.Explained.{IsExpectedAfter}
use Rattle.wkt_read.specs.Lexemes.{IsSplit}
use Rattle.wkt_read.specs.Messages.{message_text}
use Rattle.wkt_read.specs.Table.{reports}
use Rattle.wkt_read.specs.declared.error.ReadError.{ReadError}
use Rattle.wkt_read.specs.declared.error.ReadError.TheVariants.{Text, Memory}
use Rattle.wkt_read.specs.declared.expected.Expected.{Expected}
use Rattle.wkt_read.specs.declared.messages.Message.{Message}

module _ {N : Type 0} (read : List ℕ → Option N) where
  -- Between these lexemes and those is the place where they are refused: with the first of those they are dead, and no shorter beginning is; or none follows, they are a beginning of a geometry, and no beginning of them is one.
  abbrev pub StopsBetween : List Lexeme → List Lexeme → Type 0
  StopsBetween before [] = BegunGeometry read before × NoneBegins read before
  StopsBetween before (fault ∷ later) = IsJustDead read (before ++ (fault ∷ []))

  -- The lexemes are refused, the table has this message for the place, and these of them are left.
  pub record HasMessage (lexemes : List Lexeme) (m : Message) (remaining : List Lexeme) : Type 0 where
    pub before : List Lexeme
    pub there : List Lexeme
    pub expected : Expected
    pub parens : ℕ
    pub split : lexemes ≡ before ++ there
    pub stops : StopsBetween before there
    pub could_stand : IsExpectedAfter read before expected
    pub turn : IsTurn expected (context before)
    pub counted : parens + closes before ≡ opens before
    pub is : reports read expected parens there ≡ (m, remaining)

  -- The lexemes are refused with this text, and these of them are left.
  abbrev pub IsRefused : List Lexeme → List ℕ → List Lexeme → Type 0
  IsRefused lexemes said remaining = (m : Message) × (said ≡ message_text m) × HasMessage lexemes m remaining

  -- The text is refused with this message.
  abbrev pub IsRefusedWith : List ℕ → Message → Type 0
  IsRefusedWith text m = (lexemes remaining : List Lexeme) × IsSplit text lexemes × HasMessage lexemes m remaining

  -- The text is refused, and this is said of it.
  abbrev pub IsTextRefused : List ℕ → List ℕ → Type 0
  IsTextRefused text said = (m : Message) × (said ≡ message_text m) × IsRefusedWith text m

-- where the answer is `Text`, this holds of what it says
abbrev pub IfText : {X : Type 0} → Result X ReadError → (List ℕ → Type 0) → Type 0
IfText (Ok x) P = Unit {0}
IfText (Err (Text m)) P = P m.now
IfText (Err (Memory e)) P = Unit {0}
