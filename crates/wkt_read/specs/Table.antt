-- With which message a text is refused: the table of docs/GRAMMAR.md.
use Rattle.std.specs.Prelude.{◌≡◌, ◌+◌, ℕ, zero, suc, List, [], ◌∷◌, ◌++◌, Option, Some, None, Bool, true, false, if◌then◌else◌}
use Rattle.std.proofs.Common.{inl, inr}
use Rattle.wkt_num.specs.Bytes as lex
use Rattle.wkt_num.specs.Bytes.{Lexeme}
use Rattle.wkt_read.specs.Begun.{opens, closes}
use Rattle.wkt_read.specs.Lexemes.{IsSplit}
use Rattle.wkt_read.specs.Grammar.{is_ascii_word}
use Rattle.wkt_read.specs.declared.messages.Message.{Message}
use Rattle.wkt_read.specs.declared.messages.Message.TheVariants as message
use Rattle.wkt_read.specs.declared.expected.Expected.{Expected}
use Rattle.wkt_read.specs.declared.expected.Expected.TheVariants as expected
use Rattle.wkt_read.specs.Context.{context, IsTurn}
use Rattle.wkt_read.specs.Explained.{IsRefusedAt}

-- The message where nothing stands, by what is expected there.
abbrev pub at_end : Expected → Message
at_end expected.Kind = message.Format
at_end expected.Member = message.Member
at_end expected.Dimension = message.End
at_end expected.Opening = message.Open
at_end expected.Point = message.X
at_end expected.X = message.X
at_end expected.Y = message.Y
at_end expected.Z = message.Z
at_end expected.M = message.M
at_end expected.More = message.Close
at_end expected.Closing = message.Close

-- Where a mark stands, or a number of the type: the same, but after a kind word alone it is that of the parenthesis.
abbrev pub at_other : Expected → Message
at_other expected.Dimension = message.Open
at_other e = at_end e

-- Where a word stands: where a kind or a dimension may stand it has its own, and at the text's start also one that isn't ASCII.
abbrev pub at_word : Expected → List ℕ → Message
at_word expected.Kind w = if is_ascii_word w then message.Kind else message.NonAscii
at_word expected.Member w = message.Kind
at_word expected.Dimension w = message.Word
at_word e w = at_other e

-- Where a number stands that its type refuses.
abbrev pub at_bad : Expected → Message
at_bad expected.Dimension = message.End
at_bad e = message.BadNumber

module _ {N : Type 0} (read : List ℕ → Option N) where
  abbrev pub at_number : Option N → Expected → Message
  at_number (Some x) e = at_other e
  at_number None e = at_bad e

  -- The message of the place alone, by the first of the lexemes there.
  abbrev pub at_place : Expected → List Lexeme → Message
  at_place e [] = at_end e
  at_place e (lex.Word w ∷ r) = at_word e w
  at_place e (lex.Num w ∷ r) = at_number (read w) e
  at_place e (x ∷ r) = at_other e

  abbrev pub is_unread : Option N → Bool
  is_unread (Some x) = false
  is_unread None = true

  -- After a kind word alone a word, or a number that its type refuses, isn't taken.
  abbrev pub stays_alone : Lexeme → Bool
  stays_alone (lex.Word w) = true
  stays_alone (lex.Num w) = is_unread (read w)
  stays_alone x = false

  -- The lexeme isn't taken where it is refused: nor is it after an item, where a parenthesis has to close.
  abbrev pub stays : Expected → Lexeme → Bool
  stays expected.Dimension x = stays_alone x
  stays expected.More x = true
  stays expected.Closing x = true
  stays e x = false

  -- The lexemes that are left for the places where the open parentheses close.
  abbrev pub left_at : Expected → List Lexeme → List Lexeme
  left_at e [] = []
  left_at e (x ∷ r) = if stays e x then x ∷ r else r

  abbrev pub unclosed : Option N → Message
  unclosed (Some x) = message.Close
  unclosed None = message.BadNumber

  -- A parenthesis has to close: `)` keeps the message, a number that its type refuses has its own, and so has anything else.
  abbrev pub closing : Message → List Lexeme → Message × List Lexeme
  closing m [] = (message.Close, [])
  closing m (lex.Close ∷ r) = (m, r)
  closing m (lex.Num w ∷ r) = (unclosed (read w), r)
  closing m (x ∷ r) = (message.Close, r)

  -- So many have to close, one after the other.
  abbrev pub closings : ℕ → Message → List Lexeme → Message × List Lexeme
  closings zero m ls = (m, ls)
  closings (suc n) m ls = closings n (closing m ls).0 (closing m ls).1

  -- The message by what is expected where lexemes are refused, how many parentheses are open there, and the lexemes there; and those of them that are left.
  abbrev pub reports : Expected → ℕ → List Lexeme → Message × List Lexeme
  reports e parens ls = closings parens (at_place e ls) (left_at e ls)

  -- The message alone.
  abbrev pub reported : Expected → ℕ → List Lexeme → Message
  reported e parens ls = (reports e parens ls).0

  -- The lexemes before the place where a text is refused.
  abbrev pub before_place : {text : List ℕ} {start end : ℕ} {e : Expected} → IsRefusedAt read text start end e → List Lexeme
  before_place (inl t) = t.before
  before_place (inr t) = t.lexemes

  -- The text is refused at this place, and the table has this message for it.
  pub record IsReportedAt (text : List ℕ) (start end : ℕ) (e : Expected) (m : Message) : Type 0 where
    pub refused : IsRefusedAt read text start end e
    pub there : List Lexeme
    pub parens : ℕ
    pub split : IsSplit text (before_place refused ++ there)
    pub turn : IsTurn e (context (before_place refused))
    pub counted : parens + closes (before_place refused) ≡ opens (before_place refused)
    pub is : m ≡ reported e parens there
