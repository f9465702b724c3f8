-- What an item of a stream says of a lexeme, and numbers that the number type doesn't read.
use Rattle.std.specs.Prelude.{◌≡◌, ℕ, List, codes, Option, Some, None, Result, Ok, Err, ◌++◌, ◌∷◌}
use Rattle.std.specs.Borrow.{Bor}
use Rattle.wkt_num.specs.Bytes.{Lexeme, Num}
use Rattle.wkt_num.specs.Bytes as lex
use Rattle.wkt_read.specs.declared.tokenizer.tokens.Token.{Token}
use Rattle.wkt_read.specs.declared.tokenizer.tokens.Token.TheVariants.{Comma, Number, ParenClose, ParenOpen, Word}

-- What an item of a stream says of a lexeme.

-- the message of a number run that the number type doesn't read
abbrev pub bad_number : List ℕ
bad_number = codes "Unable to parse input number as the desired output type"

-- The item says what the lexeme is, a number as the number type reads it.
abbrev pub Says : {T : Type 0} → (List ℕ → Option T) → Result (Token T) (Bor (List ℕ)) → Lexeme → Type 0
Says read (Ok Comma) l = l ≡ lex.Comma
Says read (Ok (Number x)) l = (run : List ℕ) × (l ≡ lex.Num run) × (read run ≡ Some x)
Says read (Ok ParenClose) l = l ≡ lex.Close
Says read (Ok ParenOpen) l = l ≡ lex.Open
Says read (Ok (Word w)) l = l ≡ lex.Word w.now
Says read (Err e) l = (run : List ℕ) × (l ≡ lex.Num run) × (read run ≡ None) × (e.now ≡ bad_number)

-- There is an item exactly where there is a lexeme, and it says what the lexeme is.
abbrev pub IsItem : {T : Type 0} → (List ℕ → Option T) → Option Lexeme → Option (Result (Token T) (Bor (List ℕ))) → Type 0
IsItem read None None = Unit {0}
IsItem read None (Some x) = ⊥
IsItem read (Some l) None = ⊥
IsItem read (Some l) (Some x) = Says read x l

-- Numbers that the number type doesn't read.

-- One of the lexemes is a number run that the number type doesn't read.
pub record HasBad {N : Type 0} (read : List ℕ → Option N) (ls : List Lexeme) : Type 0 where
  pub before : List Lexeme
  pub run : List ℕ
  pub after : List Lexeme
  pub split : ls ≡ before ++ (Num run ∷ after)
  pub unread : read run ≡ None
