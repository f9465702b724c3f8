-- What a stream of lexemes has still to give, also one that was looked at ahead; how readers go over it; and calls that take
-- the next lexeme if it is what they want.
use Rattle.std.specs.Prelude.{ℕ, List, length, Option, Result, ◌≡◌, ◌+◌, ◌≤◌, ◌<◌, ◌∷◌, ◌++◌, [], Some, None, take, get_or, false}
use Rattle.std.specs.Borrow.{Bor}
use Rattle.std.specs.Iterator.{Count, at_most}
use Rattle.wkt_num.specs.Bytes.{Lexeme, Word, Num, AllRun}
use Rattle.wkt_read.specs.Lexemes.{starts_number}
use Rattle.wkt_read.specs.Spanned.{Spanned, Standing, StepsFrom, lexemes_of, end_after}
use Rattle.wkt_read.specs.Items.{IsItem}
use Rattle.wkt_read.specs.declared.tokenizer.tokens.Token.{Token}
use Rattle.wkt_access.specs.declared.Dimension.{Dimension}
use Rattle.wkt_types.specs.declared.geometry_type.GeometryType.{GeometryType}
use Rattle.wkt_read.specs.Grammar.{KindWord, kind_word}

-- What a stream of lexemes has still to give.

-- the lexemes that `next` has not given yet
abbrev pub coming : Standing → List Spanned
coming s = s.remaining

-- how many bytes of the text were taken
abbrev pub bytes_taken : Standing → ℕ
bytes_taken s = s.taken

-- where the last lexeme that `next` gave ends
abbrev pub end_of_last : Standing → ℕ
end_of_last s = s.end

-- One step of this stream.
abbrev pub Steps : Standing → Option Lexeme → Standing → Type 0
Steps s l t = StepsFrom s l t

-- One call of `next`: one step, and the item says which lexeme it took.
abbrev pub Gives : {T : Type 0} → (List ℕ → Option T) → Standing → Option (Result (Token T) (Bor (List ℕ))) → Standing → Type 0
Gives read s r t = (l : Option Lexeme) × Steps s l t × IsItem read l r

-- each item takes one lexeme
abbrev pub count : Standing → Count
count s = at_most (length (coming s))

-- What a stream that was looked at ahead has still to give.

-- the lexemes that `next` has not given yet
abbrev pub remaining : Standing → List Spanned
remaining p = p.remaining

-- how many bytes of the text were taken, for what was looked at too
abbrev pub taken_of : Standing → ℕ
taken_of p = p.taken

-- where the last lexeme that `next` gave ends
abbrev pub end_of : Standing → ℕ
end_of p = p.end

-- the lexemes still to come, without their places
unfoldable pub rest : Standing → List Lexeme
rest p = lexemes_of (remaining p)

-- One step of this stream.
abbrev pub Moves : Standing → Option Lexeme → Standing → Type 0
Moves s l t = StepsFrom s l t

-- One call of `next`: one step, and the item says which lexeme it took.
abbrev pub GivesAhead : {T : Type 0} → (List ℕ → Option T) → Standing → Option (Result (Token T) (Bor (List ℕ))) → Standing → Type 0
GivesAhead read s r t = (l : Option Lexeme) × Moves s l t × IsItem read l r

-- each item takes one lexeme
abbrev pub count_ahead : Standing → Count
count_ahead s = at_most (length (remaining s))

-- the first of these lexemes, if there is one
abbrev pub first_of : List Spanned → Option Lexeme
first_of [] = None
first_of (x ∷ xs) = Some x.lexeme

-- the last of the lexemes ends here, if there is one
abbrev pub IfLast : List Spanned → ℕ → Type 0
IfLast [] end = Unit {0}
IfLast (x ∷ []) end = x.end ≡ end
IfLast (x ∷ y ∷ xs) end = IfLast (y ∷ xs) end

-- The stream is at a place after some of the lexemes.
pub record IsAfter (start : List Spanned) (p : Standing) : Type 0 where
  pub given : List Spanned
  pub split : start ≡ given ++ remaining p
  pub last : IfLast given (end_of p)

-- Of the lexemes that `old` had left, some were taken, in order, and the others are left. The end is that of the last one taken, or stays where none was, and no byte is given back.
pub record Advances (old new : Standing) : Type 0 where
  pub given : List Spanned
  pub split : remaining old ≡ given ++ remaining new
  pub end : end_of new ≡ end_after (end_of old) given
  pub grows : taken_of old ≤ taken_of new

-- No byte was taken past the last lexeme given, but for one.
pub record IsNear (p : Standing) : Type 0 where
  pub low : end_of p ≤ taken_of p
  pub high : taken_of p ≤ end_of p + 1

-- How readers go over the lexemes of a stream. Only private contracts cite these words.

-- one lexeme is taken, if there is one
abbrev pub TakesNext : Option Lexeme → List Lexeme → List Lexeme → Type 0
TakesNext None old new = (old ≡ []) × (new ≡ [])
TakesNext (Some l) old new = old ≡ l ∷ new

-- the first of these lexemes is this one, or there is none
abbrev pub IsFirst : Option Lexeme → List Lexeme → Type 0
IsFirst None ls = ls ≡ []
IsFirst (Some l) ls = (later : List Lexeme) × (ls ≡ l ∷ later)

-- A reader goes on: the new stream is after whatever lexemes the old one was after, no byte is given back, and no lexeme comes back.
pub record StreamGoesOn (old new : Standing) : Type 0 where
  pub keeps : (start : List Spanned) → IsAfter start old → IsAfter start new
  pub grows : taken_of old ≤ taken_of new
  pub fewer : length (rest new) ≤ length (rest old)

-- What is found of a kind word.

-- the code of a capital letter
abbrev pub IsCapital : ℕ → Type 0
IsCapital c = (65 ≤ c) × (c ≤ 90)

-- what was found of a word is what it says as a kind word
abbrev pub Names : Option (GeometryType × Option Dimension) → Option KindWord → Type 0
Names None e = e ≡ None
Names (Some p) e = (k : KindWord) × (e ≡ Some k) × (k.kind ≡ p.0) × (k.joined ≡ p.1)

-- Bytes begin with the word of this kind, and this dimension joined to it or none; it has so many letters.
pub record BeginsWith (bytes : List ℕ) (kind : GeometryType) (joined : Option Dimension) (n : ℕ) : Type 0 where
  pub some : 0 < n
  pub inside : n ≤ length bytes
  pub names : Names (Some (kind, joined)) (kind_word (take n bytes))
  pub letters : AllRun (take n bytes)
  pub begins : starts_number (get_or (take n bytes) 0 0) ≡ false

-- Calls of a stream that take the next lexeme if it is what they want.

-- Nothing is taken, but a lexeme may have been looked at.
pub record Looks (old new : Standing) : Type 0 where
  pub remaining : remaining new ≡ remaining old
  pub end : end_of new ≡ end_of old
  pub grows : taken_of old ≤ taken_of new

-- Nothing is taken, and if the next lexeme is a number, it isn't read.
pub record StaysUnread {N : Type 0} (read : List ℕ → Option N) (old new : Standing) : Type 0 where
  pub looks : Looks old new
  pub unread : (run : List ℕ) → first_of (remaining old) ≡ Some (Num run) → read run ≡ None

-- The next lexeme is taken, a number that is read.
pub record TakesNumber {N : Type 0} (read : List ℕ → Option N) (old : Standing) (number : N) (new : Standing) : Type 0 where
  pub run : List ℕ
  pub reads : read run ≡ Some number
  pub moves : Moves old (Some (Num run)) new
