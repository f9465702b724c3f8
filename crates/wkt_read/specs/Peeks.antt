-- Lexemes whose numbers are not read yet, and how the fields of a stream that was looked at ahead are seen.
use Rattle.std.specs.Prelude.{◌≡◌, ℕ, List, Option, Some, None, ◌+◌, ◌≤◌, ◌∷◌, []}
use Rattle.std.specs.Borrow.{Bor}
use Rattle.wkt_num.specs.Bytes.{Lexeme}
use Rattle.wkt_num.specs.Bytes as lex
use Rattle.wkt_read.specs.Lexemes.{lexeme_of}
use Rattle.wkt_read.specs.declared.tokenizer.tokens.Lexeme.TheVariants.{End, Comma, Close, Open, Word, Number}
use Rattle.wkt_read.specs.declared.tokenizer.tokens.Lexeme as code
use Rattle.wkt_read.specs.Spanned.{Spanned, Standing}
use Rattle.wkt_read.specs.declared.tokenizer.peekable.PeekableTokens.TheInside.{Inside}

-- Lexemes whose numbers are not read yet.

-- the lexeme that was found, if one was
abbrev pub found : code.Lexeme → Option Lexeme
found End = None
found Comma = Some lex.Comma
found Close = Some lex.Close
found Open = Some lex.Open
found (Word w) = Some (lex.Word w.now)
found (Number digits) = Some (lex.Num digits.now)

-- what stands in a run: the text of a number, or nothing where it is a word
abbrev pub IsNumberIn : Option (Bor (List ℕ)) → List ℕ → Type 0
IsNumberIn None run = lexeme_of run ≡ lex.Word run
IsNumberIn (Some digits) run = lexeme_of run ≡ lex.Num digits.now

-- How the fields of a stream that was looked at ahead are seen. Only its model cites these words.

-- a lexeme that was looked at, before the later ones; after the text's end none stands
abbrev pub looked_at : Option Lexeme → ℕ → List Spanned → List Spanned
looked_at None end later = []
looked_at (Some l) end later = record { lexeme = l; end = end } ∷ later

-- what was looked at, if anything was, before the later lexemes
abbrev pub after_look : Option code.Lexeme → ℕ → List Spanned → List Spanned
after_look None end later = later
after_look (Some lexeme) end later = looked_at (found lexeme) end later

-- where a stream stands of which a lexeme may have been looked at
abbrev pub stands_ahead : {T : Type 0} → Inside T → Standing
stands_ahead p = record { remaining = after_look p.ahead p.tokens.end p.tokens.remaining; end = p.end; taken = p.tokens.taken }

-- The lexeme that was looked at is the last that the stream below gave, and where none was, none was given below either.
pub record IsAhead {T : Type 0} (p : Inside T) : Type 0 where
  pub near : (lexeme : code.Lexeme) (l : Lexeme) → p.ahead ≡ Some lexeme → found lexeme ≡ Some l → (p.tokens.end ≤ p.tokens.taken) × (p.tokens.taken ≤ p.tokens.end + 1)
  pub level : p.ahead ≡ None → p.end ≡ p.tokens.end
