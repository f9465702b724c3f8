-- One lexeme at a place of a text, as it stands and as the dialects read it. Only private contracts cite this file.
use Rattle.std.specs.Prelude.{◌≡◌, ◌<◌, ◌≤◌, ◌+◌, ℕ, List, [], ◌∷◌, ◌++◌, length, drop, slice_range, Option, Some, None, IsUtf8, false}
use Rattle.wkt_num.specs.Bytes.{Lexeme}
use Rattle.wkt_num.specs.Bytes as lex
use Rattle.wkt_read.specs.Lexemes.{SpellsLexeme, without_plus}
use Rattle.wkt_read.specs.Spanned.{Spanned, end_after, lexemes_of, spanned}
use Rattle.wkt_events.specs.Remaining.{remaining_spanned}
use Rattle.wkt_machine.specs.View.{IsBetween, IsDark}
use Rattle.wkt_dialects.specs.declared.dialects.Dialects.{Dialects}
use Rattle.wkt_dialects.specs.declared.lexeme.Found.{Found}
use Rattle.wkt_dialects.specs.declared.lexeme.Kind.{Kind}
use Rattle.wkt_dialects.specs.declared.lexeme.Kind.TheVariants as kind
use Rattle.wkt_dialects.specs.declared.spot.Spot.{Spot}
use Rattle.wkt_dialects.specs.declared.pieces.Piece.{Piece}
use Rattle.wkt_dialects.specs.declared.pieces.Piece.TheVariants as piece
use Rattle.wkt_dialects.specs.declared.pieces.Step.{Step}
use Rattle.wkt_dialects.specs.Dialects.{read_as, joined_word, empty_word}
use Rattle.wkt_dialects.specs.Reading.{IsAs, AreAs, from_nul}

-- The lexeme of this kind and these bytes.
abbrev pub of_kind : Kind → List ℕ → Lexeme
of_kind kind.Open w = lex.Open
of_kind kind.Close w = lex.Close
of_kind kind.Comma w = lex.Comma
of_kind kind.Number w = lex.Num (without_plus w)
of_kind kind.Word w = lex.Word w

abbrev pub lexeme_in : List ℕ → Found → Lexeme
lexeme_in text f = of_kind f.kind (slice_range text f.start f.end)

-- There is a byte or more of the text.
pub record HasBytes (text : List ℕ) (start end : ℕ) : Type 0 where
  pub order : start < end
  pub inside : end ≤ length text

-- The lexeme comes next, behind white space or none.
pub record IsFound (text : List ℕ) (from : ℕ) (f : Found) : Type 0 where
  pub bytes : HasBytes text f.start f.end
  pub between : IsBetween false text from f.start
  pub dark : IsDark false text f.start
  pub no_nul : from_nul (drop from text) ≡ from_nul (drop f.end text)
  pub next : remaining_spanned false text from ≡ record { lexeme = lexeme_in text f; end = f.end } ∷ remaining_spanned false text f.end
  pub spelled : SpellsLexeme (slice_range text f.start f.end) (drop f.end text) (lexeme_in text f)

-- The lexemes from a place on, as they are read.
abbrev pub read_from : Dialects → Spot → List ℕ → ℕ → List Spanned
read_from d s text at = read_as d 0 s (remaining_spanned false text at)

-- What a piece is, where this lexeme stands.
abbrev pub lexeme_as : Piece → Lexeme → Lexeme
lexeme_as piece.Same l = l
lexeme_as (piece.Joined k d) l = lex.Word (joined_word k d)
lexeme_as piece.Empty l = empty_word

-- A piece stands at the place, behind white space or none, and behind it what is left.
pub record TakesPiece (d : Dialects) (s : Spot) (text : List ℕ) (from : ℕ) (p : Step) : Type 0 where
  pub lexeme : Lexeme
  pub grows : from < p.end
  pub inside : (p.start ≤ length text) × (p.end ≤ length text)
  pub between : IsBetween false text from p.start
  pub dark : IsDark false text p.start
  pub no_nul : from_nul (drop from text) ≡ from_nul (drop p.end text)
  pub utf8 : IsUtf8 (drop from text) → IsUtf8 (drop p.end text) × (p.piece ≡ piece.Same → IsUtf8 (slice_range text p.start p.end))
  pub reads : read_from d s text from ≡ record { lexeme = lexeme_as p.piece lexeme; end = p.end } ∷ read_from d p.spot text p.end
  pub spelled : p.piece ≡ piece.Same → HasBytes text p.start p.end × SpellsLexeme (slice_range text p.start p.end) (drop p.end text) lexeme

-- None is there.
abbrev pub TakesAny : Dialects → Spot → List ℕ → ℕ → Option Step → Type 0
TakesAny d s text from None = remaining_spanned false text from ≡ []
TakesAny d s text from (Some p) = TakesPiece d s text from p

-- So many of the lexemes that are left at `at` are passed, and the last of them ends at `end`.
pub record IsPastSome (text : List ℕ) (at count end : ℕ) : Type 0 where
  pub taken : List Spanned
  pub order : at + count ≤ end
  pub inside : end ≤ length text
  pub many : length taken ≡ count
  pub split : remaining_spanned false text at ≡ taken ++ remaining_spanned false text end
  pub ends : end_after at taken ≡ end
  pub no_nul : from_nul (drop at text) ≡ from_nul (drop end text)
  pub utf8 : IsUtf8 (drop at text) → IsUtf8 (drop end text)

-- The pieces from `at` on that are read where `s` is, up to `to`, where `t` is.
pub record LeadsTo (d : Dialects) (s : Spot) (text : List ℕ) (at : ℕ) (taken : List Spanned) (t : Spot) (to : ℕ) : Type 0 where
  pub order : at ≤ to
  pub inside : to ≤ length text
  pub reads : read_from d s text at ≡ taken ++ read_from d t text to
  pub ends : end_after at taken ≡ to
  pub no_nul : from_nul (drop at text) ≡ from_nul (drop to text)
  pub utf8 : IsUtf8 (drop at text) → IsUtf8 (drop to text)

-- A lexeme was written that is read as the piece.
pub record IsWritten (d : Dialects) (text : List ℕ) (p : Step) (old new : List ℕ) : Type 0 where
  pub written : List ℕ
  pub split : new ≡ old ++ written
  pub no_nul : from_nul written ≡ []
  pub utf8 : (p.piece ≡ piece.Same → IsUtf8 (slice_range text p.start p.end)) → IsUtf8 written
  pub is : (l : Lexeme) → (p.piece ≡ piece.Same → SpellsLexeme (slice_range text p.start p.end) (drop p.end text) l)
      → (m : Lexeme) × IsAs d (lexeme_as p.piece l) m × ((later : List ℕ) → SpellsLexeme written (32 ∷ later) m)

-- What was written so far is read as these lexemes, and what follows it, and has no NUL.
pub record HasWritten (d : Dialects) (taken : List Spanned) (out : List ℕ) : Type 0 where
  pub lexemes : List Lexeme
  pub same : AreAs d (lexemes_of taken) lexemes
  pub reads : (later : List ℕ) → lexemes_of (spanned (out ++ later)) ≡ lexemes ++ lexemes_of (spanned later)
  pub no_nul : from_nul out ≡ []
