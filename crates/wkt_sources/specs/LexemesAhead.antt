-- Lexemes that are looked at: where a message is asked for, and kind words in bytes. Only private contracts cite this file.
use Rattle.std.specs.Prelude.{◌≡◌, ℕ, List, [], Option, Some, None, false, Bool, true, ◌≢◌, ◌⊎◌, get_or}
use Rattle.wkt_num.specs.Bytes.{Lexeme, Open, Word, Run, AllRun, class_of}
use Rattle.wkt_num.specs.Bytes as lex
use Rattle.wkt_events.specs.Remaining.{remaining_spanned, TakesOne}
use Rattle.wkt_sources.specs.declared.message.NextLexeme.{NextLexeme}
use Rattle.wkt_sources.specs.declared.message.NextLexeme.TheVariants as given
use Rattle.wkt_access.specs.declared.dimensions.Dimension.{Dimension}
use Rattle.wkt_access.specs.declared.dimensions.Dimension.TheVariants.{XY}
use Rattle.wkt_sources.specs.declared.header.AfterHeader.{AfterHeader}
use Rattle.wkt_sources.specs.declared.header.AfterHeader.TheVariants as then
use Rattle.wkt_read.specs.Grammar.{KindWord, kind_word, dim_word, is_empty_word}
use Rattle.wkt_read.specs.Lexemes.{starts_number}
use Rattle.wkt_machine.specs.Machine.{part_of}
use Rattle.wkt_machine.specs.declared.part.Part.{Part}

-- What is seen of a lexeme where its message is asked for. Only private contracts cite this file.

-- What was seen is this lexeme.
abbrev pub ShowsLexeme : {T : Type 0} → (List ℕ → Option T) → NextLexeme → Lexeme → Type 0
ShowsLexeme read given.Open l = l ≡ lex.Open
ShowsLexeme read given.Close l = l ≡ lex.Close
ShowsLexeme read given.Comma l = l ≡ lex.Comma
ShowsLexeme read (given.Word w) l = l ≡ lex.Word w.now
ShowsLexeme {T} read given.Number l = (run : List ℕ) × (x : T) × (l ≡ lex.Num run) × (read run ≡ Some x)
ShowsLexeme read given.Unread l = (run : List ℕ) × (l ≡ lex.Num run) × (read run ≡ None)

-- What was seen is the lexeme that comes next, and it ends there; or none comes.
abbrev pub GivesNext : {T : Type 0} → (List ℕ → Option T) → List ℕ → ℕ → Option (NextLexeme × ℕ) → Type 0
GivesNext read text at None = remaining_spanned false text at ≡ []
GivesNext read text at (Some g) = (l : Lexeme) × TakesOne false text at l g.1 × ShowsLexeme read g.0 l

-- Kind words in bytes, each with the parenthesis behind it. Only private contracts cite this file.

-- A word that names the kind of a part, without a dimension.
pub record IsKindName (part : Part) (word : List ℕ) : Type 0 where
  pub row : KindWord
  pub names : kind_word word ≡ Some row
  pub kind : part_of row.kind ≡ part
  pub joined : row.joined ≡ None
  pub letters : AllRun word
  pub begins : starts_number (get_or word 0 0) ≡ false

-- A run ends there, and behind it the parenthesis, which ends at `end`.
pub record EndsWord (feed : Bool) (text : List ℕ) (at end : ℕ) : Type 0 where
  pub stops : class_of (get_or text at 0) ≢ Run
  pub opens : TakesOne feed text at Open end

-- Such a word comes next, and the parenthesis behind it.
pub record StandsHead (feed : Bool) (text : List ℕ) (at : ℕ) (part : Part) (end : ℕ) : Type 0 where
  pub word : List ℕ
  pub mid : ℕ
  pub name : IsKindName part word
  pub takes : TakesOne feed text at (Word word) mid
  pub opens : TakesOne feed text mid Open end

-- Headers in bytes, in any form. Only private contracts cite this file.

-- The parenthesis or EMPTY comes next, and ends there.
abbrev pub EndsHeader : Bool → List ℕ → ℕ → AfterHeader → ℕ → Type 0
EndsHeader feed text at then.Inside end = TakesOne feed text at Open end
EndsHeader feed text at then.Outside end = (w : List ℕ) × TakesOne feed text at (Word w) end × (is_empty_word w ≡ true)
EndsHeader feed text at t end = ⊥

-- What stands behind a dimension.
abbrev pub EndsDimension : Bool → List ℕ → ℕ → AfterHeader → ℕ → Type 0
EndsDimension feed text at then.Dimension end = ⊥
EndsDimension feed text at then.Opening end = end ≡ at
EndsDimension feed text at t end = EndsHeader feed text at t end

-- A dimension comes next, and `t` behind it.
abbrev pub NamesDimension : Bool → List ℕ → ℕ → Dimension → AfterHeader → ℕ → Type 0
NamesDimension feed text at dim t end = (w : List ℕ) × (mid : ℕ) × TakesOne feed text at (Word w) mid × (dim_word w ≡ Some dim) × EndsDimension feed text mid t end

-- What stands behind the word of a kind alone.
abbrev pub EndsKind : Bool → List ℕ → ℕ → Dimension → AfterHeader → ℕ → Type 0
EndsKind feed text at dim then.Dimension end = (dim ≡ XY) × (end ≡ at)
EndsKind feed text at dim t end = ((dim ≡ XY) × EndsHeader feed text at t end) ⊎ NamesDimension feed text at dim t end

-- What stands behind the word of a kind, by the dimension that is joined to it.
abbrev pub EndsWords : Bool → List ℕ → ℕ → Option Dimension → Dimension → AfterHeader → ℕ → Type 0
EndsWords feed text at None dim t end = EndsKind feed text at dim t end
EndsWords feed text at (Some joined) dim t end = (dim ≡ joined) × EndsDimension feed text at t end

-- The word of a kind comes next, and `t` behind it.
pub record StandsHeader (feed : Bool) (text : List ℕ) (at : ℕ) (part : Part) (dim : Dimension) (t : AfterHeader) (end : ℕ) : Type 0 where
  pub word : List ℕ
  pub row : KindWord
  pub mid : ℕ
  pub names : kind_word word ≡ Some row
  pub kind : part_of row.kind ≡ part
  pub takes : TakesOne feed text at (Word word) mid
  pub ends : EndsWords feed text mid row.joined dim t end
