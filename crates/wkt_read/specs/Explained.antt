-- Where a text is refused.
use Rattle.std.specs.Prelude.{◌≡◌, ℕ, ◌+◌, ◌≤◌, List, [], ◌∷◌, ◌++◌, length, Option, Some, ◌⊎◌, ◌↔◌}
use Rattle.std.specs.Str.{IsCharBoundary}
use Rattle.wkt_num.specs.Bytes.{Lexeme, Open, Close, Comma, Word, Num, AllWhite}
use Rattle.wkt_access.specs.declared.dimensions.Dimension.{Dimension}
use Rattle.wkt_access.specs.Values.{Value}
use Rattle.wkt_read.specs.Lexemes.{SpellsLexeme, Takes, IsEnd}
use Rattle.wkt_read.specs.Front.{Front, HasNoFront}
use Rattle.wkt_read.specs.Grammar.{KindWord, kind_word, dim_word, IsEmptyWord}
use Rattle.wkt_read.specs.Begun.{BegunGeometry, NoneBegins, IsDead, IsJustDead}
use Rattle.wkt_read.specs.declared.expected.Expected.{Expected}
use Rattle.wkt_read.specs.declared.expected.Expected.TheVariants as expected

-- A geometry at the text's front ends there.
abbrev pub EndsFront : {N : Type 0} → (List ℕ → Option N) → List ℕ → ℕ → Type 0
EndsFront {N} read text end = (v : Value N) × Front read text v end

-- The text has a geometry at its front.
abbrev pub HasFront : {N : Type 0} → (List ℕ → Option N) → List ℕ → Type 0
HasFront {N} read text = (v : Value N) × (end : ℕ) × Front read text v end

-- The place is in the text, from one character's first byte to another's.
abbrev pub IsPart : List ℕ → ℕ → ℕ → Type 0
IsPart text start end = (start ≤ end) × (end ≤ length text) × IsCharBoundary text start × IsCharBoundary text end

-- The lexeme is a kind word.
abbrev pub IsKind : Lexeme → Type 0
IsKind l = (run : List ℕ) × (e : KindWord) × (l ≡ Word run) × (kind_word run ≡ Some e)

-- The lexeme is a dimension word.
abbrev pub IsDimension : Lexeme → Type 0
IsDimension l = (run : List ℕ) × (d : Dimension) × (l ≡ Word run) × (dim_word run ≡ Some d)

-- The lexeme is `(` or EMPTY.
abbrev pub IsOpening : Lexeme → Type 0
IsOpening l = (l ≡ Open) ⊎ IsEmptyWord (l ∷ [])

module _ {N : Type 0} (read : List ℕ → Option N) where
  -- The lexeme is a number of the type.
  abbrev pub IsNumber : Lexeme → Type 0
  IsNumber l = (run : List ℕ) × (x : N) × (l ≡ Num run) × (read run ≡ Some x)

  -- The lexeme is one of those that are expected.
  abbrev pub IsNamed : Expected → Lexeme → Type 0
  IsNamed expected.Kind l = IsKind l
  IsNamed expected.Member l = IsKind l
  IsNamed expected.Dimension l = IsDimension l ⊎ IsOpening l
  IsNamed expected.Opening l = IsOpening l
  IsNamed expected.Point l = IsNumber l ⊎ IsOpening l
  IsNamed expected.X l = IsNumber l
  IsNamed expected.Y l = IsNumber l
  IsNamed expected.Z l = IsNumber l
  IsNamed expected.M l = IsNumber l
  IsNamed expected.More l = (l ≡ Comma) ⊎ (l ≡ Close)
  IsNamed expected.Closing l = l ≡ Close

  -- What is expected after these lexemes is exactly each lexeme with which they aren't dead.
  abbrev pub IsExpectedAfter : List Lexeme → Expected → Type 0
  IsExpectedAfter before e = (l : Lexeme) → IsNamed e l ↔ (IsDead read (before ++ (l ∷ [])) → ⊥)

  -- A lexeme is too much: the lexemes are dead with it, and no shorter beginning of them is. Its bytes are those from `start` to `end`, and between them and the lexeme before is white space alone.
  pub record IsTooMuch (text : List ℕ) (start end : ℕ) (e : Expected) : Type 0 where
    pub before : List Lexeme
    pub fault : Lexeme
    pub rest : List ℕ
    pub gap : List ℕ
    pub body : List ℕ
    pub after : List ℕ
    pub taken : Takes text before rest
    pub split : rest ≡ gap ++ (body ++ after)
    pub white : AllWhite gap
    pub spelled : SpellsLexeme body after fault
    pub begins : length (body ++ after) + start ≡ length text
    pub ends : length after + end ≡ length text
    pub dead : IsJustDead read (before ++ (fault ∷ []))
    pub could_stand : IsExpectedAfter before e

  -- The text is too short: all its lexemes are a beginning of a geometry, and no beginning of them is one. The place is empty, at the text's end or its first NUL.
  pub record IsTooShort (text : List ℕ) (start end : ℕ) (e : Expected) : Type 0 where
    pub lexemes : List Lexeme
    pub rest : List ℕ
    pub gap : List ℕ
    pub after : List ℕ
    pub taken : Takes text lexemes rest
    pub split : rest ≡ gap ++ after
    pub white : AllWhite gap
    pub over : IsEnd after
    pub begins : length after + start ≡ length text
    pub ends : end ≡ start
    pub begun : BegunGeometry read lexemes
    pub none : NoneBegins read lexemes
    pub could_stand : IsExpectedAfter lexemes e

  -- Where a text is refused, and what could come next: at the lexeme that is too much, or where the text ends.
  abbrev pub IsRefusedAt : List ℕ → ℕ → ℕ → Expected → Type 0
  IsRefusedAt text start end e = IsTooMuch text start end e ⊎ IsTooShort text start end e

  -- A text is refused at one place at most.
  abbrev pub OneRefusal : Type 0
  OneRefusal =
      (text : List ℕ) (start end start2 end2 : ℕ) (e e2 : Expected)
      → IsRefusedAt text start end e → IsRefusedAt text start2 end2 e2 → (start ≡ start2) × (end ≡ end2)

  -- A text that is refused somewhere has no geometry at its front.
  abbrev pub RefusedHasNoFront : Type 0
  RefusedHasNoFront = (text : List ℕ) (start end : ℕ) (e : Expected) → IsRefusedAt text start end e → HasNoFront read text
