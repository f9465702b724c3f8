-- What the lexemes before a place say of it.
use Rattle.std.specs.Prelude.{◌≡◌, ◌≢◌, ℕ, zero, suc, List, [], ◌∷◌, Option, Some, None, Bool, true, false}
use Rattle.wkt_num.specs.Bytes.{Lexeme, Open, Word, Num}
use Rattle.wkt_access.specs.declared.dimensions.Dimension.{Dimension}
use Rattle.wkt_access.specs.declared.dimensions.Dimension.TheVariants.{XY, XYM}
use Rattle.wkt_types.specs.declared.geometry_type.GeometryType.{GeometryType}
use Rattle.wkt_types.specs.declared.geometry_type.GeometryType.TheVariants as kind
use Rattle.wkt_read.specs.Grammar.{KindWord, kind_word, dim_word}
use Rattle.wkt_read.specs.declared.expected.Expected.{Expected}
use Rattle.wkt_read.specs.declared.expected.Expected.TheVariants as expected

-- The kind that the last header names, if there is one, and its dimension; whether a parenthesis stands behind that header; and how many numbers stand last.
pub record Context : Type 0 where
  pub kind : Option GeometryType
  pub dimension : Dimension
  pub opened : Bool
  pub numbers : ℕ

-- Before all lexemes.
abbrev pub no_context : Context
no_context = record { kind = None; dimension = XY; opened = false; numbers = 0 }

abbrev pub or_else : Dimension → Option Dimension → Dimension
or_else d None = d
or_else d (Some e) = e

-- A kind word begins a header, with the dimension that is joined to it, if one is; ..
abbrev pub after_kind : KindWord → Context
after_kind e = record { kind = Some e.kind; dimension = or_else XY e.joined; opened = false; numbers = 0 }

-- .. a dimension word says the dimension of one; and EMPTY says nothing.
abbrev pub after_word : Context → Option KindWord → Option Dimension → Context
after_word c (Some e) d = after_kind e
after_word c None d = record { kind = c.kind; dimension = or_else c.dimension d; opened = c.opened; numbers = 0 }

abbrev pub after_lexeme : Context → Lexeme → Context
after_lexeme c Open = record { kind = c.kind; dimension = c.dimension; opened = true; numbers = 0 }
after_lexeme c (Word w) = after_word c (kind_word w) (dim_word w)
after_lexeme c (Num run) = record { kind = c.kind; dimension = c.dimension; opened = c.opened; numbers = suc c.numbers }
after_lexeme c l = record { kind = c.kind; dimension = c.dimension; opened = c.opened; numbers = 0 }

abbrev pub context_from : Context → List Lexeme → Context
context_from c [] = c
context_from c (l ∷ ls) = context_from (after_lexeme c l) ls

-- What these lexemes say of the place behind them.
abbrev pub context : List Lexeme → Context
context ls = context_from no_context ls

-- Which number of a coordinate comes next, by its dimension, where so many of its numbers stand.
abbrev pub number_next : Dimension → ℕ → Expected
number_next d zero = expected.X
number_next d (suc zero) = expected.Y
number_next XYM (suc (suc zero)) = expected.M
number_next d (suc (suc zero)) = expected.Z
number_next d n = expected.M

-- The place is that of a multipoint's member.
abbrev pub AtPoint : Context → Type 0
AtPoint c = (c.kind ≡ Some kind.MultiPoint) × (c.opened ≡ true)

-- Where the same lexemes could stand at two places, this is the place: a kind word begins the text's geometry, or a member of a collection; a number is the one whose turn it is; a parenthesis or EMPTY stands for a point of a multipoint, or not.
abbrev pub IsTurn : Expected → Context → Type 0
IsTurn expected.Kind c = c.kind ≡ None
IsTurn expected.Member c = c.kind ≢ None
IsTurn expected.Dimension c = Unit {0}
IsTurn expected.Opening c = AtPoint c → ⊥
IsTurn expected.Point c = AtPoint c
IsTurn expected.X c = number_next c.dimension c.numbers ≡ expected.X
IsTurn expected.Y c = number_next c.dimension c.numbers ≡ expected.Y
IsTurn expected.Z c = number_next c.dimension c.numbers ≡ expected.Z
IsTurn expected.M c = number_next c.dimension c.numbers ≡ expected.M
IsTurn expected.More c = Unit {0}
IsTurn expected.Closing c = Unit {0}
