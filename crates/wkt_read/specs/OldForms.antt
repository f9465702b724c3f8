-- The grammar of earlier forms of this library, where EMPTY was no member of a multipoint; to read texts today, this isn't needed.
use Rattle.std.specs.Prelude.{◌≡◌, ℕ, List, [], ◌∷◌, ◌++◌, Option, Some, None, ◌⊎◌, ◌↔◌}
use Rattle.std.specs.List.{AllByRecursion}
use Rattle.wkt_num.specs.Bytes.{Lexeme, Open, Close, Comma}
use Rattle.wkt_access.specs.declared.dimensions.Dimension.{Dimension}
use Rattle.wkt_access.specs.Values.{Value, Values}
use Rattle.wkt_types.specs.declared.geometry_type.GeometryType.TheVariants as kind
use Rattle.wkt_read.specs.Grammar.{IsEmptyWord, Within, Listed, WithHeader, Coord, StandFor}

module _ {N : Type 0} (read : List ℕ → Option N) where
  -- A member of a multipoint was a coordinate, in parentheses or not.
  abbrev pub OldMember : Dimension → List Lexeme → Option (List N) → Type 0
  OldMember d ls None = ⊥
  OldMember d ls (Some c) = Coord read d ls c ⊎ Within (λ body. Coord read d body c) ls

  abbrev mutual
    -- The lexemes stood for the value: multipoints, and collections of what was read then, had that grammar; all others have kept theirs.
    pub StoodFor : List Lexeme → Value N → Type 0
    StoodFor ls (Value.point d c) = StandFor read ls (Value.point d c)
    StoodFor ls (Value.line_string d cs) = StandFor read ls (Value.line_string d cs)
    StoodFor ls (Value.polygon d rs) = StandFor read ls (Value.polygon d rs)
    StoodFor ls (Value.multi_point d ms) = WithHeader kind.MultiPoint d (λ b. Listed (OldMember d) b ms) ls
    StoodFor ls (Value.multi_line_string d ls') = StandFor read ls (Value.multi_line_string d ls')
    StoodFor ls (Value.multi_polygon d ps) = StandFor read ls (Value.multi_polygon d ps)
    StoodFor ls (Value.collection d vs) = WithHeader kind.GeometryCollection d (λ b. OldGeometries b vs) ls

    -- EMPTY for no member, else the members in parentheses, each with its own header.
    pub OldGeometries : List Lexeme → Values N → Type 0
    OldGeometries ls Values.no_values = IsEmptyWord ls
    OldGeometries ls (Values.more_values v vs) =
        (a : List Lexeme) × (b : List Lexeme) × (ls ≡ Open ∷ ((a ++ b) ++ Close ∷ [])) × StoodFor a v × OldFurther b vs

    -- Further members of a collection, each after a comma.
    pub OldFurther : List Lexeme → Values N → Type 0
    OldFurther ls Values.no_values = ls ≡ []
    OldFurther ls (Values.more_values v vs) =
        (a : List Lexeme) × (b : List Lexeme) × (ls ≡ Comma ∷ (a ++ b)) × StoodFor a v × OldFurther b vs

-- A member of a multipoint that is a coordinate.
abbrev pub IsCoordinate : {N : Type 0} → Option (List N) → Type 0
IsCoordinate None = ⊥
IsCoordinate (Some c) = Unit {0}

abbrev mutual
  -- No multipoint of the value has an empty member.
  pub IsOldForm : {N : Type 0} → Value N → Type 0
  IsOldForm (Value.point d c) = Unit {0}
  IsOldForm (Value.line_string d cs) = Unit {0}
  IsOldForm (Value.polygon d rs) = Unit {0}
  IsOldForm (Value.multi_point d ms) = AllByRecursion IsCoordinate ms
  IsOldForm (Value.multi_line_string d ls) = Unit {0}
  IsOldForm (Value.multi_polygon d ps) = Unit {0}
  IsOldForm (Value.collection d vs) = AreOldForms vs

  -- Nor has one of the members of a collection.
  pub AreOldForms : {N : Type 0} → Values N → Type 0
  AreOldForms Values.no_values = Unit {0}
  AreOldForms (Values.more_values v vs) = IsOldForm v × AreOldForms vs

-- What was read then is what is read now as a value without an empty member of a multipoint, with the same value.
abbrev pub OldForms : {N : Type 0} → (List ℕ → Option N) → Type 0
OldForms {N} read = (ls : List Lexeme) (v : Value N) → StoodFor read ls v ↔ (StandFor read ls v × IsOldForm v)
