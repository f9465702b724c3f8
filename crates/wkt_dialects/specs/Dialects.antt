-- What the dialects read: lexemes in, lexemes out.
use Rattle.std.specs.Prelude.{◌≡◌, ℕ, zero, suc, ◌+◌, ◌-◌, ◌≤◌, ◌==◌, ◌&&◌, ◌⊎◌, Bool, true, false, List, [], ◌∷◌, ◌++◌, length, drop, Option, Some, None, if◌then◌else◌, codes, bytes_eq}
use Rattle.std.specs.Str.{str_to_ascii_uppercase}
use Rattle.std.specs.Str.Parse.{IsNumeral, digits_value}
use Rattle.wkt_num.specs.Bytes.{Lexeme, AllWhite}
use Rattle.wkt_num.specs.Bytes as lex
use Rattle.wkt_access.specs.declared.dimensions.Dimension.{Dimension}
use Rattle.wkt_access.specs.declared.dimensions.Dimension.TheVariants.{XY, XYZ, XYM, XYZM}
use Rattle.wkt_access.specs.Values.{size}
use Rattle.wkt_types.specs.declared.geometry_type.GeometryType.{GeometryType}
use Rattle.wkt_types.specs.declared.geometry_type.GeometryType.TheVariants as kind
use Rattle.wkt_read.specs.Grammar.{KindWord, kind_word, dim_word, is_empty_word}
use Rattle.wkt_read.specs.Spanned.{Spanned}
use Rattle.wkt_dialects.specs.declared.dialects.Dialects.{Dialects}
use Rattle.wkt_dialects.specs.declared.spot.Spot.{Spot}
use Rattle.wkt_dialects.specs.declared.spot.Spot.TheVariants as spot

-- `srid`: in front stand `SRID=`, one to nine digits and a semicolon, behind white space or none.
pub record HasSrid (text : List ℕ) (srid : ℕ) (rest : List ℕ) : Type 0 where
  pub gap : List ℕ
  pub word : List ℕ
  pub digits : List ℕ
  pub split : text ≡ gap ++ (word ++ (digits ++ (59 ∷ rest)))
  pub white : AllWhite gap
  pub says : str_to_ascii_uppercase word ≡ codes "SRID="
  pub numeral : IsNumeral 10 digits
  pub few : length digits ≤ 9
  pub value : srid ≡ digits_value 10 digits

-- What is read of a text: what stands behind its SRID, where one is split off, else all of it.
abbrev pub IsRest : Dialects → List ℕ → List ℕ → Type 0
IsRest d text rest =
    ((d.srid ≡ true) × ((srid : ℕ) × HasSrid text srid rest))
    ⊎ ((rest ≡ text) × (d.srid ≡ true → (srid : ℕ) (other : List ℕ) → HasSrid text srid other → ⊥))

-- `nan`: the word, in letters of either case.
abbrev pub is_nan : Lexeme → Bool
is_nan (lex.Word w) = bytes_eq (str_to_ascii_uppercase w) (codes "NAN")
is_nan l = false

-- `untagged`: a number of a coordinate, or nan where that is asked for.
abbrev pub counts : Dialects → Lexeme → Bool
counts d (lex.Num run) = true
counts d l = d.nan && is_nan l

-- How many numbers come next, one behind the other.
abbrev pub numbers_there : Dialects → List Spanned → ℕ
numbers_there d [] = 0
numbers_there d (p ∷ ps) = if counts d p.lexeme then suc (numbers_there d ps) else 0

-- How many parentheses are open behind a lexeme, where n are open before it; none where nothing but `(` opens a geometry, where it closes, and at a word other than EMPTY.
abbrev pub open_behind : ℕ → Lexeme → Option ℕ
open_behind n lex.Open = Some (suc n)
open_behind (suc (suc n)) lex.Close = Some (suc n)
open_behind (suc n) lex.Comma = Some (suc n)
open_behind (suc n) (lex.Word w) = if is_empty_word w then Some (suc n) else None
open_behind n l = None

-- How many numbers the first coordinate has of a geometry in which so many parentheses are open; none of one that is over.
unfoldable pub first_numbers : Dialects → Option ℕ → List Spanned → ℕ
first_numbers d n [] = 0
first_numbers d None (p ∷ ps) = 0
first_numbers d (Some zero) (p ∷ ps) = first_numbers d (open_behind zero p.lexeme) ps
first_numbers d (Some (suc n)) (p ∷ ps) = if counts d p.lexeme then suc (numbers_there d ps) else first_numbers d (open_behind (suc n) p.lexeme) ps

-- The dimension that so many numbers say.
abbrev pub dimension_of : ℕ → Option Dimension
dimension_of n = if n == 3 then Some XYZ else (if n == 4 then Some XYZM else None)

-- The word of a kind, alone and with a dimension joined to it.
abbrev pub kind_name : GeometryType → List ℕ
kind_name kind.Point = codes "POINT"
kind_name kind.LineString = codes "LINESTRING"
kind_name kind.Polygon = codes "POLYGON"
kind_name kind.MultiPoint = codes "MULTIPOINT"
kind_name kind.MultiLineString = codes "MULTILINESTRING"
kind_name kind.MultiPolygon = codes "MULTIPOLYGON"
kind_name kind.GeometryCollection = codes "GEOMETRYCOLLECTION"

abbrev pub letters : Dimension → List ℕ
letters XY = []
letters XYZ = codes "Z"
letters XYM = codes "M"
letters XYZM = codes "ZM"

abbrev pub joined_word : GeometryType → Dimension → List ℕ
joined_word k d = kind_name k ++ letters d

-- A kind word without a dimension is read as the word with the dimension that the first coordinate behind it says.
abbrev pub tagged_as : List ℕ → GeometryType → Option Dimension → Lexeme
tagged_as w k None = lex.Word w
tagged_as w k (Some d) = lex.Word (joined_word k d)

abbrev pub tagged_alone : List ℕ → GeometryType → Option Dimension → ℕ → Lexeme
tagged_alone w k (Some joined) n = lex.Word w
tagged_alone w k None n = tagged_as w k (dimension_of n)

abbrev pub tagged_word : List ℕ → Option KindWord → ℕ → Lexeme
tagged_word w None n = lex.Word w
tagged_word w (Some e) n = tagged_alone w e.kind e.joined n

abbrev pub tagged : Dialects → Lexeme → List Spanned → Lexeme
tagged d (lex.Word w) ps = if d.untagged then tagged_word w (kind_word w) (first_numbers d (Some 0) ps) else lex.Word w
tagged d l ps = l

-- Where the lexeme behind a word stands, by what the word says as a kind and as a dimension.
abbrev pub headed : GeometryType → Option Dimension → Spot
headed k (Some d) = spot.Headed k d
headed k None = spot.Headed k XY

abbrev pub goes_on : Spot → Spot
goes_on (spot.Begins d) = spot.Within d
goes_on (spot.Within d) = spot.Within d
goes_on s = spot.Elsewhere

abbrev pub dimensioned : Spot → Option Dimension → Spot
dimensioned (spot.Headed k d) (Some e) = spot.Headed k e
dimensioned s o = goes_on s

abbrev pub spot_word : Spot → Option KindWord → List ℕ → Spot
spot_word s (Some e) w = headed e.kind e.joined
spot_word s None w = dimensioned s (dim_word w)

-- Where the lexeme behind a lexeme stands.
abbrev pub spot_behind : Spot → Lexeme → Spot
spot_behind s (lex.Word w) = spot_word s (kind_word w) w
spot_behind (spot.Headed kind.MultiPoint d) lex.Open = spot.Begins d
spot_behind (spot.Begins d) lex.Comma = spot.Begins d
spot_behind (spot.Within d) lex.Comma = spot.Begins d
spot_behind s l = goes_on s

-- The lexemes begin with so many words nan.
abbrev pub nans : ℕ → List Spanned → Bool
nans zero ps = true
nans (suc k) [] = false
nans (suc k) (p ∷ ps) = is_nan p.lexeme && nans k ps

abbrev pub is_open : Lexeme → Bool
is_open lex.Open = true
is_open l = false

abbrev pub is_close : Lexeme → Bool
is_close lex.Close = true
is_close l = false

-- They begin with a lexeme like this.
abbrev pub begins_with : (Lexeme → Bool) → List Spanned → Bool
begins_with is [] = false
begins_with is (p ∷ ps) = is p.lexeme

-- They begin with so many words nan in parentheses.
abbrev pub nans_within : ℕ → List Spanned → Bool
nans_within k ps = begins_with is_open ps && nans k (drop 1 ps) && begins_with is_close (drop (k + 1) ps)

-- How many of the next lexemes are an empty point: where one may stand, as many nans as its dimension has, in parentheses, or in a multipoint without them.
abbrev pub nan_point : Spot → List Spanned → ℕ
nan_point (spot.Headed kind.Point d) ps = if nans_within (size d) ps then size d + 2 else 0
nan_point (spot.Begins d) ps = if nans (size d) ps then size d else (if nans_within (size d) ps then size d + 2 else 0)
nan_point s ps = 0

abbrev pub empty_there : Dialects → Spot → List Spanned → ℕ
empty_there d s ps = if d.nan then nan_point s ps else 0

-- The word EMPTY.
abbrev pub empty_word : Lexeme
empty_word = lex.Word (codes "EMPTY")

-- The lexemes as they are read, each with its end in the text: so many more belong to an empty point, which is read as EMPTY and ends with the last of them.
unfoldable pub read_as : Dialects → ℕ → Spot → List Spanned → List Spanned
read_as d more s [] = []
read_as d (suc (suc more)) s (p ∷ ps) = read_as d (suc more) s ps
read_as d (suc zero) s (p ∷ ps) = record { lexeme = empty_word; end = p.end } ∷ read_as d 0 (spot_behind s empty_word) ps
read_as d zero s (p ∷ ps) =
    if empty_there d s (p ∷ ps) == 0
    then record { lexeme = tagged d p.lexeme ps; end = p.end } ∷ read_as d 0 (spot_behind s (tagged d p.lexeme ps)) ps
    else read_as d (empty_there d s (p ∷ ps) - 1) s ps
