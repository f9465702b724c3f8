-- The kind and the dimension of a value; those that the header of a text names, also in steps; and what `infer_type` and
-- `infer_header` answer.
use Rattle.std.specs.Prelude.{ℕ, List, [], ◌∷◌, length, drop, Option, Some, None, Bool, true, false, not, ◌&&◌, ◌||◌, ◌==◌, nat_eq, codes, is_none, if◌then◌else◌, ◌≡◌, ◌<◌, take, get_or, Result, Ok, Err}
use Rattle.std.specs.Str.{str_to_ascii_uppercase, trim_start}
use Rattle.std.specs.Borrow.{Bor}
use Rattle.std.specs.String.{string_bytes}
use Rattle.wkt_access.specs.declared.dimensions.Dimension.{Dimension}
use Rattle.wkt_access.specs.Values.{Value}
use Rattle.wkt_types.specs.declared.geometry_type.GeometryType.{GeometryType}
use Rattle.wkt_types.specs.declared.geometry_type.GeometryType.TheVariants as kind
use Rattle.wkt_access.specs.declared.dimensions.Dimension.TheVariants.{XY, XYZ, XYM, XYZM}
use Rattle.wkt_read.specs.Grammar.{KindWord, kind_words}
use Rattle.wkt_read.specs.declared.infer.InferError.{InferError}
use Rattle.wkt_read.specs.declared.infer.HeaderError.{HeaderError}
use Rattle.wkt_read.specs.declared.infer.InferError.TheVariants as error
use Rattle.wkt_read.specs.declared.infer.HeaderError.TheVariants as lent

-- The kind and the dimension of a value.

-- The kind of a value.
abbrev pub kind_of : {N : Type 0} → Value N → GeometryType
kind_of (Value.point d c) = kind.Point
kind_of (Value.line_string d cs) = kind.LineString
kind_of (Value.polygon d rs) = kind.Polygon
kind_of (Value.multi_point d ms) = kind.MultiPoint
kind_of (Value.multi_line_string d ls) = kind.MultiLineString
kind_of (Value.multi_polygon d ps) = kind.MultiPolygon
kind_of (Value.collection d vs) = kind.GeometryCollection

-- The dimension of a value's header.
abbrev pub dim_of : {N : Type 0} → Value N → Dimension
dim_of (Value.point d c) = d
dim_of (Value.line_string d cs) = d
dim_of (Value.polygon d rs) = d
dim_of (Value.multi_point d ms) = d
dim_of (Value.multi_line_string d ls) = d
dim_of (Value.multi_polygon d ps) = d
dim_of (Value.collection d vs) = d

-- The kind and the dimension that the header of a text names. It speaks of places in the text and of no lexeme. Where the header ends is this project's own choice.

-- What the header of a text says: a kind and a dimension, or which of the three rules it breaks.
pub data HeaderAnswer : Type 0 where
  Named : (k : GeometryType) → (d : Dimension) → HeaderAnswer
  Unsupported : (prefix : List ℕ) → HeaderAnswer
  NoSpace : HeaderAnswer
  NoParen : HeaderAnswer

-- Whether the text begins with the word.
abbrev pub begins : List ℕ → List ℕ → Bool
begins [] t = true
begins (a ∷ w) [] = false
begins (a ∷ w) (b ∷ t) = nat_eq a b && begins w t

-- Whether the word stands in the text.
abbrev pub holds : List ℕ → List ℕ → Bool
holds w [] = begins w []
holds w (b ∷ t) = begins w (b ∷ t) || holds w t

-- What a text has before its first `(` or EMPTY, and whether EMPTY came first.
pub record Cut : Type 0 where
  pub header : List ℕ
  pub by_empty : Bool

-- What a text has before its first `(` or EMPTY, with one more byte before it.
abbrev pub with_byte : ℕ → Option Cut → Option Cut
with_byte b None = None
with_byte b (Some c) = Some (record { header = b ∷ c.header; by_empty = c.by_empty })

-- The header of a text, if it has a `(` or EMPTY, in whatever case.
unfoldable pub header_cut : List ℕ → Option Cut
header_cut [] = None
header_cut (b ∷ t) =
    if b == 40 then Some (record { header = []; by_empty = false })
    else (if begins (codes "EMPTY") (str_to_ascii_uppercase (b ∷ t)) then Some (record { header = []; by_empty = true })
    else with_byte b (header_cut t))

-- Whether a space, LF, CR or TAB is there.
abbrev pub has_space : List ℕ → Bool
has_space [] = false
has_space (b ∷ t) = (b == 32 || b == 10 || b == 13 || b == 9) || has_space t

-- The kind of the word without a dimension that the header begins with, and what follows that word in the header.
abbrev pub named_in : List KindWord → List ℕ → Option (GeometryType × List ℕ)
named_in [] header = None
named_in (e ∷ es) header = if is_none e.joined && begins e.word header then Some (e.kind, drop (length e.word) header) else named_in es header

-- The dimension that what follows says: by ZM, else Z, else M, anywhere in it.
abbrev pub dim_said : List ℕ → Dimension
dim_said t = if holds (codes "ZM") t then XYZM else (if holds (codes "Z") t then XYZ else (if holds (codes "M") t then XYM else XY))

-- The answer for a header in capitals, by the kind that it begins with.
abbrev pub named_answer : List ℕ → Option (GeometryType × List ℕ) → HeaderAnswer
named_answer header None = Unsupported header
named_answer header (Some n) = Named n.0 (dim_said n.1)

-- The rules in their order: a header at all; a space before EMPTY; a kind word at the start.
abbrev pub cut_answer : Option Cut → HeaderAnswer
cut_answer None = NoParen
cut_answer (Some c) =
    if c.by_empty && not (has_space c.header) then NoSpace
    else named_answer (str_to_ascii_uppercase c.header) (named_in kind_words (str_to_ascii_uppercase c.header))

-- The header rule: white space of Unicode at the start is dropped, and the header of the rest gives the answer.
unfoldable pub header_rule : List ℕ → HeaderAnswer
header_rule text = cut_answer (header_cut (trim_start text))

-- The header of a text in steps. Only private contracts cite these.

-- The header has this length, and EMPTY is after it or not; an ASCII byte is after it.
abbrev pub EndsHeader : Option (ℕ × Bool) → List ℕ → Type 0
EndsHeader None text = header_cut text ≡ None
EndsHeader (Some e) text = (header_cut text ≡ Some (record { header = take e.0 text; by_empty = e.1 })) × (e.0 < length text) × (get_or text e.0 0 < 128)

-- The text begins with the word, and this follows it, or it doesn't.
abbrev pub Strips : Option (Bor (List ℕ)) → List ℕ → List ℕ → Type 0
Strips None word text = begins word text ≡ false
Strips (Some rest) word text = (begins word text ≡ true) × (drop (length word) text ≡ str_to_ascii_uppercase rest.now)

-- The header begins with the word of this kind, and this follows it.
abbrev pub BeginsKind : Option (GeometryType × Bor (List ℕ)) → List ℕ → Type 0
BeginsKind None header = named_in kind_words header ≡ None
BeginsKind (Some k) header = named_in kind_words header ≡ Some (k.0, str_to_ascii_uppercase k.1.now)

-- What a header says.
abbrev pub header_answer : List ℕ → Bool → HeaderAnswer
header_answer header by_empty = cut_answer (Some (record { header = header; by_empty = by_empty }))

-- What `infer_type` and `infer_header` answer.

-- The header begins with no kind word.
abbrev pub IsUnsupported : HeaderAnswer → Type 0
IsUnsupported (Named k d) = ⊥
IsUnsupported (Unsupported prefix) = Unit {0}
IsUnsupported NoSpace = ⊥
IsUnsupported NoParen = ⊥

-- The answer is that of the header rule; memory is short only where an unknown prefix was to be kept.
abbrev pub Infers : Result (GeometryType × Dimension) InferError → HeaderAnswer → Type 0
Infers (Ok p) rule = rule ≡ Named p.0 p.1
Infers (Err (error.UnsupportedPrefix prefix)) rule = rule ≡ Unsupported (string_bytes prefix)
Infers (Err error.NoSpaceBeforeEmpty) rule = rule ≡ NoSpace
Infers (Err error.NoOpenParen) rule = rule ≡ NoParen
Infers (Err (error.Memory e)) rule = IsUnsupported rule

-- The answer is that of the header rule; the prefix that is lent is in the text's own case.
abbrev pub SaysOf : Result (GeometryType × Dimension) HeaderError → HeaderAnswer → Type 0
SaysOf (Ok p) rule = rule ≡ Named p.0 p.1
SaysOf (Err (lent.UnsupportedPrefix prefix)) rule = rule ≡ Unsupported (str_to_ascii_uppercase prefix.now)
SaysOf (Err lent.NoSpaceBeforeEmpty) rule = rule ≡ NoSpace
SaysOf (Err lent.NoOpenParen) rule = rule ≡ NoParen

-- If a prefix is lent, it is this header as it stands in the text.
abbrev pub LendsPrefix : HeaderError → List ℕ → Type 0
LendsPrefix (lent.UnsupportedPrefix prefix) header = prefix.now ≡ header
LendsPrefix lent.NoSpaceBeforeEmpty header = Unit {0}
LendsPrefix lent.NoOpenParen header = Unit {0}

-- If a prefix is lent, it is the header of a text as written, if the text has one.
abbrev pub LendsPrefixOf : HeaderError → Option Cut → Type 0
LendsPrefixOf e None = e ≡ lent.NoOpenParen
LendsPrefixOf e (Some c) = LendsPrefix e c.header
