-- What a caller is answered.
use Rattle.std.specs.Prelude.{◌≡◌, ◌<◌, ◌≤◌, ◌-◌, ◌++◌, ◌↔◌, ◌⊎◌, ℕ, ℤ, List, Option, Bool, true, false, not, IsTrue, IsUtf8, drop, length, nat_lt, if◌then◌else◌}
use Rattle.wkt_num.specs.Bytes.{AllWhite}
use Rattle.wkt_num.specs.Decimal.{read_decimal, decimal_text}
use Rattle.wkt_access.specs.Values.{Value}
use Rattle.wkt_access.specs.Shapes.{shape_of, canon}
use Rattle.wkt_access.specs.Texts.{shape_text}
use Rattle.wkt_access.specs.declared.dimensions.Dimension.{Dimension}
use Rattle.wkt_types.specs.declared.geometry_type.GeometryType.{GeometryType}
use Rattle.wkt_read.specs.Front.{Front, HasNoFront}
use Rattle.wkt_read.specs.Answered.{HasBadNumber}
use Rattle.wkt_read.specs.Header.{Named, NoSpace, NoParen, header_rule, IsUnsupported}
use Rattle.wkt_read.specs.Messages.{message_number}
use Rattle.wkt_read.specs.Refusal.{IsRefusedWith}
use Rattle.wkt_read.specs.declared.messages.Message.{Message}
use Rattle.wkt_canonical.specs.Canonical.{IsCanonicalTo}
use Rattle.wkt_fill.specs.EventLists.{kind_index, dimension_index}

-- What a number of a text is read as, and how it is printed, where numbers are decimals of so many places.
abbrev pub read_at : ℕ → List ℕ → Option ℤ
read_at places = read_decimal 127 36 places

abbrev pub print_at : ℕ → ℤ → List ℕ
print_at places = decimal_text places

-- How many places are asked for: 256 more ask for whole texts too.
abbrev pub places_in : ℕ → ℕ
places_in options = if nat_lt options 256 then options else options - 256

-- Whether whole texts are asked for.
abbrev pub asks_whole : ℕ → Bool
asks_whole options = not (nat_lt options 256)

-- A geometry that ends here is as asked for: where whole texts are, nothing but white space follows it.
abbrev pub EndsAsAsked : Bool → List ℕ → ℕ → Type 0
EndsAsAsked whole text end = whole ≡ true → AllWhite (drop end text)

-- A buffer after a list was put to its front.
abbrev pub with_front : {A : Type 0} → List A → List A → List A
with_front list old = list ++ drop (length list) old

-- The answer stands at the front of the buffer, and its length is returned.
pub record IsHandedOut (answer : List ℕ) (needed : ℕ) (old new : List ℕ) : Type 0 where
  pub size : needed ≡ length answer
  pub front : new ≡ with_front answer old

-- The buffer has no room for the answer, whose length is returned.
pub record HasNoRoom (answer : List ℕ) (needed : ℕ) (old : List ℕ) : Type 0 where
  pub size : needed ≡ length answer
  pub small : length old < length answer

-- Whole texts are asked for, and more than white space follows the geometry that ends here.
abbrev pub IsMore : Bool → List ℕ → ℕ → Type 0
IsMore whole text end = (whole ≡ true) × (AllWhite (drop end text) → ⊥)

module _ {N : Type 0} (read : List ℕ → Option N) where
  -- What a status says of a text that has no answer.
  pub record RefusesText (text : List ℕ) (status : ℕ) : Type 0 where
    -- 1 to 14: the text is UTF-8, so that 20 comes first.
    pub utf8 : 1 ≤ status → status ≤ 14 → IsUtf8 text
    -- 1 to 14: no beginning of the text is a geometry.
    pub no_front : 1 ≤ status → status ≤ 14 → HasNoFront read text
    -- It is then the number of the message with which the text is refused, 1 to 13.
    pub message : 1 ≤ status → status ≤ 14 → (m : Message) × (status ≡ message_number m) × IsRefusedWith read text m
    -- 13: some number of the text isn't read.
    pub bad : status ≡ 13 → HasBadNumber read text
    -- 20: the text isn't UTF-8.
    pub not_utf8 : status ≡ 20 → IsUtf8 text → ⊥
    pub others : (status ≤ 14) ⊎ (status ≡ 20)
    pub some : 1 ≤ status

  -- The text begins with a geometry.
  abbrev pub HasFront : List ℕ → Type 0
  HasFront text = (value : Value N) × (end : ℕ) × Front read text value end

  -- One of two texts is refused with this status: 20 comes first, for either; and then the first text's.
  pub record RefusesOne (one other : List ℕ) (status : ℕ) : Type 0 where
    pub which : RefusesText one status ⊎ (RefusesText other status × ((status ≡ 20) ⊎ HasFront one))
    pub utf8 : 1 ≤ status → status ≤ 14 → IsUtf8 one × IsUtf8 other

  -- Whole texts are asked for, and the geometry that the text begins with ends here, and is followed by more than white space.
  pub record HasMore (whole : Bool) (text : List ℕ) (end : ℕ) : Type 0 where
    pub options : whole ≡ true
    pub utf8 : IsUtf8 text
    pub value : Value N
    pub front : Front read text value end
    pub more : AllWhite (drop end text) → ⊥

module _ {N : Type 0} (read : List ℕ → Option N) (num : N → List ℕ) where
  -- The text is UTF-8 and has a front that ends here, and the answer is the text of the front's value.
  abbrev pub IsCanonicalOf : List ℕ → List ℕ → ℕ → Type 0
  IsCanonicalOf text answer end = IsUtf8 text × IsCanonicalTo read num text answer end

  -- Two texts are UTF-8 and have each a front, which ends there, and `same` is true exactly if the texts of their values are equal, which is exactly if their canonical values are.
  pub record Compares (one other : List ℕ) (end other_end : ℕ) (same : Bool) : Type 0 where
    pub utf8 : IsUtf8 one
    pub other_utf8 : IsUtf8 other
    pub first : Value N
    pub second : Value N
    pub front : Front read one first end
    pub other_front : Front read other second other_end
    pub texts : IsTrue same ↔ (shape_text num (shape_of first) ≡ shape_text num (shape_of second))
    pub values : IsTrue same ↔ (canon (shape_of first) ≡ canon (shape_of second))

-- The status is 23, and there are more than 36 places.
abbrev pub HasNoPlaces : ℕ → ℕ → Type 0
HasNoPlaces places status = (status ≡ 23) × (36 < places)

-- A status is 23 where there are no numbers of so many places, and otherwise says something of the text.
abbrev pub RefusesAt : ℕ → List ℕ → ℕ → Type 0
RefusesAt places text status = HasNoPlaces places status ⊎ RefusesText (read_at places) text status

abbrev pub RefusesOneAt : ℕ → List ℕ → List ℕ → ℕ → Type 0
RefusesOneAt places one other status = HasNoPlaces places status ⊎ RefusesOne (read_at places) one other status

-- The answer to a comparison as a number.
abbrev pub same_number : Bool → ℕ
same_number true = 1
same_number false = 0

-- The number of a kind, and that of a dimension, as events have them.
abbrev pub kind_number : GeometryType → ℕ
kind_number = kind_index

abbrev pub dimension_number : Dimension → ℕ
dimension_number = dimension_index

-- The text is UTF-8, and its header names the kind and the dimension of these numbers.
pub record IsHeaderOf (text : List ℕ) (k d : ℕ) : Type 0 where
  pub utf8 : IsUtf8 text
  pub kind : GeometryType
  pub dimension : Dimension
  pub named : header_rule text ≡ Named kind dimension
  pub k_is : k ≡ kind_number kind
  pub d_is : d ≡ dimension_number dimension

-- What a status says of a text whose header names no kind: each but the last is that of the header rule.
pub record NamesNone (text : List ℕ) (status : ℕ) : Type 0 where
  pub no_kind : status ≡ 1 → IsUnsupported (header_rule text)
  pub no_space : status ≡ 2 → header_rule text ≡ NoSpace
  pub no_paren : status ≡ 3 → header_rule text ≡ NoParen
  pub utf8 : status ≤ 3 → IsUtf8 text
  pub not_utf8 : status ≡ 20 → IsUtf8 text → ⊥
  pub others : (status ≤ 3) ⊎ (status ≡ 20)
  pub some : 1 ≤ status
