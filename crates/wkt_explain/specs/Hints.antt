-- What a refused lexeme may come from.
use Rattle.std.specs.Prelude.{◌≡◌, ℕ, ℤ, suc, zero, ◌-◌, List, [], ◌∷◌, length, take, drop, Bool, true, false, not, ◌&&◌, ◌||◌, ◌==◌, nat_lt, nat_le, codes, Option, Some, None, if◌then◌else◌}
use Rattle.std.specs.List.{list_any, list_all}
use Rattle.std.specs.Char.{is_ascii_digit, is_ascii_hexdigit}
use Rattle.std.specs.Str.{str_to_ascii_uppercase}
use Rattle.std.specs.Str.Parse.{without_leading_sign}
use Rattle.wkt_num.specs.Decimal.{before_point, read_decimal}
use Rattle.wkt_read.specs.Header.{begins, holds}
use Rattle.wkt_read.specs.Lexemes.{without_plus}
use Rattle.wkt_read.specs.declared.expected.Expected.{Expected}
use Rattle.wkt_read.specs.declared.expected.Expected.TheVariants as expected
use Rattle.wkt_explain.specs.declared.hint.Hint.{Hint}
use Rattle.wkt_explain.specs.declared.hint.Hint.TheVariants as hint

-- Whether a word begins with these capitals, in whatever case.
abbrev pub begins_word : List ℕ → List ℕ → Bool
begins_word capitals w = begins capitals (str_to_ascii_uppercase w)

-- Ten hexadecimal digits or more, by whose first two WKB says the order of its bytes.
abbrev pub is_hexadecimal : List ℕ → Bool
is_hexadecimal w = nat_le 10 (length w) && ((begins (codes "00") w || begins (codes "01") w) && list_all is_ascii_hexdigit w)

-- The names of kinds with curves.
abbrev pub is_curve : List ℕ → Bool
is_curve w =
    begins_word (codes "CIRCULARSTRING") w || (begins_word (codes "COMPOUNDCURVE") w || (begins_word (codes "CURVEPOLYGON") w
    || (begins_word (codes "MULTICURVE") w || begins_word (codes "MULTISURFACE") w)))

-- The names of other kinds of surfaces.
abbrev pub is_surface : List ℕ → Bool
is_surface w = begins_word (codes "POLYHEDRALSURFACE") w || (begins_word (codes "TIN") w || begins_word (codes "TRIANGLE") w)

-- The names of boxes.
abbrev pub is_box : List ℕ → Bool
is_box w = begins_word (codes "BOX") w || begins_word (codes "ENVELOPE") w

-- The words NULL, None and nan, which other programs write for a missing value.
abbrev pub is_missing : List ℕ → Bool
is_missing w =
    (length w == 4 && (begins_word (codes "NULL") w || begins_word (codes "NONE") w))
    || (length w == 3 && begins_word (codes "NAN") w)

-- A digit or a point stands first.
abbrev pub begins_number : List ℕ → Bool
begins_number [] = false
begins_number (b ∷ bs) = is_ascii_digit b || b == 46

-- A digit or a point stands first, or after a sign.
abbrev pub begins_signed : List ℕ → Bool
begins_signed w = begins_number (without_leading_sign w)

-- What stands in place of a kind word: the first of these that it is.
abbrev pub kind_hint : List ℕ → Option Hint
kind_hint w =
    if begins (239 ∷ 187 ∷ 191 ∷ []) w then Some hint.ByteOrderMark
    else (if is_hexadecimal w then Some hint.Hexadecimal
    else (if begins_word (codes "SRID=") w then Some hint.Srid
    else (if is_curve w then Some hint.Curve
    else (if is_surface w then Some hint.Surface
    else (if is_box w then Some hint.Box
    else (if is_missing w then Some hint.Missing
    else (if begins (codes "{") w then Some hint.Braces
    else (if begins (codes "(") w || begins_signed w then Some hint.NoKind
    else None))))))))

-- An e of either case is at the place.
abbrev pub has_exponent : List ℕ → Bool
has_exponent = list_any (λ b. b == 101 || b == 69)

-- How many of these digits stand as far as the last that isn't 0, if they are digits alone; n stand before them, and `kept` of those count.
abbrev pub kept_after : ℕ → ℕ → List ℕ → Option ℕ
kept_after n kept [] = Some kept
kept_after n kept (b ∷ bs) = if is_ascii_digit b then kept_after (suc n) (if b == 48 then kept else suc n) bs else None

-- How many digits follow the point as far as the last that isn't 0, if there are digits with at most one point, and one digit or more; `any` says whether one stands before.
abbrev pub places_in : Bool → List ℕ → Option ℕ
places_in any [] = if any then Some 0 else None
places_in any (b ∷ bs) =
    if b == 46 then (if any || nat_lt 0 (length bs) then kept_after 0 0 bs else None)
    else (if is_ascii_digit b then places_in true bs else None)

-- What a refused number lacks, by the places that it has: it has too many of them, or is too large; `Fewer` where 18 places surely hold it.
abbrev pub places_hint : ℕ → List ℕ → Option ℕ → Option Hint
places_hint most ds None = None
places_hint most ds (Some n) =
    if nat_lt most n then Some (hint.Places most)
    else (if nat_lt 18 most && (nat_le n 18 && nat_le (length (before_point ds)) 20) then Some hint.Fewer
    else Some hint.Large)

-- The minus sign of typography or the dash stands first, which are U+2212 and U+2013.
abbrev pub begins_dash : List ℕ → Bool
begins_dash w = begins (226 ∷ 136 ∷ 146 ∷ []) w || begins (226 ∷ 128 ∷ 147 ∷ []) w

-- What stands in place of a number, after its sign: the first of these that it is.
abbrev pub number_hint : ℕ → List ℕ → Option Hint
number_hint most ds =
    if begins_word (codes "NAN") ds || (begins_word (codes "INF") ds || begins (codes "1.#") ds) then Some hint.NoNumber
    else (if is_missing ds then Some hint.Missing
    else (if begins_dash ds then Some hint.Minus
    else (if not (begins_number ds) then None
    else (if has_exponent ds then Some hint.Exponent
    else places_hint most ds (places_in false ds)))))

-- What the word at the place of a refusal may come from, by what was expected there.
abbrev pub place_hint : Expected → List ℕ → ℕ → Option Hint
place_hint expected.Kind w most = kind_hint w
place_hint expected.Member w most = kind_hint w
place_hint expected.Dimension w most = if begins_signed w then Some hint.Parenthesis else None
place_hint expected.Opening w most = if begins_signed w then Some hint.Parenthesis else None
place_hint expected.Point w most = number_hint most (without_leading_sign w)
place_hint expected.X w most = number_hint most (without_leading_sign w)
place_hint expected.Y w most = if begins (codes ",") w then Some hint.Comma else number_hint most (without_leading_sign w)
place_hint expected.Z w most = number_hint most (without_leading_sign w)
place_hint expected.M w most = number_hint most (without_leading_sign w)
place_hint expected.More w most = if begins_signed w then Some hint.Dimension else None
place_hint expected.Closing w most =
    if begins (codes ",") w then Some hint.Comma else (if begins_signed w then Some hint.Dimension else None)

-- The same, but first what is no part of a word anywhere: a no-break space, which is U+00A0, or quotes around it.
abbrev pub word_hint : Expected → List ℕ → ℕ → Option Hint
word_hint e w most =
    if holds (194 ∷ 160 ∷ []) w then Some hint.NoBreakSpace
    else (if begins (codes "'") w || begins (34 ∷ []) w then Some hint.Quotes
    else place_hint e w most)

-- `)` stands at this place, right behind `(`.
abbrev pub is_empty_pair : ℕ → List ℕ → Bool
is_empty_pair zero text = false
is_empty_pair (suc before) text = begins (codes "()") (drop before text)

-- What a text that is refused from one place to another may come from, by what was expected there.
abbrev pub hint_at : List ℕ → ℕ → ℕ → Expected → ℕ → Option Hint
hint_at text start end e most = if is_empty_pair start text then Some hint.Empty else word_hint e (take (end - start) (drop start text)) most

-- Where the hint says that 18 places read a number, they do.
abbrev pub FewerIsRead : Type 0
FewerIsRead = (most : ℕ) (w : List ℕ) → number_hint most (without_leading_sign w) ≡ Some hint.Fewer → (u : ℤ) × (read_decimal 127 36 18 (without_plus w) ≡ Some u)
