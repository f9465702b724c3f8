-- Lines that look like rows of a table.
use Rattle.std.specs.Prelude.{◌≡◌, ℕ, List, [], ◌∷◌, take, Bool, true, false, ◌==◌, ◌||◌, ◌⊎◌, None, Some}
use Rattle.std.specs.Char.{is_ascii_alphabetic}
use Rattle.std.specs.Str.{str_to_ascii_uppercase}
use Rattle.wkt_read.specs.Grammar.{KindWord, kind_words, kind_word}
use Rattle.wkt_read.specs.Header.{named_in}

-- Whether a word of a kind begins here, behind this byte. One that begins in another word doesn't count.
abbrev pub BeginsKind : ℕ → List ℕ → Bool → Type 0
BeginsKind before rest true = (is_ascii_alphabetic before ≡ false) × ((n : ℕ) × (k : KindWord) × (kind_word (take n rest) ≡ Some k))
BeginsKind before rest false = (is_ascii_alphabetic before ≡ true) ⊎ (named_in kind_words (str_to_ascii_uppercase rest) ≡ None)

-- Whether the first of these words stands right behind a comma or a quotation mark.
abbrev pub IsRow : ℕ → List ℕ → Bool → Type 0
IsRow before [] is = is ≡ false
IsRow before (b ∷ rest) is =
    (BeginsKind before (b ∷ rest) true × (is ≡ (before == 44 || before == 34)))
    ⊎ (BeginsKind before (b ∷ rest) false × IsRow b rest is)
