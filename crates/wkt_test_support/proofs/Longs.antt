-- No text is bytes that are no text.
use Rattle.std.proofs.Common.{◌≡◌, ℕ, List, [], ◌∷◌, Bool, true, false, Some, None, IsUtf8, codes, sym, ap, ◌∙◌, refl, if◌then◌else◌}
use Rattle.std.specs.Str.{bytes_eq, is_utf8, chars}
use lib.Utf8.{encode}
use Rattle.std.proofs.lemmas.Str.{is_utf8-from_IsUtf8}
use Rattle.std.proofs.lemmas.Slice.Eq.{bytes_eq-Decides}
use Rattle.wkt_test_support.specs.declared.numbers.Long as longs
use Rattle.wkt_test_support.specs.Numbers.{read_long}

no-text : is_utf8 (46 ∷ 200 ∷ []) ≡ false
unfolding is_utf8 chars encode
no-text = refl

other : (bs : List ℕ) → IsUtf8 bs → (b : Bool) → bytes_eq bs (46 ∷ 200 ∷ []) ≡ b → b ≡ false
other bs utf8 true e = let same : bs ≡ 46 ∷ 200 ∷ [] = (bytes_eq-Decides bs (46 ∷ 200 ∷ [])).0 e in let q : true ≡ false = sym (is_utf8-from_IsUtf8 bs utf8) ∙ ap is_utf8 same ∙ no-text in cc
other bs utf8 false e = refl

pub not-read : (bs : List ℕ) → IsUtf8 bs → bytes_eq bs (codes ".l") ≡ false → bytes_eq bs (codes ".llllllllllllllllllll") ≡ false → None ≡ read_long bs
not-read bs utf8 a b = sym (
    ap (λ t. if t then Some longs.TheVariants.Long else (if bytes_eq bs (codes ".llllllllllllllllllll") then Some longs.TheVariants.Long else (if bytes_eq bs (46 ∷ 200 ∷ []) then Some longs.TheVariants.Long else None))) a
    ∙ ap (λ t. if t then Some longs.TheVariants.Long else (if bytes_eq bs (46 ∷ 200 ∷ []) then Some longs.TheVariants.Long else None)) b
    ∙ ap (λ t. if t then Some longs.TheVariants.Long else None) (other bs utf8 (bytes_eq bs (46 ∷ 200 ∷ [])) refl))
