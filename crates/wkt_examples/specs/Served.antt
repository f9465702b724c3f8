-- What a text is answered with.
use Rattle.std.specs.Prelude.{ℕ, List, Option, string_bytes}
use Rattle.wkt.specs.Explained.{IsRefusedAt}
use Rattle.wkt.specs.CanonicalText.{IsCanonical}
use Rattle.wkt_examples.specs.declared.refusal.Answer.{Answer}
use Rattle.wkt_examples.specs.declared.refusal.Answer.TheVariants.{Text, Refused}

-- Its one text, or where it is refused and what could come next.
abbrev pub IsRefusalAnswer : {N : Type 0} → (List ℕ → Option N) → (N → List ℕ) → List ℕ → Answer → Type 0
IsRefusalAnswer read num text (Text tidy) = IsCanonical read num text (string_bytes tidy)
IsRefusalAnswer read num text (Refused start end expected) = IsRefusedAt read text start end expected
