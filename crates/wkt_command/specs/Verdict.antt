-- What becomes of a text.
use Rattle.std.specs.Prelude.{◌≡◌, ◌⊎◌, ℕ, List, take, drop, Option, Bool, true, false, IsUtf8}
use Rattle.wkt_num.specs.Bytes.{AllWhite}
use Rattle.wkt_read.specs.Front.{HasNoFront}
use Rattle.wkt_read.specs.Explained.{IsRefusedAt}
use Rattle.wkt_canonical.specs.Canonical.{IsCanonicalTo}
use Rattle.wkt_command.specs.declared.verdict.Verdict.{Verdict}
use Rattle.wkt_command.specs.declared.verdict.Verdict.TheVariants.{Read, Refused, Rest}

module _ {N : Type 0} (read : List ℕ → Option N) (num : N → List ℕ) where
  -- A text is read that has a front with nothing but white space after it, or, where the front alone counts, with whatever. Another is refused where the library refuses it, or for what follows its front.
  abbrev pub IsVerdict : Bool → List ℕ → List ℕ → Verdict → Type 0
  IsVerdict front text room (Read len) = (end : ℕ) × IsCanonicalTo read num text (take len room) end × ((front ≡ true) ⊎ AllWhite (drop end text)) × IsUtf8 (take len room)
  IsVerdict front text room (Refused r) = (r.text.now ≡ text) × (r.start ≡ r.why.start) × (r.end ≡ r.why.end) × (r.why.text.now ≡ text) × IsRefusedAt read text r.why.start r.why.end r.why.expected × HasNoFront read text
  IsVerdict front text room (Rest end) = (front ≡ false) × ((len : ℕ) × IsCanonicalTo read num text (take len room) end) × (AllWhite (drop end text) → ⊥)
