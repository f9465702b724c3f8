-- The sink that a number's text goes to. Only private contracts cite these words.
use Rattle.std.specs.Prelude.{◌≡◌, ℕ, ◌+◌, ◌<◌, List, [], ◌++◌, length, take, IsUtf8}
use Rattle.std.proofs.Common.{refl, sym, ap, ◌∙◌, append_assoc, arith, length-append}
use Rattle.std.proofs.lemmas.List.{append-nil}
use Rattle.std.proofs.lemmas.Str.{IsUtf8-nil, IsUtf8-append}
use Rattle.wkt_num.specs.Sink.{Sink}
use Rattle.wkt_canonical.specs.declared.space.Space.{Space}

-- The text, which is UTF-8, stands behind what was written, in the same bytes.
pub record SpaceGives (s : Space) (bs : List ℕ) (t : Space) : Type 0 where
  pub origin : t.out.ghost_name ≡ s.out.ghost_name
  pub whole : length t.out.now ≡ length s.out.now
  pub len : t.len ≡ s.len + length bs
  pub text : take t.len t.out.now ≡ take s.len s.out.now ++ bs
  pub utf8 : IsUtf8 bs

-- There is no room for the text, of which a part stands in the same bytes.
pub record Lacks (s : Space) (bs : List ℕ) (t : Space) : Type 0 where
  pub origin : t.out.ghost_name ≡ s.out.ghost_name
  pub whole : length t.out.now ≡ length s.out.now
  pub room : length s.out.now < s.len + length bs

pub gives_more : (s t u : Space) (bs cs : List ℕ) → SpaceGives s bs t → SpaceGives t cs u → SpaceGives s (bs ++ cs) u
gives_more s t u bs cs h k = record {
  origin = k.origin ∙ h.origin;
  whole = k.whole ∙ h.whole;
  len = omega (arith, k.len, h.len, length-append bs cs);
  text = k.text ∙ ap (λ l. l ++ cs) h.text ∙ append_assoc (take s.len s.out.now) bs cs;
  utf8 = IsUtf8-append bs cs h.utf8 k.utf8;
}

pub gives_none : (s : Space) → SpaceGives s [] s
gives_none s = record { origin = refl; whole = refl; len = omega arith; text = sym (append-nil (take s.len s.out.now)); utf8 = IsUtf8-nil }

pub lacks_after : (s t u : Space) (bs cs : List ℕ) → SpaceGives s bs t → Lacks t cs u → Lacks s (bs ++ cs) u
lacks_after s t u bs cs h k = record { origin = k.origin ∙ h.origin; whole = k.whole ∙ h.whole; room = omega (arith, h.whole, h.len, k.room, length-append bs cs) }

pub lacks_longer : (s t : Space) (bs cs : List ℕ) → Lacks s bs t → Lacks s (bs ++ cs) t
lacks_longer s t bs cs h = record { origin = h.origin; whole = h.whole; room = omega (arith, h.room, length-append bs cs) }

-- A call fails only where there is no room.
abbrev pub space_sink : Sink Space
space_sink = record {
  gives = SpaceGives;
  leaves = Lacks;
  failures = λ s. s.failures;
  none = gives_none;
  more = gives_more;
  after = lacks_after;
  longer = lacks_longer;
}
