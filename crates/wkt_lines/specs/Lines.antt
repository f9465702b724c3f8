-- The lines of an input, and how one is taken from its front.
use Rattle.std.specs.Prelude.{ℕ, List, [], ◌∷◌, ◌==◌, if◌then◌else◌, ◌≡◌, ◌+◌, ◌≤◌, length, drop, IsUtf8, Option, Some, None, ◌≢◌, ◌<◌, get_or}
pub use Rattle.wkt_events.specs.Remaining.{before_feed}

-- The lines of an input.

-- A byte before the first of the pieces.
abbrev pub onto_first : ℕ → List (List ℕ) → List (List ℕ)
onto_first b [] = (b ∷ []) ∷ []
onto_first b (p ∷ ps) = (b ∷ p) ∷ ps

-- The pieces between line feeds, the last one too.
abbrev pub pieces : List ℕ → List (List ℕ)
pieces [] = [] ∷ []
pieces (b ∷ bs) = if b == 10 then [] ∷ pieces bs else onto_first b (pieces bs)

-- The pieces without an empty one at the end.
abbrev pub without_last_empty : List (List ℕ) → List (List ℕ)
without_last_empty [] = []
without_last_empty ([] ∷ []) = []
without_last_empty (p ∷ ps) = p ∷ without_last_empty ps

-- The lines of an input.
abbrev pub input_lines : List ℕ → List (List ℕ)
input_lines bs = without_last_empty (pieces bs)

-- A line taken from the front of an input.

-- what stands after the first line feed
abbrev pub after_feed : List ℕ → List ℕ
after_feed [] = []
after_feed (b ∷ bs) = if b == 10 then bs else after_feed bs

-- The first line ends at `end`, and is UTF-8 from `from` on.
pub record EndsText (rest : List ℕ) (from end : ℕ) : Type 0 where
  pub within : end ≤ length rest
  pub ends : end ≡ length (before_feed rest)
  pub after : drop (end + 1) rest ≡ after_feed rest
  pub utf8 : IsUtf8 (drop from (before_feed rest))

-- That, or it isn't UTF-8 from there on.
abbrev pub EndsTextIfAny : List ℕ → ℕ → Option ℕ → Type 0
EndsTextIfAny rest from (Some end) = EndsText rest from end
EndsTextIfAny rest from None = IsUtf8 (drop from (before_feed rest)) → ⊥

-- Bytes without a line feed.

-- No byte is a line feed.
abbrev pub HasNoFeed : List ℕ → Type 0
HasNoFeed bs = (k : ℕ) → k < length bs → get_or bs k 0 ≢ 10
