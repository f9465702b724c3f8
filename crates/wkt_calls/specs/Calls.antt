-- What the calls for canonical texts answer, and the answers to some lines at the front of an input.
use Rattle.std.specs.Prelude.{◌≡◌, ◌≢◌, ◌≤◌, ◌+◌, ◌*◌, ◌++◌, ◌⊎◌, ℕ, List, ◌∷◌, length, take, Option, Result, Ok, Err, MatchResult, ◌-◌, ◌<◌, zero, suc, Bool, true, false, drop}
use Rattle.wkt_read.specs.Front.{HasNoFront}
use Rattle.wkt_read.specs.Refusal.{IsRefusedWith}
use Rattle.wkt_read.specs.declared.messages.Message.{Message}
use Rattle.wkt_canonical.specs.Canonical.{IsCanonicalTo}
use Rattle.wkt_calls.specs.Answer.{read_at, print_at, places_in, asks_whole, EndsAsAsked, IsCanonicalOf, HasMore, IsMore, Compares, RefusesText, RefusesOne, IsHandedOut, HasNoRoom, same_number}
use Rattle.wkt_calls.specs.declared.compare.Compared.{Compared}
use Rattle.wkt_lines.specs.Laws.{IsWholeLines}
use Rattle.wkt_lines.specs.Output.{IsOutput}
use Rattle.wkt_lines.specs.Lines.{before_feed}

-- What the calls for canonical texts answer.

module _ {N : Type 0} (read : List ℕ → Option N) (num : N → List ℕ) where
  -- The canonical text of the text's front stands at the front of a room; or the text has no front, and is refused with the message. Only private contracts cite this.
  abbrev pub WritesOrSaysWhy : List ℕ → List ℕ → Result (ℕ × ℕ) Message → Type 0
  WritesOrSaysWhy text new (Ok p) = IsCanonicalTo read num text (take p.1 new) p.0 × (p.1 ≤ length new)
  WritesOrSaysWhy text new (Err m) = HasNoFront read text × IsRefusedWith read text m

  -- The canonical text stands at the front of a room, as long as is returned, and where the front ends is returned too; or the text is refused.
  abbrev pub WritesOrRefuses : List ℕ → List ℕ → Result (ℕ × ℕ) ℕ → Type 0
  WritesOrRefuses text room result = MatchResult result (λ r. IsCanonicalOf read num text (take r.1 room) r.0) (RefusesText read text)

-- The canonical text is written or the text is refused, with decimals of as many places as are asked for.
abbrev pub WritesAsked : ℕ → List ℕ → List ℕ → Result (ℕ × ℕ) ℕ → Type 0
WritesAsked options text room result = WritesOrRefuses (read_at (places_in options)) (print_at (places_in options)) text room result

-- By its status, what a call says of a text, and what it has written then.
pub record AnswersCanonical (options : ℕ) (text : List ℕ) (status : ℕ) (out out' : List ℕ) (needed needed' end end' : ℕ) : Type 0 where
  pub written : status ≡ 0 → (answer : List ℕ) × IsCanonicalOf (read_at (places_in options)) (print_at (places_in options)) text answer end'
      × EndsAsAsked (asks_whole options) text end' × IsHandedOut answer needed' out out'
  pub small : status ≡ 21 → (answer : List ℕ) × IsCanonicalOf (read_at (places_in options)) (print_at (places_in options)) text answer end'
      × EndsAsAsked (asks_whole options) text end' × HasNoRoom answer needed' out
  pub more : status ≡ 30 → HasMore (read_at (places_in options)) (asks_whole options) text end'
  -- Memory is taken for texts of more than 200 bytes.
  pub memory : status ≡ 22 → 200 < length text
  pub others : 1 ≤ status → status ≢ 21 → status ≢ 22 → status ≢ 30 → RefusesText (read_at (places_in options)) text status
  pub kept : 1 ≤ status → out' ≡ out
  pub bound : (status ≡ 0) ⊎ (status ≡ 21) → needed' ≤ 2 * length text + 65
  pub needed_kept : 1 ≤ status → status ≢ 21 → needed' ≡ needed
  pub end_kept : 1 ≤ status → status ≢ 21 → status ≢ 30 → end' ≡ end

-- By its status, what a comparison says of two texts, and what it has written then.
pub record AnswersSame (options : ℕ) (one other : List ℕ) (status same same' end end' other_end other_end' : ℕ) : Type 0 where
  pub compared : status ≡ 0 → (answer : Bool) × Compares (read_at (places_in options)) (print_at (places_in options)) one other end' other_end' answer × (same' ≡ same_number answer)
  pub as_asked : status ≡ 0 → EndsAsAsked (asks_whole options) one end' × EndsAsAsked (asks_whole options) other other_end'
  pub more : status ≡ 30 → (answer : Bool) × Compares (read_at (places_in options)) (print_at (places_in options)) one other end' other_end' answer
      × (IsMore (asks_whole options) one end' ⊎ IsMore (asks_whole options) other other_end')
  pub memory : status ≡ 22 → (200 < length one) ⊎ (200 < length other)
  pub others : 1 ≤ status → status ≢ 22 → status ≢ 30 → RefusesOne (read_at (places_in options)) one other status
  pub kept : 1 ≤ status → same' ≡ same
  pub ends_kept : 1 ≤ status → status ≢ 30 → (end' ≡ end) × (other_end' ≡ other_end)

-- Two texts were compared.
abbrev pub AreCompared : ℕ → List ℕ → List ℕ → Compared → Type 0
AreCompared options one other c = Compares (read_at (places_in options)) (print_at (places_in options)) one other c.end c.other_end c.same

-- The answers to some lines at the front of an input.

-- So many bytes at the front are whole lines, or all of the input, where it ends here.
abbrev pub AreWholeLines : Bool → List ℕ → ℕ → Type 0
AreWholeLines last input n = IsWholeLines (take n input) ⊎ ((last ≡ true) × (n ≡ length input))

-- So many bytes are the first line with its feed, or all of the input, where that ends here and has no feed.
abbrev pub IsFirstLine : Bool → List ℕ → ℕ → Type 0
IsFirstLine last input n =
    ((n ≡ length (before_feed input) + 1) × (n ≤ length input)) ⊎ ((last ≡ true) × (n ≡ length input) × (before_feed input ≡ input))

-- There is no whole line, or a buffer of that size may have no room for the answer to the first.
abbrev pub IsChunkStuck : Bool → List ℕ → ℕ → Type 0
IsChunkStuck last input room =
    (length input ≡ 0) ⊎ (((last ≡ false) × (before_feed input ≡ input)) ⊎ ((n : ℕ) × IsFirstLine last input n × (room < 2 * n + 65)))

module _ {N : Type 0} (read : List ℕ → Option N) (num : N → List ℕ) where
  -- So many bytes of the input are taken, which are whole lines, and the first `written` bytes of the buffer are the answers to them.
  pub record AnswersSure (last : Bool) (input : List ℕ) (taken written : ℕ) (out : List ℕ) : Type 0 where
    pub within : taken ≤ length input
    pub lines : AreWholeLines last input taken
    pub fits : written ≤ length out
    pub answers : IsOutput read num (take taken input) (take written out)
    -- What is left has no whole line at its front, or the first may have no room.
    pub stuck : IsChunkStuck last (drop taken input) (length out - written)

-- Whether the input ends here.
abbrev pub ends_here : ℕ → Bool
ends_here zero = false
ends_here (suc n) = true
