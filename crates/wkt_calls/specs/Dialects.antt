-- What a call answers of a text in dialects: there is another text that it is read as, and what the call answers of that without a dialect is the answer; places are those of the text as it was given.
use Rattle.std.specs.Prelude.{◌≡◌, ◌≢◌, ◌⊎◌, ◌≤◌, ◌<◌, ◌+◌, ◌%◌, ◌^◌, ℕ, ℤ, List, Bool, true, false, Option, Some, None, IsUtf8, length, drop}
use Rattle.wkt_read.specs.Explained.{HasFront}
use Rattle.wkt_read.specs.Front.{HasNoFront}
use Rattle.wkt_read.specs.Spanned.{spanned}
use Rattle.wkt_dialects.specs.Asked.{dialects_in}
use Rattle.wkt_dialects.specs.Dialects.{IsRest}
use Rattle.wkt_dialects.specs.Reading.{IsRestAs, IsPlace, ended_before}
use Rattle.wkt_explain.specs.Problems.{IsProblem, IsAccepted}
use Rattle.wkt_explain.specs.declared.explanation.Refusal.{Refusal}
use Rattle.wkt_explain.specs.declared.whole.Problem.{Problem}
use Rattle.wkt_explain.specs.declared.whole.Problem.TheVariants.{Refused, Rest}
use Rattle.wkt_calls.specs.Answer.{read_at, places_in, asks_whole}
use Rattle.wkt_calls.specs.Explained.{IsExplained, IsFollowed, IsHinted}
use Rattle.wkt_calls.specs.Calls.{AnswersCanonical, AnswersSame}
use Rattle.wkt_calls.specs.Arrays.{AnswersArrays}
use Rattle.wkt_calls.specs.declared.sizes.WktSizes.{WktSizes}
use Rattle.wkt_calls.specs.declared.dialects.AsRead.{AsRead}

-- Dialects are asked for, and numbers of as many places as there are.
abbrev pub AsksDialects : ℕ → Type 0
AsksDialects options = (512 ≤ options) × (options < 8192) × (places_in (options % 512) ≤ 36)

-- The status is 23, and no such dialects or numbers are there; or they are, and this holds of it.
abbrev pub IsUnaskedOr : ℕ → (ℕ → Type 0) → ℕ → Type 0
IsUnaskedOr options holds status = ((status ≡ 23) × (AsksDialects options → ⊥)) ⊎ (AsksDialects options × holds status)

-- What a number is read as without a dialect.
abbrev pub read_plainly : ℕ → List ℕ → Option ℤ
read_plainly options = read_at (places_in (options % 512))

-- It holds what stands behind the SRID of the text, if one is split off.
pub record HoldsRest (options : ℕ) (text : List ℕ) (r : AsRead) : Type 0 where
  pub dialects : r.dialects ≡ dialects_in options
  pub inside : r.from ≤ length text
  pub rest : r.rest.now ≡ drop r.from text
  pub split_off : IsRest (dialects_in options) text r.rest.now

-- The text behind the SRID is read as it stands, where it begins with a geometry, and else as another text.
pub record IsAsRead (options : ℕ) (text : List ℕ) (r : AsRead) : Type 0 where
  pub rest : HoldsRest options text r
  pub same : r.written ≡ false → HasFront (read_plainly options) r.rest.now × (r.text.now ≡ r.rest.now)
  pub other : r.written ≡ true → HasNoFront (read_plainly options) r.rest.now × IsRestAs (dialects_in options) r.rest.now r.text.now
  pub utf8 : IsUtf8 text → IsUtf8 r.text.now

-- Places of the text that is read can be found in the text as it was given. Only private contracts cite this.
pub record IsReadable (r : AsRead) : Type 0 where
  pub same : r.written ≡ false → r.text.now ≡ r.rest.now
  pub other : r.written ≡ true → IsRestAs r.dialects r.rest.now r.text.now
  pub inside : r.from + length r.rest.now < 2 ^ 63

-- A place of the text that is read, in the text as it was given: behind the last lexeme that ends there or before it, and from where to where the next one stands.
pub record IsPlaced (r : AsRead) (at behind start stop : ℕ) : Type 0 where
  pub same : r.written ≡ false → (behind ≡ r.from + at) × (start ≡ r.from + at) × (stop ≡ r.from + at)
  pub other : r.written ≡ true → (b : ℕ) × (s : ℕ) × (e : ℕ) × IsPlace r.dialects r.rest.now (ended_before at (spanned r.text.now)) b s e
      × (behind ≡ r.from + b) × (start ≡ r.from + s) × (stop ≡ r.from + e)

-- Where a geometry ends in the text as it was given that ends at this place of the text that is read.
abbrev pub EndsAt : AsRead → ℕ → ℕ → Type 0
EndsAt r at end = (start : ℕ) × (stop : ℕ) × IsPlaced r at end start stop

-- The places of a problem.
abbrev pub IsPlacedProblem : AsRead → Problem → Problem → Type 0
IsPlacedProblem r (Refused w) (Refused q) = (q.message ≡ w.message) × (q.expected ≡ w.expected) × (behind : ℕ) × IsPlaced r w.start behind q.start q.end
IsPlacedProblem r (Rest at) (Rest start) = (behind : ℕ) × (stop : ℕ) × IsPlaced r at behind start stop
IsPlacedProblem r p q = ⊥

-- Why the text that the text is read as isn't accepted, by places of the text as it was given.
pub record IsProblemIn (options : ℕ) (text : List ℕ) (problem : Problem) : Type 0 where
  pub read : AsRead
  pub as_read : IsAsRead options text read
  pub utf8 : IsUtf8 read.text.now
  pub of_other : Problem
  pub is : IsProblem (read_plainly options) (asks_whole (options % 512)) read.text.now of_other
  pub places : IsPlacedProblem read of_other problem

-- The number of the hint for the text that the text is read as; none where more than white space follows its geometry.
pub record IsHintIn (options : ℕ) (text : List ℕ) (hint : Option ℕ) : Type 0 where
  pub read : AsRead
  pub as_read : IsAsRead options text read
  pub utf8 : IsUtf8 read.text.now
  pub some : (n : ℕ) → hint ≡ Some n → IsHinted (read_plainly options) (places_in (options % 512)) read.text.now n
  pub none : hint ≡ None → (at : ℕ) × IsProblem (read_plainly options) (asks_whole (options % 512)) read.text.now (Rest at)

-- Why a text in dialects isn't explained.
pub record IsUnexplainedIn (options : ℕ) (text : List ℕ) (status : ℕ) : Type 0 where
  -- 29: the text that it is read as begins with a geometry, which is as asked for.
  pub accepted : status ≡ 29 → (r : AsRead) × IsAsRead options text r × (end : ℕ) × IsAccepted (read_plainly options) (asks_whole (options % 512)) r.text.now end
  -- 20: it isn't UTF-8.
  pub not_utf8 : status ≡ 20 → IsUtf8 text → ⊥
  -- 22: there is no room for the text that it is read as.
  pub others : (status ≡ 29) ⊎ ((status ≡ 20) ⊎ (status ≡ 22))

-- Why a text has no answer in dialects: there are no such dialects, or no numbers of so many places; it isn't UTF-8; or there is no room for the text that it is read as.
pub record HasNoAnswer (options : ℕ) (text : List ℕ) (status : ℕ) : Type 0 where
  pub no_dialects : (AsksDialects options → ⊥) → status ≡ 23
  pub dialects : status ≡ 23 → AsksDialects options → ⊥
  pub not_utf8 : status ≡ 20 → IsUtf8 text → ⊥

-- The status says where a geometry ends.
abbrev pub SaysEnd : ℕ → Type 0
SaysEnd status = (status ≡ 0) ⊎ ((status ≡ 21) ⊎ (status ≡ 30))

-- There is an answer of the text that is read, or a refusal of it.
abbrev pub IsAnswer : ℕ → Type 0
IsAnswer status = (status ≢ 20) × (status ≢ 22) × (status ≢ 23)

-- What a call for canonical text answers of the text that is read, with its end in the text as it was given.
pub record AnswersCanonicalOf (options : ℕ) (r : AsRead) (status : ℕ) (out out' : List ℕ) (needed needed' end end' : ℕ) : Type 0 where
  pub at : ℕ
  pub answers : AnswersCanonical (options % 512) r.text.now status out out' needed needed' 0 at
  pub end_is : SaysEnd status → EndsAt r at end'
  pub end_kept : (SaysEnd status → ⊥) → end' ≡ end

-- By its status, what a call for canonical text says of a text in dialects.
pub record AnswersCanonicalIn (options : ℕ) (text : List ℕ) (status : ℕ) (out out' : List ℕ) (needed needed' end end' : ℕ) : Type 0 where
  pub none : HasNoAnswer options text status
  pub answers : IsAnswer status → (r : AsRead) × IsAsRead options text r × AnswersCanonicalOf options r status out out' needed needed' end end'
  pub kept : 1 ≤ status → out' ≡ out
  pub needed_kept : 1 ≤ status → status ≢ 21 → needed' ≡ needed
  pub end_kept : (SaysEnd status → ⊥) → end' ≡ end

-- What a comparison answers of the texts that are read, with their ends in the texts as they were given.
pub record AnswersSameOf (options : ℕ) (r q : AsRead) (status same same' end end' other_end other_end' : ℕ) : Type 0 where
  pub at : ℕ
  pub other_at : ℕ
  pub answers : AnswersSame (options % 512) r.text.now q.text.now status same same' 0 at 0 other_at
  pub ends : (status ≡ 0) ⊎ (status ≡ 30) → EndsAt r at end' × EndsAt q other_at other_end'
  pub ends_kept : 1 ≤ status → status ≢ 30 → (end' ≡ end) × (other_end' ≡ other_end)

-- By its status, what a comparison says of two texts in dialects.
pub record AnswersSameIn (options : ℕ) (one other : List ℕ) (status same same' end end' other_end other_end' : ℕ) : Type 0 where
  pub no_dialects : (AsksDialects options → ⊥) → status ≡ 23
  pub dialects : status ≡ 23 → AsksDialects options → ⊥
  pub not_utf8 : status ≡ 20 → IsUtf8 one → IsUtf8 other → ⊥
  pub answers : IsAnswer status → (r : AsRead) × (q : AsRead) × IsAsRead options one r × IsAsRead options other q × AnswersSameOf options r q status same same' end end' other_end other_end'
  pub kept : 1 ≤ status → same' ≡ same
  pub ends_kept : 1 ≤ status → status ≢ 30 → (end' ≡ end) × (other_end' ≡ other_end)

-- What a call for arrays answers of the text that is read, with its end in the text as it was given.
pub record AnswersArraysOf (options : ℕ) (r : AsRead) (status : ℕ) (sizes sizes' : WktSizes) (numbers numbers' : List ℤ) (rings rings' polygons polygons' : List ℕ) : Type 0 where
  pub of_other : WktSizes
  pub answers : AnswersArrays (options % 512) r.text.now (64 < length r.text.now) status sizes of_other numbers numbers' rings rings' polygons polygons'
  pub end_is : SaysEnd status → EndsAt r of_other.end sizes'.end × (sizes' ≡ record of_other { end = sizes'.end })
  pub sizes_kept : (SaysEnd status → ⊥) → sizes' ≡ sizes

-- By its status, what a call for arrays says of a text in dialects.
pub record AnswersArraysIn (options : ℕ) (text : List ℕ) (status : ℕ) (sizes sizes' : WktSizes) (numbers numbers' : List ℤ) (rings rings' polygons polygons' : List ℕ) : Type 0 where
  pub none : HasNoAnswer options text status
  pub answers : IsAnswer status → (r : AsRead) × IsAsRead options text r × AnswersArraysOf options r status sizes sizes' numbers numbers' rings rings' polygons polygons'
  pub kept : 1 ≤ status → (numbers' ≡ numbers) × (rings' ≡ rings) × (polygons' ≡ polygons)
  pub sizes_kept : (SaysEnd status → ⊥) → sizes' ≡ sizes

-- By its status, what a call says of why a text in dialects is refused.
pub record AnswersExplainIn (options : ℕ) (text : List ℕ) (status message' start' stop' expected' : ℕ) : Type 0 where
  pub no_dialects : (AsksDialects options → ⊥) → status ≡ 23
  pub dialects : status ≡ 23 → AsksDialects options → ⊥
  pub explained : status ≡ 0 → (r : AsRead) × IsAsRead options text r × (at : ℕ) × (upto : ℕ) × IsExplained (read_plainly options) r.text.now message' at upto expected' × (behind : ℕ) × IsPlaced r at behind start' stop'
  pub more : status ≡ 30 → (r : AsRead) × IsAsRead options text r × (at : ℕ) × IsFollowed (read_plainly options) (asks_whole (options % 512)) r.text.now at × (behind : ℕ) × (stop : ℕ) × IsPlaced r at behind start' stop × (stop' ≡ length text)
  pub others : 1 ≤ status → status ≢ 30 → status ≢ 23 → IsUnexplainedIn options text status

-- By its status, which hint there is for a text in dialects.
pub record AnswersHintIn (options : ℕ) (text : List ℕ) (status hint' : ℕ) : Type 0 where
  pub no_dialects : (AsksDialects options → ⊥) → status ≡ 23
  pub dialects : status ≡ 23 → AsksDialects options → ⊥
  pub hinted : status ≡ 0 → (r : AsRead) × IsAsRead options text r × IsHinted (read_plainly options) (places_in (options % 512)) r.text.now hint'
  pub more : status ≡ 30 → (r : AsRead) × IsAsRead options text r × (at : ℕ) × IsFollowed (read_plainly options) (asks_whole (options % 512)) r.text.now at
  pub others : 1 ≤ status → status ≢ 30 → status ≢ 23 → IsUnexplainedIn options text status
