-- The answer to the first line of what is left of an input, behind what a room holds.
use Rattle.std.specs.Prelude.{◌≡◌, ℕ, ◌+◌, ◌≤◌, List, [], ◌∷◌, ◌++◌, length, take, drop, Option, IsUtf8, ◌⊎◌, Result, Ok, Err, Bool, true}
use Rattle.wkt_events.specs.Remaining.{before_feed}
use Rattle.wkt_lines.specs.Lines.{after_feed, EndsText}
use Rattle.wkt_lines.specs.Output.{IsAnswer}
use Rattle.wkt_num.specs.Number.{ReadsTexts}
use Rattle.wkt_num.specs.Bytes.{AllWhite}
use Rattle.wkt_canonical.specs.Canonical.{HasLongText, IsCanonicalTo}
use Rattle.wkt_canonical.specs.declared.canonical.NoRoom.{NoRoom}
use Rattle.wkt_lines.specs.declared.in_room.Answer.{Answer}

-- The first line ends there.
pub record EndsLine (rest : List ℕ) (end : ℕ) : Type 0 where
  pub before : take end rest ≡ before_feed rest
  pub after : drop (end + 1) rest ≡ after_feed rest
  pub within : end ≤ length rest

module _ {N : Type 0} (read : List ℕ → Option N) (num : N → List ℕ) where
  -- The first line is answered behind the first `len` bytes, up to `n`, in UTF-8, and what stands behind it is left.
  pub record AnswersBehind (rest : List ℕ) (len : ℕ) (old new : List ℕ) (taken n : ℕ) : Type 0 where
    pub answer : List ℕ
    pub is : IsAnswer read num (before_feed rest) answer
    pub utf8 : IsUtf8 answer
    pub written : take n new ≡ take len old ++ (answer ++ 10 ∷ [])
    pub left : drop taken rest ≡ after_feed rest

  -- That, or a number's text was too long.
  abbrev pub AnswersIfRoom : List ℕ → ℕ → List ℕ → List ℕ → Result Answer NoRoom → Type 0
  AnswersIfRoom rest len old new (Ok a) = AnswersBehind rest len old new a.taken a.len
  AnswersIfRoom rest len old new (Err e) = HasLongText read num

-- What holds of an answer.
abbrev pub IfAnswered : Result Answer NoRoom → (Answer → Type 0) → Type 0
IfAnswered (Ok a) P = P a
IfAnswered (Err e) P = Unit {0}

-- The front's end, where only texts are read, or else the line's beginning.
abbrev pub TestsFrom : {T : Type 0} → (List ℕ → Option T) → ℕ → ℕ → Type 0
TestsFrom read end from = ((from ≡ end) × ReadsTexts read) ⊎ (from ≡ 0)

-- The first line, read as a whole text.

-- Nothing but white space stands from `end` on, or that isn't looked at.
abbrev pub EndsAll : Bool → List ℕ → ℕ → Type 0
EndsAll front line end = (front ≡ true) ⊎ AllWhite (drop end line)

-- The first line ends there, is UTF-8 from `from` on, and all of it counts up to `end`.
abbrev pub EndsWhole : Bool → List ℕ → ℕ → ℕ → ℕ → Type 0
EndsWhole front rest from end line = EndsText rest from line × EndsAll front (before_feed rest) end

module _ {N : Type 0} (read : List ℕ → Option N) (num : N → List ℕ) (front : Bool) where
  -- The line is UTF-8 and begins with a geometry, whose canonical text is the answer; nothing but white space follows it, or, where the front alone counts, whatever.
  pub record IsWholeAnswer (line answer : List ℕ) : Type 0 where
    pub utf8 : IsUtf8 line
    pub end : ℕ
    pub is : IsCanonicalTo read num line answer end
    pub whole : EndsAll front line end

  -- That answer was written behind what was there, with a line feed.
  pub record AnswersWhole (rest old new : List ℕ) : Type 0 where
    pub answer : List ℕ
    pub is : IsWholeAnswer (before_feed rest) answer
    pub utf8 : IsUtf8 answer
    pub written : new ≡ old ++ (answer ++ 10 ∷ [])
