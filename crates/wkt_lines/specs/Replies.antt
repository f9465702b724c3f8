-- Answers of any kind to the lines of an input: `is line answer` says that the line may have this answer.
use Rattle.std.specs.Prelude.{◌≡◌, ℕ, List, [], ◌∷◌, ◌++◌, Option}
use Rattle.std.specs.Io.KnownBytes.{Appends}
use Rattle.wkt_bytes.specs.Sinks.{SinkOfBytes}
use Rattle.wkt_lines.specs.Lines.{input_lines}

module _ (is : List ℕ → List ℕ → Type 0) where
  -- Each line's answer, followed by a line feed.
  abbrev pub AreReplies : List (List ℕ) → List ℕ → Type 0
  AreReplies [] out = out ≡ []
  AreReplies (line ∷ lines) out =
      (answer : List ℕ) × (rest : List ℕ) × (out ≡ (answer ++ 10 ∷ []) ++ rest) × is line answer × AreReplies lines rest

  -- The answers to all lines of the input went out.
  abbrev pub AllReplied : Option (List ℕ) → Option (List ℕ) → List ℕ → Type 0
  AllReplied old new input = (out : List ℕ) × AreReplies (input_lines input) out × Appends old new out

  -- The whole answers to some first lines went out, and nothing else.
  pub record FirstReplied (old new : Option (List ℕ)) (input : List ℕ) : Type 0 where
    pub first : List (List ℕ)
    pub others : List (List ℕ)
    pub lines : first ++ others ≡ input_lines input
    pub out : List ℕ
    pub answers : AreReplies first out
    pub went : Appends old new out

  -- The answers to the lines before one of these.
  pub record RepliesBefore (lines : List (List ℕ)) : Type 0 where
    pub first : List (List ℕ)
    pub line : List ℕ
    pub others : List (List ℕ)
    pub split : first ++ (line ∷ others) ≡ lines
    pub out : List ℕ
    pub answers : AreReplies first out

  -- The whole answers to some first lines, and then a beginning of the next line's.
  pub record ArePartReplies (lines : List (List ℕ)) (out : List ℕ) : Type 0 where
    pub before : RepliesBefore lines
    pub answer : List ℕ
    pub is_answer : is before.line answer
    pub part : List ℕ
    pub lost : List ℕ
    pub whole : answer ++ 10 ∷ [] ≡ part ++ lost
    pub ends : out ≡ before.out ++ part

  -- The whole answers to the lines before one went out, and nothing else: there was no memory for this one.
  abbrev pub BeforeReplied : Option (List ℕ) → Option (List ℕ) → List ℕ → Type 0
  BeforeReplied old new input = (before : RepliesBefore (input_lines input)) × Appends old new before.out

  -- The whole answers to some first lines went out, and then a beginning of the next line's.
  abbrev pub PartReplied : Option (List ℕ) → Option (List ℕ) → List ℕ → Type 0
  PartReplied old new input = (out : List ℕ) × ArePartReplies (input_lines input) out × Appends old new out

  module _ {D : Type 0} (sink : SinkOfBytes D) where
    -- The answers to all lines went out, by the sink that reveals its bytes.
    abbrev pub IsAllReplied : D → D → List ℕ → Type 0
    IsAllReplied old new = AllReplied (sink.bytes old) (sink.bytes new)

    -- The whole answers to some first lines went out, by the sink that reveals its bytes.
    abbrev pub IsFirstReplied : D → D → List ℕ → Type 0
    IsFirstReplied old new = FirstReplied (sink.bytes old) (sink.bytes new)

    -- The whole answers to the lines before one went out, by the sink that reveals its bytes.
    abbrev pub IsBeforeReplied : D → D → List ℕ → Type 0
    IsBeforeReplied old new = BeforeReplied (sink.bytes old) (sink.bytes new)

    -- Some first answers and a beginning of the next went out, by the sink that reveals its bytes.
    abbrev pub IsPartReplied : D → D → List ℕ → Type 0
    IsPartReplied old new = PartReplied (sink.bytes old) (sink.bytes new)
