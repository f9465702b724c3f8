-- What is out of what was taken from a source, also from one that doesn't reveal its bytes.
use Rattle.std.specs.Prelude.{◌≡◌, ℕ, List, [], ◌++◌, ◌⊎◌, Option, IfSome, Result, OnOk}
use Rattle.std.specs.Io.KnownBytes.{Consumes, IsAtEnd}
use Rattle.wkt_bytes.specs.Sinks.{SinkOfBytes}
use Rattle.wkt_lines.specs.Laws.{IsWholeLines}
use Rattle.wkt_num.specs.Sink.{next_count}
use Rattle.wkt_lines.specs.Replies.{AllReplied, IsAllReplied, IsFirstReplied, IsBeforeReplied, IsPartReplied}
use Rattle.wkt_lines.specs.Output.{OnRunRead, OnRunWrite, OnRunMemory, UnlessRunRead, UnlessRunWrite}
use Rattle.wkt_lines.specs.declared.lines.RunError.{RunError}
use Rattle.wkt_lines.specs.Lines.{HasNoFeed}

-- The source gave all bytes that it had, and this holds of them.
abbrev pub AllTaken : Option (List ℕ) → Option (List ℕ) → (List ℕ → Type 0) → Type 0
AllTaken left rest P = (taken : List ℕ) × Consumes left rest taken × IsAtEnd rest × P taken

-- The source gave some bytes, and this holds of some of their whole lines, or of all of them where the source has ended.
pub record LinesTaken (left rest : Option (List ℕ)) (P : List ℕ → Type 0) : Type 0 where
  pub lines : List ℕ
  pub more : List ℕ
  pub gave : Consumes left rest (lines ++ more)
  pub ends : IsWholeLines lines ⊎ ((more ≡ []) × IsAtEnd rest)
  pub holds : P lines

-- Answers of any kind: `is line answer` says that the line may have this answer.
module _ (is : List ℕ → List ℕ → Type 0) where
  -- The answers to the whole lines of what was taken went out, and nothing else.
  pub record WholeReplied (old new : Option (List ℕ)) (taken : List ℕ) : Type 0 where
    pub whole : List ℕ
    pub rest : List ℕ
    pub parts : taken ≡ whole ++ rest
    pub ends : IsWholeLines whole
    pub none : HasNoFeed rest
    pub out : AllReplied is old new whole

  -- The source gave some bytes, and the answers to their whole lines went out, and nothing else.
  abbrev pub TakenReplied : Option (List ℕ) → Option (List ℕ) → Option (List ℕ) → Option (List ℕ) → Type 0
  TakenReplied left rest old new = (taken : List ℕ) × Consumes left rest taken × WholeReplied old new taken

  -- The source gave some bytes, and the answers to their whole lines went out, by the sink that reveals its bytes.
  abbrev pub IsTakenReplied : {D : Type 0} → SinkOfBytes D → Option (List ℕ) → Option (List ℕ) → D → D → Type 0
  IsTakenReplied sink left rest old new = TakenReplied left rest (sink.bytes old) (sink.bytes new)

  -- A run over a source whose bytes are `left`, and whose failed calls are counted by `failures`.
  module _ {R D : Type 0} (left : R → Option (List ℕ)) (failures : R → ℕ) (sink : SinkOfBytes D) where
    -- The answers to all lines are out, or an error says which are: `Unread` where no more could be read, and `Taken` says of
    -- what was read where the run broke off at a line of it.
    pub record RunLeaves {A : Type 0} (Unread : Type 0) (Taken : (List ℕ → Type 0) → Type 0) (reader : R) (writer : D) (result : Result A RunError) (reader' : R) (writer' : D) : Type 0 where
      pub ok : OnOk result (IfSome (left reader) (IsAllReplied is sink writer writer'))
      pub ok_taken : OnOk result (AllTaken (left reader) (left reader') (IsAllReplied is sink writer writer'))
      pub end : OnOk result (IsAtEnd (left reader'))
      pub read : OnRunRead result Unread
      pub read_count : OnRunRead result (failures reader' ≡ next_count (failures reader))
      pub source_count : UnlessRunRead result (failures reader' ≡ failures reader)
      pub write : OnRunWrite result (IfSome (left reader) (IsPartReplied is sink writer writer'))
      pub write_taken : OnRunWrite result (Taken (IsPartReplied is sink writer writer'))
      pub write_count : OnRunWrite result (sink.failures writer' ≡ next_count (sink.failures writer))
      pub sink_count : UnlessRunWrite result (sink.failures writer' ≡ sink.failures writer)
      pub memory : OnRunMemory result (IfSome (left reader) (IsFirstReplied is sink writer writer'))
      pub memory_taken : OnRunMemory result (Unread ⊎ Taken (IsBeforeReplied is sink writer writer'))

    -- All of the source is read first: nothing is written before its end.
    abbrev pub Runs : {A : Type 0} → R → D → Result A RunError → R → D → Type 0
    Runs reader writer result reader' writer' =
        RunLeaves (writer' ≡ writer) (AllTaken (left reader) (left reader')) reader writer result reader' writer'

    -- The source is read block by block: the answers to the whole lines so far are out before it is asked again.
    abbrev pub Streams : {A : Type 0} → R → D → Result A RunError → R → D → Type 0
    Streams reader writer result reader' writer' =
        RunLeaves (IsTakenReplied sink (left reader) (left reader') writer writer') (LinesTaken (left reader) (left reader')) reader writer result reader' writer'
