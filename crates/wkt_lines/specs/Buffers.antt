-- Buffers of input and output. Only private contracts cite these words.
use Rattle.std.specs.Prelude.{ℕ, ◌<◌, List, take, vec_len, ◌≡◌, ◌+◌, ◌*◌, ◌≤◌, [], ◌∷◌, ◌++◌, Option, length, drop, Result, Ok, Err, OnOk}
use Rattle.std.specs.Io.KnownBytes.{Appends}
use Rattle.wkt_lines.specs.declared.input_buffer.InputBuffer.{InputBuffer}
use Rattle.wkt_num.specs.Sink.{next_count}
use Rattle.wkt_bytes.specs.Sinks.{SinkOfBytes}
use Rattle.wkt_events.specs.Remaining.{before_feed}
use Rattle.wkt_lines.specs.Output.{IsAnswer, OnRunRead, OnRunWrite, OnRunMemory, UnlessRunWrite}
use Rattle.wkt_lines.specs.Lines.{after_feed}
use Rattle.wkt_lines.specs.Replies.{IsAllReplied, IsBeforeReplied, IsPartReplied}
use Rattle.wkt_lines.specs.declared.output_buffer.OutputBuffer.{OutputBuffer}
use Rattle.wkt_lines.specs.declared.lines.RunError.{RunError}
use Rattle.wkt_lines.specs.declared.lines.RunError.TheVariants as run

-- A block. Only private contracts cite these words.

-- What was read and not answered yet.
abbrev pub unanswered : InputBuffer → List ℕ
unanswered b = take b.len b.bytes.items

-- There is room for one byte more.
abbrev pub has_room : InputBuffer → Type 0
has_room b = b.len < vec_len b.bytes

-- An output buffer. Only private contracts cite these words.

-- What is written.
abbrev pub output_text : OutputBuffer → List ℕ
output_text p = take p.len p.bytes.items

-- There is room for the answer to a text of so many bytes.
abbrev pub HasRoomFor : OutputBuffer → ℕ → Type 0
HasRoomFor p n = p.len + 2 * n + 65 ≤ vec_len p.bytes

-- Numbers are read by `read` and printed by `num`.
module _ {N : Type 0} (read : List ℕ → Option N) (num : N → List ℕ) where
  -- The answer to the first line was added, and a line feed.
  abbrev pub AddsAnswer : List ℕ → List ℕ → List ℕ → Type 0
  AddsAnswer rest old new = (answer : List ℕ) × IsAnswer read num (before_feed rest) answer × (new ≡ old ++ (answer ++ 10 ∷ []))

  -- So was it, and so much is taken with the line feed.
  pub record AnswersOne (rest old new : List ℕ) (taken : ℕ) : Type 0 where
    pub adds : AddsAnswer rest old new
    pub left : drop taken rest ≡ after_feed rest
    pub some : 0 < taken
    pub within : taken ≤ length rest + 1

  -- That, or nothing was added.
  abbrev pub AnswersNext : {E : Type 0} → List ℕ → List ℕ → List ℕ → Result ℕ E → Type 0
  AnswersNext rest old new (Ok taken) = AnswersOne rest old new taken
  AnswersNext rest old new (Err e) = new ≡ old

module _ {D : Type 0} (sink : SinkOfBytes D) where
  -- Of an output buffer some went out from the front, and the rest still stands in it.
  pub record Drained (text left : List ℕ) (old new : D) : Type 0 where
    pub out : List ℕ
    pub split : text ≡ out ++ left
    pub went : Appends (sink.bytes old) (sink.bytes new) out
    pub count : sink.failures new ≡ sink.failures old

  -- The sink failed when a beginning of an output buffer had gone out.
  pub record Stopped (text : List ℕ) (old new : D) : Type 0 where
    pub k : ℕ
    pub went : Appends (sink.bytes old) (sink.bytes new) (take k text)
    pub some : 0 < length text
    pub count : sink.failures new ≡ next_count (sink.failures old)

  -- An output buffer was put out, but for what still stands in it; or the sink failed; or memory ran out when all was out.
  abbrev pub PutsOut : Result (Unit {0}) RunError → List ℕ → List ℕ → D → D → Type 0
  PutsOut (Ok u) text left old new = Drained text left old new
  PutsOut (Err (run.Read e)) text left old new = ⊥
  PutsOut (Err (run.Write e)) text left old new = Stopped text old new
  PutsOut (Err (run.Memory e)) text left old new = Drained text [] old new

  -- The answers to all lines of an input went out, or an error says which did.
  pub record AnswersAll (is : List ℕ → List ℕ → Type 0) (old : D) (input : List ℕ) (result : Result (Unit {0}) RunError) (new : D) : Type 0 where
    pub ok : OnOk result (IsAllReplied is sink old new input)
    pub count : UnlessRunWrite result (sink.failures new ≡ sink.failures old)
    pub write : OnRunWrite result (IsPartReplied is sink old new input)
    pub write_count : OnRunWrite result (sink.failures new ≡ next_count (sink.failures old))
    pub memory : OnRunMemory result (IsBeforeReplied is sink old new input)
    pub read : OnRunRead result ⊥
