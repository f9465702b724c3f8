-- What each sink of text that comes with the library holds after calls on it: how the words of `Sink` are to be read.
use Rattle.std.specs.Prelude.{◌≡◌, ℕ, List, ◌++◌, Some}
use Rattle.std.specs.Fmt.{HasWrittenStyled, IsFlush}
use Rattle.wkt_num.specs.Sink.{Sink, GrewBy, revealing}
use Rattle.wkt_num.specs.Borrowed.{string_sink, text_of, writer_of, counted_sink, formatter_of, formatted_sink}
use Rattle.wkt_num.specs.declared.counted.CountedText.{CountedText}
use Rattle.wkt_num.specs.declared.formatted.FormatterText.{FormatterText}
use Rattle.wkt_bytes.specs.Sinks.{SinkOfBytes}
use Rattle.wkt_bytes.specs.Wrapper.{Wrapped, wrapped_writer, held_bytes, wrapped_sink}
use Rattle.wkt_bytes.specs.Gathered.{gathered_sink, gathered_text, holding}
use Rattle.wkt_bytes.specs.declared.gathered.GatheredText.{GatheredText}

-- After calls that gave the sink bs its text has grown by exactly bs. After a call that failed it has grown by a beginning of bs.
pub record Grows {S : Type 0} (sink : Sink S) (text : S → List ℕ) : Type 0 where
  pub ok : (s t : S) (bs : List ℕ) → sink.gives s bs t → text t ≡ text s ++ bs
  pub err : (s t : S) (bs : List ℕ) → sink.leaves s bs t → GrewBy (text s) bs (text t)

-- The text of a `StringText` is what its string holds.
abbrev pub StringGrows : Type 0
StringGrows = Grows string_sink text_of

-- So it is of each sink that reveals its text.
abbrev pub RevealingGrows : Type 0 → Type 0
RevealingGrows S = (text : S → List ℕ) (failures : S → ℕ) → Grows (revealing text failures) text

-- What the sink below has, and then what is held still.
abbrev pub gathered_whole : {S : Type 0} → (S → List ℕ) → GatheredText S → List ℕ
gathered_whole text s = text (gathered_sink s) ++ gathered_text s

-- A `GatheredText` over a sink whose text is known. After a failure the sink below has a beginning of what was held and given.
pub record GatheredGrows {S : Type 0} (sink : Sink S) (text : S → List ℕ) : Type 0 where
  pub ok : (s t : GatheredText S) (bs : List ℕ) → (holding sink).gives s bs t → gathered_whole text t ≡ gathered_whole text s ++ bs
  pub err : (s t : GatheredText S) (bs : List ℕ) → (holding sink).leaves s bs t
      → GrewBy (text (gathered_sink s)) (gathered_text s ++ bs) (text (gathered_sink t))

-- A `WriterWrapper` over a writer that reveals its bytes: these were out before the calls, and those are after them.
pub record WrapperGrows {W : Type 0} (sink : SinkOfBytes W) : Type 0 where
  pub ok : (s t : Wrapped W) (bs old : List ℕ) → (wrapped_sink sink).gives s bs t → sink.bytes (wrapped_writer s) ≡ Some old
      → (new : List ℕ) × (sink.bytes (wrapped_writer t) ≡ Some new) × (new ++ held_bytes t ≡ (old ++ held_bytes s) ++ bs)
  pub err : (s t : Wrapped W) (bs old : List ℕ) → (wrapped_sink sink).leaves s bs t → sink.bytes (wrapped_writer s) ≡ Some old
      → (new : List ℕ) × (sink.bytes (wrapped_writer t) ≡ Some new) × GrewBy old (held_bytes s ++ bs) new

-- The writer's text is known: a call of its `write_str` that succeeds adds the piece.
abbrev pub AddsPieces : {W : Type 0} → (W → List ℕ → W → Type 0) → (W → List ℕ) → Type 0
AddsPieces {W} gives text = (v w : W) (piece : List ℕ) → gives v piece w → text w ≡ text v ++ piece

-- A `CountedText` over such a writer. After a failure it had been given a beginning, and what the call that failed did isn't known.
pub record CountedGrows {W : Type 0} (gives : W → List ℕ → W → Type 0) (text : W → List ℕ) : Type 0 where
  pub ok : (s t : CountedText W) (bs : List ℕ) → (counted_sink gives).gives s bs t → text (writer_of t).now ≡ text (writer_of s).now ++ bs
  pub err : (s t : CountedText W) (bs : List ℕ) → (counted_sink gives).leaves s bs t
      → (before : W) × GrewBy (text (writer_of s).now) bs (text before)

-- A `FormatterText` that indents nothing: exactly the text was written, whatever the formatter's options.
abbrev pub FormatterWrites : {W : Type 0} → (W → List ℕ → W → Type 0) → Type 0
FormatterWrites {W} gives = (s t : FormatterText W) (bs : List ℕ) → (formatted_sink gives).gives s bs t
    → IsFlush (formatter_of s).now → HasWrittenStyled gives (formatter_of s).now bs (formatter_of t).now
