-- What a contract sees of a wrapper: what it holds, and what its calls do. `WriterWrapper`'s sink names the lemmas here, so
-- they can't stand in proofs.
use Rattle.std.proofs.Common.{◌∙◌, ap, append_assoc}
use Rattle.std.specs.Prelude.{ℕ, List, Option, Bool, ◌≡◌, [], ◌++◌, true, false, is_some, refl}
use Rattle.std.specs.declared.io.Error.{Error}
use Rattle.std.specs.Io.KnownBytes.{Appends}
use Rattle.std.proofs.KnownBytes.{Appends-nil, Appends-trans}
use Rattle.std.proofs.lemmas.List.{append-nil}
use Rattle.wkt_num.specs.Sink.{next_count, Sink}
use Rattle.wkt_bytes.specs.Sinks.{SinkOfBytes}

-- What a contract sees of a wrapper.

-- A wrapper: where its bytes go, and what its calls left.
pub record Wrapped (W : Type 0) : Type 0 where
  -- The writer.
  pub writer : W
  -- What the wrapper was given and has not written yet.
  pub held : List ℕ
  -- Whether no error came.
  pub well : Bool
  -- The error that came, if it was not taken yet.
  pub error : Option Error
  -- How many calls have failed, modulo 2 ^ 64.
  pub failures : ℕ

-- What a wrapper holds, and what its calls do. `WriterWrapper`'s sink names the lemmas here, so they can't stand in proofs.

-- The writer.
abbrev pub wrapped_writer : {W : Type 0} → Wrapped W → W
wrapped_writer w = w.writer

-- What the wrapper holds still.
abbrev pub held_bytes : {W : Type 0} → Wrapped W → List ℕ
held_bytes w = w.held

-- How many calls have failed.
abbrev pub failed_calls : {W : Type 0} → Wrapped W → ℕ
failed_calls w = w.failures

-- No error came.
abbrev pub is_well : {W : Type 0} → Wrapped W → Bool
is_well w = w.well

-- The error that came, if it was not taken yet.
abbrev pub untaken_error : {W : Type 0} → Wrapped W → Option Error
untaken_error w = w.error

-- An error came, and was not taken yet.
abbrev pub is_untaken : {W : Type 0} → Wrapped W → Bool
is_untaken w = is_some w.error

-- The error is taken, and nothing else changes.
pub record TakesFault {W : Type 0} (s : Wrapped W) (error : Option Error) (t : Wrapped W) : Type 0 where
  pub gives : error ≡ untaken_error s
  pub taken : is_untaken t ≡ false
  pub well : is_well t ≡ is_well s
  pub writer : wrapped_writer t ≡ wrapped_writer s
  pub held : held_bytes t ≡ held_bytes s
  pub count : failed_calls t ≡ failed_calls s

-- The bytes are held after those that were, and nothing else changes.
pub record Keeps {W : Type 0} (s : Wrapped W) (bs : List ℕ) (t : Wrapped W) : Type 0 where
  pub held : held_bytes t ≡ held_bytes s ++ bs
  pub writer : wrapped_writer t ≡ wrapped_writer s
  pub well : is_well t ≡ is_well s
  pub error : untaken_error t ≡ untaken_error s
  pub count : failed_calls t ≡ failed_calls s

module _ {W : Type 0} (sink : SinkOfBytes W) where
  -- The bytes that s held, and then those given, are the bytes that went out, and then those that t holds.
  pub record Gathers (s : Wrapped W) (handed : List ℕ) (t : Wrapped W) : Type 0 where
    pub out : List ℕ
    pub went : Appends (sink.bytes s.writer) (sink.bytes t.writer) out
    pub whole : held_bytes s ++ handed ≡ out ++ held_bytes t
    pub same : is_well t ≡ is_well s
    pub taken : is_untaken t ≡ is_untaken s
    pub count : sink.failures t.writer ≡ sink.failures s.writer
    pub tied : sink.keeps s.writer t.writer
    pub still : is_well s ≡ false → t.writer ≡ s.writer

  -- The writer has failed, and a beginning of what s held and was given went out.
  pub record BreaksOff (s : Wrapped W) (handed : List ℕ) (t : Wrapped W) : Type 0 where
    pub out : List ℕ
    pub lost : List ℕ
    pub went : Appends (sink.bytes s.writer) (sink.bytes t.writer) out
    pub whole : held_bytes s ++ handed ≡ out ++ lost
    pub failed : is_well t ≡ false
    pub count : is_well s ≡ true → sink.failures t.writer ≡ next_count (sink.failures s.writer)
    pub untaken : is_well s ≡ true → is_untaken t ≡ true
    pub kept : is_well s ≡ false → is_untaken t ≡ is_untaken s
    pub tied : sink.keeps s.writer t.writer
    pub still : is_well s ≡ false → t.writer ≡ s.writer

-- Two steps, one after the other.
wholes : (held handed more out held' out' held'' : List ℕ) →
    held ++ handed ≡ out ++ held' → held' ++ more ≡ out' ++ held'' →
    held ++ (handed ++ more) ≡ (out ++ out') ++ held''
wholes held handed more out held' out' held'' h k = rw (← append_assoc, h, append_assoc, k, ← append_assoc) refl

module _ {W : Type 0} (sink : SinkOfBytes W) where
  pub gives_none : (s : Wrapped W) → Gathers sink s [] s
  gives_none s = record {
    out = [];
    went = Appends-nil (sink.bytes s.writer);
    whole = append-nil (held_bytes s);
    same = refl;
    taken = refl;
    count = refl;
    tied = sink.keeps_none s.writer;
    still = λ _. refl;
  }

  pub gives_more : (s t u : Wrapped W) (bs cs : List ℕ) → Gathers sink s bs t → Gathers sink t cs u → Gathers sink s (bs ++ cs) u
  gives_more s t u bs cs h k = record {
    out = h.out ++ k.out;
    went = Appends-trans (sink.bytes s.writer) (sink.bytes t.writer) (sink.bytes u.writer) h.out k.out h.went k.went;
    whole = wholes (held_bytes s) bs cs h.out (held_bytes t) k.out (held_bytes u) h.whole k.whole;
    same = k.same ∙ h.same;
    taken = k.taken ∙ h.taken;
    count = k.count ∙ h.count;
    tied = sink.keeps_more s.writer t.writer u.writer h.tied k.tied;
    still = λ w. k.still (h.same ∙ w) ∙ h.still w;
  }

  pub leaves_after : (s t u : Wrapped W) (bs cs : List ℕ) → Gathers sink s bs t → BreaksOff sink t cs u → BreaksOff sink s (bs ++ cs) u
  leaves_after s t u bs cs h k = record {
    out = h.out ++ k.out;
    lost = k.lost;
    went = Appends-trans (sink.bytes s.writer) (sink.bytes t.writer) (sink.bytes u.writer) h.out k.out h.went k.went;
    whole = wholes (held_bytes s) bs cs h.out (held_bytes t) k.out k.lost h.whole k.whole;
    failed = k.failed;
    count = λ w. k.count (h.same ∙ w) ∙ ap next_count h.count;
    untaken = λ w. k.untaken (h.same ∙ w);
    kept = λ w. k.kept (h.same ∙ w) ∙ h.taken;
    tied = sink.keeps_more s.writer t.writer u.writer h.tied k.tied;
    still = λ w. k.still (h.same ∙ w) ∙ h.still w;
  }

  pub leaves_longer : (s t : Wrapped W) (bs cs : List ℕ) → BreaksOff sink s bs t → BreaksOff sink s (bs ++ cs) t
  leaves_longer s t bs cs h = record {
    out = h.out;
    lost = h.lost ++ cs;
    went = h.went;
    whole = rw (← append_assoc, h.whole, append_assoc) refl;
    failed = h.failed;
    count = h.count;
    untaken = h.untaken;
    kept = h.kept;
    tied = h.tied;
    still = h.still;
  }

-- What the calls write to the writer, through the array.
abbrev pub wrapped_sink : {W : Type 0} → SinkOfBytes W → Sink (Wrapped W)
wrapped_sink sink = record {
  gives = Gathers sink;
  leaves = BreaksOff sink;
  failures = failed_calls;
  none = gives_none sink;
  more = gives_more sink;
  after = leaves_after sink;
  longer = leaves_longer sink;
}
