-- Sinks and sources of bytes: what they hold, how they count failures, what went out, and the errors of a source that is
-- read.
use Rattle.std.proofs.Common.{◌∙◌}
use Rattle.std.specs.Prelude.{◌≡◌, ℕ, ◌<◌, zero, suc, List, [], ◌∷◌, ◌++◌, length, take, Option, Result, Ok, Err, OnOk, OnErr, refl}
use Rattle.std.specs.Borrow.{MutBor}
use Rattle.std.specs.Io.KnownBytes.{Appends}
use Rattle.wkt_num.specs.Sink.{next_count}
use Rattle.wkt_bytes.specs.declared.sinks.Counted.{Counted}
use Rattle.wkt_bytes.specs.declared.read.ReadAllError.{ReadAllError}
use Rattle.wkt_bytes.specs.declared.read.ReadAllError.TheVariants.{Read, Memory}

-- Sinks of bytes: what they hold, how they count failures, and what went out.

-- What is known of a sink of bytes.
pub record SinkOfBytes (D : Type 0) : Type 1 where
  -- What it was given and holds, where that is known. A call that fails leaves it as it is.
  pub bytes : D → Option (List ℕ)
  -- How many calls have failed, modulo 2 ^ 64: those that returned an error, or took nothing of something.
  pub failures : D → ℕ
  -- That a reference stays the same reference.
  pub keeps : D → D → Type 0
  pub keeps_none : (d : D) → keeps d d
  pub keeps_more : (d e f : D) → keeps d e → keeps e f → keeps d f

-- A sink that is no reference.
abbrev pub owned : {D : Type 0} → (D → Option (List ℕ)) → (D → ℕ) → SinkOfBytes D
owned bytes failures = record {
  bytes = bytes;
  failures = failures;
  keeps = λ _ _. Unit {0};
  keeps_none = λ _. tt;
  keeps_more = λ _ _ _ _ _. tt;
}

-- A sink that is reached by a reference.
abbrev pub borrowed_sink : {D : Type 0} → SinkOfBytes D → SinkOfBytes (MutBor D)
borrowed_sink sink = record {
  bytes = λ d. sink.bytes d.now;
  failures = λ d. sink.failures d.now;
  keeps = λ d e. e.ghost_name ≡ d.ghost_name;
  keeps_none = λ d. refl;
  keeps_more = λ d e f h k. k ∙ h;
}

-- An error is a failure, and so is taking nothing of something.
abbrev pub count_after_put : {E : Type 0} → ℕ → Result ℕ E → List ℕ → ℕ
count_after_put n (Err e) bs = next_count n
count_after_put n (Ok zero) [] = n
count_after_put n (Ok zero) (b ∷ bs) = next_count n
count_after_put n (Ok (suc k)) bs = n

-- An error is a failure of a source.
abbrev pub count_after_take : {E : Type 0} → ℕ → Result ℕ E → ℕ
count_after_take n (Err e) = next_count n
count_after_take n (Ok k) = n

-- A beginning of bs went out.
pub record BeginningOut (old new : Option (List ℕ)) (bs : List ℕ) : Type 0 where
  pub out : List ℕ
  pub lost : List ℕ
  pub went : Appends old new out
  pub whole : bs ≡ out ++ lost

module _ {D : Type 0} (sink : SinkOfBytes D) where
  -- These bytes went out, and nothing else.
  abbrev pub IsOut : D → D → List ℕ → Type 0
  IsOut old new bs = Appends (sink.bytes old) (sink.bytes new) bs

  -- A beginning of these bytes went out, and nothing else.
  abbrev pub IsPartOut : D → D → List ℕ → Type 0
  IsPartOut old new bs = BeginningOut (sink.bytes old) (sink.bytes new) bs

  -- All of these bytes went out, or an error came when a beginning of them was out.
  pub record PutsAll {A E : Type 0} (bs : List ℕ) (old new : D) (result : Result A E) : Type 0 where
    pub ok : OnOk result (IsOut old new bs)
    pub kept : OnOk result (sink.failures new ≡ sink.failures old)
    pub err : OnErr result ((k : ℕ) × IsOut old new (take k bs))
    pub some : OnErr result (0 < length bs)
    pub failed : OnErr result (sink.failures new ≡ next_count (sink.failures old))
    pub keeps : sink.keeps old new

-- A writer or reader with a count of its failures.

-- The writer or reader.
abbrev pub inner_of : {D : Type 0} → Counted D → D
inner_of c = c.inner

-- How many of its failures were counted.
abbrev pub counted : {D : Type 0} → Counted D → ℕ
counted c = c.count

-- Facts for the errors of a source that is read.

-- The fact is claimed where the source failed.
abbrev pub OnRead : {A : Type 0} → Result A ReadAllError → Type 0 → Type 0
OnRead (Ok x) P = Unit {0}
OnRead (Err (Read e)) P = P
OnRead (Err (Memory e)) P = Unit {0}

-- The fact is claimed unless the source failed.
abbrev pub UnlessRead : {A : Type 0} → Result A ReadAllError → Type 0 → Type 0
UnlessRead (Ok x) P = P
UnlessRead (Err (Read e)) P = Unit {0}
UnlessRead (Err (Memory e)) P = P
