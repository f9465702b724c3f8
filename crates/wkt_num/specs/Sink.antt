-- What calls on a sink of text do.
use Rattle.std.specs.Prelude.{◌≡◌, ℕ, ◌+◌, ◌%◌, ◌^◌, List, [], ◌++◌, Result, Ok, Err}
use Rattle.std.proofs.Common.{sym, ap, ◌∙◌, append_assoc}
use Rattle.std.proofs.lemmas.List.{append-nil}

-- One failure more, as a counter of 64 bits shows it.
abbrev pub next_count : ℕ → ℕ
next_count n = (n + 1) % 2 ^ 64

-- What is known of a sink.
pub record Sink (S : Type 0) : Type 1 where
  -- The sink before, the text that calls gave it, and the sink after.
  pub gives : S → List ℕ → S → Type 0
  -- The sink before, the text of which a beginning was given until a call failed, and the sink after.
  pub leaves : S → List ℕ → S → Type 0
  -- How many calls have failed, modulo 2 ^ 64.
  pub failures : S → ℕ
  -- No call gives nothing.
  pub none : (s : S) → gives s [] s
  -- One text, and then another.
  pub more : (s t u : S) (bs cs : List ℕ) → gives s bs t → gives t cs u → gives s (bs ++ cs) u
  -- The second of two texts broke off.
  pub after : (s t u : S) (bs cs : List ℕ) → gives s bs t → leaves t cs u → leaves s (bs ++ cs) u
  -- The first of two texts broke off.
  pub longer : (s t : S) (bs cs : List ℕ) → leaves s bs t → leaves s (bs ++ cs) t

-- Calls that succeeded took the sink from s to t, and together gave it bs.
pub record Adds {S : Type 0} (sink : Sink S) (s : S) (bs : List ℕ) (t : S) : Type 0 where
  pub given : sink.gives s bs t
  pub unfailed : sink.failures t ≡ sink.failures s

-- One call failed, when a beginning of bs was given.
pub record Breaks {S : Type 0} (sink : Sink S) (s : S) (bs : List ℕ) (t : S) : Type 0 where
  pub left : sink.leaves s bs t
  pub failed : sink.failures t ≡ next_count (sink.failures s)

-- What a call leaves that is to give bs to the sink.
abbrev pub Puts : {S T E : Type 0} → Sink S → S → List ℕ → S → Result T E → Type 0
Puts sink s bs t (Ok x) = Adds sink s bs t
Puts sink s bs t (Err e) = Breaks sink s bs t

-- A beginning of bs stands after the text that was there.
pub record GrewBy (old bs new : List ℕ) : Type 0 where
  pub part : List ℕ
  pub rest : List ℕ
  pub begins : part ++ rest ≡ bs
  pub grown : new ≡ old ++ part

module _ {S : Type 0} (text : S → List ℕ) where
  pub grew_after : (s t u : S) (bs cs : List ℕ) → text t ≡ text s ++ bs → GrewBy (text t) cs (text u) → GrewBy (text s) (bs ++ cs) (text u)
  grew_after s t u bs cs h k = record {
    part = bs ++ k.part;
    rest = k.rest;
    begins = append_assoc bs k.part k.rest ∙ ap (λ xs. bs ++ xs) k.begins;
    grown = k.grown ∙ ap (λ xs. xs ++ k.part) h ∙ append_assoc (text s) bs k.part;
  }

  pub grew_longer : (s t : S) (bs cs : List ℕ) → GrewBy (text s) bs (text t) → GrewBy (text s) (bs ++ cs) (text t)
  grew_longer s t bs cs h = record {
    part = h.part;
    rest = h.rest ++ cs;
    begins = sym (append_assoc h.part h.rest cs) ∙ ap (λ xs. xs ++ cs) h.begins;
    grown = h.grown;
  }

  -- A sink that reveals its text.
  abbrev pub revealing : (S → ℕ) → Sink S
  revealing failures = record {
    gives = λ s bs t. text t ≡ text s ++ bs;
    leaves = λ s bs t. GrewBy (text s) bs (text t);
    failures = failures;
    none = λ s. sym (append-nil (text s));
    more = λ s t u bs cs h k. k ∙ ap (λ xs. xs ++ cs) h ∙ append_assoc (text s) bs cs;
    after = grew_after;
    longer = grew_longer;
  }
