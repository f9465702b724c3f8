-- Sinks that borrow what takes their text: over a string, which says what the string holds, after a failure too, over a
-- writer, and over a formatter.
use Rattle.std.proofs.Common.{sym, ap, subst, ◌∙◌, append_assoc}
use Rattle.std.specs.Prelude.{◌≡◌, ℕ, List, [], ◌∷◌, ◌++◌, refl, String, string_bytes}
use Rattle.std.specs.Borrow.{MutBor}
use Rattle.std.specs.List.{FoldsTo, concat}
use Rattle.std.specs.Fmt.{WritesInCalls, HasWrittenStyled, IsFlush}
use Rattle.std.specs.declared.fmt.Formatter.{Formatter}
use Rattle.std.specs.declared.alloc.Global.{Global}
use Rattle.std.proofs.lemmas.List.{append-nil}
use Rattle.wkt_num.specs.Sink.{Sink, GrewBy, grew_after, grew_longer}
use Rattle.wkt_num.specs.declared.string_text.StringText.{StringText}
use Rattle.wkt_num.specs.declared.counted.CountedText.{CountedText}
use Rattle.wkt_num.specs.declared.formatted.FormatterText.{FormatterText}

-- Sinks that borrow what takes their text, and the sink over a string, which says what the string holds, after a failure too.

-- A sink that borrows what takes its text.

-- What was borrowed took the bytes, and the reference is still the same.
pub record Took {M : Type 0} (took : M → List ℕ → M → Type 0) (s : MutBor M) (bs : List ℕ) (t : MutBor M) : Type 0 where
  pub gave : took s.now bs t.now
  pub same : t.ghost_name ≡ s.ghost_name

-- What was borrowed took a beginning of the bytes before a call that failed, of which nothing is known; the reference is still the same.
pub record BrokeOff {M : Type 0} (took : M → List ℕ → M → Type 0) (s : MutBor M) (bs : List ℕ) (t : MutBor M) : Type 0 where
  pub part : List ℕ
  pub rest : List ℕ
  pub begins : part ++ rest ≡ bs
  pub middle : M
  pub gave : took s.now part middle
  pub same : t.ghost_name ≡ s.ghost_name

module _ {M : Type 0} {took : M → List ℕ → M → Type 0} where
  pub took_none : ((m : M) → took m [] m) → (s : MutBor M) → Took took s [] s
  took_none none s = record { gave = none s.now; same = refl }

  -- nothing was taken
  pub broke_at_once : ((m : M) → took m [] m) → (s t : MutBor M) (bs : List ℕ) → t.ghost_name ≡ s.ghost_name → BrokeOff took s bs t
  broke_at_once none s t bs e = record { part = []; rest = bs; begins = refl; middle = s.now; gave = none s.now; same = e }

  pub broke_longer : (s t : MutBor M) (bs cs : List ℕ) → BrokeOff took s bs t → BrokeOff took s (bs ++ cs) t
  broke_longer s t bs cs h = record {
    part = h.part;
    rest = h.rest ++ cs;
    begins = sym (append_assoc h.part h.rest cs) ∙ ap (λ xs. xs ++ cs) h.begins;
    middle = h.middle;
    gave = h.gave;
    same = h.same;
  }

  module _ (more : (m n o : M) (bs cs : List ℕ) → took m bs n → took n cs o → took m (bs ++ cs) o) where
    pub took_more : (s t u : MutBor M) (bs cs : List ℕ) → Took took s bs t → Took took t cs u → Took took s (bs ++ cs) u
    took_more s t u bs cs h k = record { gave = more s.now t.now u.now bs cs h.gave k.gave; same = k.same ∙ h.same }

    pub broke_after : (s t u : MutBor M) (bs cs : List ℕ) → Took took s bs t → BrokeOff took t cs u → BrokeOff took s (bs ++ cs) u
    broke_after s t u bs cs h k = record {
      part = bs ++ k.part;
      rest = k.rest;
      begins = append_assoc bs k.part k.rest ∙ ap (λ xs. bs ++ xs) k.begins;
      middle = k.middle;
      gave = more s.now t.now k.middle bs k.part h.gave k.gave;
      same = k.same ∙ h.same;
    }

-- A sink of what a loan takes.
abbrev pub borrowed : {S M : Type 0} → (S → MutBor M) → (S → ℕ) → (took : M → List ℕ → M → Type 0) → ((m : M) → took m [] m) → ((m n o : M) (bs cs : List ℕ) → took m bs n → took n cs o → took m (bs ++ cs) o) → Sink S
borrowed loan failures took none more = record {
  gives = λ s bs t. Took took (loan s) bs (loan t);
  leaves = λ s bs t. BrokeOff took (loan s) bs (loan t);
  failures = failures;
  none = λ s. took_none none (loan s);
  more = λ s t u. took_more more (loan s) (loan t) (loan u);
  after = λ s t u. broke_after more (loan s) (loan t) (loan u);
  longer = λ s t. broke_longer (loan s) (loan t);
}

concat_append : (xs ys : List (List ℕ)) → concat (xs ++ ys) ≡ concat xs ++ concat ys
concat_append [] ys = refl
concat_append (x ∷ xs) ys = ap (λ zs. x ++ zs) (concat_append xs ys) ∙ sym (append_assoc x (concat xs) (concat ys))

module _ {W : Type 0} (gives : W → List ℕ → W → Type 0) where
  folds_append : (xs ys : List (List ℕ)) (s t u : W) → FoldsTo gives s xs t → FoldsTo gives t ys u → FoldsTo gives s (xs ++ ys) u
  folds_append [] ys s t u h k = subst (λ (r : W). FoldsTo gives r ys u) (sym h) k
  folds_append (x ∷ xs) ys s t u h k = (h.0, h.1, folds_append xs ys h.0 t u h.2 k)

  pub calls_none : (s : W) → WritesInCalls gives s [] s
  calls_none s = record { parts = []; calls = refl; whole = refl }

  pub calls_more : (s t u : W) (bs cs : List ℕ) → WritesInCalls gives s bs t → WritesInCalls gives t cs u → WritesInCalls gives s (bs ++ cs) u
  calls_more s t u bs cs h k = record {
    parts = h.parts ++ k.parts;
    calls = folds_append h.parts k.parts s t u h.calls k.calls;
    whole = concat_append h.parts k.parts ∙ ap (λ xs. xs ++ concat k.parts) h.whole ∙ ap (λ xs. bs ++ xs) k.whole;
  }

  -- The formatter wrote the bytes whatever its options, if it indents nothing.
  abbrev pub ShowsThrough : Formatter W → List ℕ → Formatter W → Type 0
  ShowsThrough f bs g = IsFlush f → HasWrittenStyled gives f bs g

  pub shows_none : (f : Formatter W) → ShowsThrough f [] f
  shows_none f = λ flush. record { wrote = calls_none f.writer; spec = refl; flush = flush }

  pub shows_more : (f g h : Formatter W) (bs cs : List ℕ) → ShowsThrough f bs g → ShowsThrough g cs h → ShowsThrough f (bs ++ cs) h
  shows_more f g h bs cs p q = λ flush.
      let one = p flush in
      let two = q one.flush in
      record { wrote = calls_more f.writer g.writer h.writer bs cs one.wrote two.wrote; spec = two.spec ∙ one.spec; flush = two.flush }

-- The sink over a string, which says what the string holds, after a failure too.

-- The string that the sink borrows.
abbrev pub string_of : StringText → MutBor (String Global)
string_of s = s.string

-- How many calls on the sink have failed.
abbrev pub string_failures : StringText → ℕ
string_failures s = s.failures

-- The bytes of the string.
abbrev pub text_of : StringText → List ℕ
text_of s = string_bytes (string_of s).now

-- The text stands after what the string held, and the reference is still the same.
pub record TextGrew (s : StringText) (bs : List ℕ) (t : StringText) : Type 0 where
  pub grown : text_of t ≡ text_of s ++ bs
  pub same : (string_of t).ghost_name ≡ (string_of s).ghost_name

-- A beginning of the text stands after what the string held, and the reference is still the same.
pub record TextBroke (s : StringText) (bs : List ℕ) (t : StringText) : Type 0 where
  pub grew : GrewBy (text_of s) bs (text_of t)
  pub same : (string_of t).ghost_name ≡ (string_of s).ghost_name

abbrev pub string_sink : Sink StringText
string_sink = record {
  gives = TextGrew;
  leaves = TextBroke;
  failures = string_failures;
  none = λ s. record { grown = sym (append-nil (text_of s)); same = refl };
  more = λ s t u bs cs h k. record { grown = k.grown ∙ ap (λ xs. xs ++ cs) h.grown ∙ append_assoc (text_of s) bs cs; same = k.same ∙ h.same };
  after = λ s t u bs cs h k. record { grew = grew_after text_of s t u bs cs h.grown k.grew; same = k.same ∙ h.same };
  longer = λ s t bs cs h. record { grew = grew_longer text_of s t bs cs h.grew; same = h.same };
}

-- The sinks over a writer and over a formatter.

-- The writer that the sink borrows.
abbrev pub writer_of : {W : Type 0} → CountedText W → MutBor W
writer_of s = s.writer

-- How many calls on the sink have failed.
abbrev pub counted_failures : {W : Type 0} → CountedText W → ℕ
counted_failures s = s.failures

-- What the calls hand the writer.
abbrev pub counted_sink : {W : Type 0} → (W → List ℕ → W → Type 0) → Sink (CountedText W)
counted_sink gives = borrowed writer_of counted_failures (WritesInCalls gives) (calls_none gives) (calls_more gives)

-- The formatter that the sink borrows.
abbrev pub formatter_of : {W : Type 0} → FormatterText W → MutBor (Formatter W)
formatter_of s = s.formatter

-- How many calls on the sink have failed.
abbrev pub formatted_failures : {W : Type 0} → FormatterText W → ℕ
formatted_failures s = s.failures

-- What the calls show through the formatter.
abbrev pub formatted_sink : {W : Type 0} → (W → List ℕ → W → Type 0) → Sink (FormatterText W)
formatted_sink gives = borrowed formatter_of formatted_failures (ShowsThrough gives) (shows_none gives) (shows_more gives)
