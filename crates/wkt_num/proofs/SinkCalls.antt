-- What calls on a sink do, one after the other, and what a formatter holds after them. A call that failed with nothing added
-- left a beginning of its text: the empty one.
use Rattle.std.proofs.Common.{ℕ, List, [], ◌++◌, refl, ap, ◌∙◌, Result, Ok, Err, IsOk, ◌≡◌, sym, subst}
use Rattle.std.specs.Result.{IsErrAnd}
use Rattle.std.specs.Borrow.{MutBor}
use Rattle.std.specs.Fmt.{HasWritten, HasWrittenStyled, IsPlainFormatter, IsDefaultSpec, IsFlush}
use Rattle.std.specs.declared.fmt.Formatter.{Formatter}
use Rattle.std.proofs.lemmas.List.{append-nil}
use Rattle.wkt_num.specs.Sink.{Sink, Adds, Breaks, Puts, next_count, GrewBy}
use Rattle.wkt_num.specs.Borrowed.{Took, ShowsThrough}

-- What calls on a sink do, one after the other, and what a formatter holds after them.

-- Calls on a sink, one after the other.

module _ {S : Type 0} {sink : Sink S} where
  -- nothing was done
  pub adds_none : (s : S) → Adds sink s [] s
  adds_none s = record { given = sink.none s; unfailed = refl }

  -- one text, and then another
  pub adds_then : {s t u : S} {a b : List ℕ} → Adds sink s a t → Adds sink t b u → Adds sink s (a ++ b) u
  adds_then h k = record { given = sink.more _ _ _ _ _ h.given k.given; unfailed = k.unfailed ∙ h.unfailed }

  -- the second of two texts broke off
  pub breaks_then : {s t u : S} {a b : List ℕ} → Adds sink s a t → Breaks sink t b u → Breaks sink s (a ++ b) u
  breaks_then h k = record { left = sink.after _ _ _ _ _ h.given k.left; failed = k.failed ∙ ap next_count h.unfailed }

  -- the first of two texts broke off
  pub breaks_first : {s t : S} {a : List ℕ} (b : List ℕ) → Breaks sink s a t → Breaks sink s (a ++ b) t
  breaks_first b h = record { left = sink.longer _ _ _ b h.left; failed = h.failed }

  -- a call ends at the error of another
  pub puts_err : {T E : Type 0} {s t : S} {bs : List ℕ} (Q : E → Type 0) (r : Result T E) → IsErrAnd r Q → Breaks sink s bs t → Puts sink s bs t r
  puts_err Q (Ok x) h p = absurd h
  puts_err Q (Err e) h p = p

  -- one text, and then a call that is to add another and whose answer is returned
  pub puts_then : {T E : Type 0} {s t : S} {a : List ℕ} (r : Result T E) (u : S) (b : List ℕ) → Adds sink s a t → Puts sink t b u r → Puts sink s (a ++ b) u r
  puts_then (Ok x) u b p q = adds_then p q
  puts_then (Err e) u b p q = breaks_then p q

  -- what was added, where the answer is Ok
  pub when_ok : {T E : Type 0} {s t : S} {bs : List ℕ} (r : Result T E) → IsOk r → Puts sink s bs t r → Adds sink s bs t
  when_ok (Ok x) k h = h
  when_ok (Err e) k h = cc

-- What a formatter holds after calls through a sink that borrows it.

module _ {W : Type 0} (gives : W → List ℕ → W → Type 0) where
  pub displayed_styled : (s t b e : MutBor (Formatter W)) (v : Formatter W) (bs : List ℕ) → s ≡ b → e ≡ t → (e.ghost_name ≡ b.ghost_name → v ≡ e.now)
      → Took (ShowsThrough gives) s bs t → IsFlush b.now → HasWrittenStyled gives b.now bs v
  displayed_styled s t b e v bs at to back k p =
      let here : v ≡ t.now = back (ap (λ x. x.ghost_name) to ∙ k.same ∙ ap (λ x. x.ghost_name) at) ∙ ap (λ x. x.now) to in
      let done = subst (λ x. ShowsThrough gives x.now bs t.now) at k.gave p in
      subst (HasWrittenStyled gives b.now bs) (sym here) done

  -- the same on a formatter that is plain
  pub displayed_plain : (f : Formatter W) (bs : List ℕ) (g : Formatter W) → IsPlainFormatter f → HasWrittenStyled gives f bs g → HasWritten gives f bs g
  displayed_plain f bs g p h = record { wrote = h.wrote; plain = record { bare = subst IsDefaultSpec (sym h.spec) p.bare; flush = h.flush } }

-- A call that failed with nothing added left a beginning of its text: the empty one.

pub none_grew : (old bs new : List ℕ) → new ≡ old → GrewBy old bs new
none_grew old bs new e = record { part = []; rest = bs; begins = refl; grown = e ∙ sym (append-nil old) }
