-- What a gathering sink holds, and what its calls do. `GatheredText`'s sink names the lemmas here, so they can't stand in proofs.
use Rattle.std.specs.Prelude.{◌≡◌, ℕ, List, [], ◌++◌, take, refl}
use Rattle.std.proofs.Common.{append_assoc, subst, sym}
use Rattle.std.proofs.lemmas.List.{append-nil}
use Rattle.wkt_num.specs.Sink.{Sink}
use Rattle.wkt_bytes.specs.declared.gathered.GatheredText.{GatheredText}

-- The sink that the text goes to.
abbrev pub gathered_sink : {S : Type 0} → GatheredText S → S
gathered_sink s = s.sink

-- What is held still.
abbrev pub gathered_text : {S : Type 0} → GatheredText S → List ℕ
gathered_text s = take s.len s.held

module _ {S : Type 0} (sink : Sink S) where
  -- What s held, and then what it was given, is what the sink was given, and then what t holds.
  pub record HoldsPiece (s : GatheredText S) (bs : List ℕ) (t : GatheredText S) : Type 0 where
    pub out : List ℕ
    pub went : sink.gives s.sink out t.sink
    pub whole : gathered_text s ++ bs ≡ out ++ gathered_text t

  -- The sink broke off, when a beginning of what s held and was given had gone out.
  abbrev pub HoldsNoMore : GatheredText S → List ℕ → GatheredText S → Type 0
  HoldsNoMore s bs t = sink.leaves s.sink (gathered_text s ++ bs) t.sink

  pub holds_none : (s : GatheredText S) → HoldsPiece s [] s
  holds_none s = record { out = []; went = sink.none s.sink; whole = append-nil (gathered_text s) }

  -- two steps, one after the other
  holds_both : (held bs cs out held' : List ℕ) → held ++ bs ≡ out ++ held' → held ++ (bs ++ cs) ≡ out ++ (held' ++ cs)
  holds_both held bs cs out held' h = rw (← append_assoc, h, append_assoc) refl

  pub holds_more : (s t u : GatheredText S) (bs cs : List ℕ) → HoldsPiece s bs t → HoldsPiece t cs u → HoldsPiece s (bs ++ cs) u
  holds_more s t u bs cs h k = record {
    out = h.out ++ k.out;
    went = sink.more s.sink t.sink u.sink h.out k.out h.went k.went;
    whole = rw (holds_both (gathered_text s) bs cs h.out (gathered_text t) h.whole, k.whole, append_assoc) refl;
  }

  pub holds_after : (s t u : GatheredText S) (bs cs : List ℕ) → HoldsPiece s bs t → HoldsNoMore t cs u → HoldsNoMore s (bs ++ cs) u
  holds_after s t u bs cs h k =
      subst (λ xs. sink.leaves s.sink xs u.sink) (sym (holds_both (gathered_text s) bs cs h.out (gathered_text t) h.whole))
      (sink.after s.sink t.sink u.sink h.out (gathered_text t ++ cs) h.went k)

  pub holds_longer : (s t : GatheredText S) (bs cs : List ℕ) → HoldsNoMore s bs t → HoldsNoMore s (bs ++ cs) t
  holds_longer s t bs cs h =
      subst (λ xs. sink.leaves s.sink xs t.sink) (append_assoc (gathered_text s) bs cs)
      (sink.longer s.sink t.sink (gathered_text s ++ bs) cs h)

-- What the calls give the sink, through the array.
abbrev pub holding : {S : Type 0} → Sink S → Sink (GatheredText S)
holding sink = record {
  gives = HoldsPiece sink;
  leaves = HoldsNoMore sink;
  failures = λ s. sink.failures s.sink;
  none = holds_none sink;
  more = holds_more sink;
  after = holds_after sink;
  longer = holds_longer sink;
}
