-- What a sink's steps make of a text that is known, the steps of a loop that puts bytes out, and what went out through a
-- wrapper or a gathering sink.
use Rattle.std.proofs.Common.{◌≡◌, ℕ, zero, suc, ◌+◌, ◌-◌, List, [], ◌++◌, take, drop, length, refl, ap, sym, ◌∙◌, arith, Ok, Err, Result, OnErr, ◌≢◌, ◌≤◌, ◌∷◌, Option, Some, None, append_assoc, false, is_some, subst, ◌*◌}
use Rattle.std.proofs.Math.Seq.{take-add}
use Rattle.std.proofs.lemmas.List.{length-drop, take_all, append-nil, take-append-drop, take-take}
use Rattle.std.specs.List.{FoldsTo, concat}
use Rattle.std.specs.Io.KnownBytes.{Appends}
use Rattle.std.proofs.KnownBytes.{Appends-nil}
use Rattle.std.proofs.lemmas.Simd.{length-chunk, take_more_put_chunk, length-put_chunk}
use lib.Lanes.{chunk, put_chunk}
use Rattle.wkt_bytes.specs.Sinks.{count_after_put, SinkOfBytes, BeginningOut}
use Rattle.wkt_num.specs.Sink.{Sink, GrewBy, revealing, Adds, Puts, next_count}
use Rattle.wkt_num.specs.Borrowed.{writer_of}
use Rattle.wkt_bytes.specs.Wrapper.{Wrapped, held_bytes, Gathers, BreaksOff, is_well, Keeps, gives_more, leaves_after}
use Rattle.wkt_bytes.specs.Growing.{Grows, StringGrows, GatheredGrows, WrapperGrows, AddsPieces, CountedGrows}
use Rattle.wkt_bytes.specs.Gathered.{gathered_text, holding, HoldsPiece}
use Rattle.wkt_bytes.specs.Views.{state_well}
use Rattle.wkt_bytes.specs.declared.wrapper.WrapperState.{WrapperState}
use Rattle.wkt_bytes.specs.declared.wrapper.WrapperState.TheVariants.{Well, Faulty, Taken}
use Rattle.wkt_bytes.specs.declared.gathered.GatheredText.{GatheredText}

-- What a sink's steps make of a text that is known, and the steps of a loop that puts bytes out.

-- Steps of a loop that puts bytes out.

pub rest_whole : (bs : List ℕ) (at : ℕ) → take (length bs - at) (drop at bs) ≡ drop at bs
rest_whole bs at = take_all (length bs - at) (drop at bs) (omega (arith, length-drop at bs))

pub put_step : (bs : List ℕ) (at n : ℕ) → take (at + n) bs ≡ take at bs ++ take n (take (length bs - at) (drop at bs))
put_step bs at n = rw (rest_whole bs at) (take-add at n bs)

pub count_kept : (E : Type 0) (f n : ℕ) (bs : List ℕ) → n ≢ 0 → count_after_put {E = E} f (Ok n) bs ≡ f
count_kept E f zero bs h = absurd (h refl)
count_kept E f (suc n) bs h = refl

pub any_err : {A E P : Type 0} (r : Result A E) → P → OnErr r P
any_err (Ok x) h = tt
any_err (Err e) h = h

pub take_step : (bs : List ℕ) (at next : ℕ) → at ≤ next → take next bs ≡ take at bs ++ take (next - at) (drop at bs)
take_step bs at next h = let e : at + (next - at) ≡ next = omega arith in ap (λ n. take n bs) (sym e) ∙ take-add at (next - at) bs

-- what was taken, and the rest
pub with_rest : (bs : List ℕ) (at next : ℕ) → at ≤ next → ((take at bs ++ take (next - at) (drop at bs)) ++ []) ++ drop next bs ≡ bs
with_rest bs at next h = rw (append-nil, ← take_step bs at next h) (take-append-drop next bs)

-- What a sink's steps make of a text that is known.

pub string : StringGrows
string = record { ok = λ s t bs h. h.grown; err = λ s t bs h. h.grew }

-- what was held and given, in two parts
regroup : (below held bs out held' : List ℕ) → held ++ bs ≡ out ++ held' → (below ++ out) ++ held' ≡ (below ++ held) ++ bs
regroup below held bs out held' h = append_assoc below out held' ∙ ap (λ xs. below ++ xs) (sym h) ∙ sym (append_assoc below held bs)

pub gathered : {S : Type 0} (sink : Sink S) (text : S → List ℕ) → Grows sink text → GatheredGrows sink text
gathered sink text g = record {
  ok = λ s t bs h. ap (λ xs. xs ++ gathered_text t) (g.ok s.sink t.sink h.out h.went) ∙ regroup (text s.sink) (gathered_text s) bs h.out (gathered_text t) h.whole;
  err = λ s t bs h. g.err s.sink t.sink (gathered_text s ++ bs) h;
}

-- bytes that are known stay known
appended : (a b : Option (List ℕ)) (out old : List ℕ) → Appends a b out → a ≡ Some old → (new : List ℕ) × (b ≡ Some new) × (new ≡ old ++ out)
appended None b out old h e = cc
appended (Some xs) None out old h e = absurd h
appended (Some xs) (Some ys) out old h e = let same : xs ≡ old = cc in (ys, refl, h ∙ ap (λ zs. zs ++ out) same)

module _ {W : Type 0} (sink : SinkOfBytes W) where
  wrapper-ok : (s t : Wrapped W) (bs old : List ℕ) → Gathers sink s bs t → sink.bytes s.writer ≡ Some old → (new : List ℕ) × (sink.bytes t.writer ≡ Some new) × (new ++ held_bytes t ≡ (old ++ held_bytes s) ++ bs)
  wrapper-ok s t bs old h e =
      let (new, is, grown) = appended (sink.bytes s.writer) (sink.bytes t.writer) h.out old h.went e in
      (new, is, ap (λ xs. xs ++ held_bytes t) grown ∙ regroup old (held_bytes s) bs h.out (held_bytes t) h.whole)

  wrapper-err : (s t : Wrapped W) (bs old : List ℕ) → BreaksOff sink s bs t → sink.bytes s.writer ≡ Some old → (new : List ℕ) × (sink.bytes t.writer ≡ Some new) × GrewBy old (held_bytes s ++ bs) new
  wrapper-err s t bs old h e =
      let (new, is, grown) = appended (sink.bytes s.writer) (sink.bytes t.writer) h.out old h.went e in
      (new, is, record { part = h.out; rest = h.lost; begins = sym h.whole; grown = grown })

  pub wrapper : WrapperGrows sink
  wrapper = record { ok = wrapper-ok; err = wrapper-err }

module _ {W : Type 0} (gives : W → List ℕ → W → Type 0) (text : W → List ℕ) (adds : AddsPieces gives text) where
  -- some calls, one after the other
  calls : (parts : List (List ℕ)) (v w : W) → FoldsTo gives v parts w → text w ≡ text v ++ concat parts
  calls [] v w e = ap text (sym e) ∙ sym (append-nil (text v))
  calls (x ∷ parts) v w (u, h, k) = calls parts u w k ∙ ap (λ xs. xs ++ concat parts) (adds v u x h) ∙ append_assoc (text v) x (concat parts)

  pub counted : CountedGrows gives text
  counted = record {
    ok = λ s t bs h. calls h.gave.parts (writer_of s).now (writer_of t).now h.gave.calls ∙ ap (λ xs. text (writer_of s).now ++ xs) h.gave.whole;
    err = λ s t bs h. (
      h.middle,
      record {
        part = h.part;
        rest = h.rest;
        begins = h.begins;
        grown = calls h.gave.parts (writer_of s).now h.middle h.gave.calls ∙ ap (λ xs. text (writer_of s).now ++ xs) h.gave.whole;
      },
    );
  }

-- What went out through a wrapper or a gathering sink, from what its calls gathered, and a piece copied by its first bytes and its last ones.

-- What went out through a wrapper, from what its calls gathered.

pub not_well : (s : WrapperState) → (s ≡ Well → ⊥) → state_well s ≡ false
not_well Well h = absurd (h refl)
not_well (Faulty e) h = refl
not_well Taken h = refl

module _ {W : Type 0} (sink : SinkOfBytes W) where
  -- a wrapper whose writer has failed takes nothing
  pub leaves_as_is : (s : Wrapped W) (bs : List ℕ) → is_well s ≡ false → BreaksOff sink s bs s
  leaves_as_is s bs h = record {
    out = [];
    lost = held_bytes s ++ bs;
    went = Appends-nil (sink.bytes s.writer);
    whole = refl;
    failed = h;
    count = λ w. cc;
    untaken = λ w. cc;
    kept = λ _. refl;
    tied = sink.keeps_none s.writer;
    still = λ _. refl;
  }

  -- bytes were taken into the array alone
  pub kept_gives : (s t : Wrapped W) (bs : List ℕ) → Keeps s bs t → Gathers sink s bs t
  kept_gives s t bs k = record {
    out = [];
    went = subst (λ (w : W). Appends (sink.bytes s.writer) (sink.bytes w) []) (sym k.writer) (Appends-nil (sink.bytes s.writer));
    whole = sym k.held;
    same = k.well;
    taken = ap is_some k.error;
    count = ap (λ w. sink.failures w) k.writer;
    tied = subst (λ (w : W). sink.keeps s.writer w) (sym k.writer) (sink.keeps_none s.writer);
    still = λ _. k.writer;
  }

  -- from an empty array to an empty array
  all_out : (s u : Wrapped W) (bs : List ℕ) → Gathers sink s bs u → held_bytes s ≡ [] → held_bytes u ≡ [] → Appends (sink.bytes s.writer) (sink.bytes u.writer) bs
  all_out s u bs j e f =
      let same : j.out ≡ bs = sym (append-nil j.out) ∙ (ap (λ xs. j.out ++ xs) (sym f) ∙ (sym j.whole ∙ ap (λ xs. xs ++ bs) e)) in
      subst (λ xs. Appends (sink.bytes s.writer) (sink.bytes u.writer) xs) same j.went

  pub all_sent : (s t u : Wrapped W) (bs : List ℕ) → Gathers sink s bs t → Gathers sink t [] u →
      held_bytes s ≡ [] → held_bytes u ≡ [] → Appends (sink.bytes s.writer) (sink.bytes u.writer) bs
  all_sent s t u bs h k e f = all_out s u bs (rw append-nil at (gives_more sink s t u bs [] h k)) e f

  pub some_sent : (s t : Wrapped W) (bs : List ℕ) → BreaksOff sink s bs t → held_bytes s ≡ [] →
      BeginningOut (sink.bytes s.writer) (sink.bytes t.writer) bs
  some_sent s t bs h e = record {
    out = h.out;
    lost = h.lost;
    went = h.went;
    whole = sym (ap (λ xs. xs ++ bs) e) ∙ h.whole;
  }

  pub some_sent_late : (s t u : Wrapped W) (bs : List ℕ) → Gathers sink s bs t → BreaksOff sink t [] u →
      held_bytes s ≡ [] → BeginningOut (sink.bytes s.writer) (sink.bytes u.writer) bs
  some_sent_late s t u bs h k e = some_sent s u bs (rw append-nil at (leaves_after sink s t u bs [] h k)) e

-- What a gathering sink gave the sink below it.

module _ {S T E : Type 0} (sink : Sink S) where
  pub puts_behind : (s t : GatheredText S) (middle : S) (bs : List ℕ) (r : Result T E) →
      Adds sink s.sink (gathered_text s) middle → gathered_text t ≡ [] → Puts sink middle bs t.sink r → Puts (holding sink) s bs t r
  puts_behind s t middle bs (Ok x) h none k = record {
    given = record {
      out = gathered_text s ++ bs;
      went = sink.more s.sink middle t.sink (gathered_text s) bs h.given k.given;
      whole = sym (ap (λ xs. (gathered_text s ++ bs) ++ xs) none ∙ append-nil (gathered_text s ++ bs));
    };
    unfailed = k.unfailed ∙ h.unfailed;
  }
  puts_behind s t middle bs (Err e) h none k = record {
    left = sink.after s.sink middle t.sink (gathered_text s) bs h.given k.left;
    failed = k.failed ∙ ap next_count h.unfailed;
  }

module _ {S : Type 0} (sink : Sink S) where
  -- all that was given to a sink that held nothing has gone out, once what it holds has
  pub all_given : (s t : GatheredText S) (u : S) (bs : List ℕ) →
      gathered_text s ≡ [] → HoldsPiece sink s bs t → sink.gives t.sink (gathered_text t) u → sink.gives s.sink bs u
  all_given s t u bs none h k =
      subst (λ xs. sink.gives s.sink xs u) (sym h.whole ∙ ap (λ xs. xs ++ bs) none)
      (sink.more s.sink t.sink u h.out (gathered_text t) h.went k)

-- A piece copied by its first bytes and its last ones.

-- the first bytes of what begins with the first n of a piece
first_of : (n k : ℕ) (from to : List ℕ) → k ≤ n → n ≤ length from → length to ≡ length from → take k (put_chunk 0 to (chunk 0 n from)) ≡ take k from
first_of n k from to low long room =
    let first = chunk 0 n from in
    let size : length first ≡ n = length-chunk 0 n from (omega arith) in
    let whole : take n (put_chunk 0 to first) ≡ first = take_more_put_chunk 0 to first n (omega arith) (omega arith) in
    sym (take-take k n (put_chunk 0 to first) low) ∙ ap (λ l. take k l) (whole) ∙ take-take k n from low

-- the whole of a piece of at most twice n bytes
pub both_ends : (n : ℕ) (from to : List ℕ) → n ≤ length from → length from ≤ 2 * n → length to ≡ length from →
    put_chunk (length from - n) (put_chunk 0 to (chunk 0 n from)) (chunk (length from - n) n from) ≡ from
both_ends n from to long short room =
    let k = length from - n in
    let first = put_chunk 0 to (chunk 0 n from) in
    let last = chunk k n from in
    let size : length last ≡ n = length-chunk k n from (omega arith) in
    let same : length first ≡ length from = length-put_chunk 0 to (chunk 0 n from) ∙ room in
    let end : last ≡ drop k from = take_all n (drop k from) (omega (arith, length-drop k from)) in
    let all : length (put_chunk k first last) ≤ length from = omega (arith, length-put_chunk k first last) in
    sym (take_all (length from) (put_chunk k first last) all)
    ∙ take_more_put_chunk k first last (length from) (omega arith) (omega arith)
    ∙ (ap (λ l. l ++ last) (first_of n k from to (omega arith) long room) ∙ ap (λ l. take k from ++ l) end ∙ take-append-drop k from)
