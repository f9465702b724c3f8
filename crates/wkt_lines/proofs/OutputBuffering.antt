-- Lines that are answered by an output buffer.
use Rattle.std.proofs.Common.{◌≡◌, ◌≢◌, ℕ, ◌+◌, ◌-◌, ◌<◌, ◌≤◌, List, [], ◌∷◌, ◌++◌, length, length-append, length-drop, length-take, take, drop, refl, sym, ap, ◌∙◌, subst, append_assoc, take-append-drop, arith, Result, Ok, Err, OnOk}
use Rattle.std.proofs.lemmas.List.{append-nil, drop_all, drop-drop, take_all}
use Rattle.std.proofs.KnownBytes.{Appends-nil, Appends-trans}
use Rattle.std.specs.Io.KnownBytes.{Appends}
use Rattle.wkt_num.specs.Sink.{next_count}
use Rattle.wkt_bytes.specs.Sinks.{SinkOfBytes}
use Rattle.wkt_events.specs.Remaining.{before_feed}
use Rattle.wkt_lines.specs.Lines.{after_feed, input_lines}
use Rattle.wkt_lines.specs.Replies.{AreReplies, AllReplied, BeforeReplied, PartReplied}
use Rattle.wkt_lines.specs.Buffers.{Drained, Stopped, PutsOut, AnswersAll}
use Rattle.std.specs.declared.io.Error.{Error}
use Rattle.wkt_lines.specs.Output.{OnRunMemory}
use Rattle.wkt_lines.specs.declared.lines.RunError.{RunError}
use Rattle.wkt_lines.specs.declared.lines.RunError.TheVariants as run
use Rattle.wkt_lines.proofs.Answering.{one_more, next_line, one_reply, part_out, no_answers}

some-left : (at : ℕ) (input : List ℕ) → at < length input → drop at input ≢ []
some-left at input inside e = let n = ap length e in omega (arith, n, length-drop at input, inside)

drops : (at taken : ℕ) (input : List ℕ) → drop (at + taken) input ≡ drop taken (drop at input)
drops at taken input = sym (drop-drop taken at input)

module _ (is : List ℕ → List ℕ → Type 0) {D : Type 0} (sink : SinkOfBytes D) where
  -- The first lines of the input are answered, up to `at`: what went out, and what still stands in the output buffer.
  pub record Buffered (input : List ℕ) (at : ℕ) (text : List ℕ) (start now : D) : Type 0 where
    pub first : List (List ℕ)
    pub out : List ℕ
    pub lines : first ++ input_lines (drop at input) ≡ input_lines input
    pub answers : AreReplies is first out
    pub put : List ℕ
    pub split : out ≡ put ++ text
    pub went : Appends (sink.bytes start) (sink.bytes now) put
    pub count : sink.failures now ≡ sink.failures start

  pub buffered_none : (input text : List ℕ) (start : D) → text ≡ [] → Buffered input 0 text start start
  buffered_none input text start none = record { first = []; out = []; lines = refl; answers = refl; put = []; split = sym none; went = Appends-nil (sink.bytes start); count = refl }

  module _ (input : List ℕ) (at : ℕ) (text : List ℕ) (start now : D) (h : Buffered input at text start now) where
    -- some of the output buffer went out
    pub buffered_drained : (left : List ℕ) (next : D) → Drained sink text left now next → Buffered input at left start next
    buffered_drained left next d = record {
      first = h.first;
      out = h.out;
      lines = h.lines;
      answers = h.answers;
      put = h.put ++ d.out;
      split = h.split ∙ ap (λ (l : List ℕ). h.put ++ l) d.split ∙ sym (append_assoc h.put d.out left);
      went = Appends-trans (sink.bytes start) (sink.bytes now) (sink.bytes next) h.put d.out h.went d.went;
      count = d.count ∙ h.count;
    }

    -- the next line is answered
    pub buffered_more : (taken : ℕ) (more : List ℕ) → at < length input → drop taken (drop at input) ≡ after_feed (drop at input) → (answer : List ℕ) × is (before_feed (drop at input)) answer × (more ≡ text ++ (answer ++ 10 ∷ []))
        → Buffered input (at + taken) more start now
    buffered_more taken more inside left (answer, one, e) = record {
      first = h.first ++ (before_feed (drop at input) ∷ []);
      out = h.out ++ (answer ++ 10 ∷ []);
      lines = one_more h.first (drop at input) input (before_feed (drop at input)) (drop (at + taken) input) h.lines (some-left at input inside) refl (drops at taken input ∙ left);
      answers = one_reply is h.first h.out (before_feed (drop at input)) answer h.answers one;
      put = h.put;
      split = ap (λ (l : List ℕ). l ++ (answer ++ 10 ∷ [])) h.split ∙ append_assoc h.put text (answer ++ 10 ∷ []) ∙ ap (λ (l : List ℕ). h.put ++ l) (sym e);
      went = h.went;
      count = h.count;
    }

    -- the same, of the rest of the input as code takes it
    pub buffered_next : (taken : ℕ) (more : List ℕ) → at < length input → drop taken (take (length input - at) (drop at input)) ≡ after_feed (take (length input - at) (drop at input))
        → (answer : List ℕ) × is (before_feed (take (length input - at) (drop at input))) answer × (more ≡ text ++ (answer ++ 10 ∷ [])) → Buffered input (at + taken) more start now
    buffered_next taken more inside left added =
        let same : take (length input - at) (drop at input) ≡ drop at input = take_all (length input - at) (drop at input) (omega (arith, length-drop at input)) in
        buffered_more taken more inside (subst (λ (l : List ℕ). drop taken l ≡ after_feed l) same left)
        (subst (λ (l : List ℕ). (answer : List ℕ) × is (before_feed l) answer × (more ≡ text ++ (answer ++ 10 ∷ []))) same added)

    buffered_stopped : (next : D) → Stopped sink text now next → PartReplied is (sink.bytes start) (sink.bytes next) input
    buffered_stopped next s =
        let long : length h.out ≡ length h.put + length text = ap length h.split ∙ length-append h.put text in
        let some = s.some in
        part_out is h.first (input_lines (drop at input)) h.out (h.put ++ take s.k text) (drop s.k text) input (sink.bytes start) (sink.bytes next)
        (no_answers is h.first h.out h.answers (omega (arith, long, some)))
        h.answers
        (h.split ∙ ap (λ (l : List ℕ). h.put ++ l) (sym (take-append-drop s.k text)) ∙ sym (append_assoc h.put (take s.k text) (drop s.k text)))
        h.lines
        (Appends-trans (sink.bytes start) (sink.bytes now) (sink.bytes next) h.put (take s.k text) h.went s.went)

    -- all of the output buffer is out, and the next line isn't answered
    buffered_before : (next : D) → at < length input → Drained sink text [] now next → BeforeReplied is (sink.bytes start) (sink.bytes next) input
    buffered_before next inside d =
        let k = buffered_drained [] next d in
        let split = next_line k.first (drop at input) input (before_feed (drop at input)) k.lines (some-left at input inside) refl in (
          record { first = k.first; line = before_feed (drop at input); others = input_lines (after_feed (drop at input)); split = split; out = k.out; answers = k.answers },
          subst (λ (l : List ℕ). Appends (sink.bytes start) (sink.bytes next) l) (sym (k.split ∙ append-nil k.put)) k.went,
        )

    -- all of the output buffer is out, and so are all answers
    buffered_all : (next : D) → length input ≤ at → Drained sink text [] now next → AllReplied is (sink.bytes start) (sink.bytes next) input
    buffered_all next past d =
        let k = buffered_drained [] next d in
        let none : input_lines (drop at input) ≡ [] = ap input_lines (drop_all at input past) in
        let same : k.first ≡ input_lines input = sym (append-nil k.first) ∙ ap (λ (l : List (List ℕ)). k.first ++ l) (sym none) ∙ k.lines in
        (k.out, subst (λ (l : List (List ℕ)). AreReplies is l k.out) same k.answers, subst (λ (l : List ℕ). Appends (sink.bytes start) (sink.bytes next) l) (sym (k.split ∙ append-nil k.put)) k.went)

  module _ (input : List ℕ) (at : ℕ) (text left : List ℕ) (start now next : D) (h : Buffered input at text start now) where
    -- the sink failed
    stops : (e : Error) → Stopped sink text now next → AnswersAll sink is start input (Err (run.Write e)) next
    stops e p = record { ok = tt; count = tt; write = buffered_stopped input at text start now h next p; write_count = p.count ∙ ap next_count h.count; memory = tt; read = tt }

    -- a line is left to be answered
    pub ends_inside : at < length input → (r : Result (Unit {0}) RunError) → OnOk r ⊥ → PutsOut sink r text left now next → AnswersAll sink is start input r next
    ends_inside inside (Ok x) never p = absurd never
    ends_inside inside (Err (run.Read e)) never p = absurd p
    ends_inside inside (Err (run.Write e)) never p = stops e p
    ends_inside inside (Err (run.Memory e)) never p = record { ok = tt; count = p.count ∙ h.count; write = tt; write_count = tt; memory = buffered_before input at text start now h next inside p; read = tt }

  -- all lines are answered
  pub ends_past : (input : List ℕ) (at : ℕ) (text : List ℕ) (start now next : D) → Buffered input at text start now → length input ≤ at → (r : Result (Unit {0}) RunError) → OnRunMemory r ⊥ → PutsOut sink r text [] now next → AnswersAll sink is start input r next
  ends_past input at text start now next h past (Ok x) never p = record { ok = buffered_all input at text start now h next past p; count = p.count ∙ h.count; write = tt; write_count = tt; memory = tt; read = tt }
  ends_past input at text start now next h past (Err (run.Read e)) never p = absurd p
  ends_past input at text start now next h past (Err (run.Write e)) never p = stops input at text [] start now next h e p
  ends_past input at text start now next h past (Err (run.Memory e)) never p = absurd never

pub near : (input : List ℕ) (at taken : ℕ) → at < length input → taken ≤ length (take (length input - at) (drop at input)) + 1 → at + taken ≤ length input + 1
near input at taken inside far = omega (arith, inside, far, length-take (length input - at) (drop at input), length-drop at input)
