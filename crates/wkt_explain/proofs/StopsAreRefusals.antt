-- Where the machine stops in a text, the text is refused, at that one place. White space byte by byte, and cuts between
-- characters.
use Rattle.std.proofs.Common.{◌≡◌, ◌≢◌, ℕ, if◌then◌else◌, slice_range, Some, ◌+◌, ◌≤◌, ◌<◌, List, [], ◌∷◌, ◌++◌, length, drop, get_or, add-one, refl, ap, ◌∙◌, sym, subst, append_assoc, arith, length-append, IsUtf8, IsCharBoundary, Option, inl, inr, append-nil, None, false}
use Rattle.std.proofs.Math.Seq.{drop-cons}
use Rattle.std.proofs.lemmas.Str.{IsCharBoundary-at_seam}
use Rattle.std.proofs.lemmas.Bool.{cases_eq, cases_lt}
use Rattle.std.proofs.lemmas.List.{length-drop, drop_all, drop_more, drop_at}
use Rattle.wkt_num.specs.Bytes.{White, class_of, AllWhite, Lexeme, Mark, Word, Num}
use Rattle.wkt_num.proofs.DecimalParts.{first-range}
use Rattle.wkt_read.specs.Lexemes.{StartsOther, Takes, IsSplit, lexeme_of, starts_number, without_plus}
use Rattle.wkt_read.specs.Grammar.{kind_word}
use Rattle.wkt_read.specs.declared.messages.Message.{Message}
use Rattle.wkt_explain.specs.Problems.{IsPastWhite, EndsFirst, EndsLexeme, IsTold}
use Rattle.wkt_read.proofs.HeaderPlaces.{past_gap, body_characters}
use Rattle.wkt_read.proofs.Splits.{prefix, span, spells_first, first_append, first_other, end_other, takes_rest, takes_after, split_one, takes_append}
use Rattle.wkt_read.specs.declared.expected.Expected.{Expected}
use Rattle.wkt_read.specs.Explained.{IsPart, IsTooMuch, IsTooShort, IsRefusedAt, IsExpectedAfter}
use Rattle.wkt_read.specs.Front.{HasNoFront}
use Rattle.wkt_read.specs.Begun.{BegunGeometry, NoneBegins, opens, closes, IsJustDead}
use Rattle.wkt_read.specs.Spanned.{Spanned, lexemes_of, end_after, AreEnds, spanned}
use Rattle.wkt_read.specs.Context.{context, IsTurn}
use Rattle.wkt_read.specs.Refusal.{IsRefusedWith}
use Rattle.wkt_read.specs.Table.{at_word, before_place, reported, IsReportedAt}
use Rattle.wkt_read.proofs.Placings.{spanned-split, spanned-ends}
use Rattle.wkt_events.specs.Remaining.{class_in, remaining, remaining_spanned, IsRunEnd, TakesOne}
use Rattle.wkt_events.proofs.RemainingLexemes.{remaining-all, takes-mark, takes-run}
use Rattle.wkt_events.proofs.RemainingLexemes as classes
use Rattle.wkt_machine.specs.View.{IsBetween, IsDark, IsUnmarked, between_none}
use Rattle.wkt_machine.specs.Goes.{IsStuck, StopsAt}
use Rattle.wkt_machine.specs.Machine.{is_over, kind_step, move, moved}
use Rattle.wkt_machine.specs.Machine as place
use Rattle.wkt_machine.specs.Machines.{state_of}
use Rattle.wkt_machine.specs.Refusing.{expected_at, open_parens, refused}
use Rattle.wkt_machine.specs.declared.machine.Machine.{Machine}
use Rattle.wkt_sources.proofs.ByteViews.{between_more, none_left}
use Rattle.wkt_machine.proofs.WaysJoin.{lexemes_append, end_last}
use Rattle.wkt_machine.proofs.ExpectedIsTaken.{expected_after, counted}
use Rattle.wkt_machine.proofs.ContextOfPlace.{turn}
use Rattle.wkt_sources.proofs.TableMessages.{gap_between, stops_message, stops_no_front}
use Rattle.wkt_machine.proofs.WholeRuns.{goes_on, refuses, begun_front}
use Rattle.wkt_explain.specs.declared.explanation.Refusal.{Refusal}
use Rattle.wkt_read.proofs.OneForm.{taken_begin}
use Rattle.wkt_read.proofs.Begun.{all_but, dead_none, one_dead}

-- White space byte by byte, and cuts between characters.

-- White space, byte by byte.

-- from one place to another there is white space alone
pub record IsWhiteTo (text : List ℕ) (from to : ℕ) : Type 0 where
  pub gap : List ℕ
  pub within : to ≤ length text
  pub split : drop from text ≡ gap ++ drop to text
  pub white : AllWhite gap

all_more : (xs : List ℕ) (x : ℕ) → AllWhite xs → class_of x ≡ White → AllWhite (xs ++ (x ∷ []))
all_more [] x h e = (e, tt)
all_more (y ∷ xs) x h e = (h.0, all_more xs x h.1 e)

next_byte : (text : List ℕ) (at : ℕ) → at < length text → drop at text ≡ get_or text at 0 ∷ drop (at + 1) text
next_byte text at h = rw add-one (drop-cons text at 0 h)

pub one_more : (text : List ℕ) (from at : ℕ) → IsWhiteTo text from at → at < length text → class_of (get_or text at 0) ≡ White → IsWhiteTo text from (at + 1)
one_more text from at w h e = record {
  gap = w.gap ++ (get_or text at 0 ∷ []);
  within = omega (arith, h);
  split = w.split ∙ ap (λ l. w.gap ++ l) (next_byte text at h) ∙ sym (append_assoc w.gap (get_or text at 0 ∷ []) (drop (at + 1) text));
  white = all_more w.gap (get_or text at 0) w.white e;
}

pub stops_at : (text : List ℕ) (from at : ℕ) → IsWhiteTo text from at → at < length text → class_of (get_or text at 0) ≢ White → IsPastWhite text from at
stops_at text from at w h e = record {
  gap = w.gap;
  within = w.within;
  split = w.split;
  white = w.white;
  stops = subst (StartsOther White) (sym (next_byte text at h)) e;
}

-- The place of a refusal is cut between characters.

rest_characters : (ls : List Lexeme) (text rest : List ℕ) → Takes text ls rest → IsUtf8 text → IsUtf8 rest
rest_characters [] text rest t u = subst IsUtf8 t u
rest_characters (l ∷ ls) text rest (gap, body, after, e, w, s, more) u =
    rest_characters ls after rest more (body_characters body after l s (past_gap gap (body ++ after) w (subst IsUtf8 e u))).1

cut : (text before after : List ℕ) (at : ℕ) → text ≡ before ++ after → IsUtf8 after → length after + at ≡ length text → IsCharBoundary text at
cut text before after at e u place =
    let same : length before ≡ at = omega (arith, place, ap length e, length-append before after) in
    subst (IsCharBoundary text) same (IsCharBoundary-at_seam text before after e u)

module _ {N : Type 0} (read : List ℕ → Option N) (text : List ℕ) (utf8 : IsUtf8 text) (start end : ℕ) (e : Expected) where
  part_too_much : IsTooMuch read text start end e → IsPart text start end
  part_too_much t =
      let p = prefix t.before text t.rest t.taken in
      let from : text ≡ (p.bytes ++ t.gap) ++ (t.body ++ t.after) = p.is ∙ ap (λ l. p.bytes ++ l) t.split ∙ sym (append_assoc p.bytes t.gap (t.body ++ t.after)) in
      let to : text ≡ ((p.bytes ++ t.gap) ++ t.body) ++ t.after = from ∙ sym (append_assoc (p.bytes ++ t.gap) t.body t.after) in
      let whole : IsUtf8 (t.body ++ t.after) = past_gap t.gap (t.body ++ t.after) t.white (subst IsUtf8 t.split (rest_characters t.before text t.rest t.taken utf8)) in
      let begins = t.begins in
      let ends = t.ends in (
        omega (arith, begins, ends, length-append t.body t.after),
        omega (arith, ends),
        cut text (p.bytes ++ t.gap) (t.body ++ t.after) start from whole begins,
        cut text ((p.bytes ++ t.gap) ++ t.body) t.after end to (body_characters t.body t.after t.fault t.spelled whole).1 ends,
      )

  part_too_short : IsTooShort read text start end e → IsPart text start end
  part_too_short t =
      let p = prefix t.lexemes text t.rest t.taken in
      let from : text ≡ (p.bytes ++ t.gap) ++ t.after = p.is ∙ ap (λ l. p.bytes ++ l) t.split ∙ sym (append_assoc p.bytes t.gap t.after) in
      let whole : IsUtf8 t.after = past_gap t.gap t.after t.white (subst IsUtf8 t.split (rest_characters t.lexemes text t.rest t.taken utf8)) in
      let begins = t.begins in
      let ends = t.ends in
      let here = cut text (p.bytes ++ t.gap) t.after start from whole begins in
      (omega (arith, ends), omega (arith, begins, ends), here, subst (IsCharBoundary text) (sym ends) here)

  pub part : IsRefusedAt read text start end e → IsPart text start end
  part (inl t) = part_too_much t
  part (inr t) = part_too_short t

-- Where the machine stops in a text, the text is refused, at that one place.

-- Where the machine stops in a text, the text is refused.

-- what is left of a text after so many bytes
left_at : (text rest : List ℕ) (ls : List Lexeme) (at : ℕ) → Takes text ls rest → length rest + at ≡ length text → drop at text ≡ rest
left_at text rest ls at t e =
    let p = prefix ls text rest t in
    let same : length p.bytes ≡ at = omega (arith, e, ap length p.is, length-append p.bytes rest) in
    ap (λ l. drop at l) p.is ∙ drop_at p.bytes rest at same

-- past the white space before what begins otherwise
past : (text rest gap next : List ℕ) (from to : ℕ) → IsPastWhite text from to → drop from text ≡ rest → rest ≡ gap ++ next → AllWhite gap → StartsOther White next → length next + to ≡ length text
past text rest gap next from to p e split white other =
    let s = span White p.gap gap (drop to text) next p.white white p.stops other (sym p.split ∙ e ∙ split) in
    let same : drop to text ≡ next = s.1 in
    let within = p.within in
    omega (arith, ap length same, length-drop to text, within)

dark_class : (b : ℕ) → class_in false b ≢ White → class_of b ≢ White
unfolding class_in
dark_class b h = h

starts_dark : (text : List ℕ) (at : ℕ) → IsDark false text at → StartsOther White (drop at text)
starts_dark text at dark = elim (cases_lt at (length text)) [
  | inl inside ↦ subst (StartsOther White) (sym (drop_more text at 0 inside)) (dark_class (get_or text at 0) dark)
  | inr past ↦ subst (StartsOther White) (sym (drop_all at text past)) tt
]

past_dark : (text : List ℕ) (from to : ℕ) → IsBetween false text from to → to ≤ length text → IsDark false text to → IsPastWhite text from to
past_dark text from to between inside dark =
    let gap = gap_between text from to between inside in
    record { gap = gap.bytes; within = inside; split = gap.split; white = gap.white; stops = starts_dark text to dark }

-- where the next lexeme ends
pub ends_mark : (text : List ℕ) (at b : ℕ) (l : Lexeme) → b ≡ get_or text at 0 → class_of b ≡ Mark l → EndsLexeme text at (at + 1)
ends_mark text at b l is mark =
    let takes = takes-mark false text at l (ap (class_in false) (sym is) ∙ classes.mark-in false b l mark) in
    subst (λ ps. EndsFirst ps at (at + 1)) (sym takes.next) refl

pub ends_run : (text : List ℕ) (at end : ℕ) → IsRunEnd text at end → IsDark false text at → IsUnmarked false text at → EndsLexeme text at end
ends_run text at end ends dark unmarked = elim (cases_eq end at) [
  | inl none ↦ subst (λ ps. EndsFirst ps at end) (sym (none_left false text at end ends none dark unmarked)) none
  | inr some ↦
      let order = ends.order in
      let takes = takes-run false text at end ends (omega (arith, order, some)) in
      subst (λ ps. EndsFirst ps at end) (sym takes.next) refl
]

module _ {N : Type 0} (read : List ℕ → Option N) (text : List ℕ) where
  -- the place of a lexeme that is too much
  too_much_at : (given later : List Spanned) (x : Spanned) (from to : ℕ) → AreEnds text (given ++ (x ∷ later)) → from ≡ end_after 0 given → IsPastWhite text from to → IsJustDead read (lexemes_of given ++ (x.lexeme ∷ [])) → (e : Expected) → IsExpectedAfter read (lexemes_of given) e
      → (t : IsTooMuch read text to x.end e) × (t.before ≡ lexemes_of given)
  too_much_at given later x from to are at p dead e could_stand =
      let (rest, taken, ends) = are given (x ∷ later) refl in
      let (rest2, taken2, ends2) = are (given ++ (x ∷ [])) later (sym (append_assoc given (x ∷ []) later)) in
      let both : Takes text (lexemes_of given ++ (x.lexeme ∷ [])) rest2 = subst (λ l. Takes text l rest2) (lexemes_append given (x ∷ [])) taken2 in
      let (gap, body, after, split, white, spells, last) = takes_after (lexemes_of given) (x.lexeme ∷ []) text text rest rest2 refl taken both in
      let other : StartsOther White (body ++ after) = first_other White (λ h. h) (body ++ after) (first_append body after (spells_first body after x.lexeme spells)) in (
        record {
          before = lexemes_of given;
          fault = x.lexeme;
          rest = rest;
          gap = gap;
          body = body;
          after = after;
          taken = taken;
          split = split;
          white = white;
          spelled = spells;
          begins = past text rest gap (body ++ after) from to p (left_at text rest (lexemes_of given) from taken (omega (arith, ends, at))) split white other;
          ends = omega (arith, ends2, end_last 0 given x, ap length last);
          dead = dead;
          could_stand = could_stand;
        },
        refl,
      )

  -- the place where a text is too short
  too_short_at : (given : List Spanned) (from to : ℕ) → AreEnds text given → IsSplit text (lexemes_of given) → from ≡ end_after 0 given → IsPastWhite text from to → BegunGeometry read (lexemes_of given) → NoneBegins read (lexemes_of given) → (e : Expected) → IsExpectedAfter read (lexemes_of given) e
      → (t : IsTooShort read text to to e) × (t.lexemes ≡ lexemes_of given)
  too_short_at given from to are (rest, taken, (gap, after, split, white, over)) at p begun none e could_stand =
      let (rest2, taken2, ends) = are given [] (sym (append-nil given)) in
      let same : rest2 ≡ rest = takes_rest (lexemes_of given) (lexemes_of given) text text rest2 rest refl refl taken2 taken in (
        record {
          lexemes = lexemes_of given;
          rest = rest;
          gap = gap;
          after = after;
          taken = taken;
          split = split;
          white = white;
          over = over;
          begins = past text rest gap after from to p (left_at text rest2 (lexemes_of given) from taken2 (omega (arith, ends, at)) ∙ same) split white (end_other after over);
          ends = refl;
          begun = begun;
          none = none;
          could_stand = could_stand;
        },
        refl,
      )

  -- a refusal, and the lexemes before it
  abbrev pub RefusedBehind : List Lexeme → ℕ → ℕ → Expected → Type 0
  RefusedBehind before from to e = (h : IsRefusedAt read text from to e) × (before_place read h ≡ before)

  module _ (m : Machine) (at : ℕ) (s : StopsAt read text m at) (r : Refusal) (t : IsTold read text m at r) where
    abbrev before : List Lexeme
    before = lexemes_of s.taken

    expected_there : IsExpectedAfter read before r.expected
    expected_there = subst (IsExpectedAfter read before) (sym t.expected) (expected_after read before (state_of m) s.events s.ran s.is_open)

    past_there : IsPastWhite text (end_after 0 s.taken) r.start
    past_there = past_dark text (end_after 0 s.taken) r.start (between_more false text (end_after 0 s.taken) at r.start s.between t.between) t.inside t.dark

    refused_by : (ps : List Spanned) → remaining_spanned false text at ≡ ps → RefusedBehind before r.start r.end r.expected
    refused_by [] e =
        let all : spanned text ≡ s.taken = s.split ∙ ap (λ l. s.taken ++ l) e ∙ append-nil s.taken in
        let ends : r.end ≡ r.start = subst (λ ps. EndsFirst ps r.start r.end) (sym t.between.same ∙ e) t.ends in
        let (begun, none) = goes_on read before (state_of m) s.events s.ran s.is_open in
        let (short, same) = too_short_at s.taken (end_after 0 s.taken) r.start (subst (AreEnds text) all (spanned-ends text)) (subst (λ p. IsSplit text (lexemes_of p)) all (spanned-split text)) refl past_there begun none r.expected expected_there in
        subst (λ n. RefusedBehind before r.start n r.expected) (sym ends) (inr short, same)
    refused_by (x ∷ later) e =
        let all : spanned text ≡ s.taken ++ (x ∷ later) = s.split ∙ ap (λ l. s.taken ++ l) e in
        let ends : r.end ≡ x.end = subst (λ ps. EndsFirst ps r.start r.end) (sym t.between.same ∙ e) t.ends in
        let stops : move read (state_of m) x.lexeme ≡ None = subst (λ ps. IsStuck read m ps) e s.stuck in
        let dead = refuses read before x.lexeme (state_of m) s.events s.ran s.is_open stops in
        let (much, same) = too_much_at s.taken later x (end_after 0 s.taken) r.start (subst (AreEnds text) all (spanned-ends text)) refl past_there dead r.expected expected_there in
        subst (λ n. RefusedBehind before r.start n r.expected) (sym ends) (inl much, same)

    refused_there : RefusedBehind before r.start r.end r.expected
    refused_there = refused_by (remaining_spanned false text at) refl

    pub told_place : IsRefusedAt read text r.start r.end r.expected
    told_place = refused_there.0

    pub told_none : HasNoFront read text
    told_none = stops_no_front read text m at s

    pub told_message : IsRefusedWith read text r.message
    told_message = stops_message read text m at s r.message t.message

    same_message : r.message ≡ reported read r.expected (open_parens (state_of m).place + m.depth) (remaining false text at)
    same_message = t.message ∙ ap (λ e. reported read e (open_parens (state_of m).place + m.depth) (remaining false text at)) (sym t.expected)

    whole : lexemes_of (spanned text) ≡ before ++ remaining false text at
    unfolding remaining
    whole = ap lexemes_of s.split ∙ lexemes_append s.taken (remaining_spanned false text at)

    pub told_table : IsReportedAt read text r.start r.end r.expected r.message
    told_table =
        let (h, same) = refused_there in record {
          refused = h;
          there = remaining false text at;
          parens = open_parens (state_of m).place + m.depth;
          split = subst (IsSplit text) (whole ∙ ap (λ b. b ++ remaining false text at) (sym same)) (spanned-split text);
          counted = subst (λ b. open_parens (state_of m).place + m.depth + closes b ≡ opens b) (sym same) (counted read before (state_of m, s.events) s.ran);
          turn = subst (λ b. IsTurn r.expected (context b)) (sym same) (subst (λ e. IsTurn e (context before)) (sym t.expected) (turn read before (state_of m, s.events) s.ran));
          is = same_message;
        }

-- A text is refused at one place at most, and has no front then.

-- no front
no_front : {N : Type 0} (read : List ℕ → Option N) (text : List ℕ) (ls : List Lexeme) → IsSplit text ls → NoneBegins read ls → HasNoFront read text
no_front read text ls split none v end front =
    let (more, is) = taken_begin text front.rest front.lexemes front.taken in
    none front.lexemes more v (split_one text ls (front.lexemes ++ more) split is) front.reads

module _ {N : Type 0} (read : List ℕ → Option N) (text : List ℕ) where
  -- the lexemes up to the one that is too much, and what is after them
  module _ (start end : ℕ) (e : Expected) (t : IsTooMuch read text start end e) where
    abbrev upto : List Lexeme
    upto = t.before ++ (t.fault ∷ [])

    taken_upto : Takes text upto t.after
    taken_upto = takes_append t.before (t.fault ∷ []) text t.rest t.after t.taken (t.gap, t.body, t.after, t.split, t.white, t.spelled, refl)

  both_too_much : (start end start2 end2 : ℕ) (e e2 : Expected) → IsTooMuch read text start end e → IsTooMuch read text start2 end2 e2 → (start ≡ start2) × (end ≡ end2)
  both_too_much start end start2 end2 e e2 t u =
      let (more, is) = taken_begin text t.after (upto start end e t) (taken_upto start end e t) in
      let (more2, is2) = taken_begin text u.after (upto start2 end2 e2 u) (taken_upto start2 end2 e2 u) in
      let same = one_dead read (upto start end e t) (upto start2 end2 e2 u) more more2 t.dead u.dead (split_one text _ _ is is2) in
      let before : t.before ≡ u.before = all_but t.before u.before t.fault u.fault same in
      let rest : t.rest ≡ u.rest = takes_rest t.before u.before text text t.rest u.rest refl before t.taken u.taken in
      let after : t.after ≡ u.after = takes_rest (upto start end e t) (upto start2 end2 e2 u) text text t.after u.after refl same (taken_upto start end e t) (taken_upto start2 end2 e2 u) in
      let first = first_other White (λ h. h) (t.body ++ t.after) (first_append t.body t.after (spells_first t.body t.after t.fault t.spelled)) in
      let first2 = first_other White (λ h. h) (u.body ++ u.after) (first_append u.body u.after (spells_first u.body u.after u.fault u.spelled)) in
      let whole : t.body ++ t.after ≡ u.body ++ u.after = (span White t.gap u.gap (t.body ++ t.after) (u.body ++ u.after) t.white u.white first first2 (sym t.split ∙ rest ∙ u.split)).1 in
      let b1 = t.begins in
      let b2 = u.begins in
      let n1 = t.ends in
      let n2 = u.ends in
      (omega (arith, b1, b2, ap length whole), omega (arith, n1, n2, ap length after))

  split_short : (start end : ℕ) (e : Expected) (t : IsTooShort read text start end e) → IsSplit text t.lexemes
  split_short start end e t = (t.rest, t.taken, (t.gap, t.after, t.split, t.white, t.over))

  both_too_short : (start end start2 end2 : ℕ) (e e2 : Expected) → IsTooShort read text start end e → IsTooShort read text start2 end2 e2 → (start ≡ start2) × (end ≡ end2)
  both_too_short start end start2 end2 e e2 t u =
      let same : t.lexemes ≡ u.lexemes = split_one text t.lexemes u.lexemes (split_short start end e t) (split_short start2 end2 e2 u) in
      let rest : t.rest ≡ u.rest = takes_rest t.lexemes u.lexemes text text t.rest u.rest refl same t.taken u.taken in
      let after : t.after ≡ u.after = (span White t.gap u.gap t.after u.after t.white u.white (end_other t.after t.over) (end_other u.after u.over) (sym t.split ∙ rest ∙ u.split)).1 in
      let b1 = t.begins in
      let b2 = u.begins in
      let n1 = t.ends in
      let n2 = u.ends in
      (omega (arith, b1, b2, ap length after), omega (arith, b1, b2, n1, n2, ap length after))

  -- a text that is too short has no lexeme that is too much
  not_both : (start end start2 end2 : ℕ) (e e2 : Expected) → IsTooMuch read text start end e → IsTooShort read text start2 end2 e2 → ⊥
  not_both start end start2 end2 e e2 t u =
      let (more, is) = taken_begin text t.after (upto start end e t) (taken_upto start end e t) in
      let same = split_one text u.lexemes (upto start end e t ++ more) (split_short start2 end2 e2 u) is in
      t.dead.dead.not_begun (begun_front read (upto start end e t) more (subst (BegunGeometry read) same u.begun))

  pub one_place : (start end start2 end2 : ℕ) (e e2 : Expected) → IsRefusedAt read text start end e → IsRefusedAt read text start2 end2 e2 → (start ≡ start2) × (end ≡ end2)
  one_place start end start2 end2 e e2 (inl t) (inl u) = both_too_much start end start2 end2 e e2 t u
  one_place start end start2 end2 e e2 (inr t) (inr u) = both_too_short start end start2 end2 e e2 t u
  one_place start end start2 end2 e e2 (inl t) (inr u) = absurd (not_both start end start2 end2 e e2 t u)
  one_place start end start2 end2 e e2 (inr t) (inl u) = absurd (not_both start2 end2 start end e2 e u t)

  pub refused_none : (start end : ℕ) (e : Expected) → IsRefusedAt read text start end e → HasNoFront read text
  refused_none start end e (inl t) =
      let (more, is) = taken_begin text t.after (upto start end e t) (taken_upto start end e t) in
      no_front read text (upto start end e t ++ more) is (dead_none read (upto start end e t) more t.dead.dead)
  refused_none start end e (inr t) = no_front read text t.lexemes (split_short start end e t) t.none

-- A text that begins with a word of no kind: the machine stops where it begins.

first_word : (run : List ℕ) → starts_number (get_or run 0 0) ≡ false → lexeme_of run ≡ Word run
first_word [] h = refl
first_word (b ∷ bs) h = ap (λ t. if t then Num (without_plus (b ∷ bs)) else Word (b ∷ bs)) h

remaining_is : (text : List ℕ) (ps : List Spanned) → remaining_spanned false text 0 ≡ ps → remaining false text 0 ≡ lexemes_of ps
unfolding remaining
remaining_is text ps e = ap lexemes_of e

module _ {N : Type 0} (read : List ℕ → Option N) (text : List ℕ) (begins end : ℕ) (m : Machine) (is : state_of m ≡ place.start) (between : IsBetween false text 0 begins) (ends : IsRunEnd text begins end) (some : end ≢ begins)
    (letter : starts_number (get_or text begins 0) ≡ false) (none : kind_word (slice_range text begins end) ≡ None) where
  abbrev word : List ℕ
  word = slice_range text begins end

  abbrev behind : List Spanned
  behind = remaining_spanned false text end

  takes : TakesOne false text begins (Word word) end
  takes =
      let order = ends.order in
      let less : begins < end = omega (arith, order, some) in
      subst (λ l. TakesOne false text begins l end) (first_word word (ap starts_number (first-range text begins end less) ∙ letter)) (takes-run false text begins end ends less)

  comes : remaining_spanned false text 0 ≡ record { lexeme = Word word; end = end } ∷ behind
  comes = between.same ∙ takes.next

  pub first_stops : StopsAt read text m 0
  first_stops = record {
    taken = [];
    events = [];
    split = sym (remaining-all text);
    between = between_none false text 0;
    inside = omega arith;
    ran = ap (λ s. Some (s, [])) (sym is);
    is_open = ap is_over is;
    stuck = subst (IsStuck read m) (sym comes) (ap (λ s. move read s (Word word)) is ∙ ap (λ o. moved read (kind_step o 0) (Some None)) none);
  }

  pub first_told : (said : Message) (e : Expected) → begins ≤ length text → IsDark false text begins → e ≡ expected_at (state_of m).place m.depth → said ≡ at_word e word → IsTold read text m 0 (record { message = said; start = begins; end = end; expected = e })
  first_told said e inside dark expects says = record {
    between = between;
    inside = inside;
    dark = dark;
    ends = subst (λ ps. EndsFirst ps begins end) (sym takes.next) refl;
    expected = expects;
    message =
        says
        ∙ ap (λ x. at_word x word) (expects ∙ ap (λ s. expected_at s.place s.depth) is)
        ∙ sym (ap (λ s. (refused read s (remaining false text 0)).0) is ∙ ap (λ ls. (refused read place.start ls).0) (remaining_is text _ comes));
  }
