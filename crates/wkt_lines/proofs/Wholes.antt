-- Lines that are read as whole texts, one after the other.
use Rattle.std.proofs.Common.{◌≡◌, ◌≢◌, ℕ, zero, suc, ◌+◌, ◌-◌, ◌≤◌, List, [], ◌∷◌, ◌++◌, length, take, drop, refl, sym, ap, ◌∙◌, arith, subst, Bool, true, false, ◌==◌, if◌then◌else◌, IsUtf8, length-append, Option}
use Rattle.std.proofs.lemmas.List.{length-take-le, drop_all, drop-take}
use Rattle.std.proofs.lemmas.Str.{IsUtf8-append}
use Rattle.std.proofs.Math.Seq.{take-add}
use Rattle.wkt_lines.specs.Laws.{IsWholeLines}
use Rattle.wkt_lines.specs.Lines.{input_lines, before_feed, after_feed, EndsText}
use Rattle.wkt_lines.specs.Replies.{AreReplies}
use Rattle.wkt_lines.specs.First.{IsWholeAnswer, AnswersWhole}
use Rattle.wkt_lines.proofs.Answering.{lines_on, ends-line, near-line, feed-utf8, one_reply}
use Rattle.wkt_lines.proofs.Lining.{first_whole}
use Rattle.wkt_lines.proofs.Outcomes.{lines_of_parts, both_whole}

-- what stands behind a place of the line
pub behind : (rest : List ℕ) (from line end : ℕ) → EndsText rest from line → end ≤ line → take (line - end) (drop end rest) ≡ drop end (before_feed rest)
behind rest from line end at h =
    let n = at.ends in
    let before : take line rest ≡ before_feed rest = (ends-line rest (line + 1) line (omega (arith, n)) (omega arith)).before in
    let same : end + (line - end) ≡ line = omega (arith, h) in
    sym (drop-take end (line - end) rest) ∙ (ap (λ k. drop end (take k rest)) same ∙ ap (λ l. drop end l) before)

-- the first line of a part is no longer
shorter : (k : ℕ) (xs : List ℕ) → length (before_feed (take k xs)) ≤ length (before_feed xs)
shorter zero xs = omega arith
shorter (suc k) [] = omega arith
shorter (suc k) (b ∷ xs) =
    let more = shorter k xs in
    elim (b == 10) as (λ t. length (if t then [] else b ∷ before_feed (take k xs)) ≤ length (if t then [] else b ∷ before_feed xs)) [ true ↦ omega arith | false ↦ omega (arith, more) ]

module _ (rest : List ℕ) (t : ℕ) (is : t ≡ length (before_feed rest) + 1) (within : t ≤ length rest) where
  -- the first line with its line feed
  line_whole : IsWholeLines (take t rest)
  line_whole =
      let e = ends-line rest t (t - 1) is refl in
      let same : t - 1 + 1 ≡ t = omega (arith, is) in
      subst (λ k. IsWholeLines (take k rest)) same (first_whole rest (t - 1) (omega (arith, is, within)) (λ q. omega (arith, q, is, within)) e.before)

  line_alone : input_lines (take t rest) ≡ before_feed rest ∷ []
  line_alone =
      let long : length (take t rest) ≡ t = length-take-le t rest within in
      let short = shorter t rest in
      let same : before_feed (take t rest) ≡ before_feed rest = near-line t rest (omega (arith, long, short, is)) in
      let count : length (before_feed (take t rest)) + 1 ≡ t = ap (λ l. length l + 1) same ∙ sym is in
      let e = ends-line (take t rest) t (t - 1) (sym count) refl in
      let left : after_feed (take t rest) ≡ [] = sym e.after ∙ drop_all (t - 1 + 1) (take t rest) (omega (arith, long, is)) in
      let full : take t rest ≢ [] = λ q. let n : length (take t rest) ≡ 0 = ap length q in omega (arith, n, long, is) in
      lines_on (take t rest) full ∙ (ap (λ l. l ∷ input_lines (after_feed (take t rest))) same ∙ ap (λ xs. before_feed rest ∷ input_lines xs) left)

-- one line more
module _ (bytes : List ℕ) (taken t : ℕ) (is : t ≡ length (before_feed (drop taken bytes)) + 1) (within : t ≤ length (drop taken bytes)) (w : IsWholeLines (take taken bytes)) where
  pub whole_more : IsWholeLines (take (taken + t) bytes)
  whole_more = subst IsWholeLines (sym (take-add taken t bytes)) (both_whole (take taken bytes) (take t (drop taken bytes)) w (line_whole (drop taken bytes) t is within))

  lines_more : input_lines (take (taken + t) bytes) ≡ input_lines (take taken bytes) ++ (before_feed (drop taken bytes) ∷ [])
  lines_more = ap input_lines (take-add taken t bytes) ∙ (lines_of_parts (take taken bytes) (take t (drop taken bytes)) w ∙ ap (λ ls. input_lines (take taken bytes) ++ ls) (line_alone (drop taken bytes) t is within))

  pub count_more : (n : ℕ) → n ≡ length (input_lines (take taken bytes)) → n + 1 ≡ length (input_lines (take (taken + t) bytes))
  count_more n e =
      let all = ap length lines_more in
      let two = length-append (input_lines (take taken bytes)) (before_feed (drop taken bytes) ∷ []) in
      omega (arith, e, all, two)

  module _ {N : Type 0} (read : List ℕ → Option N) (num : N → List ℕ) (front : Bool) (out new : List ℕ) (h : AnswersWhole read num front (drop taken bytes) out new) where
    pub replies_more : AreReplies (IsWholeAnswer read num front) (input_lines (take taken bytes)) out → AreReplies (IsWholeAnswer read num front) (input_lines (take (taken + t) bytes)) new
    replies_more are =
        let one = one_reply (IsWholeAnswer read num front) (input_lines (take taken bytes)) out (before_feed (drop taken bytes)) h.answer are h.is in
        subst (λ ls. AreReplies (IsWholeAnswer read num front) ls new) (sym lines_more)
        (subst (λ o. AreReplies (IsWholeAnswer read num front) (input_lines (take taken bytes) ++ (before_feed (drop taken bytes) ∷ [])) o) (sym h.written) one)

    pub utf8_more : IsUtf8 out → IsUtf8 new
    utf8_more u = subst IsUtf8 (sym h.written) (IsUtf8-append out (h.answer ++ 10 ∷ []) u (IsUtf8-append h.answer (10 ∷ []) h.utf8 feed-utf8))
