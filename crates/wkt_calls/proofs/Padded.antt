-- A short text before zeros, and the status of a refused text, which is the number of its message.
use Rattle.std.proofs.Common.{◌≡◌, ◌+◌, ◌<◌, inl, inr, ℕ, zero, suc, get_or, replicate, take, drop, length-drop, IsUtf8, List, [], ◌∷◌, ◌++◌, Option, refl, sym, ap, ◌∙◌, subst, length, arith, ◌≤◌}
use Rattle.std.specs.Str.{IsAscii}
use Rattle.std.proofs.lemmas.List.{get_or-drop, length-replicate}
use Rattle.std.proofs.lemmas.Str.{IsUtf8-append, IsUtf8-from_ascii, IsAscii-take, IsAscii-drop}
use Rattle.std.proofs.Math.Seq.{take-append-add, take-append_seam}
use Rattle.wkt_access.specs.Values.{Value}
use Rattle.wkt_read.specs.Front.{Front, HasNoFront}
use Rattle.wkt_read.specs.Refusal.{IsRefusedWith}
use Rattle.wkt_read.specs.declared.messages.Message.{Message}
use Rattle.wkt_explain.specs.Problems.{IsPaddedFor}
use Rattle.wkt_read.specs.Messages.{message_number}
use Rattle.wkt_read.proofs.Refusals.{with_bad}
use Rattle.wkt_calls.specs.Answer.{RefusesText}
use Rattle.wkt_read.specs.declared.messages.Message.TheVariants as message

-- where a front ends
pub front-inside : {N : Type 0} (read : List ℕ → Option N) (text : List ℕ) (v : Value N) (end : ℕ) → Front read text v end → end ≤ length text
front-inside read text v end f = omega (arith, f.ends)

abbrev pub the-zero : ℕ
the-zero = 0

-- cleared bytes
pub zeros-at : (n i : ℕ) → get_or (replicate n (the-zero)) i 0 ≡ the-zero
zeros-at zero i = refl
zeros-at (suc n) zero = refl
zeros-at (suc n) (suc i) = zeros-at n i

pub cleared-long : (n k : ℕ) → k ≤ n → k ≤ length (replicate n the-zero)
cleared-long n k h = subst (λ m. k ≤ m) (sym (length-replicate n the-zero)) h

zero-first : (k : ℕ) (xs : List ℕ) → 0 < length xs → ((i : ℕ) → get_or xs i 0 ≡ the-zero) → (more : List ℕ) × (take (suc k) xs ≡ 0 ∷ more)
zero-first k [] some zeros = absurd (omega (arith, some))
zero-first k (x ∷ xs) some zeros = (take k xs, ap (λ z. z ∷ take k xs) (zeros 0))

-- a text before cleared bytes
module _ (text padded : List ℕ) (room : length text + 32 ≤ length padded) (zeros : (i : ℕ) → get_or padded i 0 ≡ the-zero) where
  abbrev behind : List ℕ
  behind = drop (length text) padded

  front-is : take (length text + 32) (text ++ behind) ≡ text ++ take 32 behind
  front-is = take-append-add text behind 32

  pub is-padded_text : IsPaddedFor text (take (length text + 32) (text ++ behind))
  is-padded_text =
      let (more, e) = zero-first 31 behind (omega (arith, length-drop (length text) padded, room)) (λ i. get_or-drop (length text) padded i 0 ∙ zeros (length text + i)) in
      inr (more, front-is ∙ ap (λ l. text ++ l) e)

  pub padded_text-utf8 : IsUtf8 text → IsUtf8 (take (length text + 32) (text ++ behind))
  padded_text-utf8 u =
      let ascii : IsAscii padded = λ i. omega (arith, zeros i) in
      subst IsUtf8 (sym front-is) (IsUtf8-append text (take 32 behind) u (IsUtf8-from_ascii (take 32 behind) (IsAscii-take behind 32 (IsAscii-drop padded (length text) ascii))))

-- the front of bytes that is all of ASCII
pub front-utf8 : (xs ys : List ℕ) (n : ℕ) → n ≡ length xs → IsAscii (take n (xs ++ ys)) → IsUtf8 xs
front-utf8 xs ys n e h = IsUtf8-from_ascii xs (subst IsAscii (ap (λ k. take k (xs ++ ys)) e ∙ take-append_seam xs ys) h)

-- The status of a refused text is the number of its message.

bad-number : (m : Message) → message_number m ≡ 13 → m ≡ message.BadNumber
bad-number message.Format e = absurd (omega (arith, e))
bad-number message.NonAscii e = absurd (omega (arith, e))
bad-number message.Kind e = absurd (omega (arith, e))
bad-number message.Word e = absurd (omega (arith, e))
bad-number message.End e = absurd (omega (arith, e))
bad-number message.Open e = absurd (omega (arith, e))
bad-number message.Close e = absurd (omega (arith, e))
bad-number message.X e = absurd (omega (arith, e))
bad-number message.Y e = absurd (omega (arith, e))
bad-number message.Z e = absurd (omega (arith, e))
bad-number message.M e = absurd (omega (arith, e))
bad-number message.Member e = absurd (omega (arith, e))
bad-number message.BadNumber e = refl

pub refused-with : {N : Type 0} (read : List ℕ → Option N) (text : List ℕ) (m : Message) (status : ℕ) → IsUtf8 text → HasNoFront read text → IsRefusedWith read text m →
    status ≡ message_number m → 1 ≤ status → status ≤ 13 → RefusesText read text status
refused-with read text m status utf8 none reported is least most =
    record {
      utf8 = λ _ _. utf8;
      no_front = λ _ _. none;
      message = λ _ _. (m, is, reported);
      bad = λ k. with_bad read text m reported (bad-number m (sym is ∙ k));
      not_utf8 = λ k _. omega (arith, k, most);
      others = inl (omega (arith, most));
      some = least;
    }
