-- What is found in UTF-8, and what follows it, is UTF-8.
use Rattle.std.proofs.Common.{◌≡◌, ℕ, zero, suc, ◌+◌, ◌-◌, ◌<◌, ◌≤◌, false, List, ◌∷◌, ◌++◌, length, take, drop, get_or, slice_range, sym, ap, subst, ◌∙◌, arith, drop-cons, IsUtf8}
use Rattle.std.proofs.lemmas.List.{take-append-drop, drop-drop}
use Rattle.wkt_num.specs.Bytes.{White, Run}
use Rattle.wkt_read.proofs.HeaderPlaces.{run_or_ascii, past_ascii, body_characters}
use Rattle.wkt_events.specs.Remaining.{class_in}
use Rattle.wkt_machine.specs.View.{IsBetween}
use Rattle.wkt_dialects.specs.declared.lexeme.Found.{Found}
use Rattle.wkt_dialects.specs.Pieces.{lexeme_in, IsFound}
use Rattle.wkt_dialects.proofs.Lexemes.{class-white}

past-some : (text : List ℕ) (from n : ℕ) → from + n ≤ length text → ((k : ℕ) → from ≤ k → k < from + n → class_in false (get_or text k 0) ≡ White) → IsUtf8 (drop from text) → IsUtf8 (drop (from + n) text)
past-some text from zero h white u = let e : from ≡ from + zero = omega arith in subst (λ k. IsUtf8 (drop k text)) e u
past-some text from (suc n) h white u =
    let low : get_or text from 0 < 128 = run_or_ascii (get_or text from 0) (λ r. let k : White ≡ Run = sym (class-white (get_or text from 0) (white from (omega arith) (omega arith))) ∙ r in cc) in
    let one : IsUtf8 (drop (suc from) text) = past_ascii (get_or text from 0) (drop (suc from) text) low (subst IsUtf8 (drop-cons text from 0 (omega (arith, h))) u) in
    let e : suc from + n ≡ from + suc n = omega arith in
    subst (λ k. IsUtf8 (drop k text)) e (past-some text (suc from) n (omega (arith, h)) (λ k low high. white k (omega (arith, low)) (omega (arith, high))) one)

pub past-white : (text : List ℕ) (from to : ℕ) → IsBetween false text from to → to ≤ length text → IsUtf8 (drop from text) → IsUtf8 (drop to text)
past-white text from to between inside u =
    let e : from + (to - from) ≡ to = omega (arith, between.order) in
    subst (λ k. IsUtf8 (drop k text)) e (past-some text from (to - from) (omega (arith, e, inside)) (λ k low high. between.white k low (omega (arith, high, e))) u)

pub found-text : (text : List ℕ) (from : ℕ) (f : Found) → IsFound text from f → IsUtf8 (drop from text) → IsUtf8 (slice_range text f.start f.end) × IsUtf8 (drop f.end text)
found-text text from f is u =
    let e : f.start + (f.end - f.start) ≡ f.end = omega (arith, is.bytes.order) in
    let split : drop f.start text ≡ slice_range text f.start f.end ++ drop f.end text =
    sym (take-append-drop (f.end - f.start) (drop f.start text)) ∙ ap (λ l. slice_range text f.start f.end ++ l) (drop-drop (f.end - f.start) f.start text ∙ ap (λ k. drop k text) e) in
    body_characters (slice_range text f.start f.end) (drop f.end text) (lexeme_in text f) is.spelled (subst IsUtf8 split (past-white text from f.start is.between (omega (arith, is.bytes.order, is.bytes.inside)) u))
