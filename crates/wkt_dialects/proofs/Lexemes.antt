-- The lexeme that is found at a place of a text.
use Rattle.std.proofs.Common.{◌≡◌, ◌≢◌, inl, inr, ℕ, zero, suc, ◌+◌, ◌-◌, ◌<◌, ◌≤◌, true, false, List, [], ◌∷◌, length, get_or, drop, slice_range, if◌then◌else◌, refl, sym, ap, ◌∙◌, arith, take, drop-cons}
use borrow.Author.Tests.{ne_eqb}
use Rattle.wkt_num.specs.Bytes.{Lexeme, Class, Nul, White, Mark, Run, Word, Num, Open, Close, Comma, class_of}
use Rattle.wkt_read.specs.Lexemes.{lexeme_of, starts_number, without_plus}
use Rattle.wkt_events.specs.Remaining.{remaining_spanned, class_in, IsRunEnd, TakesOne}
use Rattle.wkt_events.proofs.RemainingLexemes.{spanned-nul, takes-mark, takes-run, boundary-at, class-in-run, mark-in}
use Rattle.wkt_events.proofs.Runs.{length-range, get_or-range, run-byte}
use Rattle.wkt_machine.specs.View.{IsBetween, IsDark, IsUnmarked}
use Rattle.wkt_sources.proofs.ByteViews.{open_mark, close_mark, comma_mark}
use Rattle.wkt_dialects.specs.declared.lexeme.Kind.{Kind}
use Rattle.wkt_dialects.specs.declared.lexeme.Kind.TheVariants as kind
use Rattle.wkt_dialects.specs.Reading.{from_nul}
use Rattle.wkt_dialects.specs.Pieces.{of_kind, IsFound}

-- Where neither white space nor a mark nor a run stands, the text ends.
pub nothing-there : (text : List ℕ) (at : ℕ) → IsDark false text at → IsUnmarked false text at → class_of (get_or text at 0) ≢ Run → remaining_spanned false text at ≡ []
nothing-there text at dark no-mark no-run = go (class_in false (get_or text at 0)) refl
  where
    go : (c : Class) → class_in false (get_or text at 0) ≡ c → remaining_spanned false text at ≡ []
    go Nul e = spanned-nul false text at e
    go White e = absurd (dark e)
    go (Mark l) e = absurd (no-mark l e)
    go Run e = absurd (no-run (class-in-run false (get_or text at 0) e))

-- No NUL stands before a lexeme nor in it.
skip-nul : (text : List ℕ) (from n : ℕ) → from + n ≤ length text → ((k : ℕ) → from ≤ k → k < from + n → get_or text k 0 ≢ 0) → from_nul (drop from text) ≡ from_nul (drop (from + n) text)
skip-nul text from zero h some = ap (λ k. from_nul (drop k text)) {x = from} {y = from + zero} (omega arith)
skip-nul text from (suc n) h some =
    ap from_nul (drop-cons text from 0 (omega (arith, h)))
    ∙ ap (λ b. if b then get_or text from 0 ∷ drop (suc from) text else from_nul (drop (suc from) text)) (ne_eqb (get_or text from 0) 0 (some from (omega arith) (omega arith)))
    ∙ skip-nul text (suc from) n (omega (arith, h)) (λ k low high. some k (omega (arith, low)) (omega (arith, high)))
    ∙ ap (λ k. from_nul (drop k text)) {x = suc from + n} {y = from + suc n} (omega arith)

pub no-nul : (text : List ℕ) (from to : ℕ) → from ≤ to → to ≤ length text → ((k : ℕ) → from ≤ k → k < to → get_or text k 0 ≢ 0) → from_nul (drop from text) ≡ from_nul (drop to text)
no-nul text from to order inside some =
    skip-nul text from (to - from) (omega (arith, order, inside)) (λ k low high. some k low (omega (arith, high, order)))
    ∙ ap (λ k. from_nul (drop k text)) {x = from + (to - from)} {y = to} (omega (arith, order))

class-nul : class_of 0 ≡ Nul
unfolding class_of
class-nul = refl

-- a byte of this class is no NUL
pub not-nul : (b : ℕ) (c : Class) → class_of b ≡ c → c ≢ Nul → b ≢ 0
not-nul b c is other e = other (sym is ∙ ap class_of e ∙ class-nul)

pub class-white : (b : ℕ) → class_in false b ≡ White → class_of b ≡ White
unfolding class_in
class-white b e = e

pub white-some : (text : List ℕ) (from to : ℕ) → IsBetween false text from to → (k : ℕ) → from ≤ k → k < to → get_or text k 0 ≢ 0
white-some text from to between k low high = not-nul (get_or text k 0) White (class-white (get_or text k 0) (between.white k low high)) (λ e. cc)

some-until : (text : List ℕ) (from start end : ℕ) → IsBetween false text from start → start ≤ end → end ≤ length text → ((k : ℕ) → start ≤ k → k < end → get_or text k 0 ≢ 0) → from_nul (drop from text) ≡ from_nul (drop end text)
some-until text from start end between order inside some =
    no-nul text from start between.order (omega (arith, order, inside)) (white-some text from start between) ∙ no-nul text start end order inside some

-- one byte of a text
one-byte : (text : List ℕ) (at : ℕ) → at < length text → slice_range text at (at + 1) ≡ get_or text at 0 ∷ []
one-byte text at h = ap (λ k. take k (drop at text)) {x = at + 1 - at} {y = 1} (omega arith) ∙ ap (take 1) (drop-cons text at 0 h)

found-mark : (text : List ℕ) (from start : ℕ) (k : Kind) (l : Lexeme) → ((w : List ℕ) → of_kind k w ≡ l) → IsBetween false text from start → IsDark false text start → class_of (get_or text start 0) ≡ Mark l
    → IsFound text from (record { kind = k; start = start; end = start + 1 })
found-mark text from start k l is between dark mark =
    let t : TakesOne false text start l (start + 1) = takes-mark false text start l (mark-in false (get_or text start 0) l mark) in
    let same : l ≡ of_kind k (slice_range text start (start + 1)) = sym (is (slice_range text start (start + 1))) in
    record {
      bytes = record { order = omega arith; inside = t.inside };
      between = between;
      dark = dark;
      no_nul = some-until text from start (start + 1) between (omega arith) t.inside (λ k low high. not-nul (get_or text k 0) (Mark l) (ap (λ n. class_of (get_or text n 0)) {x = k} {y = start} (omega (arith, low, high)) ∙ mark) (λ e. cc));
      next = between.same ∙ t.next ∙ ap (λ m. record { lexeme = m; end = start + 1 } ∷ remaining_spanned false text (start + 1)) same;
      spelled = inl (get_or text start 0, one-byte text start (omega (arith, t.inside)), mark ∙ ap Mark same);
    }

-- The lexeme of a run that begins with this byte.
number-of : (w : List ℕ) → 0 < length w → starts_number (get_or w 0 0) ≡ true → lexeme_of w ≡ Num (without_plus w)
number-of [] h e = absurd (omega (arith, h))
number-of (b ∷ w) h e = ap (λ t. if t then Num (without_plus (b ∷ w)) else Word (b ∷ w)) e

word-of : (w : List ℕ) → 0 < length w → starts_number (get_or w 0 0) ≡ false → lexeme_of w ≡ Word w
word-of [] h e = absurd (omega (arith, h))
word-of (b ∷ w) h e = ap (λ t. if t then Num (without_plus (b ∷ w)) else Word (b ∷ w)) e

module _ (text : List ℕ) (from start end : ℕ) (between : IsBetween false text from start) (dark : IsDark false text start) (ends : IsRunEnd text start end) (some : start < end) where
  abbrev w : List ℕ
  w = slice_range text start end

  long : 0 < length w
  long = omega (arith, length-range text start end ends.order ends.inside, some)

  first-byte : get_or w 0 0 ≡ get_or text start 0
  first-byte = get_or-range text start end 0 (omega (arith, some)) ∙ ap (λ k. get_or text k 0) {x = start + 0} {y = start} (omega arith)

  found-run : (k : Kind) → lexeme_of w ≡ of_kind k w → IsFound text from (record { kind = k; start = start; end = end })
  found-run k is =
      let t : TakesOne false text start (lexeme_of w) end = takes-run false text start end ends some in
      let not-empty : w ≢ [] = λ e. omega (arith, long, ap (λ l. length l) e) in
      record {
        bytes = record { order = some; inside = ends.inside };
        between = between;
        dark = dark;
        no_nul = some-until text from start end between (omega (arith, some)) ends.inside (λ k low high. not-nul (get_or text k 0) Run (run-byte text start end k ends.inside ends.run low high) (λ e. cc));
        next = between.same ∙ t.next ∙ ap (λ m. record { lexeme = m; end = end } ∷ remaining_spanned false text end) is;
        spelled = inr ((not-empty, ends.run), boundary-at text end ends.stops, sym is);
      }

  pub found-number : starts_number (get_or text start 0) ≡ true → IsFound text from (record { kind = kind.Number; start = start; end = end })
  found-number e = found-run kind.Number (number-of w long (ap starts_number first-byte ∙ e))

  pub found-word : starts_number (get_or text start 0) ≡ false → IsFound text from (record { kind = kind.Word; start = start; end = end })
  found-word e = found-run kind.Word (word-of w long (ap starts_number first-byte ∙ e))

pub found-open : (text : List ℕ) (from start : ℕ) → IsBetween false text from start → IsDark false text start → get_or text start 0 ≡ 40 → IsFound text from (record { kind = kind.Open; start = start; end = start + 1 })
found-open text from start between dark e = found-mark text from start kind.Open Open (λ w. refl) between dark (ap class_of e ∙ open_mark)

pub found-close : (text : List ℕ) (from start : ℕ) → IsBetween false text from start → IsDark false text start → get_or text start 0 ≡ 41 → IsFound text from (record { kind = kind.Close; start = start; end = start + 1 })
found-close text from start between dark e = found-mark text from start kind.Close Close (λ w. refl) between dark (ap class_of e ∙ close_mark)

pub found-comma : (text : List ℕ) (from start : ℕ) → IsBetween false text from start → IsDark false text start → get_or text start 0 ≡ 44 → IsFound text from (record { kind = kind.Comma; start = start; end = start + 1 })
found-comma text from start between dark e = found-mark text from start kind.Comma Comma (λ w. refl) between dark (ap class_of e ∙ comma_mark)
