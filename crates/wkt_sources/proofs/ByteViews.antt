-- What is seen at a place of bytes, and what is taken there.
use Rattle.std.proofs.Common.{◌≡◌, ◌≢◌, ℕ, ◌+◌, ◌<◌, ◌≤◌, List, [], ◌∷◌, length, get_or, slice_range, Option, Bool, true, false, if◌then◌else◌, ◌&&◌, ◌||◌, ◌==◌, nat_le, inl, inr, refl, sym, ap, ◌∙◌, subst, arith, ◌-◌}
use Rattle.std.proofs.lemmas.Bool.{cases_lt, cases_eq, cases_Bool, ne_eqb, leb-true}
use Rattle.std.proofs.lemmas.List.Edits.{get_or-between}
use Rattle.wkt_num.specs.Bytes.{Lexeme, Open, Close, Comma, Word, Num, Class, Nul, White, Mark, Run, class_of}
use Rattle.wkt_read.specs.Grammar.{kind_word}
use Rattle.wkt_read.specs.Lexemes.{lexeme_of, starts_number, without_plus}
use Rattle.wkt_read.specs.Spanned.{Spanned, lexemes_of, spanned}
use Rattle.wkt_events.specs.Remaining.{Legible, class_in, remaining_spanned, remaining, IsRunEnd, TakesOne, NoNumber}
use Rattle.wkt_events.proofs.RemainingLexemes.{class-same, class-in-mark, class-in-run, remaining-all, spanned-nul, spanned-past, remaining-begins, takes-mark, takes-run, takes-number, no-number}
use Rattle.wkt_events.proofs.RemainingLexemes as classes
use Rattle.wkt_events.proofs.Utf8Lines.{legible-one}
use Rattle.wkt_events.proofs.Runs.{late-run}
use Rattle.wkt_machine.specs.View.{IsBetween, IsDark, IsUnmarked, seen_of, seen_word, sight}
use Rattle.wkt_sources.specs.Views.{Sees, IsLooked, bytes_view}
use Rattle.wkt_machine.specs.Goes.{Stays, Skips, MakesOneNumber, IsUnread}
use Rattle.wkt_machine.specs.Makers.{Maker, MakesNumber}
use Rattle.wkt_sources.specs.declared.bytes.ByteCursor.{ByteCursor}
use Rattle.wkt_machine.specs.declared.machine.LexemeKind.{LexemeKind}
use Rattle.wkt_machine.specs.declared.part.Axis.{Axis}
use Rattle.wkt_machine.specs.declared.machine.LexemeKind.TheVariants as seen

-- a place behind so many bytes
abbrev pub past : {n : ℕ} → ByteCursor n → ℕ → ByteCursor n
past s k = record { text = s.text; at = s.at + k; end = s.at + k }

-- the bytes of marks
pub open_mark : class_of 40 ≡ Mark Open
unfolding class_of
open_mark = refl

pub close_mark : class_of 41 ≡ Mark Close
unfolding class_of
close_mark = refl

pub comma_mark : class_of 44 ≡ Mark Comma
unfolding class_of
comma_mark = refl

never_mark : (b : ℕ) → b ≢ 40 → b ≢ 41 → b ≢ 44 → (l : Lexeme) → class_of b ≢ Mark l
unfolding class_of
never_mark b o c m l = go (b == 0) (b == 32 || b == 10 || b == 13 || b == 9) (b == 40) (b == 41) (b == 44) (ne_eqb b 40 o) (ne_eqb b 41 c) (ne_eqb b 44 m)
  where
    go : (n w o c m : Bool) → o ≡ false → c ≡ false → m ≡ false → (if n then Nul else (if w then White else (if o then Mark Open else (if c then Mark Close else (if m then Mark Comma else Run))))) ≢ Mark l
    go true w o c m eo ec em = λ e. cc
    go false true o c m eo ec em = λ e. cc
    go false false true c m eo ec em = let never : ⊥ = cc in absurd never
    go false false false true m eo ec em = let never : ⊥ = cc in absurd never
    go false false false false true eo ec em = let never : ⊥ = cc in absurd never
    go false false false false false eo ec em = λ e. cc

pub unmarked : (feed : Bool) (text : List ℕ) (at b : ℕ) → b ≡ get_or text at 0 → b ≢ 40 → b ≢ 41 → b ≢ 44 → IsUnmarked feed text at
unmarked feed text at b is o c m l e = never_mark b o c m l (ap class_of is ∙ class-in-mark feed (get_or text at 0) l e)

-- a byte that begins a number
digit_low : (b : ℕ) → b ≤ 44 → (nat_le 48 b && nat_le b 57) ≡ false
digit_low b h = elim (cases_Bool (nat_le 48 b)) [
  | inl e ↦ absurd (let low = leb-true 48 b e in omega (arith, low, h))
  | inr e ↦ ap (λ t. t && nat_le b 57) e
]

low_none : (b : ℕ) → b ≤ 44 → b ≢ 43 → starts_number b ≡ false
low_none b h n = rw (digit_low b h, ne_eqb b 46 (λ e. omega (arith, e, h)), ne_eqb b 45 (λ e. omega (arith, e, h)), ne_eqb b 43 n) refl

plus_run : class_of 43 ≡ Run
unfolding class_of
plus_run = refl

pub number_run : (b : ℕ) → starts_number b ≡ true → class_of b ≡ Run
number_run b h = elim (cases_lt 44 b) [
  | inl late ↦ late-run b late
  | inr low ↦ elim (cases_eq b 43) [
    | inl e ↦ ap class_of e ∙ plus_run
    | inr n ↦ let clash : true ≡ false = sym h ∙ low_none b low n in cc
  ]
]

feed_white : class_of 10 ≡ White
unfolding class_of
feed_white = refl

run_in : (feed : Bool) (b : ℕ) → class_of b ≡ Run → class_in feed b ≡ Run
run_in feed b e = class-same feed b (λ q. let clash : White ≡ Run = sym feed_white ∙ ap class_of (sym q) ∙ e in cc) ∙ e

sight_first : (ps : List Spanned) (l : Lexeme) (rest : List Lexeme) → lexemes_of ps ≡ l ∷ rest → sight ps ≡ seen_of l
sight_first [] l rest e = cc
sight_first (p ∷ ps) l rest e = let same : p.lexeme ≡ l = cc in ap seen_of same

module _ (feed : Bool) (text : List ℕ) (at : ℕ) where
  -- a lexeme that is seen
  pub sees_one : (l : Lexeme) (end : ℕ) (k : LexemeKind) → TakesOne feed text at l end → k ≡ seen_of l → Sees feed text at k end
  sees_one l end k t is = record { sees = is ∙ sym (ap sight t.next); takes = λ some word. (l, t) }

  pub sees_mark : (b : ℕ) (l : Lexeme) (k : LexemeKind) → b ≡ get_or text at 0 → class_of b ≡ Mark l → k ≡ seen_of l → Sees feed text at k (at + 1)
  sees_mark b l k is mark e = sees_one l (at + 1) k (takes-mark feed text at l (ap (class_in feed) (sym is) ∙ classes.mark-in feed b l mark)) e

  number_first : (more : List ℕ) → starts_number (get_or text at 0) ≡ true → seen_of (lexeme_of (get_or text at 0 ∷ more)) ≡ seen.Number
  number_first more h = ap (λ t. seen_of (if t then Num (without_plus (get_or text at 0 ∷ more)) else Word (get_or text at 0 ∷ more))) h

  sight_number : starts_number (get_or text at 0) ≡ true → sight (remaining_spanned feed text at) ≡ seen.Number
  unfolding remaining
  sight_number h =
      let b = remaining-begins feed text at (run_in feed (get_or text at 0) (number_run (get_or text at 0) h)) in
      sight_first (remaining_spanned feed text at) _ b.1.0 b.1.1 ∙ number_first b.0 h

  pub sees_number : (end : ℕ) → starts_number (get_or text at 0) ≡ true → Sees feed text at seen.Number end
  sees_number end h = record { sees = sym (sight_number h); takes = λ some word. absurd (word refl) }

  first : (end : ℕ) → at < end → get_or (slice_range text at end) 0 0 ≡ get_or text at 0
  first end order = get_or-between text at end 0 0 (omega (arith, order)) ∙ ap (λ (i : ℕ). get_or text i 0) {x = at + 0} {y = at} (omega arith)

  word_lexeme : (run : List ℕ) → starts_number (get_or run 0 0) ≡ false → lexeme_of run ≡ Word run
  word_lexeme [] h = refl
  word_lexeme (b ∷ bs) h = ap (λ t. if t then Num (without_plus (b ∷ bs)) else Word (b ∷ bs)) h

  number_lexeme : (run : List ℕ) → starts_number (get_or run 0 0) ≡ true → lexeme_of run ≡ Num (without_plus run)
  number_lexeme [] h = let clash : false ≡ true = h in cc
  number_lexeme (b ∷ bs) h = ap (λ t. if t then Num (without_plus (b ∷ bs)) else Word (b ∷ bs)) h

  pub takes_word : (end : ℕ) → IsRunEnd text at end → end ≢ at → starts_number (get_or text at 0) ≡ false → TakesOne feed text at (Word (slice_range text at end)) end
  takes_word end e some starts =
      let run : List ℕ = slice_range text at end in
      let later : at < end = let order = e.order in omega (arith, order, some) in
      let word : lexeme_of run ≡ Word run = word_lexeme run (ap starts_number (first end later) ∙ starts) in
      subst (λ l. TakesOne feed text at l end) word (takes-run feed text at end e later)

  pub takes_digits : (end : ℕ) → IsRunEnd text at end → end ≢ at → starts_number (get_or text at 0) ≡ true → TakesOne feed text at (Num (without_plus (slice_range text at end))) end
  takes_digits end e some starts =
      let run : List ℕ = slice_range text at end in
      let later : at < end = let order = e.order in omega (arith, order, some) in
      let number : lexeme_of run ≡ Num (without_plus run) = number_lexeme run (ap starts_number (first end later) ∙ starts) in
      subst (λ l. TakesOne feed text at l end) number (takes-run feed text at end e later)

  -- a run that is no number
  pub sees_word : (end : ℕ) (k : LexemeKind) → IsRunEnd text at end → end ≢ at → starts_number (get_or text at 0) ≡ false → k ≡ seen_word (kind_word (slice_range text at end)) (slice_range text at end) → Sees feed text at k end
  sees_word end k e some starts is = sees_one (Word (slice_range text at end)) end k (takes_word end e some starts) is

  nul_there : (c : Class) → class_in feed (get_or text at 0) ≡ c → IsDark feed text at → IsUnmarked feed text at → class_of (get_or text at 0) ≢ Run → remaining_spanned feed text at ≡ []
  nul_there Nul e dark none stops = spanned-nul feed text at e
  nul_there White e dark none stops = absurd (dark e)
  nul_there (Mark l) e dark none stops = absurd (none l e)
  nul_there Run e dark none stops = absurd (stops (class-in-run feed (get_or text at 0) e))

  pub none_left : (end : ℕ) → IsRunEnd text at end → end ≡ at → IsDark feed text at → IsUnmarked feed text at → remaining_spanned feed text at ≡ []
  none_left end e here dark none =
      nul_there (class_in feed (get_or text at 0)) refl dark none (λ r. e.stops (ap (λ n. class_of (get_or text n 0)) here ∙ r))

  -- neither a mark nor a run
  pub sees_none : (end other : ℕ) → IsRunEnd text at end → end ≡ at → IsDark feed text at → IsUnmarked feed text at → Sees feed text at seen.Other other
  sees_none end other e here dark none =
      record { sees = sym (ap sight (none_left end e here dark none)); takes = λ some word. absurd (some refl) }

  -- No number is there that is read.
  module _ {N : Type 0} (read : List ℕ → Option N) where
    pub none_unread : Legible feed text at → IsDark feed text at → NoNumber read text at → IsUnread read (remaining_spanned feed text at)
    unfolding remaining
    none_unread legible dark h run end more is = no-number read feed text at legible dark h run (lexemes_of more) (ap lexemes_of is)

module _ (feed : Bool) where
  -- past the end nothing is seen
  pub past_sight : (text : List ℕ) (at : ℕ) → length text ≤ at → sight (remaining_spanned feed text at) ≡ seen.Other
  past_sight text at past = ap sight (spanned-past feed text at past)

  pub past_looked : (text : List ℕ) (at end : ℕ) → length text ≤ at → IsLooked feed text at end
  past_looked text at end past =
      let other = past_sight text at past in
      let number : sight (remaining_spanned feed text at) ≡ seen.Number → ⊥ = λ e. let clash : seen.Other ≡ seen.Number = sym other ∙ e in cc in
      record { takes = λ some word. absurd (some other); inside = λ e. absurd (number e); dark = λ e. absurd (number e) }

  pub looked_at : (text : List ℕ) (at end : ℕ) (k : LexemeKind) → at ≤ length text → IsDark feed text at → Sees feed text at k end → IsLooked feed text at end
  looked_at text at end k inside dark sees = record {
    takes = λ some word. sees.takes (λ e. some (sym sees.sees ∙ e)) (λ e. word (sym sees.sees ∙ e));
    inside = λ e. inside;
    dark = λ e. dark;
  }

-- between a place and a second, and between that and a third
pub between_more : (feed : Bool) (text : List ℕ) (from at to : ℕ) → IsBetween feed text from at → IsBetween feed text at to → IsBetween feed text from to
between_more feed text from at to a b =
    let first = a.order in
    let second = b.order in
    record {
      order = omega (arith, first, second);
      same = a.same ∙ b.same;
      white = λ k low high. elim (cases_lt k at) [
        | inl before ↦ a.white k low before
        | inr after ↦ b.white k after high
      ];
    }

-- What bytes do as a source.
module _ {N : Type 0} {n : ℕ} (feed : Bool) where
  -- no lexeme stands before
  pub stays_on : (s t : ByteCursor n) → s.text ≡ t.text → IsBetween feed s.text.now s.at t.at → (Legible feed s.text.now s.at → Legible feed t.text.now t.at) → Stays {N = N} (bytes_view feed) s t
  stays_on s t text between legible = record {
    remaining = ap (λ x. remaining_spanned feed x.now t.at) (sym text) ∙ sym between.same;
    behind = λ end k. subst (λ x. IsBetween feed x.now end t.at) text (between_more feed s.text.now end s.at t.at k between);
    keeps = λ j k. (ap (λ x. x.now) (sym text) ∙ k.0, legible k.1);
  }

  -- the lexeme at this place is taken
  pub skips_lexeme : (s t : ByteCursor n) (l : Lexeme) → TakesOne feed s.text.now s.at l t.at → t.text ≡ s.text → Skips {N = N} (bytes_view feed) s t
  skips_lexeme s t l takes text = record {
    lexeme = record { lexeme = l; end = t.at };
    remaining = takes.next ∙ ap (λ x. record { lexeme = l; end = t.at } ∷ remaining_spanned feed x.now t.at) (sym text);
    place = refl;
    keeps = λ j k. (ap (λ x. x.now) text ∙ k.0, subst (λ x. Legible feed x.now t.at) (sym text) (legible-one feed s.text.now s.at l t.at takes k.1));
  }

  -- the lexeme that was looked at is taken
  pub skips_to : (s t : ByteCursor n) → IsLooked feed s.text.now s.at s.end → sight (remaining_spanned feed s.text.now s.at) ≢ seen.Other → sight (remaining_spanned feed s.text.now s.at) ≢ seen.Number
      → t.text ≡ s.text → t.at ≡ s.end → Skips {N = N} (bytes_view feed) s t
  skips_to s t looked some word text at =
      let (l, takes) = looked.takes some word in
      skips_lexeme s t l (subst (TakesOne feed s.text.now s.at l) (sym at) takes) text

  pub skips_mark : (s t : ByteCursor n) (l : Lexeme) → class_of (get_or s.text.now s.at 0) ≡ Mark l → t.text ≡ s.text → t.at ≡ s.at + 1 → Skips {N = N} (bytes_view feed) s t
  skips_mark s t l mark text at =
      skips_lexeme s t l (subst (TakesOne feed s.text.now s.at l) (sym at) (takes-mark feed s.text.now s.at l (classes.mark-in feed (get_or s.text.now s.at 0) l mark))) text

  -- A number is taken, and made. White space may stand before it.
  pub numbers_after : {B : Type 0} (read : List ℕ → Option N) (maker : Maker N B) (s t : ByteCursor n) (b c : B) (axis : Axis) (at : ℕ) → remaining_spanned feed s.text.now s.at ≡ remaining_spanned feed s.text.now at → (Legible feed s.text.now s.at → Legible feed s.text.now at)
      → MakesNumber read maker b s.text.now at axis c t.at → t.text ≡ s.text → MakesOneNumber read (bytes_view feed) maker s b axis t c
  numbers_after read maker s t b c axis at same further h text =
      let takes = takes-number read feed s.text.now at t.at h.number h.there in
      record {
        run = without_plus (slice_range s.text.now at t.at);
        number = h.number;
        end = t.at;
        remaining = same ∙ takes.next ∙ ap (λ x. record { lexeme = Num (without_plus (slice_range s.text.now at t.at)); end = t.at } ∷ remaining_spanned feed x.now t.at) (sym text);
        place = refl;
        keeps = λ j k. (ap (λ x. x.now) text ∙ k.0, subst (λ x. Legible feed x.now t.at) (sym text) (legible-one feed s.text.now at _ t.at takes (further k.1)));
        reads = h.there.reads;
        makes = h.makes;
      }

-- At the beginning of a whole text all its lexemes are left.
pub whole_left : {n : ℕ} (text : List ℕ) (s : ByteCursor n) → s.text.now ≡ text → s.at ≡ 0 → remaining_spanned false s.text.now s.at ≡ spanned text
whole_left text s is at = ap (λ t. remaining_spanned false t s.at) is ∙ ap (remaining_spanned false text) at ∙ remaining-all text
