-- What a text builder has written, and what it makes of events.
use Rattle.std.proofs.Common.{refl, sym, ap, subst, ◌∙◌, arith, inl, inr}
use Rattle.std.specs.Prelude.{◌≡◌, ℕ, ◌+◌, ◌≤◌, List, ◌++◌, length, take, IsUtf8, ◌-◌, ◌*◌, ◌<◌, [], ◌∷◌, get_or, slice_range, Option, IfSome, IfNone, IsTrue}
use Rattle.std.specs.List.{AllByRecursion}
use Rattle.std.proofs.lemmas.Bool.{cases_lt}
use Rattle.wkt_canonical.specs.Written.{EventsWritten, write, write_all}
use Rattle.wkt_canonical.specs.declared.text_builder.TextBuilder.{TextBuilder}
use Rattle.wkt_read.specs.Lexemes.{starts_number, without_plus}
use Rattle.wkt_events.specs.Remaining.{IsRunEnd, IsNumberAt, NoNumber}
use Rattle.wkt_machine.specs.Events.{Event}
use Rattle.wkt_machine.specs.Makers.{Maker}
use Rattle.wkt_machine.specs.Room.{number_cost}
use Rattle.wkt_canonical.specs.Canonical.{HasLongText}

-- What a text builder has written.

-- what a text builder has written, and where in it the parenthesis of the last polygon stands
abbrev pub written_of : {P : Type 0} → TextBuilder P → EventsWritten
written_of p = record { bytes = take p.len p.out.now; polygon = p.polygon }

-- There are so many bytes behind what is written.
abbrev pub HasBytes : {P : Type 0} → TextBuilder P → ℕ → Type 0
HasBytes p n = p.len + n ≤ length p.out.now

-- This is written now, in the same bytes, by a text builder of the same numbers. What stands behind it does not count.
pub record TextBuilderBecomes {P : Type 0} (before : TextBuilder P) (w : EventsWritten) (after : TextBuilder P) : Type 0 where
  pub numbers : after.numbers ≡ before.numbers
  pub origin : after.out.ghost_name ≡ before.out.ghost_name
  pub whole : length after.out.now ≡ length before.out.now
  pub written : written_of after ≡ w

-- The text was added to what was written, in the same bytes.
pub record Extends {P : Type 0} (before : TextBuilder P) (text : List ℕ) (after : TextBuilder P) : Type 0 where
  pub numbers : after.numbers ≡ before.numbers
  pub origin : after.out.ghost_name ≡ before.out.ghost_name
  pub whole : length after.out.now ≡ length before.out.now
  pub len : after.len ≡ before.len + length text
  pub polygon : after.polygon ≡ before.polygon
  pub written : take after.len after.out.now ≡ take before.len before.out.now ++ text

-- A text was put behind what is written, unless the text builder is stuck and has a byte less.
pub record Wrote {P : Type 0} (before : TextBuilder P) (text : List ℕ) (after : TextBuilder P) : Type 0 where
  pub numbers : after.numbers ≡ before.numbers
  pub shorter : length after.out.now ≤ length before.out.now
  pub unless : length after.out.now ≡ length before.out.now → Extends before text after

-- What is written lies within the bytes of the text builder.
abbrev pub IsWithin : {P : Type 0} → TextBuilder P → Type 0
IsWithin p = p.len ≤ length p.out.now

-- The text builder has written nothing, and has these numbers, and as many bytes as these.
pub record IsFresh {P : Type 0} (given : P) (room : List ℕ) (builder : TextBuilder P) : Type 0 where
  pub numbers : builder.numbers ≡ given
  pub whole : length builder.out.now ≡ length room
  pub none : builder.len ≡ 0
  pub first : builder.polygon ≡ 0

-- The text builder has these numbers, and a byte less than so many, and has written nothing.
pub record IsTextBuilderStuck {P : Type 0} (given : P) (n : ℕ) (builder : TextBuilder P) : Type 0 where
  pub numbers : builder.numbers ≡ given
  pub less : length builder.out.now + 1 ≡ n
  pub none : builder.len ≡ 0

-- A number's text was added, and is UTF-8.
pub record WritesNumber {P N : Type 0} (num : N → List ℕ) (before : TextBuilder P) (number : N) (after : TextBuilder P) : Type 0 where
  pub extends : Extends before (num number) after
  pub utf8 : IsUtf8 (num number)

-- What a text builder makes of events.

-- The fact holds of the number of an event, if it has one.
abbrev pub OnNumber : {N : Type 0} → (N → Type 0) → Event N → Type 0
OnNumber P (Event.Number a x) = P x
OnNumber P e = Unit {0}

-- The fact holds of each number of the events.
abbrev pub EachNumber : {N : Type 0} → (N → Type 0) → List (Event N) → Type 0
EachNumber P es = AllByRecursion (OnNumber P) es

each_append : {N : Type 0} (P : N → Type 0) (es fs : List (Event N)) → EachNumber P es → EachNumber P fs → EachNumber P (es ++ fs)
each_append P [] fs h k = k
each_append P (e ∷ es) fs (h, hs) k = (h, each_append P es fs hs k)

pub write_append : {N : Type 0} (num : N → List ℕ) (es fs : List (Event N)) (w : EventsWritten) → write_all num (es ++ fs) w ≡ write_all num fs (write_all num es w)
write_append num [] fs w = refl
write_append num (e ∷ es) fs w = write_append num es fs (write num e w)

module _ {P N : Type 0} (read : List ℕ → Option N) (num : N → List ℕ) where
  -- Unless the text builder is stuck, it has written the events, and the text of each number is UTF-8. Where it is stuck a number's text is long.
  pub record Made (s : TextBuilder P) (es : List (Event N)) (t : TextBuilder P) : Type 0 where
    pub numbers : t.numbers ≡ s.numbers
    pub shorter : length t.out.now ≤ length s.out.now
    pub wrote : length t.out.now ≡ length s.out.now → TextBuilderBecomes s (write_all num es (written_of s)) t
    pub texts : length t.out.now ≡ length s.out.now → EachNumber (λ x. IsUtf8 (num x)) es
    pub stuck : length t.out.now < length s.out.now → HasLongText read num

  pub makes_none : (s : TextBuilder P) → Made s [] s
  makes_none s = record {
    numbers = refl;
    shorter = omega arith;
    wrote = λ _. record { numbers = refl; origin = refl; whole = refl; written = refl };
    texts = λ _. tt;
    stuck = λ less. absurd (omega (arith, less));
  }

  becomes_more : (s t u : TextBuilder P) (es fs : List (Event N)) → TextBuilderBecomes s (write_all num es (written_of s)) t → TextBuilderBecomes t (write_all num fs (written_of t)) u → TextBuilderBecomes s (write_all num (es ++ fs) (written_of s)) u
  becomes_more s t u es fs h k = record {
    numbers = k.numbers ∙ h.numbers;
    origin = k.origin ∙ h.origin;
    whole = k.whole ∙ h.whole;
    written = k.written ∙ ap (write_all num fs) h.written ∙ sym (write_append num es fs (written_of s));
  }

  pub makes_more : (s t u : TextBuilder P) (es fs : List (Event N)) → Made s es t → Made t fs u → Made s (es ++ fs) u
  makes_more s t u es fs h k =
      let first = h.shorter in let then = k.shorter in
      record {
        numbers = k.numbers ∙ h.numbers;
        shorter = omega (arith, first, then);
        wrote = λ e. becomes_more s t u es fs (h.wrote (omega (arith, first, then, e))) (k.wrote (omega (arith, first, then, e)));
        texts = λ e. each_append (λ x. IsUtf8 (num x)) es fs (h.texts (omega (arith, first, then, e))) (k.texts (omega (arith, first, then, e)));
        stuck = λ less. elim (cases_lt (length t.out.now) (length s.out.now)) [ inl one ↦ h.stuck one | inr none ↦ k.stuck (omega (arith, first, then, less, none)) ];
      }

  -- There is room for so much and two windows of 32 bytes behind it.
  abbrev pub Fits : TextBuilder P → ℕ → Type 0
  Fits p n = p.len + n + 64 ≤ length p.out.now

  pub fits_less : (s : TextBuilder P) (m n : ℕ) → m ≤ n → Fits s n → Fits s m
  fits_less s m n order h = omega (arith, order, h)

-- What is made is text. A number takes its text and a space before it.
abbrev pub text_builder_maker : {P N : Type 0} → (P → List ℕ → Option N) → (P → N → List ℕ) → Maker N (TextBuilder P)
text_builder_maker {P} {N} read num = record {
  makes = λ s. Made (read s.numbers) (num s.numbers) s;
  reads = λ s. read s.numbers;
  fits = λ s. Fits (read s.numbers) (num s.numbers) s;
  takes = λ s x. length (num s.numbers x) + 1;
  none = λ s. makes_none (read s.numbers) (num s.numbers) s;
  more = λ s t u es fs h k. makes_more (read s.numbers) (num s.numbers) s t u es fs h (subst (λ (p : P). Made (read p) (num p) t fs u) h.numbers k);
  same = λ s t es h. (ap {B = List ℕ → Option N} read h.numbers, ap {B = N → ℕ} (λ p x. length (num p x) + 1) h.numbers);
  less = λ s. fits_less (read s.numbers) (num s.numbers) s;
}

-- A space may have been written, and there is room for the number that stands in the bytes.
pub record HasSpace {P : Type 0} (p : TextBuilder P) (text : List ℕ) (at : ℕ) : Type 0 where
  pub some : p.len + 63 ≤ length p.out.now
  pub run : (end : ℕ) → IsRunEnd text at end → at < end → IsTrue (starts_number (get_or text at 0)) → p.len + number_cost (without_plus (slice_range text at end)) + 63 ≤ length p.out.now

-- The number at this place ends at `end`, and its text was written and is UTF-8, unless the text builder is stuck: then the text is long. Room for what follows is left.
pub record Numbered {P N : Type 0} (read : List ℕ → Option N) (num : N → List ℕ) (text : List ℕ) (at : ℕ) (before after : TextBuilder P) (end : ℕ) : Type 0 where
  pub number : N
  pub there : IsNumberAt read text at end number
  pub wrote : Wrote before (num number) after
  pub utf8 : length after.out.now ≡ length before.out.now → IsUtf8 (num number)
  pub stuck : length after.out.now < length before.out.now → number_cost (without_plus (slice_range text at end)) ≤ length (num number)
  pub room : (m : ℕ) → m ≤ 2 * (length text - end) + 1 → before.len + m + number_cost (without_plus (slice_range text at end)) + 63 ≤ length before.out.now → after.len + m + 64 ≤ length after.out.now

-- The number at this place was put, and its end is returned; or there is none, and the text builder is as it was.
pub record PutsNumber {P N : Type 0} (read : List ℕ → Option N) (num : N → List ℕ) (text : List ℕ) (at : ℕ) (before after : TextBuilder P) (end : Option ℕ) : Type 0 where
  pub some : IfSome end (Numbered read num text at before after)
  pub none : IfNone end (NoNumber read text at)
  pub nothing : IfNone end (after ≡ before)
