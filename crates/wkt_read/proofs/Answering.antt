-- From the lexemes of a stream to its text, and whether a word is ASCII.
use Rattle.std.proofs.Common.{◌≡◌, ℕ, ◌≤◌, ◌<◌, List, [], ◌∷◌, ◌++◌, length, sym, subst, refl, ap, ◌∙◌, arith, length-append, Option, Err, zero, suc, Bool, true, false}
use Rattle.std.specs.Prelude.{slice_index, ◌&&◌}
use Rattle.std.proofs.lemmas.List.{append_cancel_right}
use Rattle.std.specs.Char.{is_ascii}
use Rattle.wkt_num.specs.Bytes.{Lexeme, Open}
use Rattle.wkt_access.specs.Values.{Value}
use Rattle.wkt_read.specs.Lexemes.{IsSplit}
use Rattle.wkt_read.specs.Grammar.{StandFor, is_ascii_word}
use Rattle.wkt_read.specs.Front.{Front, HasNoFront}
use Rattle.wkt_read.specs.Spanned.{Spanned, lexemes_of, end_after, AreEnds, spanned, Standing}
use Rattle.wkt_read.specs.Stream.{remaining, rest, end_of, taken_of, IfLast, Advances, StreamGoesOn}
use Rattle.wkt_read.specs.Answered.{Begins, OnText, OnMessage}
use Rattle.wkt_read.specs.Begun.{NoneBegins}
use Rattle.wkt_read.specs.declared.error.ReadError.{ReadError}
use Rattle.wkt_read.specs.declared.error.ReadError.TheVariants.{Text, Memory}
use Rattle.wkt_read.proofs.Placings.{lexemes_of-append, spanned-split}
use Rattle.wkt_read.proofs.HeaderPlaces.{geometry-some, front-of-lexemes}
use Rattle.wkt_read.proofs.OnePlacing.{lexemes-length}
use Rattle.wkt_read.proofs.Splits.{split_one}
use Rattle.wkt_read.proofs.OneForm.{taken_begin}

-- From the lexemes of a stream to its text.

module _ where
  pub rest-is : (s : Standing) (ps : List Spanned) → remaining s ≡ ps → rest s ≡ lexemes_of ps
  unfolding rest
  rest-is s ps e = ap lexemes_of e

last-end : (x : Spanned) (given : List Spanned) (end : ℕ) → IfLast (x ∷ given) end → end_after x.end given ≡ end
last-end x [] end last = last
last-end x (y ∷ given) end last = last-end y given end last

long : (ls : List Lexeme) → (ls ≡ [] → ⊥) → 0 < length ls
long [] some = absurd (some refl)
long (l ∷ ls) some = omega arith

-- a lexeme that could have been the last one given
abbrev marked : Standing → Spanned
marked s = record { lexeme = Open; end = end_of s }

module _ (s t : Standing) where
  -- a stream that is after whatever another is after: so much of that was taken
  advanced : (x : Spanned) (given : List Spanned) → remaining s ≡ given ++ remaining t → x.end ≡ end_of s → IfLast (x ∷ given) (end_of t) → taken_of s ≤ taken_of t → Advances s t
  advanced x given split at last grows = record {
    given = given;
    split = split;
    end = sym (last-end x given (end_of t) last) ∙ ap (λ n. end_after n given) at;
    grows = grows;
  }

  pub advances : StreamGoesOn s t → Advances s t
  advances go = let b = go.keeps (marked s ∷ remaining s) (record { given = marked s ∷ []; split = refl; last = refl }) in pick b.given b.split b.last
    where
      pick : (given : List Spanned) → marked s ∷ remaining s ≡ given ++ remaining t → IfLast given (end_of t) → Advances s t
      pick [] e last = absurd (omega (arith, go.fewer, ap length e, ap length (rest-is s (remaining s) refl), ap length (rest-is t (remaining t) refl), lexemes-length (remaining s), lexemes-length (remaining t)))
      pick (x ∷ given) e last =
          let split : remaining s ≡ given ++ remaining t = cc in
          let same : marked s ≡ x = cc in
          advanced x given split (ap (λ (p : Spanned). p.end) (sym same)) last go.grows

module _ {T : Type 0} (read : List ℕ → Option T) where
  -- a geometry was read, so a lexeme was taken
  pub some-taken : (ls : List Lexeme) (v : Value T) (after : List Lexeme) → Begins read ls v after → length after < length ls
  some-taken ls v after (f, split, g) = omega (arith, long f (geometry-some read f v g), ap length split, length-append f after)

  -- where the front of a text ends
  pub to-front : (text : List ℕ) (s t : Standing) (v : Value T) → AreEnds text (remaining s) → end_of s ≡ 0 → Advances s t → Begins read (rest s) v (rest t) → Front read text v (end_of t)
  to-front text s t v are from_zero a (f, split, g) =
      let whole : lexemes_of a.given ++ rest t ≡ f ++ rest t = ap (λ l. lexemes_of a.given ++ l) (rest-is t (remaining t) refl) ∙ sym (lexemes_of-append a.given (remaining t)) ∙ ap lexemes_of (sym a.split) ∙ sym (rest-is s (remaining s) refl) ∙ split in
      let same : f ≡ lexemes_of a.given = sym (append_cancel_right (lexemes_of a.given) f (rest t) whole) in
      let at : end_of t ≡ end_after 0 a.given = a.end ∙ ap (λ n. end_after n a.given) from_zero in
      subst (Front read text v) (sym at) (front-of-lexemes read text a.given (remaining t) v (subst (AreEnds text) a.split are) (subst (λ l. StandFor read l v) same g))

  -- the lexemes of a text with a front begin with it
  pub from-front : (text : List ℕ) (s : Standing) (v : Value T) (end : ℕ) → remaining s ≡ spanned text → Front read text v end → (after : List Lexeme) × Begins read (rest s) v after
  from-front text s v end start front =
      let (more, is) = taken_begin text front.rest front.lexemes front.taken in
      let same : lexemes_of (spanned text) ≡ front.lexemes ++ more = split_one text _ _ (spanned-split text) is in
      (more, (front.lexemes, rest-is s (spanned text) start ∙ same, front.reads))

  pub split-of : (text : List ℕ) (s : Standing) → remaining s ≡ spanned text → IsSplit text (rest s)
  split-of text s start = subst (IsSplit text) (sym (rest-is s (spanned text) start)) (spanned-split text)

  pub no-front : (text : List ℕ) (s : Standing) → remaining s ≡ spanned text → NoneBegins read (rest s) → HasNoFront read text
  no-front text s start none v end front =
      let (after, (f, split, g)) = from-front text s v end start front in
      none f after v split g

-- an error that is passed on
pub text-map : (X Y : Type 0) (e : ReadError) (P Q : Type 0) → (P → Q) → OnText {X = X} (Err e) P → OnText {X = Y} (Err e) Q
text-map X Y (Text m) P Q f h = f h
text-map X Y (Memory m) P Q f h = tt

pub message-map : (X Y : Type 0) (e : ReadError) (m : List ℕ) (P Q : Type 0) → (P → Q) → OnMessage {X = X} (Err e) m P → OnMessage {X = Y} (Err e) m Q
message-map X Y (Text t) m P Q f h = λ e. f (h e)
message-map X Y (Memory t) m P Q f h = tt

-- Whether a word is ASCII.

pub all_ascii : (w : List ℕ) → ((i : ℕ) → slice_index w i < 128) → is_ascii_word w ≡ true
all_ascii [] h = refl
all_ascii (b ∷ w) h =
    let first : b < 128 = h 0 in
    let one : is_ascii b ≡ true = grind arith in
    let more : is_ascii_word w ≡ true = all_ascii w (λ i. h (suc i)) in
    rw one more

either : (x y : Bool) → y ≡ false → (x && y) ≡ false
either true y e = e
either false y e = refl

pub not_ascii : (w : List ℕ) (i : ℕ) → 128 ≤ slice_index w i → is_ascii_word w ≡ false
not_ascii [] i h = absurd (omega (arith, h))
not_ascii (b ∷ w) zero h =
    let one : is_ascii b ≡ false = grind (arith, h) in
    rw one refl
not_ascii (b ∷ w) (suc i) h = either (is_ascii b) (is_ascii_word w) (not_ascii w i h)
