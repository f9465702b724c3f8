-- What is read off tokens, and which of them are taken.
use Rattle.std.proofs.Common.{◌≡◌, ◌≤◌, ℕ, suc, ◌+◌, List, [], ◌∷◌, ◌++◌, append_assoc, refl, sym, ap, ◌∙◌, arith, Option, Some, None, true, false, if◌then◌else◌, ◌<◌, length, subst, Result, Ok, Err}
use Rattle.std.specs.Prelude.{IfOk}
use Rattle.std.specs.declared.alloc.AllocError.{AllocError}
use Rattle.wkt_num.specs.Bytes.{Lexeme, Open}
use Rattle.wkt_read.specs.Stream.{remaining, end_of, taken_of, Moves, Advances, rest, IsNear, IsFirst, TakesNext}
use Rattle.wkt_read.specs.Spanned.{end_after, Spanned, lexemes_of, AreEnds, Standing}
use Rattle.wkt_read.specs.declared.messages.Message.{Message}
use Rattle.wkt_read.specs.Table.{at_place, left_at, stays, closing, closings}
use Rattle.wkt_read.specs.declared.expected.Expected.{Expected}
use Rattle.wkt_machine.specs.Refusing.{stays_first, blamed, refused}
use Rattle.wkt_machine.proofs.WaysJoin.{end_append, lexemes_append, end_last}
use Rattle.wkt_access.specs.Values.{Value}
use Rattle.wkt_types.specs.Tree.{Tree, tree}
use Rattle.wkt_types.specs.declared.geometry.Wkt.{Wkt}
use Rattle.wkt_read.specs.Answered.{Begins, IsReadOff, IsFront, OnText, OnMessage}
use Rattle.wkt_read.specs.Items.{HasBad, bad_number}
use Rattle.wkt_read.specs.Begun.{NoneBegins, StopsEarly}
use Rattle.wkt_read.specs.Front.{NeedsNoMemory}
use Rattle.wkt_read.specs.Messages.{message_text}
use Rattle.wkt_read.specs.Refusal.{HasMessage, IsRefused as SaysOf, IfText}
use Rattle.wkt_read.specs.declared.error.ReadError.{ReadError}
use Rattle.wkt_read.specs.declared.error.ReadError.TheVariants.{Text, Memory}
use Rattle.wkt_read.proofs.Refusals.{one-text, message_none, message_bad}
use Rattle.wkt_read.proofs.OneForm.{geometry_one}
use Rattle.wkt_read.proofs.Answering.{rest-is, some-taken, to-front}
use Rattle.wkt_machine.specs.Goes.{IsStuck}
use Rattle.wkt_machine.specs.Machines.{state_of}
use Rattle.wkt_sources.specs.Views.{tokens_view}
use Rattle.wkt_sources.specs.Taken.{TakesValue, MachineRefuses}
use Rattle.wkt_values.specs.Values.{IsRead, OnMemory, OnRefused, WantsMemory}
use Rattle.wkt_machine.specs.declared.machine.Machine.{Machine}
use Rattle.wkt_sources.specs.declared.tokens.TokenSource.{TokenSource}
use Rattle.wkt_values.specs.declared.value.Unread.{Unread}
use Rattle.wkt_values.specs.declared.value.Unread.TheVariants.{Refused, Memory as Unmade}
use Rattle.wkt_machine.proofs.WholeRuns.{message_early}
use Rattle.wkt_sources.proofs.TableMessages.{IsStuckAt, has_message}
use Rattle.wkt_read.specs.declared.messages.Message.TheVariants as message

-- The tokens that are taken where they are refused.

-- Some tokens are taken, and then others.
pub advances_then : (s t u : Standing) → Advances s t → Advances t u → Advances s u
advances_then s t u a b =
    let more = a.grows in
    let yet = b.grows in record {
      given = a.given ++ b.given;
      split = a.split ∙ ap (λ l. a.given ++ l) b.split ∙ sym (append_assoc a.given b.given (remaining u));
      end = b.end ∙ ap (λ n. end_after n b.given) a.end ∙ sym (end_append (end_of s) a.given b.given);
      grows = omega (arith, more, yet);
    }

-- Nothing is taken.
pub advances_none : (s t : Standing) → remaining t ≡ remaining s → end_of t ≡ end_of s → taken_of s ≤ taken_of t → Advances s t
advances_none s t same end grows = record { given = []; split = sym same; end = end; grows = grows }

-- One is, if there is one.
pub advances_one : (s : Standing) (l : Option Lexeme) (t : Standing) → Moves s l t → Advances s t
advances_one s None t h = record { given = []; split = h.0 ∙ sym h.1; end = h.2; grows = h.3 }
advances_one s (Some l) t h = record { given = record { lexeme = l; end = end_of t } ∷ []; split = h.0; end = refl; grows = h.3 }

module _ {T : Type 0} (read : List ℕ → Option T) where
  behind : (m : Message) (l : Lexeme) (r : List Lexeme) → (closing read m (l ∷ r)).1 ≡ r
  behind m Open r = refl
  behind m l r = refl

  -- one parenthesis had to close
  pub closes_one : (n j : ℕ) (m k : Message) (l : Option Lexeme) (ls rs : List Lexeme) → j + 1 ≡ n → TakesNext l ls rs → k ≡ (closing read m ls).0 → closings read n m ls ≡ closings read j k rs
  closes_one n j m k l ls rs count takes is =
      let more : n ≡ suc j = omega (arith, count) in
      ap (λ n. closings read n m ls) more ∙ ap (λ k. closings read j k (closing read m ls).1) (sym is) ∙ ap (closings read j k) (after l takes)
    where
      after : (l : Option Lexeme) → TakesNext l ls rs → (closing read m ls).1 ≡ rs
      after None h = ap (λ ls. (closing read m ls).1) h.0 ∙ sym h.1
      after (Some l) h = ap (λ ls. (closing read m ls).1) h ∙ behind m l rs

  -- the token that is refused is taken
  pub blames_taken : (e : Expected) (m : Message) (l : Option Lexeme) (ls rs : List Lexeme) → TakesNext l ls rs → stays_first read e ls ≡ false → m ≡ at_place read e ls → (m, rs) ≡ blamed read e ls
  blames_taken e m None ls rs h taken is = let clash : true ≡ false = ap (stays_first read e) (sym h.0) ∙ taken in cc
  blames_taken e m (Some l) ls rs h taken is =
      let goes : stays read e l ≡ false = ap (stays_first read e) (sym h) ∙ taken in
      let after : left_at read e ls ≡ rs = ap (left_at read e) h ∙ ap (λ b. if b then l ∷ rs else rs) goes in
      ap (λ m. (m, rs)) is ∙ ap (λ r. (at_place read e ls, r)) (sym after)

  all_left : (e : Expected) (ls : List Lexeme) → stays_first read e ls ≡ true → left_at read e ls ≡ ls
  all_left e [] h = refl
  all_left e (l ∷ r) h = ap (λ b. if b then l ∷ r else r) h

  -- it stays
  pub blames_stays : (e : Expected) (m : Message) (ls : List Lexeme) → stays_first read e ls ≡ true → m ≡ at_place read e ls → (m, ls) ≡ blamed read e ls
  blames_stays e m ls kept is = ap (λ m. (m, ls)) is ∙ ap (λ r. (at_place read e ls, r)) (sym (all_left e ls kept))

-- What is taken comes first.
pub first_taken : (l : Option Lexeme) (ls rs : List Lexeme) → TakesNext l ls rs → IsFirst l ls
first_taken None ls rs h = h.0
first_taken (Some l) ls rs h = (rs, h)

-- What is read off tokens, by what the machine took of them.

rest-append : (s : Standing) (given more : List Spanned) → remaining s ≡ given ++ more → rest s ≡ lexemes_of given ++ lexemes_of more
rest-append s given more e = rest-is s (given ++ more) e ∙ lexemes_append given more

module _ {T : Type 0} (read : List ℕ → Option T) (a b : TokenSource T) where
  takes_begins : (v : Value T) → TakesValue read (tokens_view read) a v b → Begins read (rest a.tokens.now) v (rest b.tokens.now)
  takes_begins v h =
      let given : List Spanned = h.given ++ (h.last ∷ []) in
      (lexemes_of given, rest-append a.tokens.now given (remaining b.tokens.now) (h.split ∙ sym (append_assoc h.given (h.last ∷ []) (remaining b.tokens.now))) ∙ ap (λ l. lexemes_of given ++ l) (sym (rest-is b.tokens.now (remaining b.tokens.now) refl)), h.stands)

  -- what is read
  pub read_found : (w : Tree T) → IsRead read (tokens_view read) a w b → IsReadOff read (rest a.tokens.now) w (rest b.tokens.now)
  read_found w (v, takes, is) = (v, takes_begins v takes, is)

  pub read_taken : (w : Tree T) → IsRead read (tokens_view read) a w b → length (rest b.tokens.now) < length (rest a.tokens.now)
  read_taken w (v, takes, is) = some-taken read (rest a.tokens.now) v (rest b.tokens.now) (takes_begins v takes)

  pub takes_advances : (v : Value T) → TakesValue read (tokens_view read) a v b → Advances a.tokens.now b.tokens.now
  takes_advances v h = record {
    given = h.given ++ (h.last ∷ []);
    split = h.split ∙ sym (append_assoc h.given (h.last ∷ []) (remaining b.tokens.now));
    end = h.place.0 ∙ sym (end_last (end_of a.tokens.now) h.given h.last);
    grows = h.keeps (taken_of a.tokens.now) (omega arith);
  }

  pub read_near : (w : Tree T) → IsRead read (tokens_view read) a w b → IsNear b.tokens.now
  read_near w (v, takes, is) = takes.place.1

  -- there is no memory
  pub wants_free : WantsMemory read (tokens_view read) a b → (v : Value T) (after : List Lexeme) → Begins read (rest a.tokens.now) v after → NeedsNoMemory v → ⊥
  wants_free (w, takes, wants) v after (f, split, g) free =
      let (k, split2, stands) = takes_begins w takes in
      let one = geometry_one read v w f k after (rest b.tokens.now) g stands (sym split ∙ split2) in
      wants (subst NeedsNoMemory one.value free)

  -- no geometry comes next
  module _ (m : Machine) (h : MachineRefuses read (tokens_view read) a m b) where
    pub refused_advances : Advances a.tokens.now b.tokens.now
    refused_advances = record { given = h.taken; split = h.split; end = h.behind (end_of a.tokens.now) refl; grows = h.keeps (taken_of a.tokens.now) (omega arith) }

    stuck_at : (ps : List Spanned) → IsStuck read m ps → IsStuckAt read (state_of m) (lexemes_of ps)
    stuck_at [] k = tt
    stuck_at (p ∷ ps) k = k

    -- the message, and what is left behind it
    module _ (k : Message) (after : Standing) (is : (k, rest after) ≡ refused read (state_of m) (rest b.tokens.now)) where
      pub said : HasMessage read (rest a.tokens.now) k (rest after)
      said =
          has_message read (lexemes_of h.taken) (state_of m) h.events h.ran h.is_open (lexemes_of (remaining b.tokens.now)) (rest a.tokens.now) (rest after) k
          (rest-append a.tokens.now h.taken (remaining b.tokens.now) h.split) (stuck_at (remaining b.tokens.now) (h.stuck 0 (omega arith))) (is ∙ ap (refused read (state_of m)) (rest-is b.tokens.now (remaining b.tokens.now) refl))

      pub none_there : NoneBegins read (rest a.tokens.now)
      none_there = message_none read (rest a.tokens.now) k (rest after) said

      pub early_there : StopsEarly read (rest a.tokens.now) (rest after)
      early_there = message_early read (rest a.tokens.now) k (rest after) said

      pub bad_there : (text : List ℕ) → text ≡ message_text k → text ≡ bad_number → HasBad read (rest a.tokens.now)
      bad_there text says bad = message_bad read (rest a.tokens.now) k (rest after) said (one-text k message.BadNumber (sym says ∙ bad))

      pub refusal_there : (text : List ℕ) → text ≡ message_text k → SaysOf read (rest a.tokens.now) text (rest after)
      refusal_there text says = (k, says, said)

-- what an answer says of its case
off_ok : {X : Type 0} (P : X → Type 0) (x : X) (r : Result X Unread) → r ≡ Ok x → IfOk r P → P x
off_ok P x r e h = subst (λ r. IfOk r P) e h

off_memory : {X : Type 0} (P : Type 0) (x : AllocError) (u : Unread) (r : Result X Unread) → r ≡ Err u → u ≡ Unmade x → OnMemory r P → P
off_memory {X} P x u r e is h = subst (λ u. OnMemory {X = X} (Err u) P) is (subst (λ r. OnMemory r P) e h)

off_refused : {X : Type 0} (P : Machine → Type 0) (m : Machine) (u : Unread) (r : Result X Unread) → r ≡ Err u → u ≡ Refused m → OnRefused r P → P m
off_refused {X} P m u r e is h = subst (λ u. OnRefused {X = X} (Err u) P) is (subst (λ r. OnRefused r P) e h)

-- The same where the code has it: the source over the tokens at `s` is read, and its tokens are at `t`.
module _ {T : Type 0} (read : List ℕ → Option T) (a b : TokenSource T) (s t : Standing) (before : a.tokens.now ≡ s) (behind : t ≡ b.tokens.now) (r : Result (Wkt T) Unread) where
  there : (P : Standing → Standing → Type 0) → P a.tokens.now b.tokens.now → P s t
  there P h = subst (λ s. P s t) before (subst (P a.tokens.now) (sym behind) h)

  module _ (w : Wkt T) (is : r ≡ Ok w) (h : IfOk r (λ w. IsRead read (tokens_view read) a (tree w) b)) where
    off : IsRead read (tokens_view read) a (tree w) b
    off = off_ok (λ w. IsRead read (tokens_view read) a (tree w) b) w r is h

    pub ok_found : IsReadOff read (rest s) (tree w) (rest t)
    ok_found = there (λ s t. IsReadOff read (rest s) (tree w) (rest t)) (read_found read a b (tree w) off)

    pub ok_taken : length (rest t) < length (rest s)
    ok_taken = there (λ s t. length (rest t) < length (rest s)) (read_taken read a b (tree w) off)

    pub ok_advances : Advances s t
    ok_advances = let (v, takes, of) = off in there Advances (takes_advances read a b v takes)

    pub ok_near : IsNear t
    ok_near = there (λ s t. IsNear t) (read_near read a b (tree w) off)

  module _ (u : Unread) (is : r ≡ Err u) where
    module _ (x : AllocError) (unmade : u ≡ Unmade x) (h : OnMemory r (WantsMemory read (tokens_view read) a b)) where
      wants : WantsMemory read (tokens_view read) a b
      wants = off_memory (WantsMemory read (tokens_view read) a b) x u r is unmade h

      pub memory_free : (v : Value T) (after : List Lexeme) → Begins read (rest s) v after → NeedsNoMemory v → ⊥
      memory_free = there (λ s t. (v : Value T) (after : List Lexeme) → Begins read (rest s) v after → NeedsNoMemory v → ⊥) (wants_free read a b wants)

      pub memory_advances : Advances s t
      memory_advances = let (v, takes, needs) = wants in there Advances (takes_advances read a b v takes)

    module _ (m : Machine) (stuck : u ≡ Refused m) (h : OnRefused r (λ m. MachineRefuses read (tokens_view read) a m b)) where
      at_stuck : MachineRefuses read (tokens_view read) a m b
      at_stuck = off_refused (λ m. MachineRefuses read (tokens_view read) a m b) m u r is stuck h

      pub stuck_next : IsStuck read m (remaining t)
      stuck_next = let low : 0 ≤ taken_of a.tokens.now = omega arith in subst (λ (t : Standing). IsStuck read m (remaining t)) (sym behind) (at_stuck.stuck 0 low)

      pub stuck_advances : (after : Standing) → Advances t after → Advances s after
      stuck_advances after more = advances_then s t after (there Advances (refused_advances read a b m at_stuck)) more

      -- the message, and what is left behind it
      module _ (k : Message) (after : Standing) (says : (k, rest after) ≡ refused read (state_of m) (rest t)) where
        said_there : (k, rest after) ≡ refused read (state_of m) (rest b.tokens.now)
        said_there = says ∙ ap (λ (t : Standing). refused read (state_of m) (rest t)) behind

        pub stuck_none : NoneBegins read (rest s)
        stuck_none = there (λ s t. NoneBegins read (rest s)) (none_there read a b m at_stuck k after said_there)

        pub stuck_early : StopsEarly read (rest s) (rest after)
        stuck_early = there (λ s t. StopsEarly read (rest s) (rest after)) (early_there read a b m at_stuck k after said_there)

        pub stuck_bad : (text : List ℕ) → text ≡ message_text k → text ≡ bad_number → HasBad read (rest s)
        stuck_bad text is bad = there (λ s t. HasBad read (rest s)) (bad_there read a b m at_stuck k after said_there text is bad)

        pub stuck_refusal : (text : List ℕ) → text ≡ message_text k → SaysOf read (rest s) text (rest after)
        stuck_refusal text is = there (λ s t. SaysOf read (rest s) text (rest after)) (refusal_there read a b m at_stuck k after said_there text is)

module _ {T : Type 0} (read : List ℕ → Option T) (text : List ℕ) (s t : Standing) where
  -- what was read off all lexemes of a text is its front's
  pub front : (r : Result (Wkt T) ReadError) → AreEnds text (remaining s) → end_of s ≡ 0 → Advances s t → IfOk r (λ w. IsReadOff read (rest s) (tree w) (rest t)) → IfOk r (λ w. IsFront read text (tree w))
  front (Ok w) are from_zero advances (v, begins, is) = (end_of t, (v, to-front read text s t v are from_zero advances begins, is))
  front (Err e) are from_zero advances h = tt

pub on-text : {X : Type 0} (r : Result X ReadError) (P Q : Type 0) → (P → Q) → OnText r P → OnText r Q
on-text (Ok x) P Q f h = tt
on-text (Err (Text m)) P Q f h = f h
on-text (Err (Memory e)) P Q f h = tt

pub on-message : {X : Type 0} (r : Result X ReadError) (m : List ℕ) (P Q : Type 0) → (P → Q) → OnMessage r m P → OnMessage r m Q
on-message (Ok x) m P Q f h = tt
on-message (Err (Text t)) m P Q f h = λ e. f (h e)
on-message (Err (Memory e)) m P Q f h = tt

pub if-text : {X : Type 0} (r : Result X ReadError) (P Q : List ℕ → Type 0) → ((said : List ℕ) → P said → Q said) → IfText r P → IfText r Q
if-text (Ok x) P Q f h = tt
if-text (Err (Text m)) P Q f h = f m.now h
if-text (Err (Memory e)) P Q f h = tt

pub if-text-err : (X Y : Type 0) (e : ReadError) (P Q : List ℕ → Type 0) → ((said : List ℕ) → P said → Q said) → IfText {X = X} (Err e) P → IfText {X = Y} (Err e) Q
if-text-err X Y (Text m) P Q f h = f m.now h
if-text-err X Y (Memory e) P Q f h = tt
