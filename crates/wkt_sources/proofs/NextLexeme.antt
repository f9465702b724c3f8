-- What is seen of the lexeme that comes next, and the messages that go by it.
use Rattle.std.proofs.Common.{◌≡◌, ◌==◌, ℕ, suc, ◌-◌, List, [], ◌∷◌, refl, sym, ap, ◌∙◌, subst, Option, Some, None, Bool, true, false, if◌then◌else◌, ◌≢◌, zero, ◌+◌, ◌<◌, ◌≤◌, length, get_or, slice_range, arith, IsUtf8, ◌++◌, take}
use Rattle.std.specs.Borrow.{Bor}
use Rattle.wkt_num.specs.Bytes.{Lexeme, Num, Word, Mark, class_of, Close}
use Rattle.wkt_access.specs.declared.dimensions.Dimension.{Dimension}
use Rattle.wkt_access.specs.declared.dimensions.Dimension.TheVariants.{XY, XYZ, XYM, XYZM}
use Rattle.wkt_read.specs.Stream.{first_of, IsFirst, TakesNext}
use Rattle.wkt_read.specs.Spanned.{Spanned, lexemes_of}
use Rattle.wkt_read.specs.Table.{at_bad, at_number, stays, at_end, at_place, closing, closings}
use Rattle.wkt_read.specs.declared.expected.Expected.{Expected}
use Rattle.wkt_machine.specs.declared.step.Action.{Action}
use Rattle.wkt_machine.specs.declared.step.Action.TheVariants as act
use Rattle.wkt_machine.specs.Refusing.{expected_at, last_number, number_expected, blamed, is_number, takes_number}
use Rattle.wkt_machine.specs.Goes.{IsStuck}
use Rattle.wkt_machine.specs.Machine.{at, move, moved, number_step, numbers_after, said, Place, State}
use Rattle.wkt_machine.specs.Machines.{state_of}
use Rattle.wkt_machine.specs.Machine as place
use Rattle.wkt_machine.specs.declared.machine.Machine.{Machine}
use Rattle.wkt_read.specs.declared.expected.Expected.TheVariants as expected
use Rattle.wkt_read.specs.declared.messages.Message.TheVariants as message
use Rattle.wkt_machine.specs.declared.part.Part.TheVariants as part
use Rattle.wkt_read.specs.Lexemes.{starts_number, without_plus}
use Rattle.wkt_read.specs.declared.messages.Message.{Message}
use Rattle.wkt_events.specs.Remaining.{class_in, remaining, remaining_spanned, IsRunEnd, TakesOne, IsNumberAt, NoNumber}
use Rattle.wkt_events.proofs.RemainingLexemes.{takes-after, takes-remaining, takes-mark, takes-number}
use Rattle.wkt_events.proofs.RemainingLexemes as classes
use Rattle.wkt_machine.specs.View.{IsDark, IsUnmarked}
use Rattle.wkt_sources.specs.LexemesAhead.{ShowsLexeme, GivesNext}
use Rattle.wkt_sources.specs.declared.message.NextLexeme.{NextLexeme}
use Rattle.wkt_sources.proofs.ByteViews.{none_left, none_unread, number_run, takes_word, takes_digits}
use Rattle.wkt_sources.specs.declared.message.NextLexeme.TheVariants as given

-- A number that isn't read, where a number may stand.

-- where a number may stand, one that isn't read is blamed, and taken
number_bad : (d : Dimension) (more : ℕ) → at_bad (number_expected d more) ≡ message.BadNumber
number_bad d more = go (more == 0) (more == numbers_after d) (suc more == numbers_after d) d
  where
    go : (a b c : Bool) (d : Dimension) → at_bad (if a then last_number d else (if b then expected.X else (if c then expected.Y else expected.Z))) ≡ message.BadNumber
    go true b c XY = refl
    go true b c XYZ = refl
    go true b c XYM = refl
    go true b c XYZM = refl
    go false true c d = refl
    go false false true d = refl
    go false false false d = refl

pub place_bad : (p : Place) (n : ℕ) → takes_number p ≡ true → at_bad (expected_at p n) ≡ message.BadNumber
place_bad (place.Number p d more) n takes = number_bad d more
place_bad (place.Opening part.Member d) n takes = refl
place_bad p n takes = let no : ⊥ = cc in absurd no

module _ {N : Type 0} (read : List ℕ → Option N) where
  -- a number with which the machine doesn't move isn't read
  stuck_number : (o : Option N) (y : State × Action) → moved read (Some y) (said read o) ≡ None → o ≡ None
  stuck_number (Some x) y e = cc
  stuck_number None y e = refl

  pub stuck_unread : (p : Place) (n : ℕ) (run : List ℕ) → takes_number p ≡ true → move read (record { place = p; depth = n }) (Num run) ≡ None → read run ≡ None
  stuck_unread (place.Number p d more) n run takes e = stuck_number (read run) (number_step p d more n) e
  stuck_unread (place.Opening part.Member d) n run takes e = stuck_number (read run) (at n (place.Number part.Bare d (numbers_after d - 1)), act.FirstBare) e
  stuck_unread p n run takes e = let no : ⊥ = cc in absurd no

  number_taken : (d : Dimension) (more : ℕ) (l : Lexeme) → stays read (number_expected d more) l ≡ false
  number_taken d more l = go (more == 0) (more == numbers_after d) (suc more == numbers_after d) d
    where
      go : (a b c : Bool) (d : Dimension) → stays read (if a then last_number d else (if b then expected.X else (if c then expected.Y else expected.Z))) l ≡ false
      go true b c XY = refl
      go true b c XYZ = refl
      go true b c XYM = refl
      go true b c XYZM = refl
      go false true c d = refl
      go false false true d = refl
      go false false false d = refl

  pub place_taken : (p : Place) (n : ℕ) (l : Lexeme) → takes_number p ≡ true → stays read (expected_at p n) l ≡ false
  place_taken (place.Number p d more) n l takes = number_taken d more l
  place_taken (place.Opening part.Member d) n l takes = refl
  place_taken p n l takes = let no : ⊥ = cc in absurd no

  -- one that comes first isn't read where the machine doesn't move
  first_unread : (m : Machine) (ps : List Spanned) (run : List ℕ) → first_of ps ≡ Some (Num run) → takes_number (state_of m).place ≡ true → IsStuck read m ps → read run ≡ None
  first_unread m [] run first takes stuck = let no : ⊥ = cc in absurd no
  first_unread m (p ∷ ps) run first takes stuck =
      let is : p.lexeme ≡ Num run = cc in
      stuck_unread (state_of m).place m.depth run takes (subst (λ l. move read (state_of m) l ≡ None) is stuck)

  blames_unread : (m : Machine) (ps : List Spanned) (run : List ℕ) (ls rs : List Lexeme) → first_of ps ≡ Some (Num run) → takes_number (state_of m).place ≡ true → IsStuck read m ps → ls ≡ Num run ∷ rs
      → (message.BadNumber, rs) ≡ blamed read (expected_at (state_of m).place m.depth) ls
  blames_unread m ps run ls rs first takes stuck is =
      let e : Expected = expected_at (state_of m).place m.depth in
      let unread : read run ≡ None = first_unread m ps run first takes stuck in
      subst (λ ls. (message.BadNumber, rs) ≡ blamed read e ls) (sym is)
      (ap (λ m. (m, rs)) (sym (ap (λ o. at_number read o e) unread ∙ place_bad (state_of m).place m.depth takes)) ∙ ap (λ b. (at_number read (read run) e, if b then Num run ∷ rs else rs)) (sym (place_taken (state_of m).place m.depth (Num run) takes)))

  -- what is taken is what comes first
  behind_first : (l : Lexeme) (t : Option Lexeme) (ls rs : List Lexeme) → IsFirst (Some l) ls → TakesNext t ls rs → ls ≡ l ∷ rs
  behind_first l None ls rs (later, is) h = let none : ls ≡ [] = h.0 in let no : ⊥ = cc in absurd no
  behind_first l (Some k) ls rs (later, is) h = let both : l ∷ later ≡ k ∷ rs = sym is ∙ h in let same : l ≡ k = cc in h ∙ ap (λ k. k ∷ rs) (sym same)

  pub blames_first : (m : Machine) (o t : Option Lexeme) (ps : List Spanned) (ls rs : List Lexeme) → first_of ps ≡ o → is_number o ≡ true → takes_number (state_of m).place ≡ true → IsStuck read m ps → IsFirst o ls → TakesNext t ls rs
      → (message.BadNumber, rs) ≡ blamed read (expected_at (state_of m).place m.depth) ls
  blames_first m (Some (Num run)) t ps ls rs first number takes stuck sees behind = blames_unread m ps run ls rs first takes stuck (behind_first (Num run) t ls rs sees behind)
  blames_first m o t ps ls rs first number takes stuck sees behind = let no : ⊥ = cc in absurd no

-- What is seen of the lexeme that comes next, and the messages that go by it.

module _ {N : Type 0} (read : List ℕ → Option N) (text : List ℕ) where
  pub gives_mark : (from at b : ℕ) (l : Lexeme) (g : NextLexeme) → from ≤ at → remaining_spanned false text from ≡ remaining_spanned false text at → b ≡ get_or text at 0 → class_of b ≡ Mark l → ShowsLexeme read g l → GivesNext read text from (Some (g, at + 1))
  gives_mark from at b l g order same is mark shows =
      (l, takes-after false text from at l (at + 1) order same (takes-mark false text at l (ap (class_in false) (sym is) ∙ classes.mark-in false b l mark)), shows)

  -- white space stands before it
  pub gives_after : (from at : ℕ) → from ≤ at → remaining_spanned false text from ≡ remaining_spanned false text at → (o : Option (NextLexeme × ℕ)) → GivesNext read text at o → GivesNext read text from o
  gives_after from at order same None h = same ∙ h
  gives_after from at order same (Some g) (l, takes, shows) = (l, takes-after false text from at l g.1 order same takes, shows)

  -- a run
  module _ (at end : ℕ) (ends : IsRunEnd text at end) (dark : IsDark false text at) (unmarked : IsUnmarked false text at) where
    pub gives_none : end ≡ at → GivesNext read text at None
    gives_none here = none_left false text at end ends here dark unmarked

    pub gives_word : (w : Bor (List ℕ)) → end ≢ at → w.now ≡ slice_range text at end → starts_number (get_or text at 0) ≡ false → GivesNext read text at (Some (given.Word w, end))
    gives_word w some is starts = (Word (slice_range text at end), takes_word false text at end ends some starts, ap Word (sym is))

  pub gives_number : (at end : ℕ) (x : N) → IsNumberAt read text at end x → GivesNext read text at (Some (given.Number, end))
  gives_number at end x there = (Num (without_plus (slice_range text at end)), takes-number read false text at end x there, (without_plus (slice_range text at end), x, refl, there.reads))

  -- a run that begins as a number isn't empty
  some_digits : (at end : ℕ) → IsRunEnd text at end → starts_number (get_or text at 0) ≡ true → end ≢ at
  some_digits at end ends starts same = ends.stops (ap (λ n. class_of (get_or text n 0)) same ∙ number_run (get_or text at 0) starts)

  digits : (at end : ℕ) → IsRunEnd text at end → starts_number (get_or text at 0) ≡ true → TakesOne false text at (Num (without_plus (slice_range text at end))) end
  digits at end ends starts = takes_digits false text at end ends (some_digits at end ends starts) starts

  pub gives_unread : (at end : ℕ) → IsRunEnd text at end → IsDark false text at → IsUtf8 text → at ≤ length text → starts_number (get_or text at 0) ≡ true → NoNumber read text at → GivesNext read text at (Some (given.Unread, end))
  gives_unread at end ends dark utf8 inside starts none =
      let number : List ℕ = without_plus (slice_range text at end) in
      let takes = digits at end ends starts in
      (Num number, takes, (number, refl, none_unread false text at read (utf8, inside) dark none number end (remaining_spanned false text end) takes.next))

  -- where a number may stand, one that isn't read is blamed, and taken
  pub blames_number : (m : Machine) (from at end : ℕ) → from ≤ at → remaining_spanned false text from ≡ remaining_spanned false text at → IsRunEnd text at end → starts_number (get_or text at 0) ≡ true → takes_number (state_of m).place ≡ true → IsStuck read m (remaining_spanned false text from)
      → (message.BadNumber, remaining false text end) ≡ blamed read (expected_at (state_of m).place m.depth) (remaining false text from)
  blames_number m from at end order same ends starts takes stuck =
      let e : Expected = expected_at (state_of m).place m.depth in
      let run : List ℕ = without_plus (slice_range text at end) in
      let first = takes-after false text from at (Num run) end order same (digits at end ends starts) in
      let stops : move read (state_of m) (Num run) ≡ None = subst (IsStuck read m) first.next stuck in
      let unread : read run ≡ None = stuck_unread read (state_of m).place m.depth run takes stops in
      let r = remaining false text end in
      subst (λ ls. (message.BadNumber, r) ≡ blamed read e ls) (sym (takes-remaining false text from (Num run) end first))
      (ap (λ m. (m, r)) (sym (ap (λ o. at_number read o e) unread ∙ place_bad (state_of m).place m.depth takes)) ∙ ap (λ b. (at_number read (read run) e, if b then Num run ∷ r else r)) (sym (place_taken read (state_of m).place m.depth (Num run) takes)))

  -- the lexeme that is refused stays, or is taken
  pub blames_none : (e : Expected) (m : Message) (at : ℕ) → remaining_spanned false text at ≡ [] → m ≡ at_end e → (m, remaining false text at) ≡ blamed read e (remaining false text at)
  unfolding remaining
  blames_none e m at none is = subst (λ ls. (m, ls) ≡ blamed read e ls) (sym (ap lexemes_of none)) (ap (λ m. (m, [])) is)

  pub blames_stays : (e : Expected) (m : Message) (at end : ℕ) (l : Lexeme) → TakesOne false text at l end → m ≡ at_place read e (l ∷ remaining false text end) → true ≡ stays read e l → (m, remaining false text at) ≡ blamed read e (remaining false text at)
  blames_stays e m at end l takes is kept =
      let r = remaining false text end in
      subst (λ ls. (m, ls) ≡ blamed read e ls) (sym (takes-remaining false text at l end takes)) (ap (λ m. (m, l ∷ r)) is ∙ ap (λ b. (at_place read e (l ∷ r), if b then l ∷ r else r)) kept)

  pub blames_taken : (e : Expected) (m : Message) (at end : ℕ) (l : Lexeme) → TakesOne false text at l end → m ≡ at_place read e (l ∷ remaining false text end) → false ≡ stays read e l → (m, remaining false text end) ≡ blamed read e (remaining false text at)
  blames_taken e m at end l takes is taken =
      let r = remaining false text end in
      subst (λ ls. (m, r) ≡ blamed read e ls) (sym (takes-remaining false text at l end takes)) (ap (λ m. (m, r)) is ∙ ap (λ b. (at_place read e (l ∷ r), if b then l ∷ r else r)) taken)

  -- parentheses have to close
  ends : (n : ℕ) (m : Message) → closings read (suc n) m [] ≡ (message.Close, [])
  ends zero m = refl
  ends (suc n) m = ends n message.Close

  pub closes_none : (n : ℕ) (m : Message) (at : ℕ) → 0 < n → remaining_spanned false text at ≡ [] → (message.Close, remaining false text at) ≡ closings read n m (remaining false text at)
  unfolding remaining
  closes_none zero m at some none = absurd (omega (arith, some))
  closes_none (suc n) m at some none = subst (λ ls. (message.Close, ls) ≡ closings read (suc n) m ls) (sym (ap lexemes_of none)) (sym (ends n m))

  pub closes_one : (n j : ℕ) (m k : Message) (at end : ℕ) (l : Lexeme) → j + 1 ≡ n → TakesOne false text at l end → closing read m (l ∷ remaining false text end) ≡ (k, remaining false text end) → closings read n m (remaining false text at) ≡ closings read j k (remaining false text end)
  closes_one n j m k at end l count takes is =
      let more : n ≡ suc j = omega (arith, count) in
      ap (λ n. closings read n m (remaining false text at)) more ∙ ap (closings read (suc j) m) (takes-remaining false text at l end takes) ∙ ap (λ (y : Message × List Lexeme). closings read j y.0 y.1) is

-- One element more of two lists.

take_one : (i : ℕ) (l : List ℕ) → i < length l → take (suc i) l ≡ take i l ++ (get_or l i 0 ∷ [])
take_one zero [] h = absurd (omega (arith, h))
take_one zero (b ∷ l) h = refl
take_one (suc i) [] h = absurd (omega (arith, h))
take_one (suc i) (b ∷ l) h = ap (λ x. b ∷ x) (take_one i l (omega (arith, h)))

pub take_next : (i : ℕ) (xs ys : List ℕ) → i < length xs → i < length ys → take i xs ≡ take i ys → get_or xs i 0 ≡ get_or ys i 0 → take (i + 1) xs ≡ take (i + 1) ys
take_next i xs ys h k same next =
    let one : suc i ≡ i + 1 = omega arith in
    subst (λ n. take n xs ≡ take n ys) one
    (take_one i xs h ∙ ap (λ l. l ++ (get_or xs i 0 ∷ [])) same ∙ ap (λ b. take i ys ++ (b ∷ [])) next ∙ sym (take_one i ys k))

-- Parentheses have to close, one after another.

module _ {T : Type 0} (read : List ℕ → Option T) where
  -- so many have to close, and then so many more
  pub closings_more : (a b : ℕ) (m : Message) (ls : List Lexeme) → closings read (a + b) m ls ≡ closings read b (closings read a m ls).0 (closings read a m ls).1
  closings_more zero b m ls = let e : 0 + b ≡ b = omega arith in ap (λ n. closings read n m ls) e
  closings_more (suc a) b m ls =
      let e : suc a + b ≡ suc (a + b) = omega arith in
      ap (λ n. closings read n m ls) e ∙ closings_more a b (closing read m ls).0 (closing read m ls).1
