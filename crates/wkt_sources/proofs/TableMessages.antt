-- Where the machine stops, a text is refused with the one message that the table has for the place.
use Rattle.std.proofs.Common.{◌≡◌, ◌+◌, ◌==◌, ℕ, List, [], ◌∷◌, ◌++◌, length, sym, refl, ap, ◌∙◌, subst, append_assoc, arith, eqb-true, Option, Some, None, Bool, true, false, inl, inr, zero, suc, ◌-◌, ◌≤◌, ◌<◌, drop, get_or, IsUtf8}
use Rattle.std.specs.Prelude.{◌⊎◌}
use Rattle.std.proofs.lemmas.List.{drop_more}
use Rattle.wkt_num.specs.Bytes.{Lexeme, White, class_of, AllWhite}
use Rattle.wkt_access.specs.Values.{Value}
use Rattle.wkt_read.specs.Answered.{Begins, HasBadNumber}
use Rattle.wkt_read.specs.Context.{context, IsTurn}
use Rattle.wkt_read.specs.Begun.{opens, closes}
use Rattle.wkt_read.specs.Explained.{IsExpectedAfter}
use Rattle.wkt_read.specs.Front.{HasNoFront, Front}
use Rattle.wkt_read.specs.Items.{bad_number}
use Rattle.wkt_read.specs.Lexemes.{IsSplit}
use Rattle.wkt_read.specs.Messages.{message_text}
use Rattle.wkt_read.specs.Refusal.{StopsBetween, HasMessage, IsTextRefused, IsRefusedWith}
use Rattle.wkt_read.specs.Table.{reports}
use Rattle.wkt_read.specs.declared.messages.Message.{Message}
use Rattle.wkt_read.proofs.OneForm.{taken_begin}
use Rattle.wkt_read.proofs.Splits.{split_one}
use Rattle.wkt_read.proofs.Refusals.{one-text, message_none}
use Rattle.wkt_machine.specs.Machine.{start, is_over, Move, and_then, after, move, run, State}
use Rattle.wkt_machine.specs.Events.{Event}
use Rattle.wkt_machine.specs.Refusing.{expected_at, open_parens, refused}
use Rattle.wkt_machine.proofs.ContextOfPlace.{turn}
use Rattle.wkt_machine.proofs.WholeRuns.{one_place, one_left, exact, goes_on, refuses, run_append}
use Rattle.wkt_read.proofs.OneExpected.{one_expected}
use Rattle.wkt_machine.proofs.ExpectedIsTaken.{expected_after, counted}
use Rattle.wkt_read.specs.declared.messages.Message.TheVariants as message
use Rattle.wkt_read.specs.Grammar.{StandFor}
use Rattle.wkt_read.specs.Spanned.{Spanned, lexemes_of, end_after, AreEnds, spanned}
use Rattle.wkt_read.specs.Laws.{OneMessage}
use Rattle.wkt_read.proofs.Placings.{spanned-split, spanned-ends}
use Rattle.wkt_read.proofs.HeaderPlaces.{front-of-lexemes}
use Rattle.wkt_events.specs.Remaining.{Legible, remaining, remaining_spanned, class_in}
use Rattle.wkt_machine.specs.View.{IsBetween, between_none}
use Rattle.wkt_sources.specs.Views.{bytes_view}
use Rattle.wkt_machine.specs.Goes.{IsStuck, StopsAt}
use Rattle.wkt_machine.specs.Machines.{state_of}
use Rattle.wkt_sources.specs.Taken.{MachineRefuses}
use Rattle.wkt_sources.specs.declared.bytes.ByteCursor.{ByteCursor}
use Rattle.wkt_machine.specs.declared.machine.Machine.{Machine}
use Rattle.wkt_sources.proofs.ByteViews.{whole_left}
use Rattle.wkt_machine.proofs.WaysJoin.{lexemes_append}

-- The message of the machine's place is the one that the table has for it.

module _ {N : Type 0} (read : List ℕ → Option N) where
  -- Where the machine is stuck, or no lexeme is left.
  abbrev pub IsStuckAt : State → List Lexeme → Type 0
  IsStuckAt s [] = Unit {0}
  IsStuckAt s (l ∷ r) = move read s l ≡ None

  module _ (before : List Lexeme) (s : State) (es : List (Event N)) (ran : run read start before ≡ Some (s, es)) (o : is_over s ≡ false) where
    pub stops : (there : List Lexeme) → IsStuckAt s there → StopsBetween read before there
    stops [] stuck = goes_on read before s es ran o
    stops (x ∷ r) stuck = refuses read before x s es ran o stuck

    -- the message of the machine's place, and what is left behind it
    pub has_message : (there ls remaining : List Lexeme) (m : Message) → ls ≡ before ++ there → IsStuckAt s there → (m, remaining) ≡ refused read s there → HasMessage read ls m remaining
    has_message there ls remaining m split stuck is = record {
      before = before;
      there = there;
      expected = expected_at s.place s.depth;
      parens = open_parens s.place + s.depth;
      split = split;
      stops = stops there stuck;
      could_stand = expected_after read before s es ran o;
      turn = turn read before (s, es) ran;
      counted = counted read before (s, es) ran;
      is = sym is;
    }

  -- lexemes have one message, and the same are left
  pub one_message : (ls remaining left2 : List Lexeme) (m m2 : Message) → HasMessage read ls m remaining → HasMessage read ls m2 left2 → ◌≡◌ {A = Message × List Lexeme} (m, remaining) (m2, left2)
  one_message ls remaining left2 m m2 h h2 =
      let whole : h.before ++ h.there ≡ h2.before ++ h2.there = sym h.split ∙ h2.split in
      let before : h.before ≡ h2.before = one_place read h.before h.there h2.before h2.there whole h.stops h2.stops in
      let there : h.there ≡ h2.there = one_left read h.before h.there h2.before h2.there whole before in
      let e : h.expected ≡ h2.expected = one_expected read h.before h.expected h2.expected h.could_stand (subst (λ b. IsExpectedAfter read b h2.expected) (sym before) h2.could_stand) (context h.before) h.turn (subst (λ b. IsTurn h2.expected (context b)) (sym before) h2.turn) in
      let n1 = h.counted in
      let n2 = h2.counted in
      let n : h.parens ≡ h2.parens = omega (arith, n1, n2, ap closes before, ap opens before) in
      sym h.is ∙ ap (λ e. reports read e h.parens h.there) e ∙ ap (λ n. reports read h2.expected n h.there) n ∙ ap (reports read h2.expected h2.parens) there ∙ h2.is

  -- Lexemes begin with a geometry, or are refused with a message.
  abbrev pub Found : List Lexeme → Type 0
  Found ls = ((v : Value N) × (remaining : List Lexeme) × Begins read ls v remaining) ⊎ ((m : Message) × (remaining : List Lexeme) × HasMessage read ls m remaining)

  found_next : (before : List Lexeme) (s : State) (es : List (Event N)) → run read start before ≡ Some (s, es) → is_over s ≡ false → (l : Lexeme) (r : List Lexeme) (q : Option (Move N)) → move read s l ≡ q
      → ((q : Move N) → run read start (before ++ (l ∷ [])) ≡ Some (q.0, es ++ (q.1 ++ [])) → Found (before ++ (l ∷ r))) → Found (before ++ (l ∷ r))
  found_next before s es ran o l r None stuck more = inr ((refused read s (l ∷ r)).0, (refused read s (l ∷ r)).1, has_message before s es ran o (l ∷ r) (before ++ (l ∷ r)) (refused read s (l ∷ r)).1 (refused read s (l ∷ r)).0 refl stuck refl)
  found_next before s es ran o l r (Some q) moves more =
      more q (run_append read before (l ∷ []) start (s, es) ran ∙ ap (λ o. after es (and_then o (λ t. run read t []))) moves)

  found_at : (there before : List Lexeme) (s : State) (es : List (Event N)) (b : Bool) → run read start before ≡ Some (s, es) → is_over s ≡ b → Found (before ++ there)
  found_at there before s es true ran o = let (v, g, made) = exact read before s es ran o in inl (v, there, (before, refl, g))
  found_at [] before s es false ran o = inr ((refused read s []).0, (refused read s []).1, has_message before s es ran o [] (before ++ []) (refused read s []).1 (refused read s []).0 refl tt refl)
  found_at (l ∷ r) before s es false ran o =
      found_next before s es ran o l r (move read s l) refl
      (λ q there. subst Found (append_assoc before (l ∷ []) r) (found_at r (before ++ (l ∷ [])) q.0 (es ++ (q.1 ++ [])) (is_over q.0) there refl))

  pub found : (ls : List Lexeme) → Found ls
  found ls = found_at ls [] start [] false refl refl

  -- a text of no bytes is refused as one that doesn't begin with a word
  no_lexemes : (text : List ℕ) → text ≡ [] → IsSplit text []
  no_lexemes text e = subst (λ t. IsSplit t []) (sym e) ([], refl, ([], [], refl, tt, tt))

  no_word : HasMessage read [] message.Format []
  no_word = has_message [] start [] refl refl [] [] [] message.Format refl tt refl

  pub empty_no_front : (text : List ℕ) → text ≡ [] → HasNoFront read text
  empty_no_front text e v end front =
      let (more, is) = taken_begin text front.rest front.lexemes front.taken in
      message_none read [] message.Format [] no_word front.lexemes more v (split_one text _ _ (no_lexemes text e) is) front.reads

  pub empty_refused : (text said : List ℕ) → text ≡ [] → said ≡ message_text message.Format → IsTextRefused read text said
  empty_refused text said e is = (message.Format, is, ([], [], no_lexemes text e, no_word))

  pub empty_no_bad : (text said : List ℕ) → said ≡ message_text message.Format → said ≡ bad_number → HasBadNumber read text
  empty_no_bad text said is bad = let e : message.Format ≡ message.BadNumber = one-text message.Format message.BadNumber (subst (λ t. t ≡ bad_number) is bad) in cc

pub no_bytes : (text : List ℕ) → (length text == 0) ≡ true → text ≡ []
no_bytes [] e = refl
no_bytes (b ∷ text) e = absurd (omega (arith, eqb-true (length (b ∷ text)) 0 e))

-- A text has a front, or it is refused with one message.

parted : (ps : List Spanned) (f r : List Lexeme) → lexemes_of ps ≡ f ++ r → (g h : List Spanned) × (ps ≡ g ++ h) × (lexemes_of g ≡ f)
parted ps [] r e = ([], ps, refl, refl)
parted [] (l ∷ f) r e = cc
parted (x ∷ ps) (l ∷ f) r e =
    let same : x.lexeme ≡ l = cc in
    let more : lexemes_of ps ≡ f ++ r = cc in
    let (g, h, e2, e3) = parted ps f r more in
    (x ∷ g, h, ap (λ l. x ∷ l) e2, ap (λ m. x.lexeme ∷ m) e3 ∙ ap (λ m. m ∷ f) same)

module _ {N : Type 0} (read : List ℕ → Option N) (text : List ℕ) where
  abbrev lexemes : List Lexeme
  lexemes = lexemes_of (spanned text)

  has_front : (v : Value N) (remaining : List Lexeme) → Begins read lexemes v remaining → (v : Value N) × (end : ℕ) × Front read text v end
  has_front v remaining (f, split, g) =
      let (given, later, e2, same) = parted (spanned text) f remaining split in
      (v, end_after 0 given, front-of-lexemes read text given later v (subst (AreEnds text) e2 (spanned-ends text)) (subst (λ l. StandFor read l v) (sym same) g))

  has_none : (m : Message) (remaining : List Lexeme) → HasMessage read lexemes m remaining → HasNoFront read text
  has_none m remaining h = λ v end front.
      let (more, is) = taken_begin text front.rest front.lexemes front.taken in
      message_none read lexemes m remaining h front.lexemes more v (split_one text lexemes _ (spanned-split text) is) front.reads

  one : (m : Message) (remaining : List Lexeme) → HasMessage read lexemes m remaining → (other : List ℕ) → IsTextRefused read text other → other ≡ message_text m
  one m remaining h other (k, says, (ls, left2, split, h2)) =
      let same : lexemes ≡ ls = split_one text lexemes ls (spanned-split text) split in
      let both : ◌≡◌ {A = Message × List Lexeme} (m, remaining) (k, left2) = one_message read lexemes remaining left2 m k h (subst (λ l. HasMessage read l k left2) (sym same) h2) in
      says ∙ ap (λ (p : Message × List Lexeme). message_text p.0) (sym both)

  pick : Found read lexemes
      → ((v : Value N) × (end : ℕ) × Front read text v end)
      ⊎ ((said : List ℕ) × IsTextRefused read text said × HasNoFront read text × ((other : List ℕ) → IsTextRefused read text other → other ≡ said))
  pick (inl (v, remaining, begins)) = inl (has_front v remaining begins)
  pick (inr (m, remaining, h)) = inr (message_text m, (m, refl, (lexemes, remaining, spanned-split text, h)), has_none m remaining h, one m remaining h)

pub one_of_text : {N : Type 0} (read : List ℕ → Option N) → OneMessage read
one_of_text read text = pick read text (found read (lexemes_of (spanned text)))

-- Where the machine stops, the text is refused with the message of its place.

-- What stands between two places of a text.
pub record IsGap (text : List ℕ) (from to : ℕ) : Type 0 where
  pub bytes : List ℕ
  pub split : drop from text ≡ bytes ++ drop to text
  pub white : AllWhite bytes

class_white : (b : ℕ) → class_in false b ≡ White → class_of b ≡ White
unfolding class_in
class_white b e = e

gap_of : (n : ℕ) (text : List ℕ) (from to : ℕ) → from + n ≡ to → to ≤ length text → ((k : ℕ) → from ≤ k → k < to → class_in false (get_or text k 0) ≡ White) → IsGap text from to
gap_of zero text from to count inside white =
    let same : from ≡ to = omega (arith, count) in
    record { bytes = []; split = ap (λ n. drop n text) same; white = tt }
gap_of (suc n) text from to count inside white =
    let rest = gap_of n text (from + 1) to (omega (arith, count)) inside (λ k low high. white k (omega (arith, low)) high) in
    let some : from < length text = omega (arith, count, inside) in
    record {
      bytes = get_or text from 0 ∷ rest.bytes;
      split = drop_more text from 0 some ∙ ap (λ l. get_or text from 0 ∷ l) rest.split;
      white = (class_white (get_or text from 0) (white from (omega arith) (omega (arith, count))), rest.white);
    }

pub gap_between : (text : List ℕ) (from to : ℕ) → IsBetween false text from to → to ≤ length text → IsGap text from to
gap_between text from to between inside =
    let order = between.order in
    gap_of (to - from) text from to (omega (arith, order)) inside between.white

module _ {N : Type 0} (read : List ℕ → Option N) (text : List ℕ) where
  module _ (m : Machine) (at : ℕ) (s : StopsAt read text m at) where
    stuck_at : (ps : List Spanned) → IsStuck read m ps → IsStuckAt read (state_of m) (lexemes_of ps)
    stuck_at [] k = tt
    stuck_at (p ∷ ps) k = k

    whole : lexemes_of (spanned text) ≡ lexemes_of s.taken ++ remaining false text at
    unfolding remaining
    whole = ap lexemes_of s.split ∙ lexemes_append s.taken (remaining_spanned false text at)

    stuck_left : IsStuckAt read (state_of m) (remaining false text at)
    unfolding remaining
    stuck_left = stuck_at (remaining_spanned false text at) s.stuck

    -- the message of the machine's place is the text's
    pub stops_message : (k : Message) → k ≡ (refused read (state_of m) (remaining false text at)).0 → IsRefusedWith read text k
    stops_message k is =
        let says = refused read (state_of m) (remaining false text at) in (
          lexemes_of (spanned text),
          says.1,
          spanned-split text,
          has_message read (lexemes_of s.taken) (state_of m) s.events s.ran s.is_open (remaining false text at) (lexemes_of (spanned text)) says.1 k whole stuck_left (ap (λ k. (k, says.1)) is),
        )

    pub stops_no_front : HasNoFront read text
    stops_no_front v end front =
        let (ls, after, split, h) = stops_message (refused read (state_of m) (remaining false text at)).0 refl in
        let (more, is) = taken_begin text front.rest front.lexemes front.taken in
        message_none read ls (refused read (state_of m) (remaining false text at)).0 after h front.lexemes more v (split_one text ls (front.lexemes ++ more) split is) front.reads

  module _ {n : ℕ} (s : ByteCursor n) (same : s.text.now ≡ text) (begins : s.at ≡ 0) (utf8 : IsUtf8 text) where
    -- where a source that begins with the text is refused
    pub stops_there : (t : ByteCursor n) (m : Machine) → MachineRefuses read (bytes_view false) s m t → StopsAt read text m t.at
    stops_there t m h =
        let legible : Legible false s.text.now s.at = (subst IsUtf8 (sym same) utf8, omega (arith, begins)) in
        let (kept, there) = h.keeps text (same, legible) in
        let remaining : remaining_spanned false t.text.now t.at ≡ remaining_spanned false text t.at = ap (λ x. remaining_spanned false x t.at) kept in
        record {
          taken = h.taken;
          events = h.events;
          split = sym (whole_left text s same begins) ∙ h.split ∙ ap (λ l. h.taken ++ l) remaining;
          between = subst (λ x. IsBetween false x (end_after 0 h.taken) t.at) kept (h.behind 0 (subst (IsBetween false s.text.now 0) (sym begins) (between_none false s.text.now 0)));
          inside = subst (λ x. t.at ≤ length x) kept there.1;
          ran = h.ran;
          is_open = h.is_open;
          stuck = subst (IsStuck read m) remaining (h.stuck text (same, legible));
        }
