-- Kind words, numbers, commas and parentheses in bytes, as steps of the machine.
use Rattle.std.proofs.Common.{◌≡◌, ℕ, ◌+◌, ◌-◌, ◌<◌, List, [], ◌∷◌, length, length-append, get_or, Option, Some, None, Bool, true, false, refl, sym, ap, ◌∙◌, subst, arith, ◌≢◌, ◌≤◌, take, drop, slice_range, if◌then◌else◌, IfSome, codes, ℤ, ◌++◌, inl, IsUtf8, to_z, of_z}
use Rattle.std.specs.Int.{w64}
use Rattle.std.proofs.lemmas.List.{take_rest}
use Rattle.wkt_num.specs.Bytes.{Lexeme, Open, Close, Comma, Word, Num, Mark, class_of, Run, AllRun}
use Rattle.wkt_access.specs.declared.dimensions.Dimension.{Dimension}
use Rattle.wkt_read.specs.Spanned.{Spanned, AreEnds}
use Rattle.wkt_events.specs.Remaining.{Legible, remaining_spanned, class_in, IsRunEnd, TakesOne, NoNumber, IsNumberAt}
use Rattle.wkt_machine.specs.declared.step.Action.TheVariants as act
use Rattle.wkt_machine.specs.View.{IsBetween, IsDark, seen_of, sight}
use Rattle.wkt_sources.specs.Views.{bytes_view, has_coordinates}
use Rattle.wkt_machine.specs.Events.{Event, axis_of}
use Rattle.wkt_machine.specs.Goes.{Stays, MakesOneNumber, IsUnread, IsStuck, Goes, Refuses}
use Rattle.wkt_machine.specs.Machine.{at, numbers_after, inside, outside, last_place, last_step, number_step, step_at, said, moved, move, part_of, State}
use Rattle.wkt_machine.specs.Machines.{state_of, place_of, after_third, next_after, is_single, HasNext, IsSound}
use Rattle.wkt_machine.specs.Makers.{Maker}
use Rattle.wkt_machine.specs.Machine as place
use Rattle.wkt_sources.specs.declared.bytes.ByteCursor.{ByteCursor}
use Rattle.wkt_machine.specs.declared.machine.Machine.{Machine}
use Rattle.wkt_machine.specs.declared.part.Axis.{Axis}
use Rattle.wkt_machine.specs.declared.part.Part.{Part}
use Rattle.wkt_machine.specs.declared.source.Progress.{Progress}
use Rattle.wkt_machine.proofs.WaysJoin.{goes_on_to}
use Rattle.wkt_machine.proofs.NumberSteps.{over_number}
use Rattle.wkt_machine.proofs.Stepping.{goes_one, skipped, several}
use Rattle.wkt_machine.specs.declared.machine.LexemeKind.TheVariants as seen
use Rattle.wkt_machine.specs.declared.machine.State.TheVariants as next
use Rattle.wkt_machine.specs.declared.part.Axis.TheVariants as axis
use Rattle.wkt_machine.specs.declared.part.Part.TheVariants as part
use Rattle.wkt_sources.proofs.ByteViews.{close_mark}
use Rattle.wkt_sources.proofs.ByteViews as bytes
use Rattle.wkt_access.specs.declared.dimensions.Dimension.TheVariants.{XY, XYZ, XYM, XYZM}
use Rattle.wkt_read.specs.Grammar.{is_empty_word, kind_word, kind_words, DimPart, Header, StandFor}
use Rattle.wkt_read.specs.Lexemes.{lexeme_of, starts_number, without_plus}
use Rattle.wkt_events.proofs.RemainingLexemes.{space, spanned-white, takes-mark, takes-run, takes-after, mark-in, remaining-all, takes-number}
use Rattle.wkt_events.proofs.RemainingLexemes as classes
use Rattle.wkt_events.proofs.Utf8Lines.{text-with-front, text-behind-front}
use Rattle.wkt_sources.specs.LexemesAhead.{IsKindName, EndsWord, StandsHead}
use Rattle.wkt_num.specs.Decimal.{read_decimal}
use Rattle.wkt_num.specs.DigitParts.{BeginsUnits}
use Rattle.wkt_num.specs.Whole.{IsSigned}
use Rattle.wkt_num.proofs.NumberInWindow.{held-is}
use Rattle.wkt_num.proofs.ReadNumbers.{decimal_utf8}
use Rattle.wkt_access.specs.Values.{Value}
use Rattle.wkt_types.specs.declared.geometry_type.GeometryType.{GeometryType}
use Rattle.wkt_read.specs.Front.{Front}
use Rattle.wkt_read.proofs.HeaderPlaces.{front-of-lexemes}
use Rattle.wkt_read.proofs.Placings.{spanned-ends}
use Rattle.wkt_events.proofs.Runs.{kept-there}
use Rattle.wkt_sources.specs.Taken.{IsPointFront}
use Rattle.wkt_types.specs.declared.geometry_type.GeometryType.TheVariants as kind

-- Numbers, commas and parentheses of coordinates in bytes, as steps of the machine.

-- A part with coordinates.
abbrev HoldsCoordinates : Part → Type 0
HoldsCoordinates p = ((d : Dimension) (n : ℕ) → inside p d n ≡ at n (place.Number p d (numbers_after d))) × ((d : Dimension) → last_place p d ≡ place.Item p d)

holds : (p : Part) → has_coordinates p ≡ true → HoldsCoordinates p
holds part.Point e = ((λ d n. refl), (λ d. refl))
holds part.LineString e = ((λ d n. refl), (λ d. refl))
holds part.Member e = ((λ d n. refl), (λ d. refl))
holds part.Ring e = ((λ d n. refl), (λ d. refl))
holds part.Line e = ((λ d n. refl), (λ d. refl))
holds part.AreaRing e = ((λ d n. refl), (λ d. refl))
holds p e = let never : ⊥ = cc in absurd never

plain_last : (p : Part) (d : Dimension) → has_coordinates p ≡ true → last_step p d ≡ act.Number (axis_of d 0)
plain_last part.Bare d e = let never : ⊥ = cc in absurd never
plain_last p d e = refl

-- the place of a number
abbrev more_of : Axis → Dimension → ℕ
more_of axis.X d = numbers_after d
more_of axis.Y d = numbers_after d - 1
more_of axis.Z d = after_third d
more_of axis.M d = 0

number_place : (a : Axis) (p : Part) (d : Dimension) → place_of (next.Number a) p d ≡ place.Number p d (more_of a d)
number_place axis.X p d = refl
number_place axis.Y p d = refl
number_place axis.Z p d = refl
number_place axis.M p d = refl

-- a number of such a part leads to what comes after it
abbrev Follows : Axis → Dimension → Part → ℕ → Type 0
Follows a d p n = (number_step p d (more_of a d) n ≡ (at n (place_of (next_after a d) p d), act.Number a)) × HasNext (next_after a d) d

follows : (a : Axis) (d : Dimension) (p : Part) (n : ℕ) → has_coordinates p ≡ true → HasNext (next.Number a) d → Follows a d p n
follows a d p n e = go a d
  where
    ends : (d : Dimension) → number_step p d 0 n ≡ (at n (place.Item p d), act.Number (axis_of d 0))
    ends d = ap (λ x. (at n x, last_step p d)) ((holds p e).1 d) ∙ ap (λ x. (at n (place.Item p d), x)) (plain_last p d e)

    go : (a : Axis) (d : Dimension) → HasNext (next.Number a) d → Follows a d p n
    go axis.X XY h = (refl, tt)
    go axis.X XYZ h = (refl, tt)
    go axis.X XYM h = (refl, tt)
    go axis.X XYZM h = (refl, tt)
    go axis.Y XY h = (ends XY, tt)
    go axis.Y XYZ h = (refl, tt)
    go axis.Y XYM h = (refl, tt)
    go axis.Y XYZM h = (refl, tt)
    go axis.Z XY h = absurd h
    go axis.Z XYM h = absurd h
    go axis.Z XYZ h = (ends XYZ, tt)
    go axis.Z XYZM h = (refl, tt)
    go axis.M XY h = absurd h
    go axis.M XYZ h = absurd h
    go axis.M XYM h = (ends XYM, tt)
    go axis.M XYZM h = (ends XYZM, tt)

-- the same machine behind a coordinate
abbrev pub behind_item : Machine → Machine
behind_item m = record { state = next.Item; part = m.part; dim = m.dim; depth = m.depth }

-- the same behind a point of a multipoint, before one, and before its first number
abbrev behind_member : Machine → Machine
behind_member m = record { state = next.Item; part = part.MultiPoint; dim = m.dim; depth = m.depth }

abbrev before_member : Machine → Machine
before_member m = record { state = next.Opening; part = part.Member; dim = m.dim; depth = m.depth }

abbrev before_number : Machine → Machine
before_number m = record { state = next.Number axis.X; part = part.Member; dim = m.dim; depth = m.depth }

module _ {N : Type 0} (read : List ℕ → Option N) where
  stuck_number : (s : State) (p : Part) (d : Dimension) (more n : ℕ) → s ≡ at n (place.Number p d more) → (x : Spanned) (ps : List Spanned) → IsUnread read (x ∷ ps) → (l : Lexeme) → x.lexeme ≡ l → move read s l ≡ None
  stuck_number s p d more n q x ps h Open e = ap (λ s. move read s Open) q
  stuck_number s p d more n q x ps h Close e = ap (λ s. move read s Close) q
  stuck_number s p d more n q x ps h Comma e = ap (λ s. move read s Comma) q
  stuck_number s p d more n q x ps h (Word w) e = ap (λ s. move read s (Word w)) q
  stuck_number s p d more n q x ps h (Num run) e =
      let none : read run ≡ None = h run x.end ps (ap (λ l. record { lexeme = l; end = x.end } ∷ ps) e) in
      ap (λ s. move read s (Num run)) q ∙ ap (λ o. moved read (Some (number_step p d more n)) (said read o)) none

  unread_stuck : (m : Machine) (a : Axis) → m.state ≡ next.Number a → (ps : List Spanned) → IsUnread read ps → IsStuck read m ps
  unread_stuck m a e [] h = tt
  unread_stuck m a e (x ∷ ps) h = stuck_number (state_of m) m.part m.dim (more_of a m.dim) m.depth (ap (at m.depth) (ap (λ s. place_of s m.part m.dim) e ∙ number_place a m.part m.dim)) x ps h x.lexeme refl

module _ {N B : Type 0} (read : List ℕ → Option N) (maker : Maker N B) {n : ℕ} (feed : Bool) where
  -- a number is taken
  pub number_goes : (m k : Machine) (s t : ByteCursor n) (b c : B) (a : Axis) → m.state ≡ next.Number a → IsSound m → has_coordinates m.part ≡ true → MakesOneNumber read (bytes_view feed) maker s b a t c
      → k ≡ record { state = next_after a m.dim; part = m.part; dim = m.dim; depth = m.depth } → Goes read (bytes_view feed) maker m s b (record { source = t; machine = k; builder = c })
  number_goes m k s t b c a at_a sound has h is =
      let (leads, next_has) = follows a m.dim m.part m.depth has (subst (λ x. HasNext x m.dim) at_a sound) in
      let moves : move read (state_of m) (Num h.run) ≡ Some (state_of k, Event.Number a h.number ∷ []) =
      ap (λ p. moved read (step_at p m.depth (Num h.run)) (said read (read h.run))) (ap (λ x. place_of x m.part m.dim) at_a ∙ number_place a m.part m.dim)
      ∙ ap (λ o. moved read (Some (number_step m.part m.dim (more_of a m.dim) m.depth)) (said read o)) h.reads
      ∙ ap (λ x. moved read (Some x) (Some (Some h.number))) leads
      ∙ ap (λ x. Some (state_of x, Event.Number a h.number ∷ [])) (sym is) in
      goes_one read (bytes_view feed) maker m k s t b c (record { lexeme = Num h.run; end = h.end }) (Event.Number a h.number ∷ []) h.remaining h.place h.keeps moves h.makes (subst IsSound (sym is) next_has)

  -- none is
  pub number_stays : (m : Machine) (s t : ByteCursor n) (b c : B) (a : Axis) → m.state ≡ next.Number a → Stays {N = N} (bytes_view feed) s t → IsDark feed t.text.now t.at → NoNumber read t.text.now t.at → maker.makes b [] c
      → Refuses read (bytes_view feed) maker m s b (record { source = t; machine = m; builder = c })
  number_stays m s t b c a at_a stays dark none nothing = record {
    taken = [];
    events = [];
    split = sym stays.remaining;
    behind = stays.behind;
    ran = refl;
    makes = nothing;
    is_open = over_number read (bytes_view {n = n} feed) maker m a at_a;
    keeps = stays.keeps;
    stuck = λ j k. unread_stuck read m a at_a (remaining_spanned feed t.text.now t.at) (bytes.none_unread feed t.text.now t.at read (stays.keeps j k).1 dark none);
  }

  -- the same, past white space
  pub number_stays_at : (m : Machine) (s t : ByteCursor n) (b c : B) (a : Axis) (start : ℕ) → m.state ≡ next.Number a → IsBetween feed s.text.now s.at start
      → (Legible feed s.text.now s.at → Legible feed s.text.now start) → IsDark feed s.text.now start → NoNumber read s.text.now start → t.text ≡ s.text → t.at ≡ start → maker.makes b [] c
      → Refuses read (bytes_view feed) maker m s b (record { source = t; machine = m; builder = c })
  number_stays_at m s t b c a start at_a between further dark none text at nothing =
      let stays : Stays {N = N} (bytes_view {n = n} feed) s t = bytes.stays_on feed s t (sym text) (subst (IsBetween feed s.text.now s.at) (sym at) between)
      (λ k. subst (λ x. Legible feed x.now t.at) (sym text) (subst (Legible feed s.text.now) (sym at) (further k))) in
      number_stays m s t b c a at_a stays
      (subst (λ x. IsDark feed x.now t.at) (sym text) (subst (IsDark feed s.text.now) (sym at) dark))
      (subst (λ x. NoNumber read x.now t.at) (sym text) (subst (NoNumber read s.text.now) (sym at) none)) nothing

  sees_mark : (s : ByteCursor n) (l : Lexeme) → class_of (get_or s.text.now s.at 0) ≡ Mark l → seen_of l ≡ sight (remaining_spanned feed s.text.now s.at)
  sees_mark s l mark = (bytes.sees_mark feed s.text.now s.at (get_or s.text.now s.at 0) l (seen_of l) refl mark refl).sees

  -- a comma, and then a coordinate
  pub comma_goes : (m : Machine) (s t : ByteCursor n) (b c : B) → m.state ≡ next.Number axis.X → has_coordinates m.part ≡ true → is_single m.part ≡ false → class_of (get_or s.text.now s.at 0) ≡ Mark Comma → t.text ≡ s.text → t.at ≡ s.at + 1
      → maker.makes b (Event.Comma m.part ∷ []) c → Goes read (bytes_view feed) maker (behind_item m) s b (record { source = t; machine = m; builder = c })
  comma_goes m s t b c at_x has more mark text to makes =
      let there : inside m.part m.dim m.depth ≡ state_of m = (holds m.part has).0 m.dim m.depth ∙ ap (λ x. at m.depth (place_of x m.part m.dim)) (sym at_x) in
      skipped read (bytes_view feed) maker (behind_item m) m s t b c (act.Comma m.part) seen.Comma (sees_mark s Comma mark) (λ e. cc) (bytes.skips_mark feed s t Comma mark text to)
      (several m.part m.dim m.depth more ∙ ap (λ x. Some (x, act.Comma m.part)) there) makes (subst (λ x. HasNext x m.dim) (sym at_x) tt)

  -- the parenthesis that closes the part
  pub close_goes : (m k : Machine) (s t : ByteCursor n) (b c : B) → class_of (get_or s.text.now s.at 0) ≡ Mark Close → t.text ≡ s.text → t.at ≡ s.at + 1 → state_of k ≡ outside m.part m.dim m.depth → IsSound k
      → maker.makes b (Event.Close m.part ∷ []) c → Goes read (bytes_view feed) maker (behind_item m) s b (record { source = t; machine = k; builder = c })
  close_goes m k s t b c mark text to there sound makes =
      skipped read (bytes_view feed) maker (behind_item m) k s t b c (act.Close m.part) seen.Close (sees_mark s Close mark) (λ e. cc) (bytes.skips_mark feed s t Close mark text to)
      (ap (λ x. Some (x, act.Close m.part)) (sym there)) makes sound

  -- behind a coordinate the machine is at its item
  from_item : (m : Machine) (a : Progress (ByteCursor n) B) (to : Progress (ByteCursor n) B) → a.machine ≡ behind_item m → Goes read (bytes_view feed) maker (behind_item m) a.source a.builder to → Goes read (bytes_view feed) maker a.machine a.source a.builder to
  from_item m a to is h = subst (λ x. Goes read (bytes_view feed) maker x a.source a.builder to) (sym is) h

  -- a coordinate and the comma behind it
  pub turn_goes : (m : Machine) (s t : ByteCursor n) (b d : B) (a : Progress (ByteCursor n) B) → Goes read (bytes_view feed) maker m s b a → a.machine ≡ behind_item m → m.state ≡ next.Number axis.X → has_coordinates m.part ≡ true → is_single m.part ≡ false
      → get_or a.source.text.now a.source.at 0 ≡ 44 → t.text ≡ a.source.text → t.at ≡ a.source.at + 1 → maker.makes a.builder (Event.Comma m.part ∷ []) d → Goes read (bytes_view feed) maker m s b (record { source = t; machine = m; builder = d })
  turn_goes m s t b d a way item at_x has more byte text to makes =
      goes_on_to read (bytes_view feed) maker m s b a (record { source = t; machine = m; builder = d }) way
      (from_item m a (record { source = t; machine = m; builder = d }) item (comma_goes m a.source t a.builder d at_x has more (ap class_of byte ∙ bytes.comma_mark) text to makes))

  -- a coordinate and the parenthesis behind it
  pub last_goes : (m k : Machine) (s t : ByteCursor n) (b d : B) (a : Progress (ByteCursor n) B) → Goes read (bytes_view feed) maker m s b a → a.machine ≡ behind_item m
      → get_or a.source.text.now a.source.at 0 ≡ 41 → t.text ≡ a.source.text → t.at ≡ a.source.at + 1 → state_of k ≡ outside m.part m.dim m.depth → IsSound k
      → maker.makes a.builder (Event.Close m.part ∷ []) d → Goes read (bytes_view feed) maker m s b (record { source = t; machine = k; builder = d })
  last_goes m k s t b d a way item byte text to there sound makes =
      goes_on_to read (bytes_view feed) maker m s b a (record { source = t; machine = k; builder = d }) way
      (from_item m a (record { source = t; machine = k; builder = d }) item (close_goes m k a.source t a.builder d (ap class_of byte ∙ bytes.close_mark) text to there sound makes))

  -- behind a point of a multipoint: its parenthesis, and the comma and the parenthesis before the next point
  pub member_goes : (m : Machine) (s t : ByteCursor n) (b c d e : B) (a : Progress (ByteCursor n) B) → Goes read (bytes_view feed) maker m s b a → a.machine ≡ behind_item m → m.state ≡ next.Number axis.X → m.part ≡ part.Member → get_or a.source.text.now a.source.at 0 ≡ 41
      → get_or a.source.text.now (a.source.at + 1) 0 ≡ 44 → get_or a.source.text.now (a.source.at + 1 + 1) 0 ≡ 40 → t.text ≡ a.source.text → t.at ≡ a.source.at + 1 + 1 + 1
      → maker.makes a.builder (Event.Close m.part ∷ []) c → maker.makes c (Event.Comma part.MultiPoint ∷ []) d → maker.makes d (Event.Open part.Member ∷ []) e → Goes read (bytes_view feed) maker m s b (record { source = t; machine = m; builder = e })
  member_goes m s t b c d e a way item at_x member close comma opens text to closed parted opened =
      let here : before_number m ≡ m = ap (λ x. record { state = x; part = part.Member; dim = m.dim; depth = m.depth }) (sym at_x) ∙ ap (λ p. record { state = m.state; part = p; dim = m.dim; depth = m.depth }) (sym member) in
      let before_comma = bytes.past a.source 1 in
      let before_open = bytes.past before_comma 1 in
      let comma_there = ap class_of comma ∙ bytes.comma_mark in
      let open_there = ap class_of opens ∙ bytes.open_mark in
      subst (λ x. Goes read (bytes_view feed) maker m s b (record { source = t; machine = x; builder = e })) here
      (goes_on_to read (bytes_view feed) maker m s b (record { source = before_open; machine = before_member m; builder = d }) (record { source = t; machine = before_number m; builder = e })
      (goes_on_to read (bytes_view feed) maker m s b (record { source = before_comma; machine = behind_member m; builder = c }) (record { source = before_open; machine = before_member m; builder = d })
      (last_goes m (behind_member m) s before_comma b c a way item close refl refl (ap (λ p. outside p m.dim m.depth) (sym member)) tt closed)
      (skipped read (bytes_view feed) maker (behind_member m) (before_member m) before_comma before_open c d (act.Comma part.MultiPoint) seen.Comma (sees_mark before_comma Comma comma_there) (λ e. cc) (bytes.skips_mark feed before_comma before_open Comma comma_there refl refl) refl parted tt))
      (skipped read (bytes_view feed) maker (before_member m) (before_number m) before_open t d e (act.Open part.Member) seen.Open (sees_mark before_open Open open_there) (λ e. cc) (bytes.skips_mark feed before_open t Open open_there text to) refl opened tt))

  -- fewer lexemes are left
  pub goes_less : (m : Machine) (s : ByteCursor n) (b : B) (to : Progress (ByteCursor n) B) → Goes read (bytes_view feed) maker m s b to → length (remaining_spanned feed to.source.text.now to.source.at) < length (remaining_spanned feed s.text.now s.at)
  goes_less m s b to h =
      let count = ap length h.split ∙ length-append h.given (h.last ∷ remaining_spanned feed to.source.text.now to.source.at) in
      omega (arith, count)

-- Kind words in bytes, and the machine over them.

-- the names
pub point_name : IsKindName part.Point (codes "POINT")
unfolding kind_word kind_words class_of
point_name = record { row = _; names = refl; kind = refl; joined = refl; letters = (refl, (refl, (refl, (refl, (refl, tt))))); begins = refl }

pub multipoint_name : IsKindName part.MultiPoint (codes "MULTIPOINT")
unfolding kind_word kind_words class_of
multipoint_name = record { row = _; names = refl; kind = refl; joined = refl; letters = (refl, (refl, (refl, (refl, (refl, (refl, (refl, (refl, (refl, (refl, tt)))))))))); begins = refl }

pub linestring_name : IsKindName part.LineString (codes "LINESTRING")
unfolding kind_word kind_words class_of
linestring_name = record { row = _; names = refl; kind = refl; joined = refl; letters = (refl, (refl, (refl, (refl, (refl, (refl, (refl, (refl, (refl, (refl, tt)))))))))); begins = refl }

pub collection_name : IsKindName part.Collection (codes "GEOMETRYCOLLECTION")
unfolding kind_word kind_words class_of
collection_name = record { row = _; names = refl; kind = refl; joined = refl; letters = (refl, (refl, (refl, (refl, (refl, (refl, (refl, (refl, (refl, (refl, (refl, (refl, (refl, (refl, (refl, (refl, (refl, (refl, tt)))))))))))))))))); begins = refl }

pub open_no_run : class_of 40 ≢ Run
unfolding class_of
open_no_run e = cc

space_no_run : class_of 32 ≢ Run
unfolding class_of
space_no_run e = cc

-- No run goes on with a space.
pub ends-spaced-word : (b : ℕ) → b ≡ 32 → class_of b ≢ Run
ends-spaced-word b e r = space_no_run (ap class_of (sym e) ∙ r)

-- No run goes on with the parenthesis.
pub ends-open-word : (b : ℕ) → b ≡ 40 → class_of b ≢ Run
ends-open-word b e r = open_no_run (ap class_of (sym e) ∙ r)

module _ (feed : Bool) (text : List ℕ) (at : ℕ) where
  -- a parenthesis behind white space or none
  pub open_after : (start b : ℕ) → at ≤ start → remaining_spanned feed text at ≡ remaining_spanned feed text start → b ≡ get_or text start 0 → b ≡ 40 → TakesOne feed text at Open (start + 1)
  open_after start b order same byte is = takes-after feed text at start Open (start + 1) order same (takes-mark feed text start Open (ap (class_in feed) (sym byte ∙ is) ∙ classes.mark-in feed 40 Open bytes.open_mark))

  -- EMPTY behind white space or none
  pub empty_after : (start end : ℕ) → at ≤ start → remaining_spanned feed text at ≡ remaining_spanned feed text start → ((w : List ℕ) × TakesOne feed text start (Word w) end × (is_empty_word w ≡ true)) → (w : List ℕ) × TakesOne feed text at (Word w) end × (is_empty_word w ≡ true)
  empty_after start end order same (w, takes, says) = (w, takes-after feed text at start (Word w) end order same takes, says)

  -- a parenthesis behind a word
  pub ends_open : get_or text at 0 ≡ 40 → EndsWord feed text at (at + 1)
  ends_open e = record {
    stops = λ r. open_no_run (ap class_of (sym e) ∙ r);
    opens = takes-mark feed text at Open (ap (class_in feed) e ∙ classes.mark-in feed 40 Open bytes.open_mark);
  }

  -- the same behind a space
  pub ends_spaced : get_or text at 0 ≡ 32 → get_or text (at + 1) 0 ≡ 40 → EndsWord feed text at (at + 2)
  ends_spaced e f = record {
    stops = λ r. space_no_run (ap class_of (sym e) ∙ r);
    opens =
        let there : TakesOne feed text (at + 1) Open (at + 1 + 1) = takes-mark feed text (at + 1) Open (ap (class_in feed) f ∙ classes.mark-in feed 40 Open bytes.open_mark) in
        let two : at + 1 + 1 ≡ at + 2 = omega arith in
        takes-after feed text at (at + 1) Open (at + 2) (omega arith) (spanned-white feed text at (space feed (get_or text at 0) e)) (subst (TakesOne feed text (at + 1) Open) two there);
  }

  word_lexeme : (run : List ℕ) → starts_number (get_or run 0 0) ≡ false → lexeme_of run ≡ Word run
  word_lexeme [] h = refl
  word_lexeme (b ∷ bs) h = ap (λ t. if t then Num (without_plus (b ∷ bs)) else Word (b ∷ bs)) h

  -- the letters of a word, and then none
  pub word_takes : (word : List ℕ) (n : ℕ) → AllRun word → starts_number (get_or word 0 0) ≡ false → at + n ≤ length text → take n (drop at text) ≡ word → 0 < n → class_of (get_or text (at + n) 0) ≢ Run → TakesOne feed text at (Word word) (at + n)
  word_takes word n letters begins inside is some stops =
      let slice : slice_range text at (at + n) ≡ word = ap (λ (m : ℕ). take m (drop at text)) {x = at + n - at} {y = n} (omega arith) ∙ is in
      let run : IsRunEnd text at (at + n) = record { order = omega arith; inside = inside; run = subst AllRun (sym slice) letters; stops = stops } in
      let lexeme : lexeme_of (slice_range text at (at + n)) ≡ Word word = ap lexeme_of slice ∙ word_lexeme word begins in
      subst (λ l. TakesOne feed text at l (at + n)) lexeme (takes-run feed text at (at + n) run (omega (arith, some)))

  -- a word that ends so
  pub head_stands : (part : Part) (word : List ℕ) (n end : ℕ) → IsKindName part word → at + n ≤ length text → take n (drop at text) ≡ word → 0 < n → EndsWord feed text (at + n) end → StandsHead feed text at part end
  head_stands part word n end name inside is some ends = record {
    word = word;
    mid = at + n;
    name = name;
    takes = word_takes word n name.letters name.begins inside is some ends.stops;
    opens = ends.opens;
  }

-- A point whose numbers are read in place is the front of its text.

-- the kind whose whole geometries are points
point_kind : (k : GeometryType) → part_of k ≡ part.Point → k ≡ kind.Point
point_kind kind.Point e = refl
point_kind kind.LineString e = cc
point_kind kind.Polygon e = cc
point_kind kind.MultiPoint e = cc
point_kind kind.MultiLineString e = cc
point_kind kind.MultiPolygon e = cc
point_kind kind.GeometryCollection e = cc

-- A parenthesis after white space or none.
pub shuts : (text : List ℕ) (at start b : ℕ) → at ≤ start → remaining_spanned false text at ≡ remaining_spanned false text start → b ≡ get_or text start 0 → b ≡ 41 → TakesOne false text at Close (start + 1)
shuts text at start b order same byte is = takes-after false text at start Close (start + 1) order same (takes-mark false text start Close (ap (class_in false) (sym byte ∙ is) ∙ mark-in false 41 Close close_mark))

module _ (D : ℕ) (text : List ℕ) where
  abbrev read : List ℕ → Option ℤ
  read = read_decimal 127 36 D

  -- a number after white space or none
  pub number-fast : (at start count : ℕ) (units : ℤ) → at ≤ start → start ≤ length text → remaining_spanned false text at ≡ remaining_spanned false text start
      → BeginsUnits D (take (length text - start) (drop start text)) units count → (run : List ℕ) × TakesOne false text at (Num run) (start + count) × (read run ≡ Some (to_z w64 (of_z w64 units))) × IsSigned 63 (to_z w64 (of_z w64 units))
  number-fast at start count units order inside same b =
      let k : BeginsUnits D (drop start text) units count = subst (λ l. BeginsUnits D l units count) (take_rest text start) b in
      let there : IsNumberAt read text start (start + count) k.keeps.number = kept-there read (λ (u : ℤ). []) text start count 0 (start + count) inside refl k.keeps in
      let run : List ℕ = without_plus (slice_range text start (start + count)) in (
        run,
        takes-after false text at start (Num run) (start + count) order same (takes-number read false text start (start + count) k.keeps.number there),
        there.reads ∙ ap Some (k.is ∙ sym (held-is units b.fits)),
        subst (IsSigned 63) (sym (held-is units b.fits)) b.fits,
      )

  -- only texts are read as numbers
  run-text : (run : List ℕ) (x : ℤ) → read run ≡ Some x → IsUtf8 run
  run-text run x e = subst (λ (o : Option ℤ). IfSome o (λ u. IsUtf8 run)) e (decimal_utf8 D run)

  module _ (opened between behind end : ℕ) (r s : List ℕ) (x y : ℤ)
      (head : StandsHead false text 0 part.Point opened)
      (one : TakesOne false text opened (Num r) between) (ex : read r ≡ Some x)
      (two : TakesOne false text between (Num s) behind) (ey : read s ≡ Some y)
      (shut : TakesOne false text behind Close end) where
    abbrev given : List Spanned
    given =
        record { lexeme = Word head.word; end = head.mid }
        ∷ record { lexeme = Open; end = opened }
        ∷ record { lexeme = Num r; end = between }
        ∷ record { lexeme = Num s; end = behind }
        ∷ record { lexeme = Close; end = end }
        ∷ []

    begins : remaining_spanned false text 0 ≡ given ++ remaining_spanned false text end
    begins =
        head.takes.next
        ∙ ap (λ ps. record { lexeme = Word head.word; end = head.mid } ∷ ps)
        (head.opens.next ∙ ap (λ ps. record { lexeme = Open; end = opened } ∷ ps)
        (one.next ∙ ap (λ ps. record { lexeme = Num r; end = between } ∷ ps)
        (two.next ∙ ap (λ ps. record { lexeme = Num s; end = behind } ∷ ps)
        shut.next)))

    abbrev value : Value ℤ
    value = Value.point XY (Some (x ∷ y ∷ []))

    header : Header kind.Point XY (Word head.word ∷ [])
    header = (head.word, head.name.row, [], refl, head.name.names, point_kind head.name.row.kind head.name.kind, subst (λ o. DimPart o XY []) (sym head.name.joined) (inl (refl, refl)))

    stands : StandFor read (Word head.word ∷ Open ∷ Num r ∷ Num s ∷ Close ∷ []) value
    stands = (Word head.word ∷ [], Open ∷ Num r ∷ Num s ∷ Close ∷ [], refl, header, (Num r ∷ Num s ∷ [], refl, ((r, Num s ∷ [], refl, ex, (s, [], refl, ey, refl)), refl)))

    front : Front read text value end
    front = front-of-lexemes read text given (remaining_spanned false text end) value (subst (AreEnds text) (sym (remaining-all text) ∙ begins) (spanned-ends text)) stands

    point-front : IsPointFront D text x y end
    point-front = record {
      front = front;
      within = shut.inside;
      utf8 = (text-behind-front read run-text text value end front, text-with-front read run-text text value end front);
    }

    -- the same of numbers as they are held
    pub point-held : IsSigned 63 x → IsSigned 63 y → IsPointFront D text (to_z w64 (of_z w64 x)) (to_z w64 (of_z w64 y)) end
    point-held fx fy =
        subst (λ u. IsPointFront D text u (to_z w64 (of_z w64 y)) end) (sym (held-is x fx)) (subst (λ v. IsPointFront D text x v end) (sym (held-is y fy)) point-front)

pub ruleset number_fast = number-fast

pub ruleset ends_open_word = (ends-open-word)

pub ruleset behind_white = (open_after, empty_after)
