-- What a text builder writes: numbers, text that is UTF-8, and what bytes hold when it wrote there.
use Rattle.std.proofs.Common.{◌≡◌, ℕ, ◌≤◌, List, [], ◌∷◌, ◌++◌, length, take, refl, sym, ap, subst, ◌∙◌, arith, length-append, Bool, true, false, IsUtf8, Option, Some, IfSome, ◌+◌, drop, None, Result, Ok, Err, inl, inr, ◌-◌, ◌*◌, ◌<◌, get_or, slice_range, ap₂, append_assoc}
use Rattle.std.specs.Prelude.{codes, IfNone}
use Rattle.std.proofs.lemmas.Str.{IsUtf8-nil, IsUtf8-append}
use Rattle.std.proofs.Math.Seq.{take-append_seam, take-append-add}
use Rattle.std.proofs.lemmas.List.{append-nil, take-append-le, length-take-le, take-take, length-drop, take_rest}
use Rattle.std.proofs.lemmas.Simd.{take_more_put_chunk}
use Rattle.std.proofs.lemmas.Bool.{cases_lt}
use lib.Utf8.{encode}
use borrow.Rule.Slice.PartMut.{put_mid}
use lib.Lanes.{put_chunk}
use Rattle.wkt_access.specs.Texts.{suffix, shape_text}
use Rattle.wkt_access.specs.declared.dimensions.Dimension.{Dimension}
use Rattle.wkt_access.specs.declared.dimensions.Dimension.TheVariants.{XY, XYZ, XYM, XYZM}
use Rattle.wkt_machine.specs.Events.{Event, events}
use Rattle.wkt_machine.specs.declared.part.Axis.{Axis}
use Rattle.wkt_machine.specs.declared.part.Part.{Part}
use Rattle.wkt_canonical.specs.TextBuilderMaker.{EachNumber, text_builder_maker, Made, Fits, Numbered, written_of, IsFresh, IsWithin, TextBuilderBecomes, Extends, Wrote, IsTextBuilderStuck}
use Rattle.wkt_canonical.specs.Written.{EventsWritten, kind_text, empty_text, separator, is_polygon, is_hollow, added, opened, closed, polygon_closed, write_all, WritesTexts}
use Rattle.wkt_machine.specs.declared.part.Axis.TheVariants as axis
use Rattle.wkt_machine.specs.declared.part.Part.TheVariants as part
use Rattle.wkt_access.specs.Shapes.{shape_of}
use Rattle.wkt_access.specs.Values.{Value}
use Rattle.wkt_access.specs.WellFormed.{IsWellFormed}
use Rattle.wkt_read.specs.Front.{Front, HasNoFront}
use Rattle.wkt_read.specs.Spanned.{spanned}
use Rattle.wkt_read.proofs.OneForm.{geometry_fits}
use Rattle.wkt_read.proofs.OnePlacing.{spanned-few}
use Rattle.wkt_events.specs.Remaining.{line_of, remaining_spanned, IsNumberAt}
use Rattle.wkt_events.proofs.Utf8Lines.{line-within}
use Rattle.wkt_sources.specs.Views.{bytes_view}
use Rattle.wkt_machine.specs.Machine.{is_over}
use Rattle.wkt_machine.specs.Goes.{GoesFrom, RefusesFrom}
use Rattle.wkt_machine.specs.Machines.{state_of}
use Rattle.wkt_sources.specs.declared.bytes.ByteCursor.{ByteCursor}
use Rattle.wkt_machine.specs.declared.source.Progress.{Progress}
use Rattle.wkt_sources.proofs.FrontValues.{front_made, no_front_there, refused}
use Rattle.wkt_sources.proofs.TableMessages.{stops_there}
use Rattle.wkt_canonical.specs.Canonical.{IsCanonicalTo, HasWritten, WritesFront, WritesCanonical, HasLongText}
use Rattle.wkt_canonical.specs.Through.{StopsIn, WritesEvents}
use Rattle.wkt_canonical.specs.declared.text_builder.TextBuilder.{TextBuilder}
use Rattle.wkt_canonical.specs.declared.canonical.NoRoom.{NoRoom}
use Rattle.wkt_canonical.proofs.Texts.{events_write}
use Rattle.wkt_num.specs.Number.{KeepsText, BeginsNumber}
use Rattle.wkt_read.specs.Lexemes.{without_plus}
use Rattle.wkt_events.proofs.Runs.{kept-there}
use Rattle.wkt_machine.specs.Makers.{MakesBareNumber, MakesNumber}
use Rattle.wkt_machine.specs.Room.{shortest, number_cost, LeavesBehind, LeavesBehindBare}
use Rattle.wkt_machine.proofs.Windows.{padded-shows}
use Rattle.wkt_canonical.proofs.ShortTexts.{shortest-longer, plain, without-shortest, shortest-some}

-- What events write is UTF-8 where each number's text is.

-- All is text, and so is what stands before the last polygon's parenthesis.
pub record AreTexts (w : EventsWritten) : Type 0 where
  pub within : w.polygon ≤ length w.bytes
  pub all : IsUtf8 w.bytes
  pub front : IsUtf8 (take w.polygon w.bytes)

kind_utf8 : (p : Part) → IsUtf8 (kind_text p)
unfolding encode
kind_utf8 part.Point = (codes "POINT", (refl, refl))
kind_utf8 part.LineString = (codes "LINESTRING", (refl, refl))
kind_utf8 part.Polygon = (codes "POLYGON", (refl, refl))
kind_utf8 part.MultiPoint = (codes "MULTIPOINT", (refl, refl))
kind_utf8 part.MultiLineString = (codes "MULTILINESTRING", (refl, refl))
kind_utf8 part.MultiPolygon = (codes "MULTIPOLYGON", (refl, refl))
kind_utf8 part.Collection = (codes "GEOMETRYCOLLECTION", (refl, refl))
kind_utf8 p = ([], (refl, refl))

suffix_utf8 : (d : Dimension) → IsUtf8 (suffix d)
unfolding encode
suffix_utf8 XY = ([], (refl, refl))
suffix_utf8 XYZ = (codes " Z", (refl, refl))
suffix_utf8 XYM = (codes " M", (refl, refl))
suffix_utf8 XYZM = (codes " ZM", (refl, refl))

empty_utf8 : (p : Part) → IsUtf8 (empty_text p)
unfolding encode
empty_utf8 part.Member = (codes "EMPTY", (refl, refl))
empty_utf8 part.Bare = (codes "EMPTY", (refl, refl))
empty_utf8 part.Ring = (codes "EMPTY", (refl, refl))
empty_utf8 part.Line = (codes "EMPTY", (refl, refl))
empty_utf8 part.Area = (codes "EMPTY", (refl, refl))
empty_utf8 part.AreaRing = (codes "EMPTY", (refl, refl))
empty_utf8 p = (codes " EMPTY", (refl, refl))

separator_utf8 : (a : Axis) → IsUtf8 (separator a)
unfolding encode
separator_utf8 axis.X = ([], (refl, refl))
separator_utf8 a = (codes " ", (refl, refl))

open_utf8 : IsUtf8 (codes "(")
unfolding encode
open_utf8 = (codes "(", (refl, refl))

close_utf8 : IsUtf8 (codes ")")
unfolding encode
close_utf8 = (codes ")", (refl, refl))

comma_utf8 : IsUtf8 (codes ",")
unfolding encode
comma_utf8 = (codes ",", (refl, refl))

added_texts : (bs : List ℕ) (w : EventsWritten) → IsUtf8 bs → AreTexts w → AreTexts (added bs w)
added_texts bs w u h = record {
  within = omega (arith, h.within, length-append w.bytes bs);
  all = IsUtf8-append w.bytes bs h.all u;
  front = subst IsUtf8 (sym (take-append-le w.polygon w.bytes bs h.within)) h.front;
}

opened_texts : (b : Bool) (w : EventsWritten) → AreTexts w → AreTexts (opened b w)
opened_texts false w h = added_texts (codes "(") w open_utf8 h
opened_texts true w h = record {
  within = omega (arith, length-append w.bytes (codes "("));
  all = IsUtf8-append w.bytes (codes "(") h.all open_utf8;
  front = subst IsUtf8 (sym (take-append_seam w.bytes (codes "("))) h.all;
}

taken_texts : (b : Bool) (p : Part) (w : EventsWritten) → AreTexts w → AreTexts (polygon_closed b p w)
taken_texts false p w h = added_texts (codes ")") w close_utf8 h
taken_texts true p w h =
    let long : length (take w.polygon w.bytes) ≡ w.polygon = length-take-le w.polygon w.bytes h.within in
    let same : take w.polygon (take w.polygon w.bytes ++ empty_text p) ≡ take w.polygon w.bytes =
    ap (λ (n : ℕ). take n (take w.polygon w.bytes ++ empty_text p)) (sym long) ∙ take-append_seam (take w.polygon w.bytes) (empty_text p) in
    record {
      within = omega (arith, long, length-append (take w.polygon w.bytes) (empty_text p));
      all = IsUtf8-append (take w.polygon w.bytes) (empty_text p) h.front (empty_utf8 p);
      front = subst IsUtf8 (sym same) h.front;
    }

closed_texts : (b : Bool) (p : Part) (w : EventsWritten) → AreTexts w → AreTexts (closed b p w)
closed_texts false p w h = added_texts (codes ")") w close_utf8 h
closed_texts true p w h = taken_texts (is_hollow w) p w h

module _ {N : Type 0} (num : N → List ℕ) where
  pub events_texts : (es : List (Event N)) (w : EventsWritten) → EachNumber (λ x. IsUtf8 (num x)) es → AreTexts w → AreTexts (write_all num es w)
  events_texts [] w u h = h
  events_texts (Event.Header p d ∷ es) w (u, us) h = events_texts es _ us (added_texts (kind_text p ++ suffix d) w (IsUtf8-append (kind_text p) (suffix d) (kind_utf8 p) (suffix_utf8 d)) h)
  events_texts (Event.Open p ∷ es) w (u, us) h = events_texts es _ us (opened_texts (is_polygon p) w h)
  events_texts (Event.Comma p ∷ es) w (u, us) h = events_texts es _ us (added_texts (codes ",") w comma_utf8 h)
  events_texts (Event.Close p ∷ es) w (u, us) h = events_texts es _ us (closed_texts (is_polygon p) p w h)
  events_texts (Event.Empty p ∷ es) w (u, us) h = events_texts es _ us (added_texts (empty_text p) w (empty_utf8 p) h)
  events_texts (Event.Number a x ∷ es) w (u, us) h = events_texts es _ us (added_texts (separator a ++ num x) w (IsUtf8-append (separator a) (num x) (separator_utf8 a) u) h)

-- nothing is written
pub none_texts : AreTexts (record { bytes = []; polygon = 0 })
none_texts = record { within = omega arith; all = IsUtf8-nil; front = IsUtf8-nil }

-- The text of a number that was read is UTF-8, where only texts are read.
module _ {N : Type 0} (read : List ℕ → Option N) (num : N → List ℕ) (is_value : N → Type 0) (values : (bs : List ℕ) → IfSome (read bs) is_value)
    (back : (x : N) → is_value x → read (num x) ≡ Some x) (utf8 : (bs : List ℕ) → IfSome (read bs) (λ _. IsUtf8 bs)) where
  pub num_utf8 : (run : List ℕ) (x : N) → read run ≡ Some x → IsUtf8 (num x)
  num_utf8 run x is =
      let known : is_value x = subst (λ (o : Option N). IfSome o is_value) is (values run) in
      subst (λ (o : Option N). IfSome o (λ _. IsUtf8 (num x))) (back x known) (utf8 (num x))

-- What bytes hold when a text builder wrote there, from the first on or behind others.

-- what stands up to the end of what was written
behind : (at k n : ℕ) (xs ys : List ℕ) → at ≤ length xs → n ≤ length ys → take (at + n) (put_mid at k xs ys) ≡ take at xs ++ take n ys
behind at k n xs ys within long =
    let front : length (take at xs) ≡ at = length-take-le at xs within in
    ap (λ (m : ℕ). take m (put_mid at k xs ys)) {x = at + n} {y = length (take at xs) + n} (omega (arith, front))
    ∙ take-append-add (take at xs) (ys ++ drop k (drop at xs)) n
    ∙ ap (λ l. take at xs ++ l) (take-append-le n ys (drop k (drop at xs)) long)

-- all lexemes of a line are left where its text begins
pub line_left : {n : ℕ} (feed : Bool) (text : List ℕ) (s : ByteCursor n) → s.text.now ≡ text → s.at ≡ 0 → remaining_spanned feed s.text.now s.at ≡ spanned (line_of feed text)
unfolding remaining_spanned
line_left feed text s is at = ap (λ t. remaining_spanned feed t s.at) is ∙ ap (remaining_spanned feed text) at

line_within : (feed : Bool) (text : List ℕ) → length (line_of feed text) ≤ length text
line_within false text = omega arith
line_within true text = omega (arith, line-within text)

-- there are no more of them than bytes
pub depth_fits : {n : ℕ} (feed : Bool) (text : List ℕ) (s : ByteCursor n) (most : ℕ) → s.text.now ≡ text → s.at ≡ 0 → length text ≤ most → length (remaining_spanned feed s.text.now s.at) ≤ most
depth_fits feed text s most is at long = omega (arith, long, line_within feed text, spanned-few (line_of feed text), ap length (line_left feed text s is at))

always : {N : Type 0} (o : Option N) → IfSome o (λ x. Unit {0})
always None = tt
always (Some x) = tt

-- a drive over a text's bytes with a text builder
module _ {P N : Type 0} (reads : P → List ℕ → Option N) (nums : P → N → List ℕ) {n : ℕ} (feed : Bool) (text : List ℕ) (s : ByteCursor n) (builder : TextBuilder P) (to : Progress (ByteCursor n) (TextBuilder P)) (is : s.text.now ≡ text) (at : s.at ≡ 0) where
  driven : GoesFrom (reads builder.numbers) (bytes_view feed) (text_builder_maker reads nums) s builder to → is_over (state_of to.machine) ≡ true
      → (v : Value N) × Front (reads builder.numbers) (line_of feed text) v to.source.at × Made (reads builder.numbers) (nums builder.numbers) builder (events v) to.builder
  driven h o = front_made (reads builder.numbers) (bytes_view feed) (text_builder_maker reads nums) (line_of feed text) s builder to (line_left feed text s is at) to.source.at (λ end e. e) h o

  -- the text builder that is kept has the numbers that it had
  pub writes_events : (before after : TextBuilder P) → builder ≡ before → GoesFrom (reads builder.numbers) (bytes_view feed) (text_builder_maker reads nums) s builder to → is_over (state_of to.machine) ≡ true → record to.builder { numbers = before.numbers } ≡ after
      → length before.out.now ≤ length after.out.now → WritesEvents (reads before.numbers) (nums before.numbers) (line_of feed text) before after to.source.at
  writes_events before after begins h o same long =
      let (v, front, made) = driven h o in
      let here : Made (reads builder.numbers) (nums builder.numbers) builder (events v) (record to.builder { numbers = builder.numbers }) = subst (λ (p : P). Made (reads builder.numbers) (nums builder.numbers) builder (events v) (record to.builder { numbers = p })) made.numbers made in
      let kept : Made (reads before.numbers) (nums before.numbers) before (events v) after =
      subst (Made (reads before.numbers) (nums before.numbers) before (events v)) same (subst (λ (p : TextBuilder P). Made (reads p.numbers) (nums p.numbers) p (events v) (record to.builder { numbers = p.numbers })) begins here) in
      let shorter = kept.shorter in
      record { value = v; front = subst (λ (p : TextBuilder P). Front (reads p.numbers) (line_of feed text) v to.source.at) begins front; made = kept; whole = omega (arith, shorter, long) }

  pub writes_nothing : RefusesFrom (reads builder.numbers) (bytes_view feed) (text_builder_maker reads nums) s builder to → IsUtf8 (line_of feed text) → HasNoFront (reads builder.numbers) (line_of feed text)
  writes_nothing h utf8 =
      no_front_there (reads builder.numbers) (bytes_view feed) (text_builder_maker reads nums) (line_of feed text) s builder to (line_left feed text s is at) text
      (is, (subst (λ t. IsUtf8 (line_of feed t)) (sym is) utf8, omega (arith, at))) h

  -- where it is refused the machine stops
  pub stops_at : RefusesFrom (reads builder.numbers) (bytes_view feed) (text_builder_maker reads nums) s builder to → StopsIn (reads builder.numbers) feed text to.machine to.source.at
  stops_at h off utf8 =
      stops_there (reads builder.numbers) text s is at utf8 to.source to.machine
      (refused (reads builder.numbers) (bytes_view false) (text_builder_maker reads nums) s builder to (subst (λ b. RefusesFrom (reads builder.numbers) (bytes_view b) (text_builder_maker reads nums) s builder to) off h))

module _ {N : Type 0} (read : List ℕ → Option N) (num : N → List ℕ) where
  fits : (line : List ℕ) (v : Value N) (end : ℕ) → Front read line v end → IsWellFormed (λ (x : N). Unit {0}) v
  fits line v end front = geometry_fits (λ (x : N). Unit {0}) read (λ bs. always (read bs)) v front.lexemes front.reads

  -- a text builder that had written nothing holds the text alone
  pub wrote-alone : {P : Type 0} (line : List ℕ) (end : ℕ) (old new : List ℕ) (before after : TextBuilder P) → before.len ≡ 0 → before.polygon ≡ 0 → WritesEvents read num line before after end → new ≡ after.out.now → HasWritten read num line 0 old new end after.len
  wrote-alone line end old new before after none first h tie =
      let b = h.made.wrote h.whole in
      let empty : written_of before ≡ record { bytes = []; polygon = 0 } = ap (λ (n : ℕ). record { bytes = take n before.out.now; polygon = before.polygon }) none ∙ ap (λ (n : ℕ). record { bytes = []; polygon = n }) first in
      let text : (write_all num (events h.value) (written_of before)).bytes ≡ shape_text num (shape_of h.value) =
      ap (λ w. (write_all num (events h.value) w).bytes) empty ∙ events_write (λ (x : N). Unit {0}) num h.value (fits line h.value end h.front) (record { bytes = []; polygon = 0 }) in
      record {
        value = h.value;
        front = h.front;
        utf8 = subst IsUtf8 text (let all = events_texts num (events h.value) (written_of before) (h.made.texts h.whole) (subst AreTexts (sym empty) none_texts) in all.all);
        written = ap (take after.len) tie ∙ ap (λ (w : EventsWritten). w.bytes) b.written ∙ text;
      }

  -- it stands behind what was there
  pub wrote-behind : (t : List ℕ) (at k end n : ℕ) (old back new : List ℕ) → at ≤ length old → n ≤ length new → HasWritten read num t 0 back new end n → HasWritten read num t at old (put_mid at k old new) end (at + n)
  wrote-behind t at k end n old back new within long h = record {
    value = h.value;
    front = h.front;
    utf8 = h.utf8;
    written = behind at k n old new within long ∙ ap (λ l. take at old ++ l) h.written;
  }

  -- it stands at the front
  pub wrote-into : (t : List ℕ) (old new : List ℕ) (end n : ℕ) → n ≤ length new → HasWritten read num t 0 old new end n → IsCanonicalTo read num t (take n new) end × (n ≤ length new) × IsUtf8 (take n new)
  wrote-into t old new end n within h = (record { value = h.value; front = h.front; is = h.written }, within, subst IsUtf8 (sym h.written) h.utf8)

  -- a text is its own line where no line feed ends it
  pub whole-text : (text bytes : List ℕ) (at : ℕ) (old new : List ℕ) (r : Result (Option (ℕ × ℕ)) NoRoom) → bytes ≡ text → IsUtf8 text → WritesFront read num false bytes at old new r → WritesCanonical read num text at old new r
  whole-text text bytes at old new (Ok (Some p)) same utf8 w = subst (λ (t : List ℕ). HasWritten read num t at old new p.0 p.1) same w
  whole-text text bytes at old new (Ok None) same utf8 w = subst (λ (t : List ℕ). WritesFront read num false t at old new (Ok None)) same w utf8
  whole-text text bytes at old new (Err e) same utf8 w = w

  -- what was written at the front of a buffer is the text's canonical text
  pub wrote-here : {P : Type 0} (text bytes old new : List ℕ) (before after : TextBuilder P) (end : ℕ) → bytes ≡ text → IsUtf8 text → before.len ≡ 0 → before.polygon ≡ 0 → WritesEvents read num (line_of false bytes) before after end → after.len + 64 ≤ length after.out.now → new ≡ after.out.now
      → IsCanonicalTo read num text (take after.len new) end × (after.len ≤ length new) × IsUtf8 (take after.len new)
  wrote-here text bytes old new before after end same utf8 none first h room tie =
      wrote-into text old new end after.len (omega (arith, room, ap length tie)) (whole-text text bytes 0 old new (Ok (Some (end, after.len))) same utf8 (wrote-alone (line_of false bytes) end old new before after none first h tie))

-- What a text builder's bytes are after a store.

-- A window is stored, and n of its bytes count.
pub front-stored : (at n m : ℕ) (xs ys : List ℕ) → m ≡ at + n → n ≤ length ys → at + length ys ≤ length xs → take m (put_chunk at xs ys) ≡ take at xs ++ take n ys
front-stored at n m xs ys e short room =
    let whole : take (at + length ys) (put_chunk at xs ys) ≡ take at xs ++ ys = take_more_put_chunk at xs ys (at + length ys) (omega arith) room in
    let long : length (take at xs) ≡ at = length-take-le at xs (omega arith) in
    sym (take-take m (at + length ys) (put_chunk at xs ys) (omega arith))
    ∙ ap (take m) whole
    ∙ ap (λ (k : ℕ). take k (take at xs ++ ys)) {x = m} {y = length (take at xs) + n} (omega arith)
    ∙ take-append-add (take at xs) ys n

-- A part is overwritten by as many bytes.
pub length-stored : (at n : ℕ) (xs ys : List ℕ) → length ys ≡ n → at + n ≤ length xs → length (put_mid at n xs ys) ≡ length xs
length-stored at n xs ys e room =
    length-append (take at xs) (ys ++ drop n (drop at xs))
    ∙ omega (arith, length-take-le at xs (omega arith), length-append ys (drop n (drop at xs)), length-drop n (drop at xs), length-drop at xs, e)

-- What a text builder has written that was told a value.

module _ {P N : Type 0} (read : List ℕ → Option N) (num : N → List ℕ) where
  -- a text builder that has written nothing has room for all but two windows
  pub fits-fresh : (numbers : P) (room : List ℕ) (p : TextBuilder P) (n : ℕ) → IsFresh numbers room p → n + 64 ≤ length room → Fits read num p n
  fits-fresh numbers room p n f le = omega (arith, f.none, f.whole, le)

  pub within-room : (p : TextBuilder P) → Fits read num p 0 → IsWithin p
  within-room p h = omega (arith, h)

  -- a number whose text has no room has a long one
  same-room : (v : Value N) (s t : TextBuilder P) → (HasLongText read num → ⊥) → Made read num s (events v) t → length t.out.now ≡ length s.out.now
  same-room v s t short h = elim (cases_lt (length t.out.now) (length s.out.now)) [
    | inl less ↦ absurd (short (h.stuck less))
    | inr none ↦ let le = h.shorter in omega (arith, le, none)
  ]

  pub wrote-value : (is_value : N → Type 0) → (HasLongText read num → ⊥) → WritesTexts is_value num → (numbers : P) (room : List ℕ) (s t : TextBuilder P) (v : Value N) → IsFresh numbers room s → IsWellFormed is_value v →
      Made read num s (events v) t → (written_of t).bytes ≡ shape_text num (shape_of v)
  wrote-value is_value short writes numbers room s t v fresh fits h =
      let becomes = h.wrote (same-room v s t short h) in
      let first : take s.len s.out.now ≡ [] = ap (λ n. take n s.out.now) fresh.none in
      ap (λ w. w.bytes) becomes.written ∙ writes v (written_of s) fits ∙ ap (λ bs. bs ++ shape_text num (shape_of v)) first

-- What a text builder's number is.

pub extends_more : {P : Type 0} (s t u : TextBuilder P) (bs cs : List ℕ) → Extends s bs t → Extends t cs u → Extends s (bs ++ cs) u
extends_more s t u bs cs h k = record {
  numbers = k.numbers ∙ h.numbers;
  origin = k.origin ∙ h.origin;
  whole = k.whole ∙ h.whole;
  len = omega (arith, k.len, h.len, length-append bs cs);
  polygon = k.polygon ∙ h.polygon;
  written = k.written ∙ ap (λ l. l ++ cs) h.written ∙ append_assoc (take s.len s.out.now) bs cs;
}

pub becomes_of : {P : Type 0} (s t : TextBuilder P) (bs : List ℕ) → Extends s bs t → TextBuilderBecomes s (added bs (written_of s)) t
becomes_of s t bs h = record {
  numbers = h.numbers;
  origin = h.origin;
  whole = h.whole;
  written = ap₂ (λ (l : List ℕ) (n : ℕ). record { bytes = l; polygon = n }) h.written h.polygon;
}

wrote_of : {P : Type 0} (s t : TextBuilder P) (bs : List ℕ) → Extends s bs t → Wrote s bs t
wrote_of s t bs h = record { numbers = h.numbers; shorter = omega (arith, h.whole); unless = λ _. h }

-- the text builder has written what stands before a number, and then the number
module _ {P N : Type 0} (reads : P → List ℕ → Option N) (nums : P → N → List ℕ) (text : List ℕ) (at : ℕ) (a : Axis) (self builder : TextBuilder P) (before : Extends self (separator a) builder) where
  numbered : (made : TextBuilder P) (end : ℕ) → Numbered (reads builder.numbers) (nums builder.numbers) text at builder made end → Numbered (reads self.numbers) (nums self.numbers) text at builder made end
  numbered made end = subst (λ (p : P). Numbered (reads p) (nums p) text at builder made end) before.numbers

  one-number : (made : TextBuilder P) (end : ℕ) → Numbered (reads self.numbers) (nums self.numbers) text at builder made end → MakesNumber (reads self.numbers) (text_builder_maker reads nums) self text at a made end
  one-number made end h = record {
    number = h.number;
    there = h.there;
    makes = record {
      numbers = h.wrote.numbers ∙ before.numbers;
      shorter = omega (arith, h.wrote.shorter, before.whole);
      wrote = λ e. becomes_of self made (separator a ++ nums self.numbers h.number) (extends_more self builder made (separator a) (nums self.numbers h.number) before (h.wrote.unless (omega (arith, e, before.whole))));
      texts = λ e. (h.utf8 (omega (arith, e, before.whole)), tt);
      stuck = λ less. record {
        run = shortest (without_plus (slice_range text at end));
        number = h.number;
        some = shortest-some (without_plus (slice_range text at end));
        reads = ap (reads self.numbers) (without-shortest (without_plus (slice_range text at end))) ∙ h.there.reads;
        long = h.stuck (omega (arith, less, before.whole));
      };
    };
  }

  pub makes-number : (made : TextBuilder P) (r : Option ℕ) → IfSome r (Numbered (reads builder.numbers) (nums builder.numbers) text at builder made) → IfSome r (λ end. MakesNumber (reads self.numbers) (text_builder_maker reads nums) self text at a made end)
  makes-number made None h = tt
  makes-number made (Some end) h = one-number made end (numbered made end h)

  separator-short : (a : Axis) → length (separator a) ≤ 1
  separator-short axis.X = omega arith
  separator-short axis.Y = omega arith
  separator-short axis.Z = omega arith
  separator-short axis.M = omega arith

  pub leaves-number : (made : TextBuilder P) (r : Option ℕ) → IfSome r (Numbered (reads builder.numbers) (nums builder.numbers) text at builder made) → IfSome r (LeavesBehind (text_builder_maker reads nums) self text at made)
  leaves-number made None h = tt
  leaves-number made (Some end) h = λ m most fits. h.room m most (omega (arith, fits, before.len, before.whole, separator-short a))

-- What was written is taken back: no event made it.
pub taken-back : {P N : Type 0} (read : List ℕ → Option N) (num : N → List ℕ) (self builder : TextBuilder P) (text : List ℕ) → Extends self text builder → self.len ≤ length self.out.now → Made read num self [] (record builder { len = self.len })
taken-back read num self builder text h within =
    let low : self.len ≤ builder.len = omega (arith, h.len) in
    let long : length (take self.len self.out.now) ≡ self.len = length-take-le self.len self.out.now within in
    let bytes : take self.len builder.out.now ≡ take self.len self.out.now =
    sym (take-take self.len builder.len builder.out.now low) ∙ ap (take self.len) h.written
    ∙ ap (λ (k : ℕ). take k (take self.len self.out.now ++ text)) (sym long) ∙ take-append_seam (take self.len self.out.now) text in
    record {
      numbers = h.numbers;
      shorter = omega (arith, h.whole);
      wrote = λ _. record { numbers = h.numbers; origin = h.origin; whole = h.whole; written = ap₂ (λ (l : List ℕ) (n : ℕ). record { bytes = l; polygon = n }) bytes h.polygon };
      texts = λ _. tt;
      stuck = λ less. absurd (omega (arith, less, h.whole));
    }

-- where the last polygon stands was as it is, and so were the numbers
pub same-polygon : {P : Type 0} (self made : TextBuilder P) (r : Option ℕ) → IfNone r (made ≡ self) → IfNone r (record made { polygon = self.polygon; numbers = self.numbers } ≡ self)
same-polygon {P} self made None h = ap (λ (p : TextBuilder P). record p { polygon = self.polygon; numbers = self.numbers }) h
same-polygon self made (Some end) h = tt

extends-none : {P : Type 0} (p : TextBuilder P) → Extends p [] p
extends-none p = record { numbers = refl; origin = refl; whole = refl; len = omega arith; polygon = refl; written = sym (append-nil (take p.len p.out.now)) }

-- the text builder has written the parenthesis of a point without parentheses, and then its first number
module _ {P N : Type 0} (reads : P → List ℕ → Option N) (nums : P → N → List ℕ) (text : List ℕ) (at : ℕ) (self builder made : TextBuilder P) (before : Extends self (40 ∷ []) builder) (end : ℕ) (h : Numbered (reads builder.numbers) (nums builder.numbers) text at builder made end) where
  pub makes-bare : MakesBareNumber (reads self.numbers) (text_builder_maker reads nums) self text at made end
  makes-bare = record {
    opened = builder;
    opens = record {
      numbers = before.numbers;
      shorter = omega (arith, before.whole);
      wrote = λ _. becomes_of self builder (40 ∷ []) before;
      texts = λ _. (tt, tt);
      stuck = λ less. absurd (omega (arith, less, before.whole));
    };
    number = subst (λ (p : P). MakesNumber (reads p) (text_builder_maker reads nums) builder text at axis.X made end) before.numbers (makes-number reads nums text at axis.X builder builder (extends-none builder) made (Some end) h);
  }

  pub leaves-bare : LeavesBehindBare (text_builder_maker reads nums) self text at made end
  leaves-bare = λ m most fits. h.room m most (omega (arith, fits, before.len, before.whole))

-- A number that keeps its text was written as it stands.
pub kept-numbered : {P T : Type 0} (read : List ℕ → Option T) (num : T → List ℕ) (utf8 : (run : List ℕ) (x : T) → read run ≡ Some x → IsUtf8 (num x)) (text : List ℕ) (at end kept : ℕ) (before after : TextBuilder P) → at ≤ length text
    → KeepsText read num (take (length text - at) (drop at text)) end kept → Extends before (take kept (take (length text - at) (drop at text))) after → Numbered read num text at before after (at + end)
kept-numbered read num utf8 text at end kept before after within keeps written =
    let rest : take (length text - at) (drop at text) ≡ drop at text = take_rest text at in
    let k = subst (λ l. KeepsText read num l end kept) rest keeps in
    let there = kept-there read num text at end kept (at + end) within refl k in
    let wrote = subst (λ l. Extends before l after) (ap (take kept) rest ∙ sym k.text) written in
    let same : slice_range text at (at + end) ≡ take end (drop at text) = ap (λ (n : ℕ). take n (drop at text)) {x = at + end - at} {y = end} (omega arith) in
    let (some, is) = plain (take end (drop at text)) k.run in
    let run : without_plus (slice_range text at (at + end)) ≡ take end (drop at text) = ap without_plus same ∙ is in
    let long : length (take end (drop at text)) ≤ length (shortest (without_plus (slice_range text at (at + end)))) = subst (λ r. length (take end (drop at text)) ≤ length (shortest r)) (sym run) (shortest-longer (take end (drop at text))) in
    let all : length (take end (drop at text)) ≡ end = length-take-le end (drop at text) k.within in
    let few : length (take kept (drop at text)) ≡ kept = length-take-le kept (drop at text) (omega (arith, k.shorter, k.within)) in
    record {
      number = k.number;
      there = there;
      wrote = wrote_of before after (num k.number) wrote;
      utf8 = λ _. utf8 (take end (drop at text)) k.number k.reads;
      stuck = λ less. absurd (omega (arith, less, wrote.whole));
      room = λ m most h. omega (arith, h, some, long, all, few, wrote.len, wrote.whole, k.shorter, ap length k.text);
    }

-- What a window keeps that goes on behind the text's end, the text does.
pub padded-keeps : {T : Type 0} (read : List ℕ → Option T) (num : T → List ℕ) (bs window : List ℕ) (end kept : ℕ) → length bs < length window → take (length bs) window ≡ bs → get_or window (length bs) 0 ≡ 0 → KeepsText read num window end kept
    → KeepsText read num bs end kept × (take kept window ≡ take kept bs)
padded-keeps read num bs window end kept less front is k =
    let b : BeginsNumber read bs k.number end = padded-shows read bs window k.number end less front is (record { within = k.within; run = k.run; stops = k.stops; reads = k.reads }) in
    let same : take kept window ≡ take kept bs = sym (take-take kept (length bs) window (omega (arith, k.shorter, b.within))) ∙ ap (take kept) front in (
      record { number = k.number; within = b.within; shorter = k.shorter; run = b.run; stops = b.stops; reads = b.reads; text = k.text ∙ same },
      same,
    )
