-- Room for headers and numbers of bytes.
use Rattle.std.proofs.Common.{◌≡◌, ℕ, ◌+◌, ◌*◌, List, length, get_or, Bool, Option, Some, refl, ap, ◌∙◌, arith, ◌-◌, ◌<◌, slice_range, IsTrue}
use Rattle.wkt_num.specs.Bytes.{Lexeme, Open, Close, Comma, Mark, class_of, Num}
use Rattle.wkt_events.specs.Remaining.{remaining_spanned, IsRunEnd, TakesOne}
use Rattle.wkt_sources.specs.Views.{bytes_view}
use Rattle.wkt_machine.specs.View.{seen_of, sight}
use Rattle.wkt_machine.specs.Makers.{Maker, MakesNumber}
use Rattle.wkt_machine.specs.Room.{need, Leaves, HasRoom, number_cost, FitsBare, FitsNumber, LeavesBehind, LeavesBehindBare, HasNumberRoom, LeavesNumber}
use Rattle.wkt_sources.specs.declared.bytes.ByteCursor.{ByteCursor}
use Rattle.wkt_machine.proofs.RoomForRest.{marks_one, need_most, need_stops, fits_seen, spent_room}
use Rattle.wkt_sources.proofs.ByteViews as bytes
use Rattle.wkt_read.specs.Lexemes.{starts_number, without_plus}
use Rattle.wkt_events.proofs.RemainingLexemes.{takes-number}
use Rattle.wkt_machine.specs.declared.part.Axis.{Axis}
use Rattle.wkt_machine.specs.declared.part.Axis.TheVariants as axis
use Rattle.wkt_machine.specs.declared.machine.LexemeKind.TheVariants as seen

-- The number at this place is a lexeme, whether or not it is read.
number_there : (feed : Bool) (text : List ℕ) (from end : ℕ) → IsRunEnd text from end → from < end → IsTrue (starts_number (get_or text from 0)) → TakesOne feed text from (Num (without_plus (slice_range text from end))) end
number_there feed text from end e order begins = takes-number {N = Unit {0}} (λ run. Some tt) feed text from end tt (record { order = order; ends = e; begins = begins; reads = refl })

module _ {N B : Type 0} (maker : Maker N B) {n : ℕ} (feed : Bool) where
  spent_there : (s : ByteCursor n) (at end : ℕ) → remaining_spanned feed s.text.now s.at ≡ remaining_spanned feed s.text.now at → IsRunEnd s.text.now at end → at < end → IsTrue (starts_number (get_or s.text.now at 0))
      → need (remaining_spanned feed s.text.now s.at) ≡ number_cost (without_plus (slice_range s.text.now at end)) + 1 + need (remaining_spanned feed s.text.now end)
  spent_there s at end same e order begins = ap need (same ∙ (number_there feed s.text.now at end e order begins).next)

  -- Room for the number at this place, behind white space or none.
  pub fits_number : (s : ByteCursor n) (b : B) (at : ℕ) → remaining_spanned feed s.text.now s.at ≡ remaining_spanned feed s.text.now at → HasNumberRoom (bytes_view feed) maker s b → FitsNumber maker b s.text.now at
  fits_number s b at same h = record {
    some = maker.less b 0 (need (remaining_spanned feed s.text.now s.at) - 1) (omega arith) h.fits;
    run = λ end e order begins.
        let all = spent_there s at end same e order begins in
        maker.less b (number_cost (without_plus (slice_range s.text.now at end))) (need (remaining_spanned feed s.text.now s.at) - 1) (omega (arith, all)) h.fits;
  }

  -- What is left behind it.
  pub leaves_number : (read : List ℕ → Option N) (axis : Axis) (s t : ByteCursor n) (b c : B) (at : ℕ) → remaining_spanned feed s.text.now s.at ≡ remaining_spanned feed s.text.now at → MakesNumber read maker b s.text.now at axis c t.at → t.text ≡ s.text
      → LeavesBehind maker b s.text.now at c t.at → LeavesNumber (bytes_view feed) maker s b t c
  leaves_number read axis s t b c at same made text leaves k one h =
      let all = spent_there s at t.at same made.there.ends made.there.order made.there.begins in
      let most = need_stops feed s.text.now t.at made.there.ends.stops in
      let there : need (remaining_spanned feed t.text.now t.at) ≡ need (remaining_spanned feed s.text.now t.at) = ap (λ x. need (remaining_spanned feed x.now t.at)) text in
      leaves (k + need (remaining_spanned feed t.text.now t.at)) (omega (arith, one, most, there))
      (maker.less b (k + need (remaining_spanned feed t.text.now t.at) + number_cost (without_plus (slice_range s.text.now at t.at))) (k + (need (remaining_spanned feed s.text.now s.at) - 1)) (omega (arith, all, there)) h)

  -- The same of the first number of a point without parentheses, for which one is opened.
  pub fits_bare : (s : ByteCursor n) (b : B) → seen.Number ≡ sight (remaining_spanned feed s.text.now s.at) → HasRoom (bytes_view feed) maker 0 s b → FitsBare maker b s.text.now s.at
  fits_bare s b sees h = record {
    some = fits_seen (bytes_view {n = n} feed) maker 0 1 seen.Number s b sees (omega arith) h;
    run = λ end e order begins.
        let all = spent_there s s.at end refl e order begins in
        maker.less b (number_cost (without_plus (slice_range s.text.now s.at end)) + 1) (0 + need (remaining_spanned feed s.text.now s.at)) (omega (arith, all)) h.fits;
  }

  pub leaves_bare : (read : List ℕ → Option N) (s t : ByteCursor n) (b o c : B) → MakesNumber read maker o s.text.now s.at axis.X c t.at → t.text ≡ s.text → LeavesBehindBare maker b s.text.now s.at c t.at → HasRoom (bytes_view feed) maker 0 s b → HasRoom (bytes_view feed) maker 0 t c
  leaves_bare read s t b o c made text leaves h =
      let all = spent_there s s.at t.at refl made.there.ends made.there.order made.there.begins in
      let most = need_stops feed s.text.now t.at made.there.ends.stops in
      let there : need (remaining_spanned feed t.text.now t.at) ≡ need (remaining_spanned feed s.text.now t.at) = ap (λ x. need (remaining_spanned feed x.now t.at)) text in
      record {
        fits = leaves (0 + need (remaining_spanned feed t.text.now t.at)) (omega (arith, most, there))
            (maker.less b (0 + need (remaining_spanned feed t.text.now t.at) + number_cost (without_plus (slice_range s.text.now s.at t.at)) + 1) (0 + need (remaining_spanned feed s.text.now s.at)) (omega (arith, all, there)) h.fits);
        values = h.values;
        reads = h.reads;
      }

  -- Twice the text and one more is room to begin.
  pub start_room : (s : ByteCursor n) (b : B) → maker.fits b (2 * (length s.text.now - s.at) + 1) → HasRoom (bytes_view feed) maker 0 s b
  start_room s b h =
      let most = need_most feed s.text.now s.at in
      record { fits = maker.less b (0 + need (remaining_spanned feed s.text.now s.at)) (2 * (length s.text.now - s.at) + 1) (omega (arith, most)) h; values = λ never. absurd never; reads = λ never. absurd never }

module _ {N B : Type 0} (maker : Maker N B) {n : ℕ} (feed : Bool) where
  -- A mark that stands right there.
  byte_seen : (l : Lexeme) (s : ByteCursor n) → class_of (get_or s.text.now s.at 0) ≡ Mark l → seen_of l ≡ sight (remaining_spanned feed s.text.now s.at)
  byte_seen l s mark = (bytes.sees_mark feed s.text.now s.at (get_or s.text.now s.at 0) l (seen_of l) refl mark refl).sees

  pub byte_fits : (l : Lexeme) (s : ByteCursor n) (b : B) → class_of (get_or s.text.now s.at 0) ≡ Mark l → HasRoom (bytes_view feed) maker 0 s b → maker.fits b 1
  byte_fits l s b mark h = let one = marks_one (get_or s.text.now s.at 0) l mark in fits_seen (bytes_view {n = n} feed) maker 0 1 (seen_of l) s b (byte_seen l s mark) (omega (arith, one)) h

  pub byte_after : (l : Lexeme) (s t : ByteCursor n) (b c : B) → class_of (get_or s.text.now s.at 0) ≡ Mark l → t.text ≡ s.text → t.at ≡ s.at + 1 → Leaves maker b 1 c → HasRoom (bytes_view feed) maker 0 s b → HasRoom (bytes_view feed) maker 0 t c
  byte_after l s t b c mark text at leaves h =
      let one = marks_one (get_or s.text.now s.at 0) l mark in
      spent_room (bytes_view {n = n} feed) maker 0 0 1 (seen_of l) s t b c (byte_seen l s mark) (bytes.skips_mark feed s t l mark text at) (omega (arith, one)) leaves h

  -- Behind a point of a multipoint stand its parenthesis, and the comma and the parenthesis before the next point.
  module _ (s : ByteCursor n) (b c : B) (h : HasRoom (bytes_view feed) maker 0 s b) (close : get_or s.text.now s.at 0 ≡ 41) (closed : Leaves maker b 1 c) (comma : get_or s.text.now (s.at + 1) 0 ≡ 44) where
    before_comma : HasRoom (bytes_view feed) maker 0 (bytes.past s 1) c
    before_comma = byte_after Close s (bytes.past s 1) b c (ap class_of close ∙ bytes.close_mark) refl refl closed h

    pub fits_comma : maker.fits c 1
    fits_comma = byte_fits Comma (bytes.past s 1) c (ap class_of comma ∙ bytes.comma_mark) before_comma

    module _ (d : B) (parted : Leaves maker c 1 d) (opens : get_or s.text.now (s.at + 1 + 1) 0 ≡ 40) where
      before_open : HasRoom (bytes_view feed) maker 0 (bytes.past (bytes.past s 1) 1) d
      before_open = byte_after Comma (bytes.past s 1) (bytes.past (bytes.past s 1) 1) c d (ap class_of comma ∙ bytes.comma_mark) refl refl parted before_comma

      pub fits_open : maker.fits d 1
      fits_open = byte_fits Open (bytes.past (bytes.past s 1) 1) d (ap class_of opens ∙ bytes.open_mark) before_open

      pub after_open : (t : ByteCursor n) (e : B) → t.text ≡ s.text → t.at ≡ s.at + 1 + 1 + 1 → Leaves maker d 1 e → HasRoom (bytes_view feed) maker 0 t e
      after_open t e text at opened = byte_after Open (bytes.past (bytes.past s 1) 1) t d e (ap class_of opens ∙ bytes.open_mark) text at opened before_open
