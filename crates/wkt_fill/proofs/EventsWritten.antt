-- The lists of the front of a text are in the rooms.
use Rattle.std.proofs.Common.{◌≡◌, ◌-◌, ◌^◌, ◌≤◌, ℕ, ℤ, List, length, refl, sym, ap, subst, arith, Option, Some}
use Rattle.std.specs.Prelude.{IsUtf8, IfSome}
use Rattle.wkt_num.specs.Decimal.{read_decimal, IsUnits}
use Rattle.wkt_num.specs.DecimalLaws.{decimal_reads_values}
use Rattle.wkt_num.proofs.ReadNumbers.{decimal_utf8}
use Rattle.wkt_access.specs.Values.{Value}
use Rattle.wkt_access.specs.WellFormed.{IsWellFormed}
use Rattle.wkt_access.specs.declared.dimensions.Dimension.TheVariants.{XY}
use Rattle.wkt_read.specs.Front.{Front}
use Rattle.wkt_read.proofs.OneForm.{geometry_fits}
use Rattle.wkt_events.proofs.Utf8Lines.{text-with-front, text-behind-front}
use Rattle.wkt_machine.specs.Events.{events}
use Rattle.wkt_fill.specs.EventLists.{untold, AreFew, HoldsTold, Holds, Becomes, halves, tell_all, event_list, number_list, HasLists, WritesFront}
use Rattle.wkt_fill.specs.declared.event_writer.EventWriter.{EventWriter}
use Rattle.wkt_fill.specs.declared.event_writer.EventRoom.{EventRoom}
use Rattle.wkt_fill.specs.declared.front_events.EventCounts.{EventCounts}
use Rattle.std.proofs.Common.{map}
use Rattle.wkt_fill.proofs.EventsTold.{value-told}
use Rattle.wkt_fill.proofs.EventRooms.{nothing-there, in-room}

module _ (P : ℤ → Type 0) (old new : EventRoom) (s t : EventWriter) (c : EventCounts) where
  has-lists : s.events ≡ old.events → s.numbers ≡ old.numbers → s.event_count ≡ 0 → s.number_count ≡ 0 → s.coordinates ≡ 0 → s.dimension ≡ XY
      → new.events ≡ t.events → new.numbers ≡ t.numbers → c.events ≡ t.event_count → c.numbers ≡ t.number_count
      → (v : Value ℤ) → IsWellFormed P v → Becomes (tell_all (events v)) s t → length (event_list v) ≤ 2 ^ 64 - 1 → length (number_list v) ≤ 2 ^ 64 - 1 → HasLists old new (event_list v) (number_list v) c
  has-lists es ns ec nc cs d ne nn ce cn v fits made few few' =
      let told = value-told P v fits untold refl in
      let start : Holds old.events.now old.numbers.now s untold = λ _. record {
        list = nothing-there old.events.now s.events.now s.event_count (ap (λ r. r.now) es) ec;
        units = nothing-there old.numbers.now s.numbers.now s.number_count (ap (λ r. r.now) ns) nc;
        coordinates = cs;
        fewer = omega arith;
        dimension = d;
      } in
      let all : AreFew (tell_all (events v) untold) = record {
        events = subst (λ l. length l ≤ 2 ^ 64 - 1) (sym told.list) few;
        numbers = subst (λ l. length l ≤ 2 ^ 64 - 1) (sym told.numbers) few';
      } in
      let h : HoldsTold old.events.now old.numbers.now t (tell_all (events v) untold) = made.holds old.events.now old.numbers.now untold start all in
      record {
        list = in-room old.events.now _ (event_list v) t.events.now new.events.now t.event_count c.events h.list told.list (ap (λ r. r.now) ne) ce;
        units = in-room old.numbers.now _ (map halves (number_list v)) t.numbers.now new.numbers.now t.number_count c.numbers h.units (ap (map halves) told.numbers) (ap (λ r. r.now) nn) cn;
      }

module _ (places : ℕ) (text : List ℕ) where
  abbrev read : List ℕ → Option ℤ
  read = read_decimal 127 36 places

  -- only texts are read as numbers
  run-text : (run : List ℕ) (x : ℤ) → read run ≡ Some x → IsUtf8 run
  run-text run x e = subst (λ (o : Option ℤ). IfSome o (λ u. IsUtf8 run)) e (decimal_utf8 places run)

  pub front-written : (old new : EventRoom) (s t : EventWriter) (c : EventCounts) (v : Value ℤ) → s.events ≡ old.events → s.numbers ≡ old.numbers → s.event_count ≡ 0 → s.number_count ≡ 0 → s.coordinates ≡ 0 → s.dimension ≡ XY
      → new.events ≡ t.events → new.numbers ≡ t.numbers → c.events ≡ t.event_count → c.numbers ≡ t.number_count → Front read text v c.end → Becomes (tell_all (events v)) s t → WritesFront places text old new c
  front-written old new s t c v es ns ec nc cs d ne nn ce cn front made =
      let fits = geometry_fits (IsUnits places) read (decimal_reads_values places) v front.lexemes front.reads in
      record {
        value = v;
        front = front;
        within = let ends = front.ends in omega (arith, ends);
        utf8 = (text-behind-front read run-text text v c.end front, text-with-front read run-text text v c.end front);
        fits = fits;
        lists = has-lists (IsUnits places) old new s t c es ns ec nc cs d ne nn ce cn v fits made;
      }
