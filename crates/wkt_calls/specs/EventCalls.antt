-- A value of any kind as a list of events and a list of numbers, in the rooms of the caller.
use Rattle.std.specs.Prelude.{◌≡◌, ◌⊎◌, ℕ, ℤ, List, IsUtf8, Bool, ◌<◌, ◌≤◌, ◌*◌, length, map}
use Rattle.wkt_num.specs.Decimal.{IsUnits}
use Rattle.wkt_access.specs.Values.{Value}
use Rattle.wkt_access.specs.WellFormed.{IsWellFormed}
use Rattle.wkt_read.specs.Front.{Front}
use Rattle.wkt_fill.specs.declared.units.WktUnits.{WktUnits}
use Rattle.wkt_fill.specs.declared.event_writer.EventRoom.{EventRoom}
use Rattle.wkt_fill.specs.declared.front_events.EventCounts.{EventCounts}
use Rattle.wkt_calls.specs.Answer.{read_at, IsMore, with_front}
pub use Rattle.wkt_fill.specs.EventLists.{event_list, number_list, halves, begins, ends}

-- Both are those of the value of the text's front, which ends here; each coordinate has as many numbers as its dimension says, and each is a value. Neither is longer than half of the text.
pub record AreListsOf (places : ℕ) (text : List ℕ) (end : ℕ) (events : List ℕ) (numbers : List WktUnits) : Type 0 where
  pub utf8 : IsUtf8 text
  pub value : Value ℤ
  pub front : Front (read_at places) text value end
  pub fits : IsWellFormed (IsUnits places) value
  pub events_are : events ≡ event_list value
  pub numbers_are : numbers ≡ map halves (number_list value)
  pub few_events : 2 * length events ≤ length text
  pub few_numbers : 2 * length numbers ≤ length text

-- The lists of the text's front, and how long they are.
pub record AreCounted (places : ℕ) (text : List ℕ) (event_count number_count end : ℕ) : Type 0 where
  pub es : List ℕ
  pub ns : List WktUnits
  pub lists : AreListsOf places text end es ns
  pub events : event_count ≡ length es
  pub numbers : number_count ≡ length ns

-- Each stands at the front of its room, where that is long enough. Only private contracts cite this.
pub record AreInRooms (places : ℕ) (text : List ℕ) (old new : EventRoom) (c : EventCounts) : Type 0 where
  pub counted : AreCounted places text c.events c.numbers c.end
  pub within : c.end ≤ length text
  pub events_in : length counted.es ≤ length old.events.now → new.events.now ≡ with_front counted.es old.events.now
  pub numbers_in : length counted.ns ≤ length old.numbers.now → new.numbers.now ≡ with_front counted.ns old.numbers.now

-- They stand at the fronts of the rooms.
pub record AreWritten (places : ℕ) (text : List ℕ) (event_count number_count end : ℕ) (events events' : List ℕ) (numbers numbers' : List WktUnits) : Type 0 where
  pub counted : AreCounted places text event_count number_count end
  pub events_in : events' ≡ with_front counted.es events
  pub numbers_in : numbers' ≡ with_front counted.ns numbers

-- One of the rooms is too short for its list.
pub record HasNoRoomFor (places : ℕ) (text : List ℕ) (event_count number_count end : ℕ) (events : List ℕ) (numbers : List WktUnits) : Type 0 where
  pub counted : AreCounted places text event_count number_count end
  pub small : (length events < length counted.es) ⊎ (length numbers < length counted.ns)

-- Whole texts are asked for, and more than white space follows the front, which has these lists.
pub record HasMoreAfter (places : ℕ) (whole : Bool) (text : List ℕ) (event_count number_count end : ℕ) : Type 0 where
  pub counted : AreCounted places text event_count number_count end
  pub more : IsMore whole text end
