-- What a text builder that is lent has written, and rooms that grow to hold canonical texts.
use Rattle.std.specs.Prelude.{◌≡◌, ℕ, ◌+◌, ◌*◌, ◌<◌, ◌≤◌, ◌⊎◌, List, length, take, Option, Result, Ok, Err, Bool, false, IsUtf8, Some, None}
use Rattle.wkt_access.specs.Values.{Value}
use Rattle.wkt_read.specs.Front.{Front, HasNoFront}
use Rattle.wkt_read.specs.Refusal.{IsRefusedWith}
use Rattle.wkt_read.specs.declared.messages.Message.{Message}
use Rattle.wkt_events.specs.Remaining.{line_of}
use Rattle.wkt_machine.specs.Events.{events}
use Rattle.wkt_machine.specs.Goes.{StopsAt}
use Rattle.wkt_machine.specs.declared.machine.Machine.{Machine}
use Rattle.wkt_canonical.specs.Canonical.{IsCanonicalTo, HasLongText}
use Rattle.wkt_canonical.specs.TextBuilderMaker.{Made}
use Rattle.wkt_canonical.specs.declared.text_builder.TextBuilder.{TextBuilder}
use Rattle.wkt_canonical.specs.declared.space.Space.{Space}
use Rattle.wkt_canonical.specs.declared.canonical.Next.{Next}
use Rattle.wkt_canonical.specs.declared.canonical.NoRoom.{NoRoom}
use Rattle.wkt_canonical.specs.declared.canonical.TextWritten.{TextWritten}
use Rattle.wkt_canonical.specs.declared.canonical.Next.TheVariants as next

-- What a text builder that is lent has written.

-- What holds where it was written.
abbrev pub IfEnds : Next → (ℕ → Type 0) → Type 0
IfEnds (next.Ends to) P = P to
IfEnds (next.Nothing m at) P = Unit {0}
IfEnds next.NoRoom P = Unit {0}

-- What holds where there is none.
abbrev pub IfNothing : Next → (Machine → ℕ → Type 0) → Type 0
IfNothing (next.Ends to) P = Unit {0}
IfNothing (next.Nothing m at) P = P m at
IfNothing next.NoRoom P = Unit {0}

-- The machine stops there in the text, where a line feed is no end of it.
abbrev pub StopsIn : {N : Type 0} → (List ℕ → Option N) → Bool → List ℕ → Machine → ℕ → Type 0
StopsIn read feed text m at = feed ≡ false → IsUtf8 text → StopsAt read text m at

-- The events of the value that the text begins with were written, and it ends there.
pub record WritesEvents {P N : Type 0} (read : List ℕ → Option N) (num : N → List ℕ) (text : List ℕ) (before after : TextBuilder P) (to : ℕ) : Type 0 where
  pub value : Value N
  pub front : Front read text value to
  pub made : Made read num before (events value) after
  pub whole : length after.out.now ≡ length before.out.now

-- a text builder over a sink's bytes, of which so many are written
abbrev pub text_builder_over : {P : Type 0} → P → ℕ → Space → TextBuilder P
text_builder_over numbers polygon s = record { out = s.out; len = s.len; polygon = polygon; numbers = numbers }

-- That, by a text builder over the bytes; or the text begins with none; or a number's text was too long.
abbrev pub WritesNext : {P N : Type 0} → (List ℕ → Option N) → (N → List ℕ) → P → Bool → List ℕ → Space → Space → Next → Type 0
WritesNext read num numbers feed text before after (next.Ends to) = (polygon : ℕ) × WritesEvents read num (line_of feed text) (text_builder_over numbers 0 before) (text_builder_over numbers polygon after) to
WritesNext read num numbers feed text before after (next.Nothing m at) = IsUtf8 (line_of feed text) → HasNoFront read (line_of feed text)
WritesNext read num numbers feed text before after next.NoRoom = HasLongText read num

-- The canonical text stands at the front of a buffer; or the text is refused with the message; or the buffer was too short, or a number's text too long.
abbrev pub WritesOrSays : {N : Type 0} → (List ℕ → Option N) → (N → List ℕ) → List ℕ → List ℕ → List ℕ → Result (Result TextWritten Message) NoRoom → Type 0
WritesOrSays read num text old new (Ok (Ok w)) = IsCanonicalTo read num text (take w.len new) w.end × (w.len ≤ length new) × IsUtf8 (take w.len new)
WritesOrSays read num text old new (Ok (Err m)) = HasNoFront read text × IsRefusedWith read text m
WritesOrSays read num text old new (Err e) = (length old < 2 * length text + 65) ⊎ HasLongText read num

-- What holds of the text, where one was written.
abbrev pub IfWritten : Result (Result TextWritten Message) NoRoom → (TextWritten → Type 0) → Type 0
IfWritten (Ok (Ok w)) P = P w
IfWritten (Ok (Err m)) P = Unit {0}
IfWritten (Err e) P = Unit {0}

-- Rooms that grow to hold canonical texts.

-- The canonical text stands at the front of the room; or the text has no front. Nothing is said where memory lacks.
abbrev pub HoldsCanonical : {N E : Type 0} → (List ℕ → Option N) → (N → List ℕ) → List ℕ → List ℕ → Result (Option TextWritten) E → Type 0
HoldsCanonical read num text room (Ok (Some w)) = IsCanonicalTo read num text (take w.len room) w.end × (w.len ≤ length room) × IsUtf8 (take w.len room)
HoldsCanonical read num text room (Ok None) = HasNoFront read text
HoldsCanonical read num text room (Err e) = Unit {0}
