use Rattle.std.proofs.Common.{◌≡◌, ◌≤◌, ◌+◌, ◌-◌, length, false}
use Rattle.wkt_read.specs.Spanned.{spanned}
use Rattle.wkt_events.specs.Remaining.{remaining_spanned}
use Rattle.wkt_dialects.specs.Reading.{ended_before}
use Rattle.wkt_dialects.proofs.places.lexemes_before.Given as goal

abbrev pub invariant-lexemes : goal.invariant-lexemes
invariant-lexemes l = (l.at ≤ length l.text) × (l.count ≤ l.at) × (ended_before l.upto (spanned l.text) ≡ l.count + ended_before l.upto (remaining_spanned false l.text l.at))

abbrev pub decreases-lexemes : goal.decreases-lexemes
decreases-lexemes l = length l.text - l.at
