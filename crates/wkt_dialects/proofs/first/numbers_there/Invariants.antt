use Rattle.std.proofs.Common.{◌≡◌, ◌≤◌, ◌+◌, ◌-◌, length, false}
use Rattle.wkt_events.specs.Remaining.{remaining_spanned}
use Rattle.wkt_dialects.specs.Dialects.{numbers_there}
use Rattle.wkt_dialects.proofs.first.numbers_there.Given as goal

abbrev pub invariant-numbers : goal.invariant-numbers
invariant-numbers l = (l.at ≤ length l.text) × (l.count ≤ l.at) × (numbers_there l.dialects (remaining_spanned false l.text l.from) ≡ l.count + numbers_there l.dialects (remaining_spanned false l.text l.at))

abbrev pub decreases-numbers : goal.decreases-numbers
decreases-numbers l = length l.text - l.at
