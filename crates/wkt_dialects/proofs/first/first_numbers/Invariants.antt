use Rattle.std.proofs.Common.{◌≡◌, ◌≤◌, ◌-◌, length, false, Some}
use Rattle.wkt_events.specs.Remaining.{remaining_spanned}
use Rattle.wkt_dialects.specs.Dialects.{first_numbers}
use Rattle.wkt_dialects.proofs.first.first_numbers.Given as goal

abbrev pub invariant-lexemes : goal.invariant-lexemes
invariant-lexemes l = (l.at ≤ length l.text) × (l.depth ≤ l.at) × (first_numbers l.dialects (Some 0) (remaining_spanned false l.text l.from) ≡ first_numbers l.dialects (Some l.depth) (remaining_spanned false l.text l.at))

abbrev pub decreases-lexemes : goal.decreases-lexemes
decreases-lexemes l = length l.text - l.at
