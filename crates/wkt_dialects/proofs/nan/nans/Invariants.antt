use Rattle.std.proofs.Common.{◌≡◌, ◌≤◌, ◌-◌, false}
use Rattle.wkt_events.specs.Remaining.{remaining_spanned}
use Rattle.wkt_dialects.specs.Dialects.{nans}
use Rattle.wkt_dialects.specs.Pieces.{IsPastSome}
use Rattle.wkt_dialects.proofs.nan.nans.Given as goal

abbrev pub invariant-nans : goal.invariant-nans
invariant-nans l = (l.left ≤ l.count) × IsPastSome l.text l.from (l.count - l.left) l.at × (nans l.count (remaining_spanned false l.text l.from) ≡ nans l.left (remaining_spanned false l.text l.at))

abbrev pub decreases-nans : goal.decreases-nans
decreases-nans l = l.left
