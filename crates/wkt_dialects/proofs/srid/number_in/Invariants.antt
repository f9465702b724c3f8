use Rattle.std.proofs.Common.{◌≡◌, ◌≤◌, ◌<◌, ◌-◌, ◌^◌, length, take}
use Rattle.std.specs.Str.Parse.{AllDigits, digits_value}
use Rattle.wkt_dialects.proofs.srid.number_in.Given as goal

abbrev pub invariant-digits : goal.invariant-digits
invariant-digits l = (l.count ≤ 9) × (l.count ≤ length l.bytes) × AllDigits 10 (take l.count l.bytes) × (l.number ≡ digits_value 10 (take l.count l.bytes)) × (l.number < 10 ^ l.count)

abbrev pub decreases-digits : goal.decreases-digits
decreases-digits l = 9 - l.count
