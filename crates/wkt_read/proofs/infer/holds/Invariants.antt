use Rattle.std.proofs.Common.{◌≡◌, ◌≤◌, ◌-◌, length, drop}
use Rattle.std.specs.Str.{str_to_ascii_uppercase}
use Rattle.wkt_read.specs.Header.{holds}
use Rattle.wkt_read.proofs.infer.holds.Given as goal

abbrev pub invariant-place : goal.invariant-place
invariant-place l = record { within : l.i ≤ length l.text; same : holds l.word (str_to_ascii_uppercase l.text) ≡ holds l.word (str_to_ascii_uppercase (drop l.i l.text)) }

abbrev pub decreases-place : goal.decreases-place
decreases-place l = length l.text - l.i
