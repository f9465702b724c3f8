use Rattle.std.proofs.Common.{◌≡◌, ◌≤◌, ◌-◌, length, drop}
use Rattle.std.specs.Str.{str_to_ascii_uppercase}
use Rattle.wkt_read.specs.Header.{begins}
use Rattle.wkt_read.proofs.keywords.begins.Given as goal

abbrev pub invariant-byte : goal.invariant-byte
invariant-byte l = record { within : l.i ≤ length l.word; same : begins l.word (str_to_ascii_uppercase l.text) ≡ begins (drop l.i l.word) (str_to_ascii_uppercase (drop l.i l.text)) }

abbrev pub decreases-byte : goal.decreases-byte
decreases-byte l = length l.word - l.i
