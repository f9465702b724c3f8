-- Whether the rest is hexadecimal decides it for the whole word.
use Rattle.std.proofs.Common.{◌≡◌, length}
use Rattle.std.specs.List.{list_all}
use Rattle.std.specs.Char.{is_ascii_hexdigit}
use Rattle.wkt_explain.proofs.hint.all_hexadecimal.Given as goal

abbrev pub invariant-byte : goal.invariant-byte
invariant-byte l = list_all is_ascii_hexdigit l.rest ≡ list_all is_ascii_hexdigit l.word

abbrev pub decreases-byte : goal.decreases-byte
decreases-byte l = length l.rest
