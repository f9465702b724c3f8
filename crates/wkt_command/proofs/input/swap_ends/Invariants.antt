use Rattle.std.proofs.Common.{◌≡◌}
use Rattle.wkt_command.specs.Place.{other_end}
use Rattle.wkt_command.proofs.Canonizing.{replaced}
use Rattle.wkt_command.proofs.input.swap_ends.Given as goal

abbrev pub invariant-loop-byte : goal.invariant-loop-byte
invariant-loop-byte l = l.bytes ≡ replaced other_end l.byte-index l.fn.bytes
