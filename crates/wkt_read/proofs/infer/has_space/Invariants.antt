-- Whether the bytes from here on have a space decides it for the text.
use Rattle.std.proofs.Common.{◌≡◌, drop}
use Rattle.wkt_read.specs.Header.{has_space}
use Rattle.wkt_read.proofs.infer.has_space.Given as goal

abbrev pub invariant-loop-byte : goal.invariant-loop-byte
invariant-loop-byte l = has_space l.text ≡ has_space (drop l.byte-index l.text)
