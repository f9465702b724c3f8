-- What is left of the word decides, at what is left of the text.
use Rattle.std.proofs.Common.{◌≡◌, length}
use Rattle.wkt_read.specs.Header.{begins}
use Rattle.wkt_explain.proofs.hint.begins.Given as goal

abbrev pub invariant-byte : goal.invariant-byte
invariant-byte l = begins l.remaining l.rest ≡ begins l.front l.text

abbrev pub decreases-byte : goal.decreases-byte
decreases-byte l = length l.remaining
