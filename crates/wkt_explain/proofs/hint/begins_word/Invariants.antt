-- What is left of the word decides, at what is left of the text.
use Rattle.std.proofs.Common.{◌≡◌, length}
use Rattle.std.specs.Str.{str_to_ascii_uppercase}
use Rattle.wkt_read.specs.Header.{begins}
use Rattle.wkt_explain.proofs.hint.begins_word.Given as goal

abbrev pub invariant-byte : goal.invariant-byte
invariant-byte l = begins l.remaining (str_to_ascii_uppercase l.rest) ≡ begins l.front (str_to_ascii_uppercase l.text)

abbrev pub decreases-byte : goal.decreases-byte
decreases-byte l = length l.remaining
