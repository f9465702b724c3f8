-- Whether the rest has a no-break space decides it for the whole word.
use Rattle.std.proofs.Common.{◌≡◌, ◌∷◌, [], length}
use Rattle.wkt_read.specs.Header.{holds}
use Rattle.wkt_explain.proofs.hint.has_no_break_space.Given as goal

abbrev pub invariant-byte : goal.invariant-byte
invariant-byte l = holds (194 ∷ 160 ∷ []) l.rest ≡ holds (194 ∷ 160 ∷ []) l.word

abbrev pub decreases-byte : goal.decreases-byte
decreases-byte l = length l.rest
