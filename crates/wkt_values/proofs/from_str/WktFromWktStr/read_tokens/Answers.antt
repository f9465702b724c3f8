-- What needs no memory is read.
use Rattle.std.proofs.Common.{sym, subst}
use Rattle.wkt_read.specs.Stream.{rest}
use Rattle.wkt_read.specs.Answered.{Begins}
use Rattle.wkt_read.specs.Spanned.{Standing}
use Rattle.wkt_values.proofs.from_str.WktFromWktStr.read_tokens.Goals as goal

pub returns-clause-free : goal.returns-clause-free
returns-clause-free g c = λ v after begins small. c.read_off-answer.ensures.free v after (subst (λ (s : Standing). Begins g.T.WktNum.read (rest s) v after) (sym c.replace-lent.ensures.value) begins) small
