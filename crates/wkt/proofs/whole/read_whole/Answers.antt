-- An error of memory comes only where memory is needed.
use Rattle.std.proofs.Common.{◌≡◌, true, false}
use Rattle.wkt.proofs.whole.read_whole.Goals as goal

pub returns-in-Err-clause-free : goal.returns-in-Err-clause-free
returns-in-Err-clause-free g c = λ v end front none. let ok : false ≡ true = c.in-Err.ensures.free v end front none in cc
