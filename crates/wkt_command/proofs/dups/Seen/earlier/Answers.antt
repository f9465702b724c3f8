-- The key is found where it was put first, and all keys are kept.
use Rattle.std.proofs.Common.{arith}
use Rattle.std.proofs.lemmas.Grind.{common_steps}
use Rattle.std.proofs.lemmas.Slice.Eq.{bytes_eq-Decides}
use Rattle.wkt_command.proofs.dups.Seen.earlier.Goals as goal

pub returns-in-Vacant-clause-kept : goal.returns-in-Vacant-clause-kept
returns-in-Vacant-clause-kept c key =
    let puts = c.in_ok-earlier.ensures.update.0 c.args.spot in
    grind (arith, common_steps, puts.0 key, bytes_eq-Decides c.args.canonical.now key)
