-- The bytes behind a short text are zeros.
use Rattle.wkt_calls.proofs.Padded.{zeros-at, cleared-long}
use Rattle.wkt_calls.proofs.explain.problem_cleared.Goals as goal

pub before_zeros-requires-clause-padded : goal.before_zeros-requires-clause-padded
before_zeros-requires-clause-padded g c = cleared-long g.row.PADDED _ c.requires.padded

pub before_zeros-requires-clause-zeros : goal.before_zeros-requires-clause-zeros
before_zeros-requires-clause-zeros g c = zeros-at g.row.PADDED
