-- The bytes behind a short text are zeros, and there is room for its canonical text.
use Rattle.wkt_calls.proofs.Padded.{zeros-at, cleared-long}
use Rattle.wkt_calls.proofs.canonical.canonical_cleared.Goals as goal

pub write_short-requires-clause-padded : goal.write_short-requires-clause-padded
write_short-requires-clause-padded g c = cleared-long g.row.PADDED _ c.requires.padded

pub write_short-requires-clause-zeros : goal.write_short-requires-clause-zeros
write_short-requires-clause-zeros g c = zeros-at g.row.PADDED

pub write_short-requires-clause-room : goal.write_short-requires-clause-room
write_short-requires-clause-room g c = cleared-long g.row.ROOM _ c.requires.room
