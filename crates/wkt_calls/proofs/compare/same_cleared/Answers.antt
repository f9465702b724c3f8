-- The bytes behind both short texts are zeros; and the first is refused, or the other isn't UTF-8.
use Rattle.std.proofs.Common.{arith}
use Rattle.wkt_calls.specs.Answer.{read_at, places_in}
use Rattle.wkt_calls.proofs.Padded.{zeros-at, cleared-long}
use Rattle.wkt_calls.proofs.Pieces.{refused-first}
use Rattle.wkt_calls.proofs.compare.same_cleared.Goals as goal

pub write_short-requires-clause-padded : goal.write_short-requires-clause-padded
write_short-requires-clause-padded g c = cleared-long g.row.PADDED _ c.requires.padded

pub write_short-requires-clause-zeros : goal.write_short-requires-clause-zeros
write_short-requires-clause-zeros g c = zeros-at g.row.PADDED

pub write_short-requires-clause-room : goal.write_short-requires-clause-room
write_short-requires-clause-room g c = cleared-long g.row.ROOM _ c.requires.room

pub refused_first-requires : goal.refused_first-requires
refused_first-requires g c = omega (arith, c.write_short.ensures.whole, cleared-long g.row.ROOM _ c.requires.other_room)

pub returns-in-Err : goal.returns-in-Err
returns-in-Err g c = refused-first (read_at (places_in c.args.options)) c.args.one.now c.args.other.now c.in-Err.status c.refused_first.result c.in-Err.ensures.canonical c.refused_first.ensures
