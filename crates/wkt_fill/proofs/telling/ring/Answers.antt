-- The coordinates of a ring are there.
use Rattle.std.proofs.Common.{◌+◌}
use Rattle.wkt_fill.proofs.Between.{ring-order, ring-within}
use Rattle.wkt_fill.proofs.telling.ring.Goals as goal

pub line-requires-clause-order : goal.line-requires-clause-order
line-requires-clause-order g c = ring-order c.args.given c.requires.whole c.args.index c.requires.within

pub line-requires-clause-within : goal.line-requires-clause-within
line-requires-clause-within g c = ring-within c.args.given c.requires.whole (c.args.index + 1) c.requires.within
