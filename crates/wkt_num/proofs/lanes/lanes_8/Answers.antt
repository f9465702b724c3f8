-- The lanes are the last bytes of the body, each less 48.
use Rattle.std.proofs.Common.{◌+◌, arith}
use Rattle.wkt_num.proofs.DigitLanes.{kept, lanes-are}
use Rattle.wkt_num.proofs.lanes.lanes_8.Goals as goal

pub returns : goal.returns
returns c = lanes-are 8 c.args.count c.args.body.now _ c.requires.1 c.requires.0 (kept 8 c.args.count (8 + c.args.count) c.requires.1 (omega arith) (omega arith))
