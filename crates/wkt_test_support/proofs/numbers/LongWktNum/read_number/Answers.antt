-- A text is neither of the two, nor other bytes.
use Rattle.std.proofs.Common.{rules}
use Rattle.wkt_test_support.proofs.Longs.{not-read}
use Rattle.wkt_test_support.proofs.numbers.LongWktNum.read_number.Goals as goal

pub returns : goal.returns
returns c = not-read c.args.text.now c.utf8.text (search rules) (search rules)
