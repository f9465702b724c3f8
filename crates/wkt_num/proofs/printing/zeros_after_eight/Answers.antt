-- The lowest bit of the mask counts the zeros at the end of the digits.
use Rattle.std.proofs.Common.{◌∙◌, arith}
use Rattle.wkt_num.proofs.EighteenPlaces.{zeros-lowest}
use Rattle.wkt_num.proofs.printing.zeros_after_eight.Goals as goal

pub returns : goal.returns
returns c = c.lowest.ensures ∙ zeros-lowest 8 c.args.digits c.fits-digits.0 (omega arith)
