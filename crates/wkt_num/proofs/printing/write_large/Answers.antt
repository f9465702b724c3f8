-- The bytes that were put are ASCII, so they are UTF-8.
use Rattle.std.proofs.Common.{subst, sym, arith}
use Rattle.std.specs.Str.{IsUtf8}
use Rattle.std.proofs.lemmas.Str.{IsUtf8-from_ascii}
use Rattle.wkt_num.proofs.Printed.{magnitude-ascii}
use Rattle.wkt_num.proofs.printing.write_large.Goals as goal

pub from_utf8_unchecked-requires : goal.from_utf8_unchecked-requires
from_utf8_unchecked-requires g c =
    subst IsUtf8 (sym c.put_units-start.ensures.value) (IsUtf8-from_ascii _ (magnitude-ascii c.args.places c.args.units c.args.negative (omega (arith, c.ranges.units.fits))))
