-- It is as it was, but for its polygon and its numbers, which are put back.
use Rattle.std.proofs.Common.{rules}
use Rattle.wkt_canonical.proofs.TextBuilderOutput.{same-polygon}
use Rattle.wkt_canonical.proofs.text_builder.TextBuilder.slow_number.Goals as goal

pub returns : goal.returns
returns g c =
    let puts = c.slow_number_outlined-builder.ensures in
    record { some = search rules; none = puts.none; nothing = same-polygon c.args.self c.slow_number_outlined-builder.result.0 c.slow_number_outlined-builder.result.1 puts.nothing }
