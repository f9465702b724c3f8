-- The bytes so far are swapped, and the others are as they were.
use Rattle.std.proofs.Common.{◌≡◌, ◌<◌, ap, ◌∙◌, arith, length}
use Rattle.wkt_command.specs.Place.{other_end}
use Rattle.wkt_command.proofs.Canonizing.{replaced_next, length_same}
use Rattle.wkt_command.proofs.input.swap_ends.Goals as goal

pub loop-byte-preserved : goal.loop-byte-preserved
loop-byte-preserved c =
    let same : length c.loop-byte.bytes ≡ length c.args.bytes.now = ap (λ l. length l) c.loop-byte.invariant ∙ length_same other_end c.args.bytes.now c.loop-byte.byte-index in
    let within : c.loop-byte.byte-index < length c.args.bytes.now = omega (arith, same, c.loop-byte-test.true) in
    replaced_next other_end c.args.bytes.now c.loop-byte.bytes c.loop-byte.byte-index c.other_end.result within c.loop-byte.invariant c.other_end.ensures
