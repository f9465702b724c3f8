-- The first parts are copied.
use Rattle.std.proofs.Common.{◌≡◌, take}
use Rattle.wkt_flat.proofs.copies.copies.Given as goal

abbrev pub invariant-loop-part : goal.invariant-loop-part
invariant-loop-part g l = l.all.items ≡ take l.part-index l.parts
