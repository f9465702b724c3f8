use Rattle.std.proofs.Common.{◌≡◌, ◌++◌, ◌≤◌, ◌+◌, map, length}
use Rattle.std.specs.Vec.{vec_len, vec_capacity}
use Rattle.wkt_convert.specs.Back.{flat_xy}
use Rattle.wkt_convert.proofs.back.coords.Given as goal

abbrev pub invariant-many : goal.invariant-many
invariant-many g l = record {
  items : l.all.items ++ map flat_xy l.rest ≡ map flat_xy l.cs;
  room : vec_len l.all + length l.rest ≤ vec_capacity l.all;
}

abbrev pub decreases-many : goal.decreases-many
decreases-many g l = length l.rest
