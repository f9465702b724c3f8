use Rattle.std.proofs.Common.{◌≡◌, ◌++◌, ◌+◌, map, take}
use Rattle.std.specs.Vec.{vec_len, vec_capacity}
use Rattle.wkt_convert.specs.Back.{flat_xy}
use Rattle.wkt_convert.proofs.back.push_coords.Given as goal

abbrev pub invariant-loop-c : goal.invariant-loop-c
invariant-loop-c g l = record {
  items : l.all.items ≡ l.fn.all.items ++ map flat_xy (take l.c-index l.cs);
  count : vec_len l.all ≡ vec_len l.fn.all + l.c-index;
  room : vec_capacity l.all ≡ vec_capacity l.fn.all;
}
