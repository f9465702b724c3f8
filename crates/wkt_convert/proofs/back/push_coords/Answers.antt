-- The coordinates so far are those before, and those of the first ones without z and m.
use Rattle.std.proofs.Common.{arith}
use Rattle.wkt_flat.proofs.TreeLemmas.{grown_after}
use Rattle.wkt_convert.specs.Back.{flat_xy}
use Rattle.wkt_convert.proofs.back.push_coords.Goals as goal

pub push_reserved-requires : goal.push_reserved-requires
push_reserved-requires g c =
    let was = c.loop-c.invariant in
    omega (arith, was.count, was.room, c.loop-c-test.true, c.requires)

pub loop-c-preserved : goal.loop-c-preserved
loop-c-preserved g c =
    let e = c.push_reserved.ensures in
    let was = c.loop-c.invariant in
    record {
      items = grown_after flat_xy _ _ _ _ _ _ _ c.loop-c-test.true c.c-item.is was.items c.coord.ensures e.items;
      count = omega (arith, e.len, was.count);
      room = omega (arith, e.capacity, was.room);
    }
