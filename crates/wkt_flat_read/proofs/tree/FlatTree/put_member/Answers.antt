-- The collection that was opened last has one member more.
use Rattle.std.proofs.Common.{◌+◌, ◌≡◌, ◌-◌, refl, arith, length}
use Rattle.wkt_flat.specs.Equal.{coord_eq}
use Rattle.wkt_flat_read.proofs.Holding.{member_put}
use Rattle.wkt_flat_read.proofs.tree.FlatTree.put_member.Goals as goal

pub returns-else-not-add_one : goal.returns-else-not-add_one
returns-else-not-add_one g c =
    let t = c.args.self.now in
    let some = c.in-Some.ensures.variant in
    let long : t.outer.len - 1 + 1 ≡ length t.outer.items = omega (arith, t.outer.ok.0, some.0 refl) in
    member_put (coord_eq g.T.PartialEq.eq) t c.in-Some.members.now c.add_one.new.list c.args.geometry (t.outer.len - 1) long c.in-Some.ensures.value c.if-not-add_one.ensures
