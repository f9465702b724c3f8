-- The collection that was opened last has one member more.
use Rattle.std.proofs.Common.{◌+◌, ◌≡◌, ◌-◌, refl, arith, length}
use Rattle.wkt_values.proofs.TreeHolds.{lost_joins, member_put, none_joins, none_open}
use Rattle.wkt_values.proofs.tree.Tree.put_member.Goals as goal

pub returns-then-not-add_one : goal.returns-then-not-add_one
returns-then-not-add_one g c = lost_joins c.args.self.now _ c.args.geometry refl

pub returns-else-not-add_one : goal.returns-else-not-add_one
returns-else-not-add_one g c =
    let t = c.args.self.now in
    let some = c.in-Some.ensures.variant in
    let long : t.outer.len - 1 + 1 ≡ length t.outer.items = omega (arith, t.outer.ok.0, some.0 refl) in
    member_put t c.in-Some.open.now c.add_one.new.list c.args.geometry (t.outer.len - 1) long c.in-Some.ensures.value c.if-not-add_one.ensures

pub returns-in_default : goal.returns-in_default
returns-in_default g c =
    none_joins c.args.self.now _ c.args.geometry (none_open c.last_mut.result c.args.self.now.outer.items c.args.self.now.outer.len c.args.self.now.outer.ok.0 c.last_mut.ensures.variant.1 c.in_default.is) refl
