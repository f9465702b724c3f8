-- The members so far are written alike, and depth shrinks on the way into a collection.
use Rattle.std.proofs.Common.{rules, ap, ◌≡◌, ◌∙◌, sym, arith, suc, ◌+◌, ◌*◌, ◌<◌}
use Rattle.wkt_types.specs.Tree.{tree, members}
use Rattle.wkt_types.proofs.TreeLemmas.{tree-collection}
use Rattle.wkt.proofs.Written.{depth, deepest, below_deepest, parts_differ, parts_agree, parts_end, members_alike}
use Rattle.wkt.specs.Same.{tree_alike}
use Rattle.wkt.proofs.same.+alike.Goals as goal

pub is_written_alike-are_written_alike-requires : goal.is_written_alike-are_written_alike-requires
is_written_alike-are_written_alike-requires g t c κs within =
    let e : depth (tree c.args.a.now) ≡ suc (deepest (members c.geometries.result.now)) =
    ap (λ w. depth (tree w)) c.in-GeometryCollection-GeometryCollection.is-0 ∙ (ap depth (tree-collection c.in-GeometryCollection-GeometryCollection.x) ∙ ap depth c.geometries.ensures) in
    let h : 2 * deepest (members c.geometries.result.now) + 2 < 2 * depth (tree c.args.a.now) + 1 = omega (arith, e) in
    search (rules, h, c.decreases)

pub are_written_alike-is_written_alike-requires : goal.are_written_alike-is_written_alike-requires
are_written_alike-is_written_alike-requires g t c κs within =
    let b = below_deepest c.args.a.now c.loop-i.i c.index-a-i.result c.loop-i-test.true c.index-a-i.is in
    let h : 2 * depth (tree c.index-a-i.result) + 1 < 2 * deepest (members c.args.a.now) + 2 = omega (arith, b) in
    search (rules, h, c.decreases)

pub are_written_alike-loop-i-init : goal.are_written_alike-loop-i-init
are_written_alike-loop-i-init g t c = record { within = omega arith; kept = members_alike g.T.PartialEq.eq c.args.a.now c.args.b.now }

pub are_written_alike-returns-then-not-is_written_alike : goal.are_written_alike-returns-then-not-is_written_alike
are_written_alike-returns-then-not-is_written_alike g t c =
    let found = c.in-Some.ensures.lookup in
    sym (c.loop-i.invariant.kept ∙ parts_differ (λ a b. tree_alike g.T.PartialEq.eq (tree a) (tree b)) c.args.a.now c.args.b.now c.loop-i.i c.index-a-i.result c.in-Some.y.now c.loop-i-test.true c.index-a-i.is found.3.0 found.1 (sym c.is_written_alike.ensures ∙ c.if-not-is_written_alike.true))

pub are_written_alike-loop-i-preserved : goal.are_written_alike-loop-i-preserved
are_written_alike-loop-i-preserved g t c =
    let found = c.in-Some.ensures.lookup in
    record {
      within = omega (arith, found.3.0);
      kept = c.loop-i.invariant.kept ∙ parts_agree (λ a b. tree_alike g.T.PartialEq.eq (tree a) (tree b)) c.args.a.now c.args.b.now c.loop-i.i c.index-a-i.result c.in-Some.y.now c.loop-i-test.true c.index-a-i.is found.3.0 found.1 (sym c.is_written_alike.ensures ∙ c.if-not-is_written_alike.false);
    }

pub are_written_alike-returns : goal.are_written_alike-returns
are_written_alike-returns g t c =
    parts_end (λ a b. tree_alike g.T.PartialEq.eq (tree a) (tree b)) c.args.a.now c.args.b.now c.loop-i.i c.loop-i-test.false c.loop-i.auto.i-end c.loop-i.invariant.within
    ∙ sym c.loop-i.invariant.kept
