-- What is done and what still waits make the value of the whole at each step, and the loop ends.
use Rattle.std.proofs.Common.{◌≡◌, refl, ap, sym, ◌∙◌, length, map, arith}
use Rattle.wkt_types.specs.Tree as trees
use Rattle.wkt_types.specs.Tree.{tree, trees_of}
use Rattle.wkt_types.specs.declared.geometry.Wkt.TheVariants as variants
use Rattle.wkt_types.proofs.TreeLemmas.{tree-collection}
use Rattle.wkt_flat.specs.Tree.{flat_weight, weight, weights, flat_tree}
use Rattle.wkt_flat.proofs.TreeLemmas.{flat-point}
use Rattle.wkt_convert.proofs.FlatKinds.{tree-point}
use Rattle.wkt_convert.specs.Back.{back}
use Rattle.wkt_convert.proofs.Opened.{all_back_members, first-of, falls-opened, falls-closed}
use Rattle.wkt_convert.proofs.OpenedBack.{going, finish, goes-on, opens, closes, ends, left-falls}
use Rattle.wkt_convert.proofs.back.geometries.Goals as goal

pub loop-rest-init : goal.loop-rest-init
loop-rest-init g c =
    ap (λ xs. finish xs (going (map tree c.in_ok-done.done.items) c.args.gs.now)) c.new-opened.ensures.items
    ∙ ap (λ ws. going (map tree ws) c.args.gs.now) c.in_ok-done.ensures.items

pub returns-in_default : goal.returns-in_default
returns-in_default g c =
    let at = c.loop-rest in
    let closed : length at.opened.items ≡ 0 = omega (arith, c.in_default.ensures.cases, at.opened.ok.0) in
    let all : map tree at.done.items ≡ map (λ g. back (flat_tree g)) c.args.gs.now =
    sym (ends at.opened.items at.done.items at.rest.now closed c.in-empty.len_below) ∙ at.invariant in
    ap trees_of all
    ∙ sym (all_back_members c.args.gs.now)

pub loop-rest-smaller-then-rest-lt1 : goal.loop-rest-smaller-then-rest-lt1
loop-rest-smaller-then-rest-lt1 g c =
    falls-closed weights c.pop.new.self.items c.loop-rest.opened.items c.in-Some.outer c.loop-rest.rest.now c.in-Some.ensures.items

pub loop-rest-preserved-then-rest-lt1 : goal.loop-rest-preserved-then-rest-lt1
loop-rest-preserved-then-rest-lt1 g c =
    let at = c.loop-rest in
    closes c.pop.new.self.items at.opened.items c.in-Some.outer at.done.items c.push.new.self.items _ at.rest.now
    c.in-Some.ensures.items c.in-empty.len_below (tree-collection c.new-closed.result ∙ c.new-closed.ensures) c.in_ok-push-in-empty.ensures.items
    ∙ at.invariant

pub loop-rest-smaller-in-Point : goal.loop-rest-smaller-in-Point
loop-rest-smaller-in-Point g c = omega (arith, left-falls c.loop-rest.rest.now c.in-len1-up.len_at_least)

pub loop-rest-preserved-in-Point : goal.loop-rest-preserved-in-Point
loop-rest-preserved-in-Point g c =
    let at = c.loop-rest in
    let next = c.next-item.result in
    let one : tree (variants.Point c.point.result) ≡ back (flat_tree next) =
    tree-point c.point.result
    ∙ (ap (λ p. trees.point p) c.point.ensures
    ∙ sym (ap (λ g. back (flat_tree g)) c.in-Point.is ∙ ap back (flat-point c.in-Point.p))) in
    goes-on at.opened.items at.done.items c.push-in-Point.new.self.items _ next at.rest.now _
    (first-of at.rest.now next c.in-len1-up.len_at_least c.next-item.is) one c.in_ok-push-in-Point.ensures.items
    ∙ at.invariant

pub loop-rest-smaller-in-Whole : goal.loop-rest-smaller-in-Whole
loop-rest-smaller-in-Whole g c = omega (arith, left-falls c.loop-rest.rest.now c.in-len1-up.len_at_least)

pub loop-rest-preserved-in-Whole : goal.loop-rest-preserved-in-Whole
loop-rest-preserved-in-Whole g c =
    let one = rw c.in-Whole.is at c.in_ok-w-in_default-next.ensures in
    goes-on c.loop-rest.opened.items c.loop-rest.done.items c.push-in-Whole.new.self.items c.in-Whole.w c.next-item.result c.loop-rest.rest.now _
    (first-of c.loop-rest.rest.now c.next-item.result c.in-len1-up.len_at_least c.next-item.is) one c.in_ok-push-in-Whole.ensures.items
    ∙ c.loop-rest.invariant

pub loop-rest-smaller : goal.loop-rest-smaller
loop-rest-smaller g c =
    falls-opened weight weights (λ x xs. refl) c.loop-rest.opened.items c.push-in-Members.new.self.items _ c.loop-rest.rest.now c.in-Members.inner.now c.next-item.result
    c.in-len1-up.len_at_least c.next-item.is (ap flat_weight (rw c.in-Members.is at c.in_ok-w-in_default-next.ensures)) c.in_ok-push-in-Members.ensures.items refl

pub loop-rest-preserved : goal.loop-rest-preserved
loop-rest-preserved g c =
    let at = c.loop-rest in
    let next = c.next-item.result in
    let held = rw c.in-Members.is at c.in_ok-w-in_default-next.ensures in
    opens at.opened.items c.push-in-Members.new.self.items _ c.in_ok-done-in-Members.done.items next at.rest.now c.in-Members.inner.now
    c.in_ok-push-in-Members.ensures.items (first-of at.rest.now next c.in-len1-up.len_at_least c.next-item.is) held c.in_ok-done-in-Members.ensures.items
    ∙ at.invariant
