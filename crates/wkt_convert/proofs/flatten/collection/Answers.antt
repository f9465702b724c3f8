-- What is done and what still waits make the outcome of the whole at each step, and the loop ends.
use Rattle.std.proofs.Common.{◌≡◌, refl, ap, sym, ◌∙◌, length, map, arith}
use Rattle.std.proofs.lemmas.Result.{err_from_is_err_and}
use Rattle.wkt_types.specs.Tree.{tree, tree_weight, weight, weights}
use Rattle.wkt_types.specs.Outcome.{value}
use Rattle.wkt_flat.specs.Equal.{coord_eq}
use Rattle.wkt_flat.specs.Tree.{Flat, flats_of, flat_tree, flat_trees}
use Rattle.wkt_flat.proofs.TreeLemmas.{flat-collection}
use Rattle.wkt_convert.specs.Flatten.{flat, outcome_map, outcomes}
use Rattle.wkt_convert.proofs.FlatKinds.{tree-point}
use Rattle.wkt_convert.proofs.Opened.{flatten_members, passes_on, first-of, falls-opened, falls-closed}
use Rattle.wkt_convert.proofs.OpenedFlat.{going, going-start, finish, goes-on, opens, closes, ends, refuses, left-falls}
use Rattle.wkt_convert.proofs.flatten.collection.Goals as goal

pub loop-rest-init : goal.loop-rest-init
loop-rest-init g c =
    let E = coord_eq g.T.PartialEq.eq in
    let ws = c.args.ws.now in
    ap (λ xs. finish E xs (going E (map flat_tree c.in_ok-done.done.items) ws)) c.new-opened.ensures.items
    ∙ (ap (λ gs. going E (map flat_tree gs) ws) c.in_ok-done.ensures.items ∙ going-start E ws)

pub returns-in_default : goal.returns-in_default
returns-in_default g c =
    let E = coord_eq g.T.PartialEq.eq in
    let at = c.loop-rest in
    let closed : length at.opened.items ≡ 0 = omega (arith, c.in_default.ensures.cases, at.opened.ok.0) in
    let all : outcomes (λ w. flat E (tree w)) c.args.ws.now ≡ value (map flat_tree at.done.items) =
    sym at.invariant ∙ ends E at.opened.items at.done.items at.rest.now closed c.in-empty.len_below in
    flatten_members E c.args.ws.now ∙ (ap (outcome_map flats_of) all ∙ ap value (sym c.new_from-closed.ensures))

pub loop-rest-smaller-then-rest-lt1 : goal.loop-rest-smaller-then-rest-lt1
loop-rest-smaller-then-rest-lt1 g c =
    falls-closed weights c.pop.new.self.items c.loop-rest.opened.items c.in-Some.outer c.loop-rest.rest.now c.in-Some.ensures.items

pub loop-rest-preserved-then-rest-lt1 : goal.loop-rest-preserved-then-rest-lt1
loop-rest-preserved-then-rest-lt1 g c =
    let E = coord_eq g.T.PartialEq.eq in
    let at = c.loop-rest in
    closes E c.pop.new.self.items at.opened.items c.in-Some.outer at.done.items c.push.new.all.items _ at.rest.now
    c.in-Some.ensures.items c.in-empty.len_below (flat-collection c.new_from-closed.result ∙ ap Flat.collection c.new_from-closed.ensures) c.in_ok-push-in-empty.ensures
    ∙ at.invariant

pub returns-in_err-g-in_default-next : goal.returns-in_err-g-in_default-next
returns-in_err-g-in_default-next g c =
    let E = coord_eq g.T.PartialEq.eq in
    let ws = c.args.ws.now in
    let at = c.loop-rest in
    let next = c.next-item.result in
    let p = err_from_is_err_and c.from_residual-in_err-g-in_default-next.result c.from_residual-in_err-g-in_default-next.ensures.1 in
    rw (p.1, p.2)
    (passes_on flat_tree flat_trees _ _ (λ k r.
    flatten_members E ws
    ∙ ap (outcome_map flats_of)
    (sym at.invariant ∙ refuses E at.opened.items (map flat_tree at.done.items) next at.rest.now _ k (first-of at.rest.now next c.in-len1-up.len_at_least c.next-item.is) r)) _ c.in_err-g-in_default-next.ensures)

pub loop-rest-smaller-in-Whole : goal.loop-rest-smaller-in-Whole
loop-rest-smaller-in-Whole g c = omega (arith, left-falls c.loop-rest.rest.now c.in-len1-up.len_at_least)

pub loop-rest-preserved-in-Whole : goal.loop-rest-preserved-in-Whole
loop-rest-preserved-in-Whole g c =
    let E = coord_eq g.T.PartialEq.eq in
    let one = rw c.in-Whole.is at c.in_ok-g-in_default-next.ensures in
    goes-on E c.loop-rest.opened.items c.loop-rest.done.items c.push-in-Whole.new.all.items c.in-Whole.g c.next-item.result c.loop-rest.rest.now _
    (first-of c.loop-rest.rest.now c.next-item.result c.in-len1-up.len_at_least c.next-item.is) one c.in_ok-push-in-Whole.ensures
    ∙ c.loop-rest.invariant

pub loop-rest-smaller : goal.loop-rest-smaller
loop-rest-smaller g c =
    falls-opened weight weights (λ x xs. refl) c.loop-rest.opened.items c.push-in-Members.new.all.items _ c.loop-rest.rest.now c.in-Members.inner.now c.next-item.result
    c.in-len1-up.len_at_least c.next-item.is (ap tree_weight (rw c.in-Members.is at c.in_ok-g-in_default-next.ensures).1) c.in_ok-push-in-Members.ensures refl

pub loop-rest-preserved : goal.loop-rest-preserved
loop-rest-preserved g c =
    let E = coord_eq g.T.PartialEq.eq in
    let at = c.loop-rest in
    let next = c.next-item.result in
    let held = rw c.in-Members.is at c.in_ok-g-in_default-next.ensures in
    opens E at.opened.items c.push-in-Members.new.all.items _ c.in_ok-done-in-Members.done.items next at.rest.now c.in-Members.inner.now held.0
    c.in_ok-push-in-Members.ensures (first-of at.rest.now next c.in-len1-up.len_at_least c.next-item.is) held.1 c.in_ok-done-in-Members.ensures.items
    ∙ at.invariant

pub loop-rest-smaller-in-Point : goal.loop-rest-smaller-in-Point
loop-rest-smaller-in-Point g c = omega (arith, left-falls c.loop-rest.rest.now c.in-len1-up.len_at_least)

pub loop-rest-preserved-in-Point : goal.loop-rest-preserved-in-Point
loop-rest-preserved-in-Point g c =
    let E = coord_eq g.T.PartialEq.eq in
    let at = c.loop-rest in
    let next = c.next-item.result in
    let one : flat E (tree next) ≡ value (flat_tree c.point.result) =
    ap (λ w. flat E (tree w)) c.in-Point.is ∙ (ap (flat E) (tree-point c.in-Point.p) ∙ ap value (sym c.point.ensures)) in
    goes-on E at.opened.items at.done.items c.push-in-Point.new.all.items c.point.result next at.rest.now _
    (first-of at.rest.now next c.in-len1-up.len_at_least c.next-item.is) one c.in_ok-push-in-Point.ensures
    ∙ at.invariant
