-- Each part, and each member of a collection, is put under its header.
use Rattle.std.proofs.Common.{◌≡◌, ◌<◌, ◌+◌, ◌*◌, rules, ap, sym, ◌∙◌, arith, length, map}
use Rattle.std.proofs.lemmas.List.{length-map}
use Rattle.wkt_types.specs.Canonical.{canonical, parts_under, line_under}
use Rattle.wkt_types.specs.Tree.{tree, collection, multi_line_string, trees_of, weight, weights}
use Rattle.wkt_types.proofs.TreeLemmas.{tree-collection, tree-multi_line_string, opened, replaced_next, all_replaced, put_back, tree_at, waiting_within, members_canonical}
use Rattle.wkt_types.proofs.canonical.+canonical.Goals as goal

pub canonical_geometry-canonical_members-members-requires :
    goal.canonical_geometry-canonical_members-members-requires
canonical_geometry-canonical_members-members-requires g t c κs within =
    let e : weight c.args.geometry ≡ 1 + weights c.into_inner-members.result.0.items =
    opened c.args.geometry c.in-GeometryCollection.collection _ _ c.in-GeometryCollection.is c.into_inner-members.ensures in
    let h : 2 * weights c.into_inner-members.result.0.items + 1 < 2 * weight c.args.geometry = omega (arith, e) in
    search (rules, h, c.decreases)

pub canonical_geometry-returns-in-GeometryCollection :
    goal.canonical_geometry-returns-in-GeometryCollection
canonical_geometry-returns-in-GeometryCollection g t c =
    let d = c.into_inner-members.result.1 in
    let was = ap tree c.in-GeometryCollection.is ∙ (tree-collection c.in-GeometryCollection.collection ∙ c.into_inner-members.ensures) in
    tree-collection c.new.result
    ∙ (c.new.ensures
    ∙ (ap (λ ts. collection (trees_of ts) d) c.canonical_members-members.ensures
    ∙ (ap (λ ts. collection ts d) (members_canonical (map tree c.into_inner-members.result.0.items)) ∙ sym (ap canonical was))))

pub canonical_members-canonical_geometry-requires :
    goal.canonical_members-canonical_geometry-requires
canonical_members-canonical_geometry-requires g t c κs within =
    let n : c.len-i-end.result ≡ length c.args.members.items = omega (arith, c.len-i-end.ensures, c.args.members.ok.0) in
    let i : c.loop-i.i < length c.args.members.items = omega (arith, n, c.loop-i-test.true) in
    let member = c.index_mut.result.now in
    let same : weight c.replace-member.result ≡ weight member = ap (λ g. weight g) c.replace-member.ensures.value in
    let below = waiting_within c.args.members.items c.loop-i.members.items c.loop-i.i member i c.loop-i.invariant c.index_mut.ensures.value in
    let h : 2 * weight c.replace-member.result < 2 * weights c.args.members.items + 1 = omega (arith, same, below) in
    search (rules, h, c.decreases)

pub canonical_members-loop-i-preserved : goal.canonical_members-loop-i-preserved
canonical_members-loop-i-preserved g t c =
    let all = map tree c.args.members.items in
    let now = c.loop-i.members.items in
    let member = c.index_mut.result.now in
    let n : c.len-i-end.result ≡ length c.args.members.items = omega (arith, c.len-i-end.ensures, c.args.members.ok.0) in
    let m : length all ≡ length c.args.members.items = length-map c.args.members.items tree in
    let i : c.loop-i.i < length all = omega (arith, n, m, c.loop-i-test.true) in
    put_back now c.loop-i.i c.replace-member.new.dest c.canonical_geometry.result
    ∙ replaced_next canonical all (map tree now) c.loop-i.i (tree member) (tree c.canonical_geometry.result) i c.loop-i.invariant (tree_at now c.loop-i.i member c.index_mut.ensures.value)
    (c.canonical_geometry.ensures ∙ ap (λ w. canonical (tree w)) c.replace-member.ensures.value)

pub canonical_members-returns : goal.canonical_members-returns
canonical_members-returns g t c =
    let all = map tree c.args.members.items in
    let n : c.len-i-end.result ≡ length c.args.members.items = omega (arith, c.len-i-end.ensures, c.args.members.ok.0) in
    let m : length all ≡ length c.args.members.items = length-map c.args.members.items tree in
    c.loop-i.invariant ∙ all_replaced canonical all c.loop-i.i (omega (arith, n, m, c.loop-i-test.false))

pub canonical_geometry-returns-in-MultiLineString : goal.canonical_geometry-returns-in-MultiLineString
canonical_geometry-returns-in-MultiLineString g t c =
    let x = c.in-MultiLineString.m in
    let was = ap tree c.in-MultiLineString.is ∙ tree-multi_line_string x in
    tree-multi_line_string c.under-in-MultiLineString.result
    ∙ (ap (λ x. multi_line_string x) c.under-in-MultiLineString.ensures
    ∙ (ap (λ d. multi_line_string (parts_under line_under d x)) c.dimension-in-MultiLineString.ensures ∙ sym (ap canonical was)))
