-- The rings of the first members are closed.
use Rattle.std.proofs.Common.{sym}
use Rattle.wkt_flat.specs.Tree.{HasClosedRings, flat_tree}
use Rattle.wkt_flat.specs.declared.geometry.Geometry.{Geometry}
use Rattle.wkt_flat.proofs.TreeLemmas.{all-next, closed-as, collection-closed, flat-collection, flat-polygon}
use Rattle.wkt_flat.proofs.closed.+closed.Goals as goal

pub collection_is_closed-returns : goal.collection_is_closed-returns
collection_is_closed-returns g t c = collection-closed c.args.collection.now c.deref.result.now (sym c.deref.ensures.value) c.members_are_closed.ensures

pub members_are_closed-loop-member-preserved : goal.members_are_closed-loop-member-preserved
members_are_closed-loop-member-preserved g t c =
    all-next (λ (g : Geometry g.row.T.Denot). HasClosedRings (flat_tree g)) c.args.members.now c.loop-member.member-index c.member-item.result c.loop-member-test.true c.member-item.is c.loop-member.invariant c.geometry_is_closed.ensures

pub geometry_is_closed-returns-in-Polygon : goal.geometry_is_closed-returns-in-Polygon
geometry_is_closed-returns-in-Polygon g t c = closed-as _ _ c.in-Polygon.is (flat-polygon c.in-Polygon.y) c.polygon_is_closed.ensures

pub geometry_is_closed-returns-in-GeometryCollection : goal.geometry_is_closed-returns-in-GeometryCollection
geometry_is_closed-returns-in-GeometryCollection g t c = closed-as _ _ c.in-GeometryCollection.is (flat-collection c.in-GeometryCollection.c) c.collection_is_closed.ensures
