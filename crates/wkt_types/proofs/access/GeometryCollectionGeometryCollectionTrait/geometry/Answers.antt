-- The member at a place is the geometry at that place, which the list has.
use Rattle.std.proofs.Common.{arith}
use Rattle.wkt_access.proofs.Collections.{count_is, member_at}
use Rattle.wkt_types.proofs.TreeLemmas.{member_shape, collection_is}
use Rattle.wkt_types.proofs.access.GeometryCollectionGeometryCollectionTrait.geometry.Goals as goal

pub offset_bounds-geometries-i : goal.offset_bounds-geometries-i
offset_bounds-geometries-i g c = omega (arith, count_is member_shape _ _ _ (collection_is c.args.self.now _ _ c.geometries.ensures), c.requires)

pub bounds-geometries-i : goal.bounds-geometries-i
bounds-geometries-i g c = omega (arith, count_is member_shape _ _ _ (collection_is c.args.self.now _ _ c.geometries.ensures), c.requires)

pub returns : goal.returns
returns g c = member_at member_shape _ _ _ (collection_is c.args.self.now _ _ c.geometries.ensures) _ _ c.requires c.index-geometries-i.is
