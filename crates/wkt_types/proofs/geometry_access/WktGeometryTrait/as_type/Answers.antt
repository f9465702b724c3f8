-- A collection has as many members as its list.
use Rattle.std.proofs.Common.{refl}
use Rattle.wkt_access.proofs.Collections.{is_collection}
use Rattle.wkt_types.proofs.TreeLemmas.{member_shape, geometry_is}
use Rattle.wkt_types.proofs.geometry_access.WktGeometryTrait.as_type.Goals as goal

pub returns-in-GeometryCollection-clause-collection : goal.returns-in-GeometryCollection-clause-collection
returns-in-GeometryCollection-clause-collection g c = is_collection member_shape _ _ _ (geometry_is c.in-GeometryCollection.c _ _ c.geometries.ensures c.args.self.now c.in-GeometryCollection.is) _ refl
