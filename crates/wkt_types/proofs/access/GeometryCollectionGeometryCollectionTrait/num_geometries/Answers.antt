-- The collection has as many members as its list.
use Rattle.std.proofs.Common.{sym}
use Rattle.wkt_access.proofs.Collections.{count_is}
use Rattle.wkt_types.proofs.TreeLemmas.{member_shape, collection_is}
use Rattle.wkt_types.proofs.access.GeometryCollectionGeometryCollectionTrait.num_geometries.Goals as goal

pub returns : goal.returns
returns g c = sym (count_is member_shape _ _ _ (collection_is c.args.self.now _ _ c.geometries.ensures))
