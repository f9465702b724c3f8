-- What is inside a collection are its members.
use Rattle.wkt_types.proofs.TreeLemmas.{inside_opened}
use Rattle.wkt_types.proofs.dropping.WktNested.into_members.Goals as goal

pub returns-in-GeometryCollection : goal.returns-in-GeometryCollection
returns-in-GeometryCollection g c = inside_opened _ _ _ _ c.in-GeometryCollection.is c.into_inner.ensures
