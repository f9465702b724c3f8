-- The header is of the dimension that is printed.
use Rattle.wkt_write.proofs.put_geometries.put_collection_header.Goals as goal

pub returns : goal.returns
returns g c = rw (← c.dimension_in.ensures) c.put_header.ensures
