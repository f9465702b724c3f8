-- Two canonical geometries are equal exactly if their canonical values are.
use Rattle.wkt_types.proofs.Canonicals.{canonical_one}
use Rattle.wkt_types.proofs.laws.canonical_is_one.Goals as goal

pub returns : goal.returns
returns g c = λ s t. canonical_one s t
