-- The front ends where the last of the geometry's lexemes does.
use Rattle.wkt_read.proofs.HeaderPlaces.{front-of-lexemes}
use Rattle.wkt_read.proofs.laws.front_of_lexemes.Goals as goal

pub returns : goal.returns
returns g c text given later v are h = front-of-lexemes g.T.WktNum.read text given later v are h
