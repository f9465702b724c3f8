-- Collections with equal members have equal lists of members, of both types.
use Rattle.wkt.proofs.Texts.{trees_one, flats_one}
use Rattle.wkt.proofs.flat_laws.members_are_listed.Goals as goal

pub returns : goal.returns
returns g c = (λ ws vs e. trees_one _ _ e, λ gs hs e. flats_one _ _ e)
