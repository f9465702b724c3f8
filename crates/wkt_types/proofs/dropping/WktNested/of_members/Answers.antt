-- What is inside a collection are its members.
use Rattle.std.proofs.Common.{refl}
use Rattle.wkt_types.proofs.TreeLemmas.{inside_opened}
use Rattle.wkt_types.proofs.dropping.WktNested.of_members.Goals as goal

pub returns : goal.returns
returns g c = inside_opened _ c.new.result c.args.members.items _ refl c.new.ensures
