-- A collection is displayed as the geometry with its header and its members.
use Rattle.std.proofs.Common.{subst}
use Rattle.wkt_types.specs.Shown.{Shows}
use Rattle.wkt_types.proofs.TreeLemmas.{reported_whole}
use Rattle.wkt_types.proofs.display.GeometryCollectionDisplay.fmt.Goals as goal

pub returns : goal.returns
returns g c =
    subst (λ s. Shows g.W.Write.write_str_gives g.T.WktNum.num s c.args.f.now c.show_collection.result c.show_collection.new.f) (reported_whole c.args.self.now) c.show_collection.ensures
