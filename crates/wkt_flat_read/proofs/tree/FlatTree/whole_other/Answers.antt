-- The geometry that was taken; or an empty point stands in it.
use Rattle.std.proofs.Common.{subst}
use Rattle.wkt_flat.specs.Equal.{coord_eq}
use Rattle.wkt_flat_read.specs.Trees.{FlatGives}
use Rattle.wkt_flat_read.proofs.Ended.{gives_other, refused_other}
use Rattle.wkt_flat_read.proofs.tree.FlatTree.whole_other.Goals as goal

pub returns-then-self : goal.returns-then-self
returns-then-self g c = refused_other (coord_eq g.T.PartialEq.eq) c.args.self.now c.args.found c.if-self.true

pub returns-in-Some : goal.returns-in-Some
returns-in-Some g c =
    let E = coord_eq g.T.PartialEq.eq in
    gives_other E c.args.self.now c.args.found c.in-Some.geometry c.geometry.new.self c.if-self.false (subst (λ r. FlatGives E c.args.self.now r c.geometry.new.self) c.in-Some.is c.geometry.ensures)
