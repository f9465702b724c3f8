-- The number that comes next.
use Rattle.std.proofs.Common.{refl}
use Rattle.wkt_flat.specs.Equal.{coord_eq}
use Rattle.wkt_machine.specs.Events.{Event}
use Rattle.wkt_flat_read.proofs.Holding.{one_event}
use Rattle.wkt_flat_read.proofs.flat_builder.FlatBuilderBuilder.number_in.Goals as goal

pub returns-in-Some-clause-some : goal.returns-in-Some-clause-some
returns-in-Some-clause-some g c = record {
  number = _;
  there = c.in-Some.ensures.some;
  makes = one_event (coord_eq g.T.PartialEq.eq) _ _ c.args.self.tree.now c.put_number.new.self (Event.Number c.args.axis _) c.put_number.ensures (λ w m. m) (λ w. refl);
}
