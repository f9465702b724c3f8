-- The number at this place.
use Rattle.std.proofs.Common.{false, refl}
use Rattle.wkt_machine.specs.Events.{Event}
use Rattle.wkt_values.proofs.TreeHolds.{one_event}
use Rattle.wkt_values.proofs.tree.WktBuilderBuilder.number_in.Goals as goal

pub returns-in-Some-clause-some : goal.returns-in-Some-clause-some
returns-in-Some-clause-some g c = record {
  number = _;
  there = c.in-Some.ensures.some;
  makes = one_event false _ _ c.args.self.tree.now c.put_number.new.self (Event.Number c.args.axis _) c.put_number.ensures (λ w m. m) (λ w. refl) (λ e. e);
}
