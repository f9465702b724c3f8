-- The number at this place, in a parenthesis.
use Rattle.wkt_values.proofs.tree.WktBuilderBuilder.bare_in.Goals as goal

pub returns-in-Some-clause-some : goal.returns-in-Some-clause-some
returns-in-Some-clause-some g c = record {
  opened = c.open.result;
  opens = c.open.ensures.makes;
  number = record { number = _; there = c.in-Some.ensures.some; makes = c.number.ensures.makes };
}
