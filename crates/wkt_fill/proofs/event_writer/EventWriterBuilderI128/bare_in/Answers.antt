-- The number that comes next was put, in a parenthesis.
use Rattle.std.proofs.Common.{◌≡◌, rules, subst, to_z, of_z, [], ◌∷◌}
use Rattle.std.specs.Int.{w128}
use Rattle.wkt_machine.specs.declared.part.Axis.TheVariants as axis
use Rattle.wkt_machine.specs.Events.{Event}
use Rattle.wkt_fill.specs.EventLists.{Becomes, tell_all, writer_maker}
use Rattle.wkt_fill.proofs.event_writer.EventWriterBuilderI128.bare_in.Goals as goal

pub returns-in-Some-clause-some : goal.returns-in-Some-clause-some
returns-in-Some-clause-some c =
    let same : to_z w128 (of_z w128 c.in-Some.number) ≡ c.in-Some.number = search rules in
    record {
      opened = c.open-opened.result;
      opens = c.open-opened.ensures.makes;
      number = record {
        number = c.in-Some.number;
        there = c.in-Some.ensures.some;
        makes = subst (λ x. Becomes (tell_all (Event.Number axis.X x ∷ [])) c.open-opened.result c.number.result) same c.number.ensures.makes;
      };
    }

pub returns-in-None-clause-nothing : goal.returns-in-None-clause-nothing
returns-in-None-clause-nothing c = writer_maker.none c.args.self
