-- As many places as are asked for.
use Rattle.std.proofs.Common.{◌∙◌, subst}
use Rattle.wkt_calls.specs.Answer.{read_at, print_at}
use Rattle.wkt_calls.specs.Calls.{WritesOrRefuses}
use Rattle.wkt_calls.proofs.canonical.write_in.Goals as goal

pub returns-clause-canonical : goal.returns-clause-canonical
returns-clause-canonical c =
    subst (λ p. WritesOrRefuses (read_at p) (print_at p) c.args.text.now c.write_or_refuse.new.room c.write_or_refuse.result) (c.new.ensures ∙ c.places_of.ensures) c.write_or_refuse.ensures.canonical
