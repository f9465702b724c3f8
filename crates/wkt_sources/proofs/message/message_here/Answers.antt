-- A number that isn't read is blamed; any other lexeme stays, or is taken.
use Rattle.std.proofs.Common.{◌∷◌, sym, ap, ◌∙◌, false}
use Rattle.wkt_read.specs.Lexemes.{starts_number}
use Rattle.wkt_read.specs.Table.{at_end, at_place, stays}
use Rattle.wkt_events.specs.Remaining.{remaining}
use Rattle.wkt_sources.proofs.NextLexeme.{blames_none, blames_number, blames_stays, blames_taken}
use Rattle.wkt_sources.proofs.message.message_here.Goals as goal

pub returns-then-begins_number-clause-message : goal.returns-then-begins_number-clause-message
returns-then-begins_number-clause-message g c =
    blames_number (g.N.Numbers.read c.args.numbers) c.args.text.now c.args.machine c.args.at c.skip_white-start.result c.run_end.result c.skip_white-start.ensures.order c.skip_white-start.ensures.same c.run_end.ensures
    (ap starts_number (sym c.byte_at.ensures.value) ∙ sym c.begins_number.ensures ∙ c.if-begins_number.true) (sym c.takes_number.ensures ∙ c.if-takes_number.true) c.requires.stuck

pub returns-in-None-clause-message : goal.returns-in-None-clause-message
returns-in-None-clause-message g c = blames_none (g.N.Numbers.read c.args.numbers) c.args.text.now _ c.at_end.result c.args.at c.in-None.ensures (c.at_end.ensures ∙ ap at_end c.expected-expected.ensures)

pub returns-then-stays-clause-message : goal.returns-then-stays-clause-message
returns-then-stays-clause-message g c =
    let (l, takes, shows) = c.in-Some.ensures in
    let r = remaining false c.args.text.now c.in-Some.end in
    blames_stays (g.N.Numbers.read c.args.numbers) c.args.text.now _ c.at_place-message.result c.args.at _ l takes (c.at_place-message.ensures l r shows ∙ ap (λ e. at_place (g.N.Numbers.read c.args.numbers) e (l ∷ r)) c.expected-expected.ensures)
    (sym c.if-stays.true ∙ c.stays.ensures l shows ∙ ap (λ e. stays (g.N.Numbers.read c.args.numbers) e l) c.expected-expected.ensures)

pub returns-else-stays-clause-message : goal.returns-else-stays-clause-message
returns-else-stays-clause-message g c =
    let (l, takes, shows) = c.in-Some.ensures in
    let r = remaining false c.args.text.now c.in-Some.end in
    blames_taken (g.N.Numbers.read c.args.numbers) c.args.text.now _ c.at_place-message.result c.args.at _ l takes (c.at_place-message.ensures l r shows ∙ ap (λ e. at_place (g.N.Numbers.read c.args.numbers) e (l ∷ r)) c.expected-expected.ensures)
    (sym c.if-stays.false ∙ c.stays.ensures l shows ∙ ap (λ e. stays (g.N.Numbers.read c.args.numbers) e l) c.expected-expected.ensures)

pub returns-else-stays-clause-inside : goal.returns-else-stays-clause-inside
returns-else-stays-clause-inside g c = let (l, takes, shows) = c.in-Some.ensures in takes.inside
