-- The message of the place, and then of the parentheses that are open there, those of the geometry before those of collections.
use Rattle.std.proofs.Common.{ℕ, sym, ap, ◌∙◌}
use Rattle.wkt_num.specs.Bytes.{Lexeme}
use Rattle.std.specs.Prelude.{List}
use Rattle.wkt_read.specs.Stream.{rest}
use Rattle.wkt_read.specs.declared.messages.Message.{Message}
use Rattle.wkt_read.specs.Table.{closings}
use Rattle.wkt_machine.specs.Refusing.{expected_at, blamed, open_parens}
use Rattle.wkt_machine.specs.Machines.{state_of}
use Rattle.wkt_values.proofs.Reading.{advances_then}
use Rattle.wkt_sources.proofs.NextLexeme.{closings_more}
use Rattle.wkt_values.proofs.refused.refused.Goals as goal

pub returns-clause-message : goal.returns-clause-message
returns-clause-message g c =
    let read = g.T.WktNum.read in
    let s = state_of c.args.machine in
    let ls = rest c.args.tokens.now in
    let e = expected_at s.place s.depth in
    let close : ℕ → Message × List Lexeme → Message × List Lexeme = λ n y. closings read n y.0 y.1 in
    let own_is = c.open_parens.ensures in
    c.close.ensures.message ∙ ap (close c.args.machine.depth) (c.close-message.ensures.message ∙ ap (close c.open_parens.result) c.message_here-message.ensures.message ∙ ap (λ n. close n (blamed read e ls)) own_is)
    ∙ sym (closings_more read (open_parens s.place) c.args.machine.depth (blamed read e ls).0 (blamed read e ls).1)

pub returns-clause-advances : goal.returns-clause-advances
returns-clause-advances g c = advances_then _ _ _ (advances_then _ _ _ c.message_here-message.ensures.advances c.close-message.ensures.advances) c.close.ensures.advances
