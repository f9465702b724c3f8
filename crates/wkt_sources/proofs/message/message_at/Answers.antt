-- The message of the place, and then of the parentheses that are open there, those of the geometry before those of collections.
use Rattle.std.proofs.Common.{◌≡◌, ℕ, sym, ap, ◌∙◌, subst, false}
use Rattle.std.specs.Prelude.{List}
use Rattle.wkt_num.specs.Bytes.{Lexeme}
use Rattle.wkt_read.specs.Table.{closings}
use Rattle.wkt_read.specs.declared.messages.Message.{Message}
use Rattle.wkt_events.specs.Remaining.{remaining}
use Rattle.wkt_machine.specs.Refusing.{expected_at, blamed, open_parens, refused}
use Rattle.wkt_machine.specs.Machines.{state_of}
use Rattle.wkt_sources.proofs.NextLexeme.{closings_more}
use Rattle.wkt_sources.proofs.message.message_at.Goals as goal

pub returns : goal.returns
returns g c =
    let read = (g.N.Numbers.read c.args.numbers) in
    let s = state_of c.args.machine in
    let bytes = c.as_bytes-bytes.result.now in
    let ls = remaining false bytes c.args.at in
    let e = expected_at s.place s.depth in
    let close : ℕ → Message × List Lexeme → Message × List Lexeme = λ n y. closings read n y.0 y.1 in
    let first : (c.message_here-blamed.result.0, remaining false bytes c.message_here-blamed.result.1) ≡ blamed read e ls = c.message_here-blamed.ensures.message in
    let own_is = c.open_parens.ensures in
    subst (λ t. c.close.result.0 ≡ (refused read s (remaining false t c.args.at)).0) c.as_bytes-bytes.ensures.value
    (ap (λ y. y.0) (c.close.ensures.message ∙ ap (close c.args.machine.depth) (c.close-message.ensures.message ∙ ap (close c.open_parens.result) first ∙ ap (λ n. close n (blamed read e ls)) own_is)
    ∙ sym (closings_more read (open_parens s.place) c.args.machine.depth (blamed read e ls).0 (blamed read e ls).1)))
