-- A number, the end, or a word.
use Rattle.std.proofs.Common.{ap, sym, ◌∙◌}
use Rattle.wkt_read.specs.Lexemes.{starts_number}
use Rattle.wkt_sources.proofs.NextLexeme.{gives_none, gives_word, gives_number, gives_unread}
use Rattle.wkt_sources.proofs.message.run_given.Goals as goal

pub returns-in-Some : goal.returns-in-Some
returns-in-Some g c = gives_number (g.N.Numbers.read c.args.numbers) c.args.text.now c.args.at _ _ c.in-Some.ensures.some

pub returns-in-None : goal.returns-in-None
returns-in-None g c =
    gives_unread (g.N.Numbers.read c.args.numbers) c.args.text.now c.args.at c.run_end.result c.run_end.ensures c.requires.dark c.requires.utf8 c.requires.inside
    (ap starts_number (sym c.byte_at.ensures.value) ∙ sym c.begins_number.ensures ∙ c.if-begins_number.true) c.in-None.ensures.none

pub returns-then-end-at : goal.returns-then-end-at
returns-then-end-at g c = gives_none (g.N.Numbers.read c.args.numbers) c.args.text.now c.args.at c.run_end-end.result c.run_end-end.ensures c.requires.dark c.requires.unmarked c.if-end-at.true

pub returns : goal.returns
returns g c =
    gives_word (g.N.Numbers.read c.args.numbers) c.args.text.now c.args.at c.run_end-end.result c.run_end-end.ensures c.requires.dark c.requires.unmarked c.between.result c.if-end-at.false c.between.ensures
    (ap starts_number (sym c.byte_at.ensures.value) ∙ sym c.begins_number.ensures ∙ c.if-begins_number.false)
