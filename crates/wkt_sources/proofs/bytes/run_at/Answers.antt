-- A number, the end, or a word.
use Rattle.std.proofs.Common.{sym, ap, ◌∙◌}
use Rattle.wkt_read.specs.Lexemes.{starts_number}
use Rattle.wkt_sources.proofs.ByteViews.{sees_number, sees_none, sees_word}
use Rattle.wkt_sources.proofs.bytes.run_at.Goals as goal

pub returns-then-begins_number : goal.returns-then-begins_number
returns-then-begins_number g c = sees_number _ c.args.text.now c.args.at c.args.at (ap starts_number (sym c.byte_at.ensures.value) ∙ sym c.begins_number.ensures ∙ c.if-begins_number.true)

pub returns-then-end-at : goal.returns-then-end-at
returns-then-end-at g c = sees_none _ c.args.text.now c.args.at c.run_end-end.result c.args.at c.run_end-end.ensures c.if-end-at.true c.requires.dark c.requires.unmarked

pub returns : goal.returns
returns g c =
    sees_word _ c.args.text.now c.args.at c.run_end-end.result c.seen_word.result c.run_end-end.ensures c.if-end-at.false
    (ap starts_number (sym c.byte_at.ensures.value) ∙ sym c.begins_number.ensures ∙ c.if-begins_number.false) c.seen_word.ensures
