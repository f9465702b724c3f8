-- A mark is itself; white space may stand before the lexeme.
use Rattle.std.proofs.Common.{sym, refl, ap, false, ◌∙◌}
use Rattle.wkt_num.specs.Bytes.{Open, Close, Comma, class_of}
use Rattle.wkt_events.specs.Remaining.{class_in}
use Rattle.wkt_events.proofs.RemainingLexemes.{spanned-nul}
use Rattle.wkt_sources.specs.declared.message.NextLexeme.TheVariants as given
use Rattle.wkt_sources.proofs.ByteViews.{open_mark, close_mark, comma_mark, unmarked}
use Rattle.wkt_sources.proofs.NextLexeme.{gives_mark, gives_after}
use Rattle.wkt_sources.proofs.message.next_given.Goals as goal

pub returns-then-byte_at-eq0 : goal.returns-then-byte_at-eq0
unfolding class_in class_of
returns-then-byte_at-eq0 g c = spanned-nul false c.args.text.now c.args.from (ap (class_in false) (sym c.byte_at.ensures.value ∙ c.if-byte_at-eq0.true))

pub returns-then-byte-eq41 : goal.returns-then-byte-eq41
returns-then-byte-eq41 g c = gives_mark (g.N.Numbers.read c.args.numbers) c.args.text.now c.args.from c.skip_white-at.result 41 Close given.Close c.skip_white-at.ensures.order c.skip_white-at.ensures.same (sym c.if-byte-eq41.true ∙ c.byte_at-byte.ensures.value) close_mark refl

pub returns-then-byte-eq40 : goal.returns-then-byte-eq40
returns-then-byte-eq40 g c = gives_mark (g.N.Numbers.read c.args.numbers) c.args.text.now c.args.from c.skip_white-at.result 40 Open given.Open c.skip_white-at.ensures.order c.skip_white-at.ensures.same (sym c.if-byte-eq40.true ∙ c.byte_at-byte.ensures.value) open_mark refl

pub returns-then-byte-eq44 : goal.returns-then-byte-eq44
returns-then-byte-eq44 g c = gives_mark (g.N.Numbers.read c.args.numbers) c.args.text.now c.args.from c.skip_white-at.result 44 Comma given.Comma c.skip_white-at.ensures.order c.skip_white-at.ensures.same (sym c.if-byte-eq44.true ∙ c.byte_at-byte.ensures.value) comma_mark refl

pub run_given-requires-clause-unmarked : goal.run_given-requires-clause-unmarked
run_given-requires-clause-unmarked g c = unmarked _ c.args.text.now c.skip_white-at.result c.byte_at-byte.result c.byte_at-byte.ensures.value c.if-byte-eq40.false c.if-byte-eq41.false c.if-byte-eq44.false

pub returns : goal.returns
returns g c = gives_after (g.N.Numbers.read c.args.numbers) c.args.text.now c.args.from c.skip_white-at.result c.skip_white-at.ensures.order c.skip_white-at.ensures.same c.run_given.result c.run_given.ensures
