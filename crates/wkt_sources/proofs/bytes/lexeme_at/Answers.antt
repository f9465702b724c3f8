-- Each mark is itself.
use Rattle.std.proofs.Common.{refl, sym, ◌∙◌}
use Rattle.wkt_num.specs.Bytes.{Open, Close, Comma}
use Rattle.wkt_machine.specs.declared.machine.LexemeKind.TheVariants as seen
use Rattle.wkt_sources.proofs.ByteViews.{open_mark, close_mark, comma_mark, sees_mark, unmarked}
use Rattle.wkt_sources.proofs.bytes.lexeme_at.Goals as goal

pub returns-then-byte-eq40 : goal.returns-then-byte-eq40
returns-then-byte-eq40 g c = sees_mark _ c.args.text.now c.args.at 40 Open seen.Open (sym c.if-byte-eq40.true ∙ c.byte_at-byte.ensures.value) open_mark refl

pub returns-then-byte-eq41 : goal.returns-then-byte-eq41
returns-then-byte-eq41 g c = sees_mark _ c.args.text.now c.args.at 41 Close seen.Close (sym c.if-byte-eq41.true ∙ c.byte_at-byte.ensures.value) close_mark refl

pub returns-then-byte-eq44 : goal.returns-then-byte-eq44
returns-then-byte-eq44 g c = sees_mark _ c.args.text.now c.args.at 44 Comma seen.Comma (sym c.if-byte-eq44.true ∙ c.byte_at-byte.ensures.value) comma_mark refl

pub run_at-requires-clause-unmarked : goal.run_at-requires-clause-unmarked
run_at-requires-clause-unmarked g c = unmarked _ c.args.text.now c.args.at c.byte_at-byte.result c.byte_at-byte.ensures.value c.if-byte-eq40.false c.if-byte-eq41.false c.if-byte-eq44.false
