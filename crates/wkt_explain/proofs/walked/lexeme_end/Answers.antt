-- A mark has one byte; a run ends where it is said to.
use Rattle.std.proofs.Common.{sym, ◌∙◌}
use Rattle.wkt_num.specs.Bytes.{Open, Close, Comma}
use Rattle.wkt_sources.proofs.ByteViews.{open_mark, close_mark, comma_mark, unmarked}
use Rattle.wkt_explain.proofs.StopsAreRefusals.{ends_mark, ends_run}
use Rattle.wkt_explain.proofs.walked.lexeme_end.Goals as goal

pub returns-then-byte-eq40 : goal.returns-then-byte-eq40
returns-then-byte-eq40 c = ends_mark c.args.text.now c.args.start 40 Open (sym c.if-byte-eq40.true ∙ c.byte_at-byte.ensures.value) open_mark

pub returns-then-byte-eq41 : goal.returns-then-byte-eq41
returns-then-byte-eq41 c = ends_mark c.args.text.now c.args.start 41 Close (sym c.if-byte-eq41.true ∙ c.byte_at-byte.ensures.value) close_mark

pub returns-then-byte-eq44 : goal.returns-then-byte-eq44
returns-then-byte-eq44 c = ends_mark c.args.text.now c.args.start 44 Comma (sym c.if-byte-eq44.true ∙ c.byte_at-byte.ensures.value) comma_mark

pub returns : goal.returns
returns c =
    ends_run c.args.text.now c.args.start c.run_end.result c.run_end.ensures c.requires.dark
    (unmarked _ c.args.text.now c.args.start c.byte_at-byte.result c.byte_at-byte.ensures.value c.if-byte-eq40.false c.if-byte-eq41.false c.if-byte-eq44.false)
