-- The first line is whole, with its line feed.
use Rattle.std.proofs.Common.{inl}
use Rattle.wkt_calls.proofs.Pieces.{whole_line}
use Rattle.wkt_calls.proofs.lines.first_line.Goals as goal

pub returns-then-end-rest-clause-whole : goal.returns-then-end-rest-clause-whole
returns-then-end-rest-clause-whole c = inl (whole_line c.args.rest.now c.line_end-end.result c.if-end-rest.true c.line_end-end.ensures.before)
