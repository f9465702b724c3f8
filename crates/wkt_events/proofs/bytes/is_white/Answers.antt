-- A byte is white where its class in the line is.
use Rattle.wkt_events.proofs.RemainingLexemes.{class-same, class-whole, class-feed, reports-white, white-none}
use Rattle.wkt_events.proofs.bytes.is_white.Goals as goal
use Rattle.wkt_events.proofs.bytes.is_white.Goals.{else-this-ne0-via-then-this-ne0+else-byte-eq10, else-this-ne0-via-else-this-ne0}

pub returns-then-byte-eq10 : goal.returns-then-byte-eq10
returns-then-byte-eq10 g c = white-none _ (class-feed g.row.LF_ENDS c.args.byte c.if-this-ne0.true c.if-byte-eq10.true)

pub returns : goal.returns
returns g c = elim c.else-this-ne0.branch [
  | else-this-ne0-via-then-this-ne0+else-byte-eq10 w ↦ reports-white c.is_white.result _ _ (class-same _ c.args.byte w.if-byte-eq10.false) c.is_white.ensures
  | else-this-ne0-via-else-this-ne0 w ↦ reports-white c.is_white.result _ _ (class-whole g.row.LF_ENDS c.args.byte w.if-this-ne0.false) c.is_white.ensures
]
