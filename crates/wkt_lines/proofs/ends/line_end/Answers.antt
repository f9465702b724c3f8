-- No line feed stands before the place, so the line ends at the first one.
use Rattle.std.proofs.Common.{arith}
use Rattle.wkt_lines.proofs.Lining.{none-more, no-more, found, found-one, found-none}
use Rattle.wkt_lines.proofs.ends.line_end.Goals as goal

pub returns-then-feed-lt32-clause-before : goal.returns-then-feed-lt32-clause-before
returns-then-feed-lt32-clause-before c = (found _ c.wide.at 32 _ (omega arith) c.feed_in-feed.ensures c.wide.invariant.none c.if-feed-lt32.true).0

pub returns-then-feed-lt32-clause-after : goal.returns-then-feed-lt32-clause-after
returns-then-feed-lt32-clause-after c = (found _ c.wide.at 32 _ (omega arith) c.feed_in-feed.ensures c.wide.invariant.none c.if-feed-lt32.true).1

pub wide-preserved : goal.wide-preserved
wide-preserved c =
    let all = no-more _ c.wide.at 32 _ (omega arith) c.feed_in-feed.ensures c.wide.invariant.none in
    record {
      within = omega arith;
      none = λ k high. none-more _ c.wide.at 32 _ (omega arith) c.feed_in-feed.ensures c.wide.invariant.none k (omega (arith, high, all));
    }

pub returns-else-rest-at-ne10-clause-before : goal.returns-else-rest-at-ne10-clause-before
returns-else-rest-at-ne10-clause-before c = (found-one _ c.bytes.at (omega arith) c.bytes.invariant.none c.if-rest-at-ne10.false).0

pub returns-else-rest-at-ne10-clause-after : goal.returns-else-rest-at-ne10-clause-after
returns-else-rest-at-ne10-clause-after c = (found-one _ c.bytes.at (omega arith) c.bytes.invariant.none c.if-rest-at-ne10.false).1

pub returns-after-bytes-clause-before : goal.returns-after-bytes-clause-before
returns-after-bytes-clause-before c = (found-none _ c.bytes.at (omega (arith, c.bytes.invariant.within)) c.bytes.invariant.none).0

pub returns-after-bytes-clause-after : goal.returns-after-bytes-clause-after
returns-after-bytes-clause-after c = (found-none _ c.bytes.at (omega (arith, c.bytes.invariant.within)) c.bytes.invariant.none).1
