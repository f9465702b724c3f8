-- The run from there on is the shortest.
use Rattle.std.proofs.Common.{arith}
use Rattle.wkt_canonical.proofs.numbers.past_plus.Goals.{else-text-at-eq43-via-then-text-at-eq43+then-at-end+else-text-at-ne43, else-text-at-eq43-via-then-text-at-eq43+else-at-end, else-text-at-eq43-via-else-text-at-eq43}
use Rattle.wkt_canonical.proofs.ShortTexts.{past-one, past-none}
use Rattle.wkt_canonical.proofs.numbers.past_plus.Goals as goal

pub returns-then-text-at-ne43-clause-shortest : goal.returns-then-text-at-ne43-clause-shortest
returns-then-text-at-ne43-clause-shortest c = past-one c.args.text.now c.args.at c.args.end c.requires.some c.requires.inside c.if-text-at-eq43.true c.if-at-end.true c.if-text-at-ne43.true

pub returns-clause-shortest : goal.returns-clause-shortest
returns-clause-shortest c =
    past-none c.args.text.now c.args.at c.args.end c.requires.some c.requires.inside (elim c.else-text-at-eq43.branch [
      | else-text-at-eq43-via-then-text-at-eq43+then-at-end+else-text-at-ne43 w ↦ λ e more. w.if-text-at-ne43.false
      | else-text-at-eq43-via-then-text-at-eq43+else-at-end w ↦ λ e more. absurd (omega (arith, more, w.if-at-end.false))
      | else-text-at-eq43-via-else-text-at-eq43 w ↦ λ e more. absurd (w.if-text-at-eq43.false e)
    ])
