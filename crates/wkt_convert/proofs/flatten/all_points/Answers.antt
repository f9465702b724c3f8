-- The points so far are flat, or an empty one is the first error.
use Rattle.std.proofs.Common.{ap}
use Rattle.wkt_types.specs.Outcome.{point_or_fault, empty_point}
use Rattle.wkt_convert.proofs.Opened.{more, stop}
use Rattle.wkt_convert.proofs.flatten.all_points.Goals as goal

pub returns-in-None : goal.returns-in-None
returns-in-None g c =
    stop (λ p. point_or_fault p.coord) _ _ _ _ c.loop-p-test.true c.p-item.is c.loop-p.invariant empty_point (ap point_or_fault c.in-None.ensures)

pub loop-p-preserved : goal.loop-p-preserved
loop-p-preserved g c =
    let pushed = c.in_ok-push-in-Some.ensures in
    let found = ap point_or_fault c.in-Some.ensures in
    let same = c.from.ensures in
    let grown = more (λ p. point_or_fault p.coord) _ _ _ _ _ c.loop-p-test.true c.p-item.is c.loop-p.invariant found in
    cc
