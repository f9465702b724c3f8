-- Byte by byte the run goes on, up to a byte that is part of none.
use Rattle.std.proofs.Common.{arith}
use Rattle.wkt_events.proofs.Runs.{run-more, past-run}
use Rattle.wkt_events.proofs.bytes.slow_run_end.Goals as goal

pub loop-at-preserved : goal.loop-at-preserved
loop-at-preserved c =
    let i = c.loop-at.invariant in
    record {
      order = omega (arith, i.order);
      inside = omega (arith, c.loop-at-test.true);
      run = run-more c.args.text.now c.args.from c.loop-at.at i.order c.loop-at-test.true (c.is_of_run.ensures.0 c.if-is_of_run.true) i.run;
    }

pub returns-after-loop-at : goal.returns-after-loop-at
returns-after-loop-at c =
    let i = c.loop-at.invariant in
    record { order = i.order; inside = i.inside; run = i.run; stops = past-run c.args.text.now c.loop-at.at c.loop-at-test.false }
