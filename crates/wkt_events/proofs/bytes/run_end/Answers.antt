-- The first low byte of the window ends the run, if it is part of none.
use Rattle.std.proofs.Common.{arith}
use Rattle.wkt_events.proofs.Runs.{low-within, low-run}
use Rattle.wkt_events.proofs.bytes.run_end.Goals as goal

pub bounds-text-end : goal.bounds-text-end
bounds-text-end c =
    let within = low-within c.args.text.now c.args.from (omega arith) c.low_bytes-low.result c.low_bytes-low.ensures c.if-low-ne0.true in
    omega (arith, within)

pub returns-then-not-is_of_run : goal.returns-then-not-is_of_run
returns-then-not-is_of_run c =
    let within = low-within c.args.text.now c.args.from (omega arith) c.low_bytes-low.result c.low_bytes-low.ensures c.if-low-ne0.true in
    record {
      order = omega arith;
      inside = omega (arith, within);
      run = low-run c.args.text.now c.args.from (omega arith) c.low_bytes-low.result c.low_bytes-low.ensures c.if-low-ne0.true;
      stops = λ e. let t = c.is_of_run.ensures.1 e in let f = c.if-not-is_of_run.true in cc;
    }
