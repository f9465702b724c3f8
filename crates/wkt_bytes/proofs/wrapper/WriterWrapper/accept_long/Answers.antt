-- What was taken so far is out or in the array, also where the array is put out, or that fails.
use Rattle.std.proofs.Common.{◌+◌, ◌∙◌, drop, arith}
use Rattle.std.proofs.lemmas.List.{append-nil}
use Rattle.wkt_bytes.specs.Wrapper.{gives_more, leaves_after, leaves_longer}
use Rattle.wkt_bytes.proofs.SinkSteps.{kept_gives, any_err, take_step, with_rest}
use Rattle.wkt_bytes.proofs.wrapper.WriterWrapper.accept_long.Goals as goal

pub loop-at-preserved : goal.loop-at-preserved
loop-at-preserved g c =
    let i = c.loop-at.invariant in
    let k = kept_gives g.W.ByteSink.sink _ c.keep.new.self _ c.keep.ensures in
    record {
      within = omega arith;
      gave = rw (take_step c.args.bytes.now c.loop-at.at (c.loop-at.at + c.min.result) (omega arith)) (gives_more g.W.ByteSink.sink _ _ _ _ _ i.gave k);
      well = c.keep.ensures.well ∙ i.well;
      failures = c.keep.ensures.count ∙ i.failures;
    }

pub loop-at-preserved-in-Continue-1 : goal.loop-at-preserved-in-Continue-1
loop-at-preserved-in-Continue-1 g c =
    let i = c.loop-at.invariant in
    let taken = gives_more g.W.ByteSink.sink _ _ _ _ _ i.gave (kept_gives g.W.ByteSink.sink _ c.keep.new.self _ c.keep.ensures) in
    let emptied = gives_more g.W.ByteSink.sink _ _ _ _ _ taken c.in_ok-empty.ensures.ok in
    record {
      within = omega arith;
      gave = rw (take_step c.args.bytes.now c.loop-at.at (c.loop-at.at + c.min.result) (omega arith)) (rw append-nil at emptied);
      well = c.in_ok-empty.ensures.well;
      failures = c.empty.ensures.failures ∙ (c.keep.ensures.count ∙ i.failures);
    }

pub returns-in_err-empty-clause-err : goal.returns-in_err-empty-clause-err
returns-in_err-empty-clause-err g c =
    let bs = c.args.bytes.now in
    let next = c.loop-at.at + c.min.result in
    let taken = gives_more g.W.ByteSink.sink _ _ _ _ _ c.loop-at.invariant.gave (kept_gives g.W.ByteSink.sink _ c.keep.new.self _ c.keep.ensures) in
    let broke = leaves_longer g.W.ByteSink.sink _ _ _ (drop next bs) (leaves_after g.W.ByteSink.sink _ _ _ _ _ taken c.in_err-empty.ensures.err) in
    any_err c.from_residual.result (rw (with_rest bs c.loop-at.at next (omega arith)) at broke)
