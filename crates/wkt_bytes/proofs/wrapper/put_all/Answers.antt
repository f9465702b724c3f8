-- One more call puts the next bytes out.
use Rattle.std.proofs.Common.{◌∙◌, arith}
use Rattle.std.proofs.lemmas.List.{length-drop}
use Rattle.std.specs.declared.io.Error.{Error}
use Rattle.std.proofs.KnownBytes.{Appends-trans}
use Rattle.wkt_bytes.proofs.SinkSteps.{rest_whole, put_step, count_kept}
use Rattle.wkt_bytes.proofs.wrapper.put_all.Goals as goal

pub loop-at-preserved : goal.loop-at-preserved
loop-at-preserved g c =
    let h = c.in-Ok.ensures in
    let i = c.loop-at.invariant in
    let bs = c.args.bytes.now in
    let at = c.loop-at.at in
    let step = put_step bs at c.in-Ok.n in
    let bound = rw rest_whole at h.bound in
    let test = c.in-Ok.n-test in
    record {
      within = omega (arith, length-drop at bs, bound);
      out = rw step (Appends-trans _ _ _ _ _ i.out h.took);
      tied = g.W.ByteSink.sink.keeps_more _ _ _ i.tied h.keeps;
      kept = h.count ∙ (count_kept Error _ _ _ test.1 ∙ i.kept);
    }
