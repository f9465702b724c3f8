-- The parts so far are written alike, and the lists are as long.
use Rattle.std.proofs.Common.{◌∙◌, sym, arith}
use Rattle.wkt.proofs.Written.{parts_differ, parts_agree, parts_end}
use Rattle.wkt.proofs.same.are_alike.Goals as goal

pub returns-then-not-is_alike : goal.returns-then-not-is_alike
returns-then-not-is_alike g c =
    let found = c.in-Some.ensures.lookup in
    sym (c.loop-i.invariant.kept ∙ parts_differ (g.X.Alike.alike c.args.dim) c.args.a.now c.args.b.now c.loop-i.i c.index-a-i.result c.in-Some.y.now c.loop-i-test.true c.index-a-i.is found.3.0 found.1 (sym c.is_alike.ensures ∙ c.if-not-is_alike.true))

pub loop-i-preserved : goal.loop-i-preserved
loop-i-preserved g c =
    let found = c.in-Some.ensures.lookup in
    record {
      within = omega (arith, found.3.0);
      kept = c.loop-i.invariant.kept ∙ parts_agree (g.X.Alike.alike c.args.dim) c.args.a.now c.args.b.now c.loop-i.i c.index-a-i.result c.in-Some.y.now c.loop-i-test.true c.index-a-i.is found.3.0 found.1 (sym c.is_alike.ensures ∙ c.if-not-is_alike.false);
    }

pub returns : goal.returns
returns g c =
    parts_end (g.X.Alike.alike c.args.dim) c.args.a.now c.args.b.now c.loop-i.i c.loop-i-test.false c.loop-i.auto.i-end c.loop-i.invariant.within
    ∙ sym c.loop-i.invariant.kept
