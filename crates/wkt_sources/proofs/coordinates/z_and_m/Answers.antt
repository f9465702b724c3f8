-- M goes on from Z.
use Rattle.std.proofs.Common.{subst, sym}
use Rattle.std.specs.Prelude.{not, ◌==◌}
use Rattle.std.proofs.lemmas.Bool.{OnTrue_at}
use Rattle.wkt_sources.specs.Views.{bytes_view}
use Rattle.wkt_machine.specs.Machines.{next_after}
use Rattle.wkt_machine.specs.declared.machine.State.TheVariants as next
use Rattle.wkt_machine.specs.declared.part.Axis.TheVariants as axis
use Rattle.wkt_machine.proofs.WaysJoin.{Way, Stop, on_true, on_false, way_on, way_stops}
use Rattle.wkt_sources.proofs.coordinates.z_and_m.Goals as goal

pub returns-else-not-has_z-clause-on : goal.returns-else-not-has_z-clause-on
returns-else-not-has_z-clause-on g c =
    let over = subst (λ d. Way (bytes_view (not (g.row.LF_ENDS == 0))) g.B.Builder.maker c.args.machine (next.Number axis.Z) c.args.source c.args.builder (next_after axis.Z d) c.number-has_z-in-XYZM.result.1 c.number-has_z-in-XYZM.result.2) c.in-XYZM.is (OnTrue_at c.if-not-has_z.false c.number-has_z-in-XYZM.ensures.on) in
    on_true c.number-has_m-in-XYZM.result.0
    (λ k. subst (λ d. Way (bytes_view (not (g.row.LF_ENDS == 0))) g.B.Builder.maker c.args.machine (next_after axis.Y d) c.args.source c.args.builder next.Item c.number-has_m-in-XYZM.result.1 c.number-has_m-in-XYZM.result.2) (sym c.in-XYZM.is)
    (way_on (bytes_view (not (g.row.LF_ENDS == 0))) g.B.Builder.maker c.args.machine (next.Number axis.Z) (next.Number axis.M) next.Item c.args.source c.number-has_z-in-XYZM.result.1 c.number-has_m-in-XYZM.result.1 c.args.builder c.number-has_z-in-XYZM.result.2 c.number-has_m-in-XYZM.result.2 over
    (subst (λ d. Way (bytes_view (not (g.row.LF_ENDS == 0))) g.B.Builder.maker c.args.machine (next.Number axis.M) c.number-has_z-in-XYZM.result.1 c.number-has_z-in-XYZM.result.2 (next_after axis.M d) c.number-has_m-in-XYZM.result.1 c.number-has_m-in-XYZM.result.2) c.in-XYZM.is k)))
    c.number-has_m-in-XYZM.ensures.on

pub returns-else-not-has_z-clause-refused : goal.returns-else-not-has_z-clause-refused
returns-else-not-has_z-clause-refused g c =
    let over = subst (λ d. Way (bytes_view (not (g.row.LF_ENDS == 0))) g.B.Builder.maker c.args.machine (next.Number axis.Z) c.args.source c.args.builder (next_after axis.Z d) c.number-has_z-in-XYZM.result.1 c.number-has_z-in-XYZM.result.2) c.in-XYZM.is (OnTrue_at c.if-not-has_z.false c.number-has_z-in-XYZM.ensures.on) in
    on_false c.number-has_m-in-XYZM.result.0
    (λ k. subst (λ d. Stop (bytes_view (not (g.row.LF_ENDS == 0))) g.B.Builder.maker c.args.machine (next_after axis.Y d) c.args.source c.args.builder (next.Number axis.M) c.number-has_m-in-XYZM.result.1 c.number-has_m-in-XYZM.result.2) (sym c.in-XYZM.is)
    (way_stops (bytes_view (not (g.row.LF_ENDS == 0))) g.B.Builder.maker c.args.machine (next.Number axis.Z) (next.Number axis.M) (next.Number axis.M) c.args.source c.number-has_z-in-XYZM.result.1 c.number-has_m-in-XYZM.result.1 c.args.builder c.number-has_z-in-XYZM.result.2 c.number-has_m-in-XYZM.result.2 over k))
    c.number-has_m-in-XYZM.ensures.refused
