-- One number after another.
use Rattle.std.proofs.Common.{subst, ap}
use Rattle.std.proofs.lemmas.Bool.{ne_eqb}
use Rattle.std.specs.Prelude.{not, ◌==◌}
use Rattle.std.proofs.lemmas.Bool.{OnTrue_at, OnFalse_at}
use Rattle.wkt_sources.specs.Views.{bytes_view}
use Rattle.wkt_machine.specs.Machines.{next_after}
use Rattle.wkt_machine.specs.declared.machine.State.TheVariants as next
use Rattle.wkt_machine.specs.declared.part.Axis.TheVariants as axis
use Rattle.wkt_machine.proofs.WaysJoin.{Way, on_true, on_false, way_on, way_stops, way_from, stop_from}
use Rattle.wkt_sources.proofs.coordinates.coordinate.Goals as goal

pub returns-then-not-has_y-clause-refused : goal.returns-then-not-has_y-clause-refused
returns-then-not-has_y-clause-refused g c =
    stop_from (bytes_view (not (g.row.LF_ENDS == 0))) g.B.Builder.maker c.args.machine (next.Number axis.X) c.args.source c.args.builder _ c.requires.state
    (way_stops (bytes_view (not (g.row.LF_ENDS == 0))) g.B.Builder.maker c.args.machine (next.Number axis.X) (next.Number axis.Y) (next.Number axis.Y) c.args.source c.number-has_x.result.1 c.number-has_y.result.1 c.args.builder c.number-has_x.result.2 c.number-has_y.result.2 (OnTrue_at c.if-not-has_x.false c.number-has_x.ensures.on) (OnFalse_at c.if-not-has_y.true c.number-has_y.ensures.refused))

pub returns-then-this-ne0-clause-on : goal.returns-then-this-ne0-clause-on
returns-then-this-ne0-clause-on g c = way_from (bytes_view (not (g.row.LF_ENDS == 0))) g.B.Builder.maker c.args.machine (next.Number axis.X) c.args.source c.args.builder _ c.requires.state (way_on (bytes_view (not (g.row.LF_ENDS == 0))) g.B.Builder.maker c.args.machine (next.Number axis.X) (next.Number axis.Y) next.Item c.args.source c.number-has_x.result.1 c.number-has_y.result.1 c.args.builder c.number-has_x.result.2 c.number-has_y.result.2 (OnTrue_at c.if-not-has_x.false c.number-has_x.ensures.on) (subst (λ d. Way (bytes_view (not (g.row.LF_ENDS == 0))) g.B.Builder.maker c.args.machine (next.Number axis.Y) c.number-has_x.result.1 c.number-has_x.result.2 (next_after axis.Y d) c.number-has_y.result.1 c.number-has_y.result.2) (OnTrue_at (ap not (ne_eqb g.row.IS_FLAT 0 c.if-this-ne0.true)) c.requires.flat) (OnTrue_at c.if-not-has_y.false c.number-has_y.ensures.on)))

pub returns-clause-on : goal.returns-clause-on
returns-clause-on g c =
    let two = way_on (bytes_view (not (g.row.LF_ENDS == 0))) g.B.Builder.maker c.args.machine (next.Number axis.X) (next.Number axis.Y) (next_after axis.Y c.args.machine.dim) c.args.source c.number-has_x.result.1 c.number-has_y.result.1 c.args.builder c.number-has_x.result.2 c.number-has_y.result.2 (OnTrue_at c.if-not-has_x.false c.number-has_x.ensures.on) (OnTrue_at c.if-not-has_y.false c.number-has_y.ensures.on) in
    on_true c.z_and_m.result.0
    (λ k. way_from (bytes_view (not (g.row.LF_ENDS == 0))) g.B.Builder.maker c.args.machine (next.Number axis.X) c.args.source c.args.builder _ c.requires.state
    (way_on (bytes_view (not (g.row.LF_ENDS == 0))) g.B.Builder.maker c.args.machine (next.Number axis.X) (next_after axis.Y c.args.machine.dim) next.Item c.args.source c.number-has_y.result.1 c.z_and_m.result.2 c.args.builder c.number-has_y.result.2 c.z_and_m.result.3 two k))
    c.z_and_m.ensures.on

pub returns-clause-refused : goal.returns-clause-refused
returns-clause-refused g c =
    let two = way_on (bytes_view (not (g.row.LF_ENDS == 0))) g.B.Builder.maker c.args.machine (next.Number axis.X) (next.Number axis.Y) (next_after axis.Y c.args.machine.dim) c.args.source c.number-has_x.result.1 c.number-has_y.result.1 c.args.builder c.number-has_x.result.2 c.number-has_y.result.2 (OnTrue_at c.if-not-has_x.false c.number-has_x.ensures.on) (OnTrue_at c.if-not-has_y.false c.number-has_y.ensures.on) in
    on_false c.z_and_m.result.0
    (λ k. stop_from (bytes_view (not (g.row.LF_ENDS == 0))) g.B.Builder.maker c.args.machine (next.Number axis.X) c.args.source c.args.builder _ c.requires.state
    (way_stops (bytes_view (not (g.row.LF_ENDS == 0))) g.B.Builder.maker c.args.machine (next.Number axis.X) (next_after axis.Y c.args.machine.dim) c.z_and_m.result.1 c.args.source c.number-has_y.result.1 c.z_and_m.result.2 c.args.builder c.number-has_y.result.2 c.z_and_m.result.3 two k))
    c.z_and_m.ensures.refused
