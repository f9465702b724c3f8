-- A coordinate goes on from the one before.
use Rattle.std.proofs.Common.{◌≤◌, ◌+◌, length, sym, refl, ◌∙◌, subst, arith, ap}
use Rattle.std.proofs.lemmas.Bool.{OnTrue_at, OnFalse_at}
use Rattle.std.specs.Prelude.{not, ◌==◌, false, Ok, Err}
use Rattle.wkt_sources.specs.Views.{bytes_view}
use Rattle.wkt_machine.specs.Goes.{reached}
use Rattle.wkt_machine.specs.declared.machine.State.TheVariants as next
use Rattle.wkt_sources.proofs.ByteSteps.{turn_goes, last_goes, member_goes, goes_less}
use Rattle.wkt_machine.proofs.WaysJoin.{leads_none, goes_leads, leads_goes}
use Rattle.wkt_num.specs.Bytes.{Open, Close, Comma, class_of}
use Rattle.wkt_machine.specs.Room.{owed}
use Rattle.wkt_sources.proofs.ByteViews.{close_mark, comma_mark, open_mark}
use Rattle.wkt_machine.proofs.RoomForRest.{outside_owes}
use Rattle.wkt_machine.proofs.StepsJoin.{lead_steps, on_at, on_to, refused_to}
use Rattle.wkt_events.proofs.RemainingLexemes.{takes-mark, mark-in}
use Rattle.wkt_sources.proofs.SourceRooms.{byte_fits, byte_after, fits_comma, fits_open, after_open}
use Rattle.wkt_sources.proofs.coordinates.coordinates_of.Goals as goal

pub coordinates-init : goal.coordinates-init
coordinates-init g c = record {
  leads = leads_none (g.B.Builder.maker.reads c.args.builder) (bytes_view _) g.B.Builder.maker c.args.machine c.args.source c.args.builder;
  inside = c.requires.may.inside;
  room = c.requires.may.room;
}

pub returns-then-not-is_whole : goal.returns-then-not-is_whole
returns-then-not-is_whole g c =
    lead_steps _ _ _ _ c.coordinates.invariant.leads
    (refused_to (reached c.args.machine c.coordinate-is_whole.result.1 c.coordinate-is_whole.result.2 c.coordinate-is_whole.result.3) (c.refused.ensures ∙ ap (λ m. Err (record { source = c.coordinate-is_whole.result.2; machine = m; builder = c.coordinate-is_whole.result.3 })) c.with_state.ensures) (OnFalse_at c.if-not-is_whole.true c.coordinate-is_whole.ensures.refused))

pub returns-then-not-is_next_member : goal.returns-then-not-is_next_member
returns-then-not-is_next_member g c =
    lead_steps _ _ _ _ c.coordinates.invariant.leads
    (on_at c.on.ensures
    (last_goes (g.B.Builder.maker.reads c.coordinates.builder) g.B.Builder.maker _ c.args.machine c.outside.result c.coordinates.source c.new.result c.coordinates.builder c.close-closed.result (reached c.args.machine next.Item c.coordinate-is_whole.result.2 c.coordinate-is_whole.result.3) (OnTrue_at c.if-not-is_whole.false c.coordinate-is_whole.ensures.on) refl
    (sym c.byte_at-byte.ensures.value ∙ c.if-byte-eq41.true) c.new.ensures.text c.new.ensures.at c.outside.ensures.state c.outside.ensures.sound c.close-closed.ensures.makes)
    (ap owed c.outside.ensures.state ∙ outside_owes _ _ _)
    (byte_after g.B.Builder.maker _ Close c.coordinate-is_whole.result.2 c.new.result c.coordinate-is_whole.result.3 c.close-closed.result (ap class_of (sym c.byte_at-byte.ensures.value ∙ c.if-byte-eq41.true) ∙ close_mark) c.new.ensures.text c.new.ensures.at c.close-closed.ensures.leaves (OnTrue_at c.if-not-is_whole.false c.coordinate-is_whole.ensures.room)))

pub returns-then-byte-ne44 : goal.returns-then-byte-ne44
returns-then-byte-ne44 g c =
    lead_steps _ _ _ _ c.coordinates.invariant.leads
    (on_to (reached c.args.machine next.Item c.coordinate-is_whole.result.2 c.coordinate-is_whole.result.3) (c.on-then-byte-ne44.ensures ∙ ap (λ m. Ok (record { source = c.coordinate-is_whole.result.2; machine = m; builder = c.coordinate-is_whole.result.3 })) c.with_state-then-byte-ne44.ensures) (OnTrue_at c.if-not-is_whole.false c.coordinate-is_whole.ensures.on) (OnTrue_at c.if-not-is_whole.false c.coordinate-is_whole.ensures.room))

pub coordinates-smaller : goal.coordinates-smaller
coordinates-smaller g c =
    goes_less _ g.B.Builder.maker _ c.args.machine c.coordinates.source c.coordinates.builder _
    (turn_goes (g.B.Builder.maker.reads c.coordinates.builder) g.B.Builder.maker _ c.args.machine c.coordinates.source c.new-source-else-byte-eq41.result c.coordinates.builder c.comma-builder.result (reached c.args.machine next.Item c.coordinate-is_whole.result.2 c.coordinate-is_whole.result.3) (OnTrue_at c.if-not-is_whole.false c.coordinate-is_whole.ensures.on) refl
    c.requires.state c.requires.may.part (sym c.is_single-single.ensures ∙ c.if-single.false) (sym c.byte_at-byte.ensures.value ∙ c.if-byte-ne44.false) c.new-source-else-byte-eq41.ensures.text c.new-source-else-byte-eq41.ensures.at c.comma-builder.ensures.makes)

pub coordinates-preserved : goal.coordinates-preserved
coordinates-preserved g c =
    let turn =
    turn_goes (g.B.Builder.maker.reads c.coordinates.builder) g.B.Builder.maker (not (g.row.LF_ENDS == 0)) c.args.machine c.coordinates.source c.new-source-else-byte-eq41.result c.coordinates.builder c.comma-builder.result (reached c.args.machine next.Item c.coordinate-is_whole.result.2 c.coordinate-is_whole.result.3) (OnTrue_at c.if-not-is_whole.false c.coordinate-is_whole.ensures.on) refl
    c.requires.state c.requires.may.part (sym c.is_single-single.ensures ∙ c.if-single.false) (sym c.byte_at-byte.ensures.value ∙ c.if-byte-ne44.false) c.new-source-else-byte-eq41.ensures.text c.new-source-else-byte-eq41.ensures.at c.comma-builder.ensures.makes in
    let some = c.byte_at-byte.ensures.some in
    let comma = c.if-byte-ne44.false in
    let at = c.new-source-else-byte-eq41.ensures.at in
    let before = some (omega (arith, comma)) in
    record {
      leads = goes_leads (g.B.Builder.maker.reads c.args.builder) (bytes_view _) g.B.Builder.maker c.args.machine c.args.source c.args.builder _
          (leads_goes (bytes_view _) g.B.Builder.maker c.args.machine c.args.source c.args.builder c.args.machine c.coordinates.source c.coordinates.builder _ c.coordinates.invariant.leads turn);
      inside = subst (λ x. c.new-source-else-byte-eq41.result.at ≤ length x.now) (sym c.new-source-else-byte-eq41.ensures.text) (omega (arith, before, at));
      room = byte_after g.B.Builder.maker _ Comma c.coordinate-is_whole.result.2 c.new-source-else-byte-eq41.result c.coordinate-is_whole.result.3 c.comma-builder.result (ap class_of (sym c.byte_at-byte.ensures.value ∙ c.if-byte-ne44.false) ∙ comma_mark) c.new-source-else-byte-eq41.ensures.text c.new-source-else-byte-eq41.ensures.at c.comma-builder.ensures.leaves (OnTrue_at c.if-not-is_whole.false c.coordinate-is_whole.ensures.room);
    }

pub close-closed-requires : goal.close-closed-requires
close-closed-requires g c = record { room = byte_fits g.B.Builder.maker _ Close c.coordinate-is_whole.result.2 c.coordinate-is_whole.result.3 (ap class_of (sym c.byte_at-byte.ensures.value ∙ c.if-byte-eq41.true) ∙ close_mark) (OnTrue_at c.if-not-is_whole.false c.coordinate-is_whole.ensures.room) }

pub comma-requires : goal.comma-requires
comma-requires g c =
    let there = OnTrue_at c.if-not-is_next_member.false c.is_next_member.ensures in
    record { room = fits_comma g.B.Builder.maker _ c.coordinate-is_whole.result.2 c.coordinate-is_whole.result.3 c.close-closed.result (OnTrue_at c.if-not-is_whole.false c.coordinate-is_whole.ensures.room) (sym c.byte_at-byte.ensures.value ∙ c.if-byte-eq41.true) c.close-closed.ensures.leaves there.1 }

pub open-builder-requires : goal.open-builder-requires
open-builder-requires g c =
    let there = OnTrue_at c.if-not-is_next_member.false c.is_next_member.ensures in
    record { room = fits_open g.B.Builder.maker _ c.coordinate-is_whole.result.2 c.coordinate-is_whole.result.3 c.close-closed.result (OnTrue_at c.if-not-is_whole.false c.coordinate-is_whole.ensures.room) (sym c.byte_at-byte.ensures.value ∙ c.if-byte-eq41.true) c.close-closed.ensures.leaves there.1 c.comma.result c.comma.ensures.leaves there.2 }

pub coordinates-smaller-then-byte-eq41 : goal.coordinates-smaller-then-byte-eq41
coordinates-smaller-then-byte-eq41 g c =
    let there = OnTrue_at c.if-not-is_next_member.false c.is_next_member.ensures in
    let at = c.new-source.ensures.at in
    goes_less _ g.B.Builder.maker _ c.args.machine c.coordinates.source c.coordinates.builder _
    (member_goes (g.B.Builder.maker.reads c.coordinates.builder) g.B.Builder.maker _ c.args.machine c.coordinates.source c.new-source.result c.coordinates.builder c.close-closed.result c.comma.result c.open-builder.result (reached c.args.machine next.Item c.coordinate-is_whole.result.2 c.coordinate-is_whole.result.3) (OnTrue_at c.if-not-is_whole.false c.coordinate-is_whole.ensures.on) refl
    c.requires.state there.0 (sym c.byte_at-byte.ensures.value ∙ c.if-byte-eq41.true) there.1 there.2 c.new-source.ensures.text (omega (arith, at)) c.close-closed.ensures.makes c.comma.ensures.makes c.open-builder.ensures.makes)

pub coordinates-preserved-then-byte-eq41 : goal.coordinates-preserved-then-byte-eq41
coordinates-preserved-then-byte-eq41 g c =
    let there = OnTrue_at c.if-not-is_next_member.false c.is_next_member.ensures in
    let at = c.new-source.ensures.at in
    let turn =
    member_goes (g.B.Builder.maker.reads c.coordinates.builder) g.B.Builder.maker (not (g.row.LF_ENDS == 0)) c.args.machine c.coordinates.source c.new-source.result c.coordinates.builder c.close-closed.result c.comma.result c.open-builder.result (reached c.args.machine next.Item c.coordinate-is_whole.result.2 c.coordinate-is_whole.result.3) (OnTrue_at c.if-not-is_whole.false c.coordinate-is_whole.ensures.on) refl
    c.requires.state there.0 (sym c.byte_at-byte.ensures.value ∙ c.if-byte-eq41.true) there.1 there.2 c.new-source.ensures.text (omega (arith, at)) c.close-closed.ensures.makes c.comma.ensures.makes c.open-builder.ensures.makes in
    let before = (takes-mark false c.coordinate-is_whole.result.2.text.now (c.coordinate-is_whole.result.2.at + 1 + 1) Open (mark-in false _ Open (ap class_of there.2 ∙ open_mark))).inside in
    record {
      leads = goes_leads (g.B.Builder.maker.reads c.args.builder) (bytes_view _) g.B.Builder.maker c.args.machine c.args.source c.args.builder _
          (leads_goes (bytes_view _) g.B.Builder.maker c.args.machine c.args.source c.args.builder c.args.machine c.coordinates.source c.coordinates.builder _ c.coordinates.invariant.leads turn);
      inside = subst (λ x. c.new-source.result.at ≤ length x.now) (sym c.new-source.ensures.text) (omega (arith, before, at));
      room = after_open g.B.Builder.maker _ c.coordinate-is_whole.result.2 c.coordinate-is_whole.result.3 c.close-closed.result (OnTrue_at c.if-not-is_whole.false c.coordinate-is_whole.ensures.room) (sym c.byte_at-byte.ensures.value ∙ c.if-byte-eq41.true) c.close-closed.ensures.leaves there.1 c.comma.result c.comma.ensures.leaves there.2 c.new-source.result c.open-builder.result c.new-source.ensures.text (omega (arith, at)) c.open-builder.ensures.leaves;
    }

pub comma-builder-requires : goal.comma-builder-requires
comma-builder-requires g c = record { room = byte_fits g.B.Builder.maker _ Comma c.coordinate-is_whole.result.2 c.coordinate-is_whole.result.3 (ap class_of (sym c.byte_at-byte.ensures.value ∙ c.if-byte-ne44.false) ∙ comma_mark) (OnTrue_at c.if-not-is_whole.false c.coordinate-is_whole.ensures.room) }
