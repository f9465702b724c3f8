-- A number is taken, or isn't read.
use Rattle.std.proofs.Common.{[], sym, refl, subst}
use Rattle.std.specs.Prelude.{IfSome, IfNone}
use Rattle.wkt_events.specs.Remaining.{NoNumber}
use Rattle.wkt_machine.specs.Goes.{standing}
use Rattle.wkt_machine.specs.Machines.{next_after}
use Rattle.wkt_machine.specs.declared.machine.State.TheVariants as next
use Rattle.wkt_machine.specs.Makers.{MakesNumber}
use Rattle.wkt_sources.proofs.ByteViews.{numbers_after}
use Rattle.wkt_sources.proofs.ByteSteps.{number_goes, number_stays_at}
use Rattle.wkt_sources.specs.Views.{bytes_view}
use Rattle.wkt_machine.specs.Room.{LeavesBehind}
use Rattle.wkt_machine.proofs.RoomForRest.{number_room, bare_after}
use Rattle.wkt_sources.proofs.SourceRooms.{fits_number, leaves_number}
use Rattle.wkt_sources.proofs.coordinates.number.Goals as goal

pub returns-in-Some-clause-on : goal.returns-in-Some-clause-on
returns-in-Some-clause-on g c =
    let made = MakesNumber (g.B.Builder.maker.reads c.args.builder) g.B.Builder.maker c.args.builder c.args.source.text.now c.skip_white-at.result c.args.axis c.number_in-made.result.0 in
    let takes = numbers_after _ (g.B.Builder.maker.reads c.args.builder) g.B.Builder.maker c.args.source c.new.result c.args.builder c.number_in-made.result.0 c.args.axis c.skip_white-at.result c.skip_white-at.ensures.same (λ k. (k.0, c.skip_white-at.ensures.line k.1))
    (subst made (sym c.new.ensures.at) (subst (λ o. IfSome o made) c.in-Some.is c.number_in-made.ensures.some)) c.new.ensures.text in
    number_goes (g.B.Builder.maker.reads c.args.builder) g.B.Builder.maker _ (standing c.args.machine (next.Number c.args.axis)) (standing c.args.machine (next_after c.args.axis c.args.machine.dim)) c.args.source c.new.result c.args.builder c.number_in-made.result.0 c.args.axis refl c.requires.sound c.requires.may.part takes refl

pub returns-in-None-clause-refused : goal.returns-in-None-clause-refused
returns-in-None-clause-refused g c =
    number_stays_at (g.B.Builder.maker.reads c.args.builder) g.B.Builder.maker _ (standing c.args.machine (next.Number c.args.axis)) c.args.source c.new-in-None.result c.args.builder c.number_in-made.result.0 c.args.axis c.skip_white-at.result refl
    (record { order = c.skip_white-at.ensures.order; same = c.skip_white-at.ensures.same; white = c.skip_white-at.ensures.white }) (λ k. (k.0, c.skip_white-at.ensures.line k.1)) c.skip_white-at.ensures.stops
    (subst (λ o. IfNone o (NoNumber (g.B.Builder.maker.reads c.args.builder) c.args.source.text.now c.skip_white-at.result)) c.in-None.is c.number_in-made.ensures.none)
    c.new-in-None.ensures.text c.new-in-None.ensures.at (subst (λ o. IfNone o (g.B.Builder.maker.makes c.args.builder [] c.number_in-made.result.0)) c.in-None.is c.number_in-made.ensures.nothing)

pub number_in-made-requires-clause-room : goal.number_in-made-requires-clause-room
number_in-made-requires-clause-room g c = fits_number g.B.Builder.maker _ c.args.source c.args.builder c.skip_white-at.result c.skip_white-at.ensures.same (number_room (bytes_view _) g.B.Builder.maker c.args.source c.args.builder c.requires.may.room)

pub returns-in-Some-clause-room : goal.returns-in-Some-clause-room
returns-in-Some-clause-room g c =
    let made = MakesNumber (g.B.Builder.maker.reads c.args.builder) g.B.Builder.maker c.args.builder c.args.source.text.now c.skip_white-at.result c.args.axis c.number_in-made.result.0 in
    let leaves = LeavesBehind g.B.Builder.maker c.args.builder c.args.source.text.now c.skip_white-at.result c.number_in-made.result.0 in
    bare_after (bytes_view _) g.B.Builder.maker c.args.source c.new.result c.args.builder c.number_in-made.result.0 (number_room (bytes_view _) g.B.Builder.maker c.args.source c.args.builder c.requires.may.room)
    (leaves_number g.B.Builder.maker _ (g.B.Builder.maker.reads c.args.builder) c.args.axis c.args.source c.new.result c.args.builder c.number_in-made.result.0 c.skip_white-at.result c.skip_white-at.ensures.same
    (subst made (sym c.new.ensures.at) (subst (λ o. IfSome o made) c.in-Some.is c.number_in-made.ensures.some)) c.new.ensures.text
    (subst leaves (sym c.new.ensures.at) (subst (λ o. IfSome o leaves) c.in-Some.is c.number_in-made.ensures.leaves)))
