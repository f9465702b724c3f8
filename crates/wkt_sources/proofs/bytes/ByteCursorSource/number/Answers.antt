-- A number is taken, or isn't read.
use Rattle.std.proofs.Common.{[], refl, subst, sym}
use Rattle.std.specs.Prelude.{IfSome, IfNone}
use Rattle.wkt_events.specs.Remaining.{NoNumber}
use Rattle.wkt_machine.specs.Makers.{MakesNumber}
use Rattle.wkt_sources.proofs.ByteViews.{numbers_after, none_unread}
use Rattle.wkt_machine.specs.Room.{LeavesBehind}
use Rattle.wkt_sources.proofs.SourceRooms.{fits_number, leaves_number}
use Rattle.wkt_sources.proofs.bytes.ByteCursorSource.number.Goals as goal

pub returns-in-Some-clause-takes : goal.returns-in-Some-clause-takes
returns-in-Some-clause-takes g c =
    let made = MakesNumber (g.B.Builder.maker.reads c.args.builder) g.B.Builder.maker c.args.builder c.args.self.text.now c.args.self.at c.args.axis c.number_in-made.result.0 in
    numbers_after _ (g.B.Builder.maker.reads c.args.builder) g.B.Builder.maker c.args.self c.new.result c.args.builder c.number_in-made.result.0 c.args.axis c.args.self.at refl (λ k. k)
    (subst made (sym c.new.ensures.at) (subst (λ o. IfSome o made) c.in-Some.is c.number_in-made.ensures.some)) c.new.ensures.text

pub returns-in-None-clause-unread : goal.returns-in-None-clause-unread
returns-in-None-clause-unread g c = λ text known.
    none_unread _ c.args.self.text.now c.args.self.at (g.B.Builder.maker.reads c.args.builder) known.1 (c.requires.looked.dark c.requires.seen)
    (subst (λ o. IfNone o (NoNumber (g.B.Builder.maker.reads c.args.builder) c.args.self.text.now c.args.self.at)) c.in-None.is c.number_in-made.ensures.none)

pub number_in-made-requires-clause-room : goal.number_in-made-requires-clause-room
number_in-made-requires-clause-room g c = fits_number g.B.Builder.maker _ c.args.self c.args.builder c.args.self.at refl c.requires.room

pub returns-in-Some-clause-leaves : goal.returns-in-Some-clause-leaves
returns-in-Some-clause-leaves g c =
    let made = MakesNumber (g.B.Builder.maker.reads c.args.builder) g.B.Builder.maker c.args.builder c.args.self.text.now c.args.self.at c.args.axis c.number_in-made.result.0 in
    let leaves = LeavesBehind g.B.Builder.maker c.args.builder c.args.self.text.now c.args.self.at c.number_in-made.result.0 in
    leaves_number g.B.Builder.maker _ (g.B.Builder.maker.reads c.args.builder) c.args.axis c.args.self c.new.result c.args.builder c.number_in-made.result.0 c.args.self.at refl
    (subst made (sym c.new.ensures.at) (subst (λ o. IfSome o made) c.in-Some.is c.number_in-made.ensures.some)) c.new.ensures.text
    (subst leaves (sym c.new.ensures.at) (subst (λ o. IfSome o leaves) c.in-Some.is c.number_in-made.ensures.leaves))

pub returns-in-None-clause-nothing : goal.returns-in-None-clause-nothing
returns-in-None-clause-nothing g c = subst (λ o. IfNone o (g.B.Builder.maker.makes c.args.builder [] c.number_in-made.result.0)) c.in-None.is c.number_in-made.ensures.nothing
