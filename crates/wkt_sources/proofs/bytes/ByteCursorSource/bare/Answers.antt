-- The first number of a point without parentheses is taken, or isn't read.
use Rattle.std.proofs.Common.{[], refl, subst, sym}
use Rattle.std.specs.Prelude.{IfSome, IfNone}
use Rattle.wkt_events.specs.Remaining.{NoNumber}
use Rattle.wkt_machine.specs.Makers.{MakesBareNumber}
use Rattle.wkt_sources.proofs.ByteViews.{numbers_after, none_unread}
use Rattle.wkt_machine.specs.Room.{LeavesBehindBare}
use Rattle.wkt_machine.specs.declared.part.Axis.TheVariants as axis
use Rattle.wkt_sources.proofs.SourceRooms.{fits_bare, leaves_bare}
use Rattle.wkt_sources.proofs.bytes.ByteCursorSource.bare.Goals as goal

pub returns-in-Some-clause-takes : goal.returns-in-Some-clause-takes
returns-in-Some-clause-takes g c =
    let made = MakesBareNumber (g.B.Builder.maker.reads c.args.builder) g.B.Builder.maker c.args.builder c.args.self.text.now c.args.self.at c.bare_in-made.result.0 in
    let bare = subst made (sym c.new.ensures.at) (subst (λ o. IfSome o made) c.in-Some.is c.bare_in-made.ensures.some) in
    record {
      opened = bare.opened;
      opens = bare.opens;
      number = numbers_after _ (g.B.Builder.maker.reads c.args.builder) g.B.Builder.maker c.args.self c.new.result bare.opened c.bare_in-made.result.0 axis.X c.args.self.at refl (λ k. k) bare.number c.new.ensures.text;
    }

pub returns-in-Some-clause-room : goal.returns-in-Some-clause-room
returns-in-Some-clause-room g c =
    let made = MakesBareNumber (g.B.Builder.maker.reads c.args.builder) g.B.Builder.maker c.args.builder c.args.self.text.now c.args.self.at c.bare_in-made.result.0 in
    let leaves = LeavesBehindBare g.B.Builder.maker c.args.builder c.args.self.text.now c.args.self.at c.bare_in-made.result.0 in
    let bare = subst made (sym c.new.ensures.at) (subst (λ o. IfSome o made) c.in-Some.is c.bare_in-made.ensures.some) in
    leaves_bare g.B.Builder.maker _ (g.B.Builder.maker.reads c.args.builder) c.args.self c.new.result c.args.builder bare.opened c.bare_in-made.result.0 bare.number c.new.ensures.text
    (subst leaves (sym c.new.ensures.at) (subst (λ o. IfSome o leaves) c.in-Some.is c.bare_in-made.ensures.leaves)) c.requires.room

pub returns-in-None-clause-unread : goal.returns-in-None-clause-unread
returns-in-None-clause-unread g c = λ text known.
    none_unread _ c.args.self.text.now c.args.self.at (g.B.Builder.maker.reads c.args.builder) known.1 (c.requires.looked.dark c.requires.seen)
    (subst (λ o. IfNone o (NoNumber (g.B.Builder.maker.reads c.args.builder) c.args.self.text.now c.args.self.at)) c.in-None.is c.bare_in-made.ensures.none)

pub returns-in-None-clause-nothing : goal.returns-in-None-clause-nothing
returns-in-None-clause-nothing g c = subst (λ o. IfNone o (g.B.Builder.maker.makes c.args.builder [] c.bare_in-made.result.0)) c.in-None.is c.bare_in-made.ensures.nothing

pub bare_in-made-requires-clause-room : goal.bare_in-made-requires-clause-room
bare_in-made-requires-clause-room g c = fits_bare g.B.Builder.maker _ c.args.self c.args.builder (sym c.requires.seen) c.requires.room
