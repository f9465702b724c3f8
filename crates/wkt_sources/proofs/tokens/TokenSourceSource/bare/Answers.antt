-- The first number of a point without parentheses is taken, and made in a parenthesis.
use Rattle.std.proofs.Common.{arith, sym}
use Rattle.wkt_read.specs.Stream.{end_of}
use Rattle.wkt_read.specs.Spanned.{Standing}
use Rattle.wkt_sources.specs.Views.{tokens_view}
use Rattle.wkt_sources.specs.declared.tokens.TokenSource.{TokenSource}
use Rattle.wkt_machine.specs.declared.machine.LexemeKind.TheVariants as sees
use Rattle.wkt_machine.specs.declared.part.Axis.TheVariants as axis
use Rattle.wkt_machine.proofs.RoomForRest.{bare_after, bare_room, fits_seen, value_fits, value_leaves}
use Rattle.wkt_sources.proofs.TokenSteps.{numbers, unread}
use Rattle.wkt_sources.proofs.tokens.TokenSourceSource.bare.Goals as goal

-- tokens where the stream is at that place
abbrev there_in : {T : Type 0} → TokenSource T → Standing → TokenSource T
there_in s now = record s { tokens = record s.tokens { now = now } }

pub open-opened-requires : goal.open-opened-requires
open-opened-requires g c = record { room = fits_seen (tokens_view g.T.WktNum.read) g.B.Builder.maker 0 1 sees.Number c.args.self c.args.builder (sym c.requires.seen) (omega arith) c.requires.room }

pub number-requires : goal.number-requires
number-requires g c = record {
  room = value_fits (tokens_view g.T.WktNum.read) g.B.Builder.maker c.args.self c.open-opened.result c.in-Some.number tt
      (bare_room (tokens_view g.T.WktNum.read) g.B.Builder.maker c.args.self c.args.builder c.open-opened.result (sym c.requires.seen) c.open-opened.ensures.leaves c.requires.room);
}

pub returns-in-Some-clause-takes : goal.returns-in-Some-clause-takes
returns-in-Some-clause-takes g c = record {
  opened = c.open-opened.result;
  opens = c.open-opened.ensures.makes;
  number = numbers g.T.WktNum.read g.B.Builder.maker c.args.self (there_in c.args.self c.take_number.new.self) c.open-opened.result c.number.result axis.X c.in-Some.number _ (c.requires.room.reads tt c.args.builder) c.in-Some.ensures c.number.ensures.makes;
}

pub returns-in-Some-clause-room : goal.returns-in-Some-clause-room
returns-in-Some-clause-room g c =
    let room = bare_room (tokens_view g.T.WktNum.read) g.B.Builder.maker c.args.self c.args.builder c.open-opened.result (sym c.requires.seen) c.open-opened.ensures.leaves c.requires.room in
    let after = there_in c.args.self c.take_number.new.self in
    bare_after (tokens_view g.T.WktNum.read) g.B.Builder.maker c.args.self after c.open-opened.result c.number.result room
    (value_leaves (tokens_view g.T.WktNum.read) g.B.Builder.maker c.args.self after c.open-opened.result c.number.result c.in-Some.number c.in-Some.ensures.run (end_of after.tokens.now) tt room c.in-Some.ensures.moves.0 c.number.ensures.leaves)

pub returns-in-None-clause-unread : goal.returns-in-None-clause-unread
returns-in-None-clause-unread g c = λ k known. unread g.T.WktNum.read c.args.self (there_in c.args.self c.take_number.new.self) _ (c.requires.room.reads tt c.args.builder) c.in-None.ensures
