-- A number is taken, and made as what is made reads it, or stays.
use Rattle.wkt_sources.specs.Views.{tokens_view}
use Rattle.wkt_machine.proofs.RoomForRest.{value_fits}
use Rattle.wkt_sources.proofs.TokenSteps.{numbers, unread}
use Rattle.wkt_sources.proofs.tokens.TokenSourceSource.number.Goals as goal

pub number-requires : goal.number-requires
number-requires g c = record { room = value_fits (tokens_view g.T.WktNum.read) g.B.Builder.maker c.args.self c.args.builder c.in-Some.number tt c.requires.room }

pub returns-in-Some-clause-takes : goal.returns-in-Some-clause-takes
returns-in-Some-clause-takes g c = numbers g.T.WktNum.read g.B.Builder.maker c.args.self _ c.args.builder c.number.result c.args.axis c.in-Some.number _ (c.requires.room.reads tt c.args.builder) c.in-Some.ensures c.number.ensures.makes

pub returns-in-None-clause-unread : goal.returns-in-None-clause-unread
returns-in-None-clause-unread g c = λ k known. unread g.T.WktNum.read c.args.self (record c.args.self { tokens = record c.args.self.tokens { now = c.take_number.new.self } }) _ (c.requires.room.reads tt c.args.builder) c.in-None.ensures
