-- The lists of the front are in the rooms, or the text isn't UTF-8.
use Rattle.std.proofs.Common.{◌≡◌, true, false, refl, arith}
use Rattle.wkt_calls.specs.Answer.{read_at}
use Rattle.wkt_calls.proofs.FewEvents.{in-rooms}
use Rattle.wkt_calls.proofs.Pieces.{not-text}
use Rattle.wkt_calls.proofs.events_call.front_events.Goals as goal

pub returns-then-not-is_text_from-clause-answers : goal.returns-then-not-is_text_from-clause-answers
returns-then-not-is_text_from-clause-answers c =
    not-text (read_at c.args.places) c.args.text.now (λ u. let f : false ≡ true = c.if-not-is_text_from.ensures.1 (c.in-Some.ensures.writes.utf8.0 u) in cc)

pub returns-clause-answers : goal.returns-clause-answers
returns-clause-answers c =
    in-rooms c.args.places c.args.text.now c.args.room.now c.write_events.new.room c.in-Some.counts c.in-Some.ensures.writes (c.in-Some.ensures.writes.utf8.1 (c.if-not-is_text_from.ensures.0 refl)) (omega arith)
