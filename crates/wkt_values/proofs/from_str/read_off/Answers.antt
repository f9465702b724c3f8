-- The machine's answer, and the tokens behind what it took.
use Rattle.std.proofs.Common.{ap, arith, length}
use Rattle.wkt_read.specs.Stream.{remaining}
use Rattle.wkt_values.proofs.Reading.{ok_found, ok_taken, ok_advances, memory_free, memory_advances, stuck_next, stuck_advances, stuck_none, stuck_early, stuck_bad, stuck_refusal}
use Rattle.wkt_values.proofs.from_str.read_off.Goals as goal

pub read-answer-requires : goal.read-answer-requires
read-answer-requires g c =
    let most = c.most_left.ensures in
    let same = ap (λ t. length (remaining t.now)) c.new-source.ensures in
    record { room = omega (arith, most, same) }

pub refused-requires : goal.refused-requires
refused-requires g c = record { stuck = stuck_next g.T.WktNum.read c.new-source.result _ _ _ (ap (λ t. t.now) c.new-source.ensures) (ap (λ t. t.now) c.into_tokens-remaining.ensures) c.read-answer.result.0 c.in-Err.unread c.in-Err.is c.in-Refused.machine c.in-Refused.is c.read-answer.ensures.refused }

pub returns-in-Ok-clause-found : goal.returns-in-Ok-clause-found
returns-in-Ok-clause-found g c = ok_found g.T.WktNum.read c.new-source.result _ _ _ (ap (λ t. t.now) c.new-source.ensures) (ap (λ t. t.now) c.into_tokens-remaining.ensures) c.read-answer.result.0 c.in-Ok.geometry c.in-Ok.is c.read-answer.ensures.found

pub returns-in-Ok-clause-taken : goal.returns-in-Ok-clause-taken
returns-in-Ok-clause-taken g c = ok_taken g.T.WktNum.read c.new-source.result _ _ _ (ap (λ t. t.now) c.new-source.ensures) (ap (λ t. t.now) c.into_tokens-remaining.ensures) c.read-answer.result.0 c.in-Ok.geometry c.in-Ok.is c.read-answer.ensures.found

pub returns-in-Ok-clause-advances : goal.returns-in-Ok-clause-advances
returns-in-Ok-clause-advances g c = ok_advances g.T.WktNum.read c.new-source.result _ _ _ (ap (λ t. t.now) c.new-source.ensures) (ap (λ t. t.now) c.into_tokens-remaining.ensures) c.read-answer.result.0 c.in-Ok.geometry c.in-Ok.is c.read-answer.ensures.found

pub returns-in-Memory-clause-free : goal.returns-in-Memory-clause-free
returns-in-Memory-clause-free g c = λ v after begins free.
    absurd (memory_free g.T.WktNum.read c.new-source.result _ _ _ (ap (λ t. t.now) c.new-source.ensures) (ap (λ t. t.now) c.into_tokens-remaining.ensures) c.read-answer.result.0 c.in-Err.unread c.in-Err.is c.in-Memory.error c.in-Memory.is c.read-answer.ensures.memory v after begins free)

pub returns-in-Memory-clause-advances : goal.returns-in-Memory-clause-advances
returns-in-Memory-clause-advances g c = memory_advances g.T.WktNum.read c.new-source.result _ _ _ (ap (λ t. t.now) c.new-source.ensures) (ap (λ t. t.now) c.into_tokens-remaining.ensures) c.read-answer.result.0 c.in-Err.unread c.in-Err.is c.in-Memory.error c.in-Memory.is c.read-answer.ensures.memory

pub returns-in-Refused-clause-no_geometry : goal.returns-in-Refused-clause-no_geometry
returns-in-Refused-clause-no_geometry g c = stuck_none g.T.WktNum.read c.new-source.result _ _ _ (ap (λ t. t.now) c.new-source.ensures) (ap (λ t. t.now) c.into_tokens-remaining.ensures) c.read-answer.result.0 c.in-Err.unread c.in-Err.is c.in-Refused.machine c.in-Refused.is c.read-answer.ensures.refused c.refused.result c.refused.new.tokens c.refused.ensures.message

pub returns-in-Refused-clause-early : goal.returns-in-Refused-clause-early
returns-in-Refused-clause-early g c = stuck_early g.T.WktNum.read c.new-source.result _ _ _ (ap (λ t. t.now) c.new-source.ensures) (ap (λ t. t.now) c.into_tokens-remaining.ensures) c.read-answer.result.0 c.in-Err.unread c.in-Err.is c.in-Refused.machine c.in-Refused.is c.read-answer.ensures.refused c.refused.result c.refused.new.tokens c.refused.ensures.message

pub returns-in-Refused-clause-bad : goal.returns-in-Refused-clause-bad
returns-in-Refused-clause-bad g c = stuck_bad g.T.WktNum.read c.new-source.result _ _ _ (ap (λ t. t.now) c.new-source.ensures) (ap (λ t. t.now) c.into_tokens-remaining.ensures) c.read-answer.result.0 c.in-Err.unread c.in-Err.is c.in-Refused.machine c.in-Refused.is c.read-answer.ensures.refused c.refused.result c.refused.new.tokens c.refused.ensures.message c.text-said.result.now c.text-said.ensures

pub returns-in-Refused-clause-refusal : goal.returns-in-Refused-clause-refusal
returns-in-Refused-clause-refusal g c = stuck_refusal g.T.WktNum.read c.new-source.result _ _ _ (ap (λ t. t.now) c.new-source.ensures) (ap (λ t. t.now) c.into_tokens-remaining.ensures) c.read-answer.result.0 c.in-Err.unread c.in-Err.is c.in-Refused.machine c.in-Refused.is c.read-answer.ensures.refused c.refused.result c.refused.new.tokens c.refused.ensures.message c.text-said.result.now c.text-said.ensures

pub returns-in-Refused-clause-free : goal.returns-in-Refused-clause-free
returns-in-Refused-clause-free g c = λ v after (f, split, stands) free. absurd (returns-in-Refused-clause-no_geometry g c f after v split stands)

pub returns-in-Refused-clause-advances : goal.returns-in-Refused-clause-advances
returns-in-Refused-clause-advances g c = stuck_advances g.T.WktNum.read c.new-source.result _ _ _ (ap (λ t. t.now) c.new-source.ensures) (ap (λ t. t.now) c.into_tokens-remaining.ensures) c.read-answer.result.0 c.in-Err.unread c.in-Err.is c.in-Refused.machine c.in-Refused.is c.read-answer.ensures.refused c.refused.new.tokens c.refused.ensures.advances
