-- A text without a front is one in which the machine stops.
use Rattle.wkt_sources.proofs.TableMessages.{stops_message}
use Rattle.wkt_explain.proofs.api.message.Goals as goal

pub unreachable-requires : goal.unreachable-requires
unreachable-requires g c = let (v, front) = c.in-Ok.ensures.front in c.requires v _ front

pub message_at-requires : goal.message_at-requires
message_at-requires g c = record { inside = c.in-Err.ensures.stopped.inside; stuck = c.in-Err.ensures.stopped.stuck }

pub returns : goal.returns
returns g c = stops_message (g.N.Numbers.read c.args.numbers) c.args.text.now _ _ c.in-Err.ensures.stopped c.message_at.result c.message_at.ensures
