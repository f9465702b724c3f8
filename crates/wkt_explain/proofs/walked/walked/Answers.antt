-- Where the machine stops, the text is refused: it stops at the same place without what stands behind a NUL.
use Rattle.wkt_read.proofs.HeaderPlaces.{front-within}
use Rattle.wkt_explain.proofs.BehindNul.{ends-walked, stops-walked}
use Rattle.wkt_explain.proofs.StopsAreRefusals.{part, told_none, told_place, told_message, told_table}
use Rattle.wkt_explain.proofs.walked.walked.Goals as goal

pub returns-in-Ok-clause-front : goal.returns-in-Ok-clause-front
returns-in-Ok-clause-front g c = ends-walked (g.N.Numbers.read c.args.numbers) c.args.text.now c.args.padded_text.now c.requires c.in-Ok.end c.in-Ok.ensures.front

pub returns-in-Ok-clause-within : goal.returns-in-Ok-clause-within
returns-in-Ok-clause-within g c = let f = returns-in-Ok-clause-front g c in front-within (g.N.Numbers.read c.args.numbers) c.args.text.now f.0 _ f.1

pub refusal_at-requires : goal.refusal_at-requires
refusal_at-requires g c =
    let s = stops-walked (g.N.Numbers.read c.args.numbers) c.args.text.now c.args.padded_text.now c.requires _ _ c.in-Err.ensures.stopped in
    record { inside = s.inside; stuck = s.stuck }

pub returns-in-Err-clause-no_front : goal.returns-in-Err-clause-no_front
returns-in-Err-clause-no_front g c =
    told_none (g.N.Numbers.read c.args.numbers) c.args.text.now _ _
    (stops-walked (g.N.Numbers.read c.args.numbers) c.args.text.now c.args.padded_text.now c.requires _ _ c.in-Err.ensures.stopped) _ c.refusal_at.ensures

pub returns-in-Err-clause-place : goal.returns-in-Err-clause-place
returns-in-Err-clause-place g c =
    told_place (g.N.Numbers.read c.args.numbers) c.args.text.now _ _
    (stops-walked (g.N.Numbers.read c.args.numbers) c.args.text.now c.args.padded_text.now c.requires _ _ c.in-Err.ensures.stopped) _ c.refusal_at.ensures

pub returns-in-Err-clause-part : goal.returns-in-Err-clause-part
returns-in-Err-clause-part g c = part (g.N.Numbers.read c.args.numbers) c.args.text.now c.utf8.text _ _ _ (returns-in-Err-clause-place g c)

pub returns-in-Err-clause-message : goal.returns-in-Err-clause-message
returns-in-Err-clause-message g c =
    told_message (g.N.Numbers.read c.args.numbers) c.args.text.now _ _
    (stops-walked (g.N.Numbers.read c.args.numbers) c.args.text.now c.args.padded_text.now c.requires _ _ c.in-Err.ensures.stopped) _ c.refusal_at.ensures

pub returns-in-Err-clause-table : goal.returns-in-Err-clause-table
returns-in-Err-clause-table g c =
    told_table (g.N.Numbers.read c.args.numbers) c.args.text.now _ _
    (stops-walked (g.N.Numbers.read c.args.numbers) c.args.text.now c.args.padded_text.now c.requires _ _ c.in-Err.ensures.stopped) _ c.refusal_at.ensures

pub returns-in-Some-clause-no_front : goal.returns-in-Some-clause-no_front
returns-in-Some-clause-no_front g c = let t = c.in-Some.ensures in told_none (g.N.Numbers.read c.args.numbers) c.args.text.now _ _ t.1 _ t.2

pub returns-in-Some-clause-place : goal.returns-in-Some-clause-place
returns-in-Some-clause-place g c = let t = c.in-Some.ensures in told_place (g.N.Numbers.read c.args.numbers) c.args.text.now _ _ t.1 _ t.2

pub returns-in-Some-clause-part : goal.returns-in-Some-clause-part
returns-in-Some-clause-part g c = part (g.N.Numbers.read c.args.numbers) c.args.text.now c.utf8.text _ _ _ (returns-in-Some-clause-place g c)

pub returns-in-Some-clause-message : goal.returns-in-Some-clause-message
returns-in-Some-clause-message g c = let t = c.in-Some.ensures in told_message (g.N.Numbers.read c.args.numbers) c.args.text.now _ _ t.1 _ t.2

pub returns-in-Some-clause-table : goal.returns-in-Some-clause-table
returns-in-Some-clause-table g c = let t = c.in-Some.ensures in told_table (g.N.Numbers.read c.args.numbers) c.args.text.now _ _ t.1 _ t.2
