-- The lists stand in the rooms, or one of these has no room.
use Rattle.std.proofs.Common.{rules, ◌≡◌, ◌∙◌, List, arith, inl, inr}
use Rattle.wkt_c.proofs.exports_events.wkt_read_events.Goals as goal
use Rattle.wkt_c.proofs.exports_events.wkt_read_events.Goals.{then-told-events-via-then-told-events, then-told-events-via-else-told-events+then-read-numbers}

-- what was lent is what came back
came-back : {A : Type 0} (now back list : List A) → back ≡ list → now ≡ back → now ≡ list
came-back now back list e is = is ∙ e

pub returns-then-told-events-clause-small : goal.returns-then-told-events-clause-small
returns-then-told-events-clause-small c = λ _.
    let counted = c.in-Ok.ensures.answers.counted in
    let events = counted.events in
    let numbers = counted.numbers in
    record {
      counted = counted;
      small = elim c.then-told-events.branch [
        | then-told-events-via-then-told-events w ↦ inl (omega (arith, events))
        | then-told-events-via-else-told-events+then-read-numbers w ↦ inr (omega (arith, numbers))
      ];
    }

pub returns-else-read-numbers-clause-written : goal.returns-else-read-numbers-clause-written
returns-else-read-numbers-clause-written c = λ _.
    let answers = c.in-Ok.ensures.answers in
    let events = answers.counted.events in
    let numbers = answers.counted.numbers in
    let e = answers.events_in (omega (arith, events)) in
    let n = answers.numbers_in (omega (arith, numbers)) in
    record { counted = answers.counted; events_in = came-back _ _ _ e (search rules); numbers_in = came-back _ _ _ n (search rules) }
