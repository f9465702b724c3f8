-- Where the walk finds no front, `explain` doesn't either.
use Rattle.wkt_command.proofs.verdict.judge.Goals as goal

pub unreachable-requires : goal.unreachable-requires
unreachable-requires g c =
    let some = c.in-None-explain_by.ensures.front in
    let none = rw c.in-None.is at c.in_ok-end.ensures in
    none some.0 some.1 some.2
