-- A number that keeps its text in the window ends where its run does.
use Rattle.std.proofs.Common.{arith, length, ◌-◌, take, drop}
use Rattle.wkt_machine.proofs.Windows.{keeps_begins, none-unrun, padded-shows, shown-there, zero-at}
use Rattle.wkt_machine.proofs.numbers.slow_end.Goals as goal

pub pad-requires-clause-zeros : goal.pad-requires-clause-zeros
pad-requires-clause-zeros g c = zero-at 32

pub returns-in-Some : goal.returns-in-Some
returns-in-Some g c =
    let k = c.in-Some.ensures.keeps in
    let there = shown-there (g.N.Numbers.read c.args.numbers) c.args.text.now c.args.at c.requires _ _
    (padded-shows (g.N.Numbers.read c.args.numbers) (take (length c.args.text.now - c.args.at) (drop c.args.at c.args.text.now)) c.pad.new.window _ _ (omega (arith, c.if-rest-lt-NUMBER_WINDOW.true)) c.pad.ensures.front c.pad.ensures.nul
    (keeps_begins (g.N.Numbers.read c.args.numbers) (g.N.Numbers.num c.args.numbers) _ _ _ k)) in
    record { some = (k.number, there); none = tt }

pub returns-then-not-is_of_run : goal.returns-then-not-is_of_run
returns-then-not-is_of_run g c = record { some = tt; none = none-unrun (g.N.Numbers.read c.args.numbers) c.args.text.now c.args.at c.byte_at.result c.requires c.byte_at.ensures.value (λ r. let t = c.if-not-is_of_run.ensures.1 r in cc) }
