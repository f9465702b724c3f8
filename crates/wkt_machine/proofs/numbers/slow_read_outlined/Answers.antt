-- The number that the window shows comes next.
use Rattle.std.proofs.Common.{arith, length, ◌-◌, take, drop}
use Rattle.wkt_machine.proofs.Windows.{none-unrun, padded-shows, shown-there, zero-at}
use Rattle.wkt_machine.proofs.numbers.slow_read_outlined.Goals as goal

pub pad-requires-clause-zeros : goal.pad-requires-clause-zeros
pad-requires-clause-zeros g c = zero-at 32

pub returns-in-Some : goal.returns-in-Some
returns-in-Some g c =
    let some = shown-there (g.N.Numbers.read c.args.numbers) c.args.text.now c.args.at c.requires _ _
    (padded-shows (g.N.Numbers.read c.args.numbers) (take (length c.args.text.now - c.args.at) (drop c.args.at c.args.text.now)) c.pad.new.window _ _ (omega (arith, c.if-rest-lt-NUMBER_WINDOW.true)) c.pad.ensures.front c.pad.ensures.nul c.in-Some.ensures.reads) in
    record { some = some; none = tt }

pub returns-then-not-is_of_run : goal.returns-then-not-is_of_run
returns-then-not-is_of_run g c = record { some = tt; none = none-unrun (g.N.Numbers.read c.args.numbers) c.args.text.now c.args.at c.byte_at.result c.requires c.byte_at.ensures.value (λ r. let t = c.if-not-is_of_run.ensures.1 r in cc) }
