-- The number that the window shows comes next.
use Rattle.wkt_machine.proofs.Windows.{shown-there}
use Rattle.wkt_machine.proofs.numbers.read_by.Goals as goal

pub returns-in-Some : goal.returns-in-Some
returns-in-Some g c = record { some = shown-there (g.N.Numbers.read c.args.numbers) c.args.text.now c.args.at c.requires _ _ c.in-Some.ensures.reads; none = tt }
