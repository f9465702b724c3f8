-- A number that keeps its text ends where its run does.
use Rattle.wkt_machine.proofs.Windows.{keeps_begins, shown-there}
use Rattle.wkt_machine.proofs.numbers.end_at.Goals as goal

pub returns-in-Some : goal.returns-in-Some
returns-in-Some g c =
    let k = c.in-Some.ensures.keeps in
    record { some = (k.number, shown-there (g.N.Numbers.read c.args.numbers) c.args.text.now c.args.at c.requires _ _ (keeps_begins (g.N.Numbers.read c.args.numbers) (g.N.Numbers.num c.args.numbers) _ _ _ k)); none = tt }
