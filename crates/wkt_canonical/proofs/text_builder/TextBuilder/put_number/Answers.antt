-- A number that keeps its text: of a type that reads only texts it is one.
use Rattle.std.proofs.Common.{rules}
use Rattle.wkt_num.specs.Number.{ReadsTexts}
use Rattle.wkt_canonical.proofs.TextBuilderOutput.{num_utf8, kept-numbered}
use Rattle.wkt_canonical.proofs.text_builder.TextBuilder.put_number.Goals as goal

pub returns-in-Some : goal.returns-in-Some
returns-in-Some g c =
    let read = g.N.Numbers.read c.args.self.numbers in
    let num = g.N.Numbers.num c.args.self.numbers in
    let law : ReadsTexts read = search rules in
    let some = kept-numbered read num (num_utf8 read num (g.N.Numbers.is_value c.args.self.numbers) (g.met.N.Numbers.reads_values c.args.self.numbers) (g.met.N.Numbers.reads_back c.args.self.numbers) law) c.args.text.now c.args.at c.in-Some.end c.in-Some.kept c.args.self c.put_front.result c.requires.at c.in-Some.ensures.keeps c.put_front.ensures in
    record { some = some; none = tt; nothing = tt }
