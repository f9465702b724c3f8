-- A number that keeps its text, also in a window that goes on behind the text's end.
use Rattle.std.proofs.Common.{rules, arith, length, ◌-◌, take, drop, refl, subst}
use Rattle.wkt_num.specs.Number.{ReadsTexts}
use Rattle.wkt_canonical.proofs.TextBuilderOutput.{num_utf8, kept-numbered, padded-keeps}
use Rattle.wkt_machine.proofs.Windows.{none-unrun, zero-at}
use Rattle.wkt_canonical.specs.TextBuilderMaker.{Extends}
use Rattle.wkt_canonical.proofs.text_builder.TextBuilder.slow_number_outlined.Goals as goal

pub returns-then-not-is_of_run : goal.returns-then-not-is_of_run
returns-then-not-is_of_run g c = record { some = tt; none = none-unrun (g.N.Numbers.read c.args.self.numbers) c.args.text.now c.args.at c.byte_at.result c.requires.at c.byte_at.ensures.value (λ r. let t = c.if-not-is_of_run.ensures.1 r in cc); nothing = refl }

pub pad-requires-clause-zeros : goal.pad-requires-clause-zeros
pad-requires-clause-zeros g c = zero-at 32

pub returns-in-Some : goal.returns-in-Some
returns-in-Some g c =
    let read = g.N.Numbers.read c.args.self.numbers in
    let num = g.N.Numbers.num c.args.self.numbers in
    let law : ReadsTexts read = search rules in
    let rest = take (length c.args.text.now - c.args.at) (drop c.args.at c.args.text.now) in
    let (keeps, same) = padded-keeps read num rest c.pad.new.window c.in-Some.end c.in-Some.kept (omega (arith, c.if-rest-lt-WINDOW.true)) c.pad.ensures.front c.pad.ensures.nul c.in-Some.ensures.keeps in
    let some = kept-numbered read num (num_utf8 read num (g.N.Numbers.is_value c.args.self.numbers) (g.met.N.Numbers.reads_values c.args.self.numbers) (g.met.N.Numbers.reads_back c.args.self.numbers) law) c.args.text.now c.args.at c.in-Some.end c.in-Some.kept c.args.self c.put_front.result c.requires.at keeps
    (subst (λ l. Extends c.args.self l c.put_front.result) same c.put_front.ensures) in
    record { some = some; none = tt; nothing = tt }
