-- The run without its plus is read as the number, or stands for none.
use Rattle.std.proofs.Common.{sym, ap, ◌∙◌, arith, rules, subst}
use Rattle.std.specs.Str.{IsUtf8}
use Rattle.wkt_events.proofs.Runs.{behind-plus}
use Rattle.wkt_events.proofs.reading.number_there.Goals as goal

pub returns-in_default : goal.returns-in_default
returns-in_default g c =
    let same = (behind-plus c.args.text.now c.args.at c.run_end-end.result c.past_plus.result (omega arith) c.run_end-end.ensures.inside c.past_plus.ensures).2 in
    record { some = tt; none = record { end = c.run_end-end.result; ends = c.run_end-end.ensures; none = λ o b u. absurd (c.in_default.ensures.none (subst IsUtf8 (sym same) u)) } }

pub returns-in_default-read_number : goal.returns-in_default-read_number
returns-in_default-read_number g c =
    let same = (behind-plus c.args.text.now c.args.at c.run_end-end.result c.past_plus.result (omega arith) c.run_end-end.ensures.inside c.past_plus.ensures).2 in
    record { some = tt; none = record { end = c.run_end-end.result; ends = c.run_end-end.ensures; none = λ o b u. ap (g.N.Numbers.read c.args.numbers) (sym (c.in-Some.ensures.some ∙ same)) ∙ sym c.in_default-read_number.ensures } }

pub returns : goal.returns
returns g c =
    let same = (behind-plus c.args.text.now c.args.at c.run_end-end.result c.past_plus.result (omega arith) c.run_end-end.ensures.inside c.past_plus.ensures).2 in
    record { some = record { order = omega arith; ends = c.run_end-end.ensures; begins = search rules; reads = ap (g.N.Numbers.read c.args.numbers) (sym (c.in-Some.ensures.some ∙ same)) ∙ sym c.in-Some-read_number.ensures }; none = tt }
