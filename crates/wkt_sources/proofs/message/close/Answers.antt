-- One parenthesis after the other has to close, and each takes a lexeme.
use Rattle.std.proofs.Common.{◌≡◌, ◌-◌, sym, ap, ◌∙◌, arith, false}
use Rattle.wkt_read.specs.Table.{closings}
use Rattle.wkt_events.specs.Remaining.{remaining}
use Rattle.wkt_sources.proofs.NextLexeme.{closes_none, closes_one}
use Rattle.wkt_sources.proofs.message.close.Goals as goal

pub parens-preserved : goal.parens-preserved
parens-preserved g c =
    let (l, takes, shows) = c.in-Some.ensures in
    let some = c.parens-test.true in
    record {
      inside = takes.inside;
      same = c.parens.invariant.same ∙ closes_one (g.N.Numbers.read c.args.numbers) c.args.text.now c.parens.open (c.parens.open - 1) c.parens.reported c.closing-reported.result c.parens.from _ l (omega (arith, some)) takes (c.closing-reported.ensures l _ shows);
    }

pub returns-in-None-clause-message : goal.returns-in-None-clause-message
returns-in-None-clause-message g c =
    closes_none (g.N.Numbers.read c.args.numbers) c.args.text.now c.parens.open c.parens.reported c.parens.from c.parens-test.true c.in-None.ensures ∙ sym c.parens.invariant.same

pub returns-clause-message : goal.returns-clause-message
returns-clause-message g c =
    let over = c.parens-test.false in
    let none : c.parens.open ≡ 0 = omega (arith, over) in
    sym (c.parens.invariant.same ∙ ap (λ n. closings (g.N.Numbers.read c.args.numbers) n c.parens.reported (remaining false c.args.text.now c.parens.from)) none)
