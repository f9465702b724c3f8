use Rattle.std.proofs.Common.{arith, ◌≡◌, ap, ◌∙◌, sym, None, Some, false}
use Rattle.wkt_events.specs.Remaining.{remaining_spanned}
use Rattle.wkt_dialects.specs.Dialects.{first_numbers, open_behind}
use Rattle.wkt_dialects.specs.Pieces.{lexeme_in}
use Rattle.wkt_dialects.proofs.Looks.{first-there, first-behind, first-over, first-end, open-most}
use Rattle.wkt_dialects.proofs.first.first_numbers.Goals as goal

pub returns-then-begins : goal.returns-then-begins
returns-then-begins c =
    let yes = c.begins.ensures.yes c.if-begins.true in
    c.numbers_there.ensures ∙ sym (c.lexemes.invariant.2 ∙ first-there c.args.dialects c.args.text.now c.lexemes.at c.in-Some.found c.in-Some.ensures c.lexemes.depth yes.0 yes.1)

pub returns-in-None : goal.returns-in-None
returns-in-None c =
    let over : open_behind c.lexemes.depth (lexeme_in c.args.text.now c.in-Some.found) ≡ None = sym c.open_behind.ensures ∙ c.in-None.is in
    sym (c.lexemes.invariant.2
    ∙ first-behind c.args.dialects c.args.text.now c.lexemes.at c.in-Some.found c.in-Some.ensures c.lexemes.depth (c.begins.ensures.no c.if-begins.false)
    ∙ ap (λ n. first_numbers c.args.dialects n (remaining_spanned false c.args.text.now c.in-Some.found.end)) over
    ∙ first-over c.args.dialects (remaining_spanned false c.args.text.now c.in-Some.found.end))

pub lexemes-preserved : goal.lexemes-preserved
lexemes-preserved c =
    let on : open_behind c.lexemes.depth (lexeme_in c.args.text.now c.in-Some.found) ≡ Some c.in-Some-open_behind.behind = sym c.open_behind.ensures ∙ c.in-Some-open_behind.is in
    let f = c.in-Some.ensures in (
      f.bytes.inside,
      omega (arith, open-most c.lexemes.depth (lexeme_in c.args.text.now c.in-Some.found) c.in-Some-open_behind.behind on, f.bytes.order, f.between.order),
      c.lexemes.invariant.2
          ∙ first-behind c.args.dialects c.args.text.now c.lexemes.at c.in-Some.found f c.lexemes.depth (c.begins.ensures.no c.if-begins.false)
          ∙ ap (λ n. first_numbers c.args.dialects n (remaining_spanned false c.args.text.now c.in-Some.found.end)) on,
    )

pub returns : goal.returns
returns c = sym (c.lexemes.invariant.2 ∙ ap (first_numbers c.args.dialects (Some c.lexemes.depth)) c.in_default.ensures ∙ first-end c.args.dialects (Some c.lexemes.depth))
