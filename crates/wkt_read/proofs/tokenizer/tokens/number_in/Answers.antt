-- A plus is one byte, so what follows it begins at a boundary of characters.
use Rattle.std.proofs.Common.{◌≡◌, ◌<◌, length, arith, get_or, ap, sym, ◌∙◌}
use Rattle.std.proofs.lemmas.Str.{IsCharBoundary-after_ascii}
use Rattle.wkt_read.proofs.tokenizer.tokens.number_in.Goals as goal

pub range_from-requires : goal.range_from-requires
range_from-requires c =
    let same = c.as_bytes.ensures.value in
    let item = c.in-Some.ensures.item in
    let inside : 0 < length c.args.run.now = omega (arith, ap length same, item.3.0) in
    let first : get_or c.args.run.now 0 0 ≡ 43 = ap (λ l. get_or l 0 0) (sym same) ∙ sym (item.3.1 0) ∙ c.if-first-eq43.true in
    λ h. IsCharBoundary-after_ascii c.args.run.now 0 c.utf8.run inside (omega arith)
