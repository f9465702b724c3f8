-- The text of a short decimal is found.
use Rattle.std.proofs.Common.{length, subst, sym, ℕ}
use Rattle.wkt_num.specs.DigitParts.{IsDecimalText}
use Rattle.wkt_num.specs.Decimal.{decimal_text}
use Rattle.wkt_num.proofs.FoundDecimal.{decimal-parts}
use Rattle.wkt_num.proofs.decimal.DecimalWktNum.canonical_prefix.Goals as goal

pub returns-clause-finds : goal.returns-clause-finds
returns-clause-finds g c u short stands =
    let stands-there : IsDecimalText c.new.result c.args.bytes.now (length (decimal_text g.row.D u)) = subst (λ (places : ℕ). IsDecimalText places c.args.bytes.now (length (decimal_text g.row.D u))) (sym c.new.ensures) (decimal-parts g.row.D u c.args.bytes.now short.0 stands) in
    c.canonical_prefix.ensures.finds (length (decimal_text g.row.D u)) stands-there short.1
