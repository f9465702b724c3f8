-- Pairs and fours of digits make the number of eight.
use Rattle.std.proofs.Common.{sym, ap₂, ◌+◌, ◌*◌, ℕ, ◌∙◌}
use Rattle.wkt_num.proofs.DigitLanes.{pairs-of, fours-are, alone, no-more}
use Rattle.wkt_num.proofs.lanes.number_8.Goals as goal

pub returns : goal.returns
returns c =
    let p = pairs-of c.args.digits 0 c.fits-digits.0 c.requires in
    ap₂ (λ (a b : ℕ). a * 10000 + b) c.from.ensures c.from-2.ensures ∙ fours-are _ _ _ _ p.first p.second p.third p.fourth ∙ alone _ ∙ sym (p.value 0 ∙ no-more _ p.l p.left)
