-- Pairs, fours and eights of digits make the number of sixteen.
use Rattle.std.proofs.Common.{sym, ap, ◌∙◌}
use Rattle.wkt_num.proofs.DigitLanes.{pairs-of, quads, joined, no-more}
use Rattle.wkt_num.proofs.lanes.number_16.Goals as goal

pub eight-requires : goal.eight-requires
eight-requires c = let p = pairs-of c.args.digits 8 c.fits-digits.0 c.requires in (p.first, p.second, p.third, p.fourth)

pub eight-requires-2 : goal.eight-requires-2
eight-requires-2 c =
    let p = pairs-of c.args.digits 8 c.fits-digits.0 c.requires in
    let q = pairs-of p.l 0 p.left p.digits in
    rw p.rest (q.first, q.second, q.third, q.fourth)

pub returns : goal.returns
returns c =
    let p = pairs-of c.args.digits 8 c.fits-digits.0 c.requires in
    let q = pairs-of p.l 0 p.left p.digits in
    joined c.eight.result c.eight-2.result _ _ c.eight.ensures (c.eight-2.ensures ∙ ap quads p.rest) ∙ sym (p.value 0 ∙ q.value _ ∙ no-more _ q.l q.left)
