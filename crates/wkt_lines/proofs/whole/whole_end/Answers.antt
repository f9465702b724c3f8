-- The front alone counts, or white space stands behind it.
use Rattle.std.proofs.Common.{◌≤◌, arith, inr, subst}
use Rattle.wkt_num.specs.Bytes.{AllWhite}
use Rattle.wkt_lines.proofs.Wholes.{behind}
use Rattle.wkt_lines.proofs.whole.whole_end.Goals as goal

pub returns-then-is_blank : goal.returns-then-is_blank
returns-then-is_blank c =
    let at = c.in_ok-line.ensures in
    let n = at.ends in
    let inside = c.requires.end in
    let within : c.args.end ≤ c.in_ok-line.line = omega (arith, n, inside) in
    (at, inr (subst AllWhite (behind c.args.rest.now c.args.from c.in_ok-line.line c.args.end at within) (c.is_blank.ensures.0 c.if-is_blank.true)))
