-- One parenthesis after the other has to close, and each takes a token.
use Rattle.std.proofs.Common.{◌-◌, ◌∙◌, arith}
use Rattle.wkt_read.specs.Stream.{rest}
use Rattle.wkt_read.specs.Peeks.{found}
use Rattle.wkt_values.proofs.Reading.{advances_then, advances_one, closes_one, first_taken}
use Rattle.wkt_values.proofs.refused.close.Goals as goal

pub parens-preserved : goal.parens-preserved
parens-preserved g c =
    let read = g.T.WktNum.read in
    let old = c.parens.tokens in
    let new = c.take.new.self in
    let l = found c.take.result in
    let takes = c.take.ensures.takes in
    let some = c.parens-test.true in
    record {
      advances = advances_then _ _ _ c.parens.invariant.advances (advances_one old l new c.take.ensures.moves);
      same = c.parens.invariant.same
          ∙ closes_one read c.parens.remaining (c.parens.remaining - 1) c.parens.reported c.closing-reported.result l (rest old) (rest new) (omega (arith, some)) takes
          (c.closing-reported.ensures (rest old) (first_taken l (rest old) (rest new) takes));
    }
