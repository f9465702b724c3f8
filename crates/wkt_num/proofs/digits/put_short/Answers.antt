-- A digit more stands before those that are put, down to the first.
use Rattle.std.proofs.Common.{◌∙◌, ◌+◌, ◌-◌, ◌/◌, ◌++◌, ◌<◌, ◌^◌, drop, set, ℕ, List, ap, arith, length-set}
use Rattle.std.specs.Fmt.{decimal}
use Rattle.wkt_num.proofs.Printed.{put-more, put-first, fewer}
use Rattle.wkt_num.proofs.digits.put_short.Goals as goal

pub loop-rest-preserved : goal.loop-rest-preserved
loop-rest-preserved c =
    let l = c.loop-rest in
    let f = fewer l.at l.rest c.loop-rest-test.true l.invariant.small in
    let out : List ℕ = set l.out l.at c.digit_byte.result in
    let wide : l.rest < 10 ^ 64 = omega (arith, l.auto.rest-fits.fits) in
    record {
      written =
          ap (λ (i : ℕ). decimal (l.rest / 10) ++ drop i out) {x = l.at - 1 + 1} {y = l.at} (omega (arith, f.0))
          ∙ put-more l.out _ l.at l.rest _ c.loop-rest-test.true wide (omega (arith, l.invariant.room, l.invariant.below, c.requires.within)) c.digit_byte.ensures l.invariant.written;
      small = f.1;
      some = omega (arith, f.0);
      below = omega (arith, f.0, l.invariant.below);
      room = length-set l.out l.at _ ∙ l.invariant.room;
    }

pub returns-clause-value : goal.returns-clause-value
returns-clause-value c =
    let l = c.loop-rest in
    put-first l.out _ l.at l.rest _ c.loop-rest-test.false (omega (arith, l.invariant.room, l.invariant.below, c.requires.within)) c.digit_byte-2.ensures l.invariant.written
