-- The bytes behind the loop's place are zeros, which are cut.
use Rattle.std.proofs.Common.{arith}
use Rattle.wkt_num.proofs.Printed.{kept-step, kept-end, kept-all}
use Rattle.wkt_num.proofs.printing.without_zeros.Goals as goal

pub loop-at-init : goal.loop-at-init
loop-at-init c = record { low = c.requires.0; high = omega arith; keeps = λ kept m ends long e. (m, e) }

pub bounds-out-at : goal.bounds-out-at
bounds-out-at c = omega (arith, c.loop-at.invariant.high, c.requires.1)

pub loop-at-preserved : goal.loop-at-preserved
loop-at-preserved c = record {
  low = omega arith;
  high = omega (arith, c.loop-at.invariant.high);
  keeps = λ kept m ends long e. let k = c.loop-at.invariant.keeps kept m ends long e in kept-step c.loop-at.at c.args.out.now kept k.0 ends (omega (arith, c.loop-at.invariant.high, c.requires.1, c.told-out)) c.if-out-at-eq48.true k.1;
}

pub returns-else-out-at-eq48-clause-bound : goal.returns-else-out-at-eq48-clause-bound
returns-else-out-at-eq48-clause-bound c = c.loop-at.invariant.high

pub returns-else-out-at-eq48-clause-value : goal.returns-else-out-at-eq48-clause-value
returns-else-out-at-eq48-clause-value c = λ kept m ends long e.
    let k = c.loop-at.invariant.keeps kept m ends long e in
    kept-end c.loop-at.at c.args.out.now kept k.0 (omega (arith, c.loop-at.invariant.high, c.requires.1, c.told-out)) c.if-out-at-eq48.false k.1

pub returns-after-loop-at-clause-start : goal.returns-after-loop-at-clause-start
returns-after-loop-at-clause-start c = c.loop-at.invariant.low

pub returns-after-loop-at-clause-value : goal.returns-after-loop-at-clause-value
returns-after-loop-at-clause-value c = λ kept m ends long e.
    let k = c.loop-at.invariant.keeps kept m ends long e in
    kept-all c.loop-at.at c.args.out.now kept k.0 (omega (arith, c.loop-at.invariant.high, c.requires.1, c.told-out)) (omega arith) long k.1
