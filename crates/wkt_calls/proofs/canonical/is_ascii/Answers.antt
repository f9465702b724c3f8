-- The windows so far are ASCII.
use Rattle.std.proofs.Common.{arith}
use Rattle.wkt_calls.proofs.Pieces.{window-below, front-below}
use Rattle.wkt_calls.proofs.canonical.is_ascii.Goals as goal

pub wide-init : goal.wide-init
wide-init c = record {
  within = omega arith;
  below = window-below c.args.bytes.now 0 (omega arith) (λ k less. absurd (omega (arith, less))) c.if-first-ne0.false;
}

pub wide-preserved : goal.wide-preserved
wide-preserved c = record {
  within = omega arith;
  below = window-below c.args.bytes.now c.wide.at (omega arith) c.wide.invariant.below c.if-high-ne0.false;
}

pub returns : goal.returns
returns c = λ yes. front-below c.args.bytes.now c.args.n c.wide.at (omega arith) c.wide.invariant.below
