-- Digit after digit is put until nothing of the fraction is left.
use Rattle.std.proofs.Common.{arith}
use Rattle.wkt_num.proofs.Scan.{starts, puts, ends}
use Rattle.wkt_num.proofs.Printed.{ten-fits, next-fits}
use Rattle.wkt_num.proofs.printing.put_long.Goals as goal

pub loop-rest-init : goal.loop-rest-init
loop-rest-init c = starts _ _ _ c.requires.less c.told-out

pub overflow_mul-next : goal.overflow_mul-next
overflow_mul-next c = omega (arith, next-fits c.loop-rest.rest c.args.places 36 c.requires.few c.loop-rest.invariant.small)

pub loop-rest-preserved : goal.loop-rest-preserved
loop-rest-preserved c = puts _ _ _ _ _ _ (omega (arith, c.requires.few)) c.pow-one.ensures c.loop-rest-test.true c.loop-rest.invariant

pub returns-clause-value : goal.returns-clause-value
returns-clause-value c = ends _ _ _ _ c.loop-rest-test.false c.loop-rest.invariant

pub pow-one-requires : goal.pow-one-requires
pow-one-requires c = ten-fits c.args.places c.requires.few
