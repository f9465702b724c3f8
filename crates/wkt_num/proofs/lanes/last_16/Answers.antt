-- No lane is past 9 exactly if all bytes are digits, whose value the lanes have then.
use Rattle.std.proofs.Common.{◌∙◌, arith}
use Rattle.wkt_num.proofs.DigitLanes.{last-digits, last-value}
use Rattle.wkt_num.proofs.lanes.last_16.Goals as goal

pub returns-clause-digits : goal.returns-clause-digits
returns-clause-digits c = last-digits 16 c.args.count c.args.body.now c.lanes_16-digits.result c.type_inv.body c.lanes_16-digits.ensures c.requires (omega arith) c.if-digits-ne0.false

pub returns-clause-value : goal.returns-clause-value
returns-clause-value c = c.number_16.ensures ∙ last-value 16 c.args.count c.args.body.now c.lanes_16-digits.result c.type_inv.body c.lanes_16-digits.ensures c.requires (omega arith) c.if-digits-ne0.false
