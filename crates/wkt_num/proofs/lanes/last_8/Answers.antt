-- No lane is past 9 exactly if all bytes are digits, whose value the lanes have then.
use Rattle.std.proofs.Common.{◌∙◌, arith}
use Rattle.wkt_num.proofs.DigitLanes.{last-digits, last-value}
use Rattle.wkt_num.proofs.lanes.last_8.Goals as goal

pub returns-clause-digits : goal.returns-clause-digits
returns-clause-digits c = last-digits 8 c.args.count c.args.body.now c.lanes_8-digits.result c.type_inv.body c.lanes_8-digits.ensures c.requires (omega arith) c.if-digits-ne0.false

pub returns-clause-value : goal.returns-clause-value
returns-clause-value c = c.number_8.ensures ∙ last-value 8 c.args.count c.args.body.now c.lanes_8-digits.result c.type_inv.body c.lanes_8-digits.ensures c.requires (omega arith) c.if-digits-ne0.false
