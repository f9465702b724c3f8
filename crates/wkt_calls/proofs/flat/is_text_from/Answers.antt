-- A last byte of ASCII is text.
use Rattle.std.proofs.Common.{rules}
use Rattle.wkt_calls.proofs.Pieces.{last-ascii}
use Rattle.wkt_calls.proofs.flat.is_text_from.Goals as goal

pub returns-then-text-end-lt128 : goal.returns-then-text-end-lt128
returns-then-text-end-lt128 c = (λ _. last-ascii c.args.text.now c.args.end c.if-end-text-2.true c.if-text-end-lt128.true, λ _. search rules)
