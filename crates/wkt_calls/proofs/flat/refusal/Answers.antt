-- A text without a front is refused, and the status is the number of its message.
use Rattle.wkt_calls.specs.Answer.{read_at}
use Rattle.wkt_calls.proofs.Padded.{refused-with}
use Rattle.wkt_calls.proofs.flat.refusal.Goals as goal

pub returns : goal.returns
returns c =
    refused-with (read_at c.args.places) c.args.text.now c.message.result c.number.result c.utf8.text c.requires c.message.ensures c.number.ensures.number c.number.ensures.least c.number.ensures.most
