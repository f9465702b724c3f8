-- The front of the text and of what is walked are the same, and so is the message.
use Rattle.wkt_calls.specs.Answer.{read_at}
use Rattle.wkt_explain.proofs.BehindNul.{front-walked, none-walked, said-walked}
use Rattle.wkt_calls.proofs.Padded.{refused-with}
use Rattle.wkt_calls.proofs.canonical.write_or_refuse.Goals as goal

pub returns-in-Ok-clause-canonical : goal.returns-in-Ok-clause-canonical
returns-in-Ok-clause-canonical c =
    let h = c.in-Ok.ensures.writes.0 in (
      c.requires.utf8,
      record {
        value = h.value;
        front = front-walked (read_at c.args.places) c.args.text.now c.args.padded_text.now c.requires.padded_text h.value c.in-Ok.end h.front;
        is = h.is;
      },
    )

pub returns-in-Err-clause-canonical : goal.returns-in-Err-clause-canonical
returns-in-Err-clause-canonical c =
    let (none, says) = c.in-Err.ensures.writes in
    refused-with (read_at c.args.places) c.args.text.now c.in-Err.message c.number.result c.requires.utf8
    (none-walked (read_at c.args.places) c.args.text.now c.args.padded_text.now c.requires.padded_text none)
    (said-walked (read_at c.args.places) c.args.text.now c.args.padded_text.now c.requires.padded_text c.in-Err.message says)
    c.number.ensures.number c.number.ensures.least c.number.ensures.most
