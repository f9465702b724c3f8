-- What was answered stays written.
use Rattle.wkt_command.proofs.Canonizing.{canonizes-kept}
use Rattle.wkt_command.proofs.run.Run.take.Goals as goal

pub returns : goal.returns
returns g c = record { options = c.answer.ensures.options; canon = λ is. canonizes-kept c.args.self.now.options.now c.args.text.now _ _ _ (c.in-Ok.ensures.canon is) c.in-Ok-end_text.ensures }
