-- The text is handed out, if there is room for it.
use Rattle.wkt_calls.proofs.Telling.{handed}
use Rattle.wkt_calls.proofs.given_text.copy_out_text.Goals as goal

pub returns-in-Ok : goal.returns-in-Ok
returns-in-Ok c =
    handed c.args.places _ _ _ _ _ _ _ c.written.result.now _ _ _ _ _ c.in-Ok.ensures.ok c.written.ensures c.copy_out.ensures.stands c.copy_out.ensures.lacks c.copy_out.ensures.kept c.copy_out.ensures.two
