-- All text went out, or the sink's error came, early or with the last bytes.
use Rattle.std.proofs.Common.{◌∙◌, ap}
use Rattle.wkt_bytes.proofs.SinkSteps.{all_sent, some_sent, some_sent_late}
use Rattle.wkt_num.specs.Sink.{next_count}
use Rattle.wkt_convert.proofs.send.send_through.Goals as goal

pub error_of-requires-in-Err-FmtError : goal.error_of-requires-in-Err-FmtError
error_of-requires-in-Err-FmtError g c =
    let b = rw c.in-Err-FmtError.field-0-is at c.in-Err-FmtError.ensures in
    b.broken.left.untaken c.requires.well

pub returns-in-Err-FmtError-clause-sends : goal.returns-in-Err-FmtError-clause-sends
returns-in-Err-FmtError-clause-sends g c =
    let b = rw c.in-Err-FmtError.field-0-is at c.in-Err-FmtError.ensures in
    rw c.error_of-in-Err-FmtError.ensures.writer (record {
      sound = b.sound;
      out = some_sent g.W.ByteSink.sink _ _ _ b.broken.left c.requires.held;
      failed = b.broken.left.count c.requires.well;
    })

pub returns-in-Err-FmtError-clause-keeps : goal.returns-in-Err-FmtError-clause-keeps
returns-in-Err-FmtError-clause-keeps g c =
    let b = rw c.in-Err-FmtError.field-0-is at c.in-Err-FmtError.ensures in
    rw c.error_of-in-Err-FmtError.ensures.writer b.broken.left.tied

pub returns-in-Ok-finish-clause-sends : goal.returns-in-Ok-finish-clause-sends
returns-in-Ok-finish-clause-sends g c = record {
  sound = c.in-Ok.ensures.sound;
  lawful = c.in-Ok.ensures.lawful;
  out = all_sent g.W.ByteSink.sink _ _ _ _ c.in-Ok.ensures.added.given c.in-Ok-finish.ensures.ok c.requires.held c.in-Ok-finish.ensures.empty;
  unfailed = c.in-Ok-finish.ensures.ok.count ∙ c.in-Ok.ensures.added.given.count;
}

pub returns-in-Ok-finish-clause-keeps : goal.returns-in-Ok-finish-clause-keeps
returns-in-Ok-finish-clause-keeps g c =
    g.W.ByteSink.sink.keeps_more _ _ _ c.in-Ok.ensures.added.given.tied c.in-Ok-finish.ensures.ok.tied

pub error_of-requires : goal.error_of-requires
error_of-requires g c =
    c.in-Err-finish.ensures.err.untaken (c.in-Ok.ensures.added.given.same ∙ c.requires.well)

pub returns-in-Err-finish-clause-sends : goal.returns-in-Err-finish-clause-sends
returns-in-Err-finish-clause-sends g c =
    let h = c.in-Ok.ensures.added.given in
    rw c.error_of.ensures.writer (record {
      sound = c.in-Ok.ensures.sound;
      out = some_sent_late g.W.ByteSink.sink _ _ _ _ h c.in-Err-finish.ensures.err c.requires.held;
      failed = c.in-Err-finish.ensures.err.count (h.same ∙ c.requires.well) ∙ ap next_count h.count;
    })

pub returns-in-Err-finish-clause-keeps : goal.returns-in-Err-finish-clause-keeps
returns-in-Err-finish-clause-keeps g c =
    rw c.error_of.ensures.writer (g.W.ByteSink.sink.keeps_more _ _ _ c.in-Ok.ensures.added.given.tied c.in-Err-finish.ensures.err.tied)
