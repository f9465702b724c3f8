-- A text has a front, or exactly one message.
use Rattle.wkt_sources.proofs.TableMessages.{one_of_text}
use Rattle.wkt_values.proofs.laws.one_message.Goals as goal

pub returns : goal.returns
returns g c text = one_of_text g.T.WktNum.read text
