-- A flat value has no error, so that of a shape never comes, and its text is that of its `Wkt`.
use Rattle.wkt_convert.proofs.FlatAndBackShapes.{never_of, sends_of}
use Rattle.wkt_convert.proofs.to_text.AnyToWkt.write_wkt.Goals as goal

pub returns-clause-sends : goal.returns-clause-sends
returns-clause-sends g c = sends_of g.W.ByteSink.sink _ _ _ _ (g.G.FlatValue.value c.args.self.now) c.send.result c.send.ensures.sends c.send.ensures.cause

pub returns-clause-never : goal.returns-clause-never
returns-clause-never g c = never_of c.send.result (g.G.FlatValue.value c.args.self.now) c.send.ensures.cause
