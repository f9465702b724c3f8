-- A flat value has no error, so that of memory alone comes.
use Rattle.wkt_convert.proofs.FlatAndBackShapes.{memory_of, refused_of}
use Rattle.wkt_convert.proofs.to_text.AnyToWkt.wkt_string.Goals as goal

pub returns-clause-memory : goal.returns-clause-memory
returns-clause-memory g c = memory_of (g.G.FlatValue.value c.args.self.now) c.string_of.result c.string_of.ensures.refused

pub returns-clause-refused : goal.returns-clause-refused
returns-clause-refused g c = refused_of (g.G.FlatValue.value c.args.self.now) c.string_of.result c.string_of.ensures.refused
