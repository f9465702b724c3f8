-- A text that no line feed ends is its own line.
use Rattle.wkt_canonical.proofs.TextBuilderOutput.{whole-text}
use Rattle.wkt_canonical.proofs.canonical.write_canonical.Goals as goal

pub returns-clause-writes : goal.returns-clause-writes
returns-clause-writes g c = whole-text g.T.WktNum.read g.T.WktNum.num c.args.text.now c.as_bytes.result.now c.args.len c.args.out.now c.write_front.new.out c.write_front.result c.as_bytes.ensures.value c.utf8.text c.write_front.ensures.writes
